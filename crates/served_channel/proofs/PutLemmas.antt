-- What stands under the names of the files that were put.
use Rattle.std.proofs.Common.{◌≡◌, ℕ, zero, suc, ◌+◌, ◌<◌, Bool, true, false, cond, List, [], ◌∷◌, ◌++◌, length, map, get_or, Some, refl, sym, ap, ◌∙◌, arith}
use Rattle.std.specs.List.{All}
use Rattle.std.specs.Str.{bytes_eq}
use Rattle.std.specs.Cmp.Lexicographic.{nat_list_cmp_total}
use Rattle.std.specs.FinMap.{get, insert, get-insert}
use Rattle.std.proofs.lemmas.Map.Text.{is_eq-slice_cmp}
use Rattle.std.proofs.lemmas.Slice.Eq.{bytes_eq-Decides}
use Rattle.digest_gate.specs.Digest.{digest_of}
use Rattle.digest_gate.proofs.DigestLemmas.{IsDigest-digest_of}
use Rattle.shard_file.specs.Writing.{shard_bytes}
use Rattle.channel_store.specs.Store.{Files}
use Rattle.channel_store.specs.Names.{index_name}
use Rattle.channel_indexer.specs.Groups.{Group}
use Rattle.channel_indexer.specs.Puts.{Put, files_with}
use Rattle.channel_indexer.specs.Shards.{shard_file, shard_put, listed_of, index_put, index_puts}
use Rattle.channel_indexer.proofs.PutLemmas.{with-more}
use Rattle.served_channel.specs.Back.{AreToldApart}
use Rattle.served_channel.proofs.NameLemmas.{index-apart, shard-apart}

put-at : (files : Files) (name bytes q : List ℕ) → get (insert files name bytes) q ≡ cond (bytes_eq q name) (Some bytes) (get files q)
put-at files name bytes q = get-insert nat_list_cmp_total files name bytes q ∙ ap (λ b. cond b (Some bytes) (get files q)) (is_eq-slice_cmp q name)

put-itself : (files : Files) (name bytes : List ℕ) → get (insert files name bytes) name ≡ Some bytes
put-itself files name bytes = put-at files name bytes name ∙ ap (λ b. cond b (Some bytes) (get files name)) ((bytes_eq-Decides name name).1 refl)

-- a file stays behind a put of another name, and behind a put of the same bytes
put-keeps : (files : Files) (p : Put) (name bytes : List ℕ) → (p.name ≡ name → p.bytes ≡ bytes)
    → get files name ≡ Some bytes → get (insert files p.name p.bytes) name ≡ Some bytes
put-keeps files p name bytes same there = put-at files p.name p.bytes name ∙ go (bytes_eq name p.name) refl
  where
    go : (b : Bool) → bytes_eq name p.name ≡ b → cond b (Some p.bytes) (get files name) ≡ Some bytes
    go true e = ap Some (same (sym ((bytes_eq-Decides name p.name).0 e)))
    go false e = there

abbrev shards : List ℕ → List Group → List Put
shards place groups = map (shard_put place) groups

shards-keep : (place : List ℕ) (groups : List Group) (files : Files) (name bytes : List ℕ)
    → All (λ g. (shard_put place g).name ≡ name → (shard_put place g).bytes ≡ bytes) groups
    → get files name ≡ Some bytes → get (files_with (shards place groups) files) name ≡ Some bytes
shards-keep place [] files name bytes same there = there
shards-keep place (g ∷ gs) files name bytes same there =
    let p = shard_put place g in
    shards-keep place gs (insert files p.name p.bytes) name bytes (λ k h low. same (suc k) h (omega (arith, low)))
    (put-keeps files p name bytes (same 0 g (omega arith)) there)

-- of the shards behind the first one, each with its name has its bytes
first-same : (place : List ℕ) (g : Group) (gs : List Group) → AreToldApart (g ∷ gs)
    → All (λ (h : Group). (shard_put place h).name ≡ (shard_put place g).name → (shard_put place h).bytes ≡ (shard_put place g).bytes) gs
first-same place g gs apart k h low named =
    let other = get_or gs k h in
    let digests : digest_of (shard_bytes other.rows) ≡ digest_of (shard_bytes g.rows) =
    shard-apart place (digest_of (shard_bytes other.rows)) (digest_of (shard_bytes g.rows)) (IsDigest-digest_of (shard_bytes other.rows)) (IsDigest-digest_of (shard_bytes g.rows)) named in
    sym (apart 0 g (omega arith) (suc k) h (omega (arith, low)) (sym digests))

-- after all shards were put, each has its file
each-shard : (place : List ℕ) (groups : List Group) (files : Files) → AreToldApart groups
    → All (λ (g : Group). get (files_with (shards place groups) files) (shard_put place g).name ≡ Some (shard_put place g).bytes) groups
each-shard place [] files apart = λ k g low. absurd (omega (arith, low))
each-shard place (g ∷ gs) files apart = λ k h low.
    at k h low (each-shard place gs (insert files (shard_put place g).name (shard_put place g).bytes) (λ i x in_i j y in_j. apart (suc i) x (omega (arith, in_i)) (suc j) y (omega (arith, in_j))))
  where
    at : (k : ℕ) (h : Group) → k < length (g ∷ gs)
        → All (λ (h : Group). get (files_with (shards place (g ∷ gs)) files) (shard_put place h).name ≡ Some (shard_put place h).bytes) gs
        → get (files_with (shards place (g ∷ gs)) files) (shard_put place (get_or (g ∷ gs) k h)).name ≡ Some (shard_put place (get_or (g ∷ gs) k h)).bytes
    at zero h low later =
        let p = shard_put place g in
        shards-keep place gs (insert files p.name p.bytes) p.name p.bytes (first-same place g gs apart) (put-itself files p.name p.bytes)
    at (suc k) h low later = later k h (omega (arith, low))

-- the same behind the index, which has a name of its own
pub shard-there : (place : List ℕ) (groups : List Group) (files : Files) → AreToldApart groups
    → All (λ g. get (files_with (index_puts place groups) files) (shard_put place g).name ≡ Some (shard_put place g).bytes) groups
shard-there place groups files apart = λ k g low.
    let index = index_put place (map listed_of groups) in
    let other = get_or groups k g in
    ap (λ (f : Files). get f (shard_put place other).name) (with-more (shards place groups) index files)
    ∙ put-keeps (files_with (shards place groups) files) index (shard_put place other).name (shard_put place other).bytes
    (λ named. absurd (index-apart place (digest_of (shard_bytes other.rows)) named)) (each-shard place groups files apart k g low)

pub index-there : (place : List ℕ) (groups : List Group) (files : Files)
    → get (files_with (index_puts place groups) files) (index_name place) ≡ Some (index_put place (map listed_of groups)).bytes
index-there place groups files =
    let index = index_put place (map listed_of groups) in
    ap (λ (f : Files). get f (index_name place)) (with-more (shards place groups) index files)
    ∙ put-itself (files_with (shards place groups) files) index.name index.bytes
