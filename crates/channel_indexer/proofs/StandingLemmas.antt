-- Puts of shards and of their index keep a place standing.
use Rattle.std.proofs.Common.{◌≡◌, ◌⊎◌, ℕ, zero, suc, ◌<◌, Bool, true, false, cond, List, [], ◌∷◌, ◌++◌, map, length, take, drop, get_or, Some, refl, sym, ap, ◌∙◌, subst, inl, inr, arith, append_assoc, codes}
use Rattle.std.specs.List.{All}
use Rattle.std.specs.Str.{bytes_eq}
use Rattle.std.specs.Cmp.Lexicographic.{nat_list_cmp_total}
use Rattle.std.specs.FinMap.{get, insert, get-insert}
use Rattle.std.proofs.lemmas.Map.Text.{is_eq-slice_cmp}
use Rattle.std.proofs.lemmas.Slice.Eq.{bytes_eq-Decides}
use Rattle.std.proofs.lemmas.List.{append_cancel_right}
use Rattle.std.proofs.lemmas.List.Elements.{All-map}
use Rattle.digest_gate.specs.declared.digest.Digest.{Digest}
use Rattle.digest_gate.specs.Digest.{IsDigest, digest_of, text_of, digest_in}
use Rattle.digest_gate.proofs.DigestLemmas.{digest_in-text_of, IsDigest-digest_of}
use Rattle.channel_store.specs.Store.{Files}
use Rattle.channel_indexer.specs.Groups.{Group}
use Rattle.channel_indexer.specs.Puts.{Put, files_with}
use Rattle.channel_store.specs.Names.{index_name}
use Rattle.channel_indexer.specs.Shards.{shard_file, shard_put, listed_of, index_put, index_puts}
use Rattle.channel_indexer.specs.Prepared.{HaveReadings}
use Rattle.channel_indexer.specs.declared.index.Summary.{Summary}
use Rattle.channel_indexer.specs.Indexing.{IsIndexed, StopsAt, before, within}
use Rattle.channel_store.specs.Names.{subdir_of}
use Rattle.shard_file.specs.Writing.{shard_bytes}
use Rattle.shard_index.specs.Index.{Listed}
use Rattle.shard_index.specs.Writing.{contents_written}
use Rattle.std.proofs.Math.Seq.{take-length}
use Rattle.channel_indexer.specs.Standing.{HasShard, Stands, StandsOrEmpty}

-- ---- names

drop-front : (xs ys : List ℕ) → drop (length xs) (xs ++ ys) ≡ ys
drop-front [] ys = refl
drop-front (x ∷ xs) ys = drop-front xs ys

take-front : (xs ys : List ℕ) → take (length xs) (xs ++ ys) ≡ xs
take-front [] ys = refl
take-front (x ∷ xs) ys = ap (λ l. x ∷ l) (take-front xs ys)

-- the index has another name than every shard
index-apart : (place : List ℕ) (d : Digest) → index_name place ≡ shard_file place d → ⊥
index-apart place d e =
    let behind : codes "/repodata_shards.msgpack" ≡ codes "/shards/" ++ (text_of d ++ codes ".msgpack") =
    sym (drop-front place (codes "/repodata_shards.msgpack")) ∙ ap (drop (length place)) (e ∙ append_assoc place (codes "/shards/") (text_of d ++ codes ".msgpack"))
    ∙ drop-front place (codes "/shards/" ++ (text_of d ++ codes ".msgpack")) in
    let second : ◌≡◌ {A = ℕ} 114 115 = ap (λ (l : List ℕ). get_or l 1 0) behind in
    absurd (omega arith)

-- one digest has one text
same-text : (c d : Digest) → IsDigest c → IsDigest d → text_of c ≡ text_of d → c ≡ d
same-text c d is_c is_d e = let same : Some c ≡ Some d = sym (digest_in-text_of c is_c) ∙ ap digest_in e ∙ digest_in-text_of d is_d in cc

-- one file name of shards is that of one digest
same-shard : (place : List ℕ) (c d : Digest) → IsDigest c → IsDigest d → shard_file place c ≡ shard_file place d → c ≡ d
same-shard place c d is_c is_d e =
    let front = place ++ codes "/shards/" in
    let texts : text_of c ++ codes ".msgpack" ≡ text_of d ++ codes ".msgpack" =
    sym (drop-front front (text_of c ++ codes ".msgpack")) ∙ ap (drop (length front)) e ∙ drop-front front (text_of d ++ codes ".msgpack") in
    same-text c d is_c is_d (append_cancel_right (text_of c) (text_of d) (codes ".msgpack") texts)

-- ---- one put

put-at : (files : Files) (name bytes q : List ℕ) → get (insert files name bytes) q ≡ cond (bytes_eq q name) (Some bytes) (get files q)
put-at files name bytes q = get-insert nat_list_cmp_total files name bytes q ∙ ap (λ b. cond b (Some bytes) (get files q)) (is_eq-slice_cmp q name)

put-itself : (files : Files) (name bytes : List ℕ) → get (insert files name bytes) name ≡ Some bytes
put-itself files name bytes = put-at files name bytes name ∙ ap (λ b. cond b (Some bytes) (get files name)) ((bytes_eq-Decides name name).1 refl)

other-test : (q name : List ℕ) → (q ≡ name → ⊥) → bytes_eq q name ≡ false
other-test q name apart = go (bytes_eq q name) refl
  where
    go : (b : Bool) → bytes_eq q name ≡ b → b ≡ false
    go true e = absurd (apart ((bytes_eq-Decides q name).0 e))
    go false e = refl

put-other : (files : Files) (name bytes q : List ℕ) → (q ≡ name → ⊥) → get (insert files name bytes) q ≡ get files q
put-other files name bytes q apart = put-at files name bytes q ∙ ap (λ b. cond b (Some bytes) (get files q)) (other-test q name apart)

-- a shard that is put takes no shard away
has-put : (place : List ℕ) (files : Files) (b : List ℕ) (d : Digest) → HasShard place files d → HasShard place (insert files (shard_file place (digest_of b)) b) d
has-put place files b d has = go (bytes_eq (shard_file place d) (shard_file place (digest_of b))) refl
  where
    go : (t : Bool) → bytes_eq (shard_file place d) (shard_file place (digest_of b)) ≡ t → HasShard place (insert files (shard_file place (digest_of b)) b) d
    go true e =
        let is_d : IsDigest d = subst IsDigest has.digested (IsDigest-digest_of has.bytes) in
        let same : d ≡ digest_of b = same-shard place d (digest_of b) is_d (IsDigest-digest_of b) ((bytes_eq-Decides (shard_file place d) (shard_file place (digest_of b))).0 e) in
        record {
          bytes = b;
          stands = put-at files (shard_file place (digest_of b)) b (shard_file place d) ∙ ap (λ t. cond t (Some b) (get files (shard_file place d))) e;
          digested = sym same;
        }
    go false e = record {
      bytes = has.bytes;
      stands = put-at files (shard_file place (digest_of b)) b (shard_file place d) ∙ ap (λ t. cond t (Some b) (get files (shard_file place d))) e ∙ has.stands;
      digested = has.digested;
    }

has-itself : (place : List ℕ) (files : Files) (b : List ℕ) → HasShard place (insert files (shard_file place (digest_of b)) b) (digest_of b)
has-itself place files b = record { bytes = b; stands = put-itself files (shard_file place (digest_of b)) b; digested = refl }

has-index : (place : List ℕ) (files : Files) (b : List ℕ) (d : Digest) → HasShard place files d → HasShard place (insert files (index_name place) b) d
has-index place files b d has = record {
  bytes = has.bytes;
  stands = put-other files (index_name place) b (shard_file place d) (λ e. index-apart place d (sym e)) ∙ has.stands;
  digested = has.digested;
}

-- ---- shards that are put one after another

abbrev shards : List ℕ → List Group → List Put
shards place groups = map (shard_put place) groups

has-shards : (place : List ℕ) (groups : List Group) (n : ℕ) (files : Files) (d : Digest) → HasShard place files d → HasShard place (files_with (take n (shards place groups)) files) d
has-shards place groups zero files d has = has
has-shards place [] (suc n) files d has = has
has-shards place (g ∷ gs) (suc n) files d has = has-shards place gs n (insert files (shard_put place g).name (shard_put place g).bytes) d (has-put place files (shard_put place g).bytes d has)

index-stays : (place : List ℕ) (groups : List Group) (n : ℕ) (files : Files) → get (files_with (take n (shards place groups)) files) (index_name place) ≡ get files (index_name place)
index-stays place groups zero files = refl
index-stays place [] (suc n) files = refl
index-stays place (g ∷ gs) (suc n) files =
    index-stays place gs n (insert files (shard_put place g).name (shard_put place g).bytes)
    ∙ put-other files (shard_put place g).name (shard_put place g).bytes (index_name place) (index-apart place (digest_of (shard_put place g).bytes))

-- a place stands within the puts of its shards
shards-stand : (place : List ℕ) (groups : List Group) (n : ℕ) (files : Files) → StandsOrEmpty place files → StandsOrEmpty place (files_with (take n (shards place groups)) files)
shards-stand place groups n files (inl stands) = inl (record {
  bytes = stands.bytes;
  contents = stands.contents;
  there = index-stays place groups n files ∙ stands.there;
  reading = stands.reading;
  each = λ k x low. has-shards place groups n files (get_or stands.contents.listed k x).digest (stands.each k x low);
})
shards-stand place groups n files (inr none) = inr (index-stays place groups n files ∙ none)

-- after all shards are put, each has its file
all-there : (place : List ℕ) (groups : List Group) (files : Files)
    → All (λ (g : Group). HasShard place (files_with (shards place groups) files) (digest_of (shard_bytes g.rows))) groups
all-there place [] files = λ k g low. absurd (omega arith)
all-there place (g ∷ gs) files = λ k h low. at k h low (all-there place gs (insert files (shard_put place g).name (shard_put place g).bytes))
  where
    at : (k : ℕ) (h : Group) → k < length (g ∷ gs)
        → All (λ (h : Group). HasShard place (files_with (shards place (g ∷ gs)) files) (digest_of (shard_bytes h.rows))) gs
        → HasShard place (files_with (shards place (g ∷ gs)) files) (digest_of (shard_bytes (get_or (g ∷ gs) k h).rows))
    at zero h low later =
        subst (λ (ps : List Put). HasShard place (files_with ps (insert files (shard_put place g).name (shard_put place g).bytes)) (digest_of (shard_bytes g.rows))) (take-length (shards place gs))
        (has-shards place gs (length (shards place gs)) (insert files (shard_put place g).name (shard_put place g).bytes) (digest_of (shard_bytes g.rows)) (has-itself place files (shard_bytes g.rows)))
    at (suc k) h low later = later k h (omega arith)

-- ---- all puts

-- first puts of shards and of an index are those of some shards, or all
first-puts : (ps : List Put) (p : Put) (n : ℕ) → ((m : ℕ) × (take n (ps ++ p ∷ []) ≡ take m ps)) ⊎ (take n (ps ++ p ∷ []) ≡ ps ++ p ∷ [])
first-puts ps p zero = inl (0, refl)
first-puts [] p (suc n) = inr (take-nil-behind n)
  where
    take-nil-behind : (n : ℕ) → take (suc n) (p ∷ []) ≡ p ∷ []
    take-nil-behind zero = refl
    take-nil-behind (suc n) = refl
first-puts (q ∷ ps) p (suc n) = elim (first-puts ps p n) [
  | inl r ↦ inl (suc r.0, ap (λ (l : List Put). q ∷ l) r.1)
  | inr e ↦ inr (ap (λ (l : List Put). q ∷ l) e)
]

with-behind : (ps : List Put) (p : Put) (files : Files) → files_with (ps ++ p ∷ []) files ≡ insert (files_with ps files) p.name p.bytes
with-behind [] p files = refl
with-behind (q ∷ ps) p files = with-behind ps p (insert files q.name q.bytes)

-- a place stands once all is put
whole-stands : (place : List ℕ) (groups : List Group) (files : Files) → HaveReadings place groups → Stands place (files_with (index_puts place groups) files)
whole-stands place groups files readings =
    let there = files_with (shards place groups) files in
    let index = index_put place (map listed_of groups) in
    subst (Stands place) (sym (with-behind (shards place groups) index files)) (record {
      bytes = index.bytes;
      contents = contents_written (subdir_of place) (map listed_of groups);
      there = put-itself there index.name index.bytes;
      reading = readings.index;
      each = All-map (λ (x : Listed). HasShard place (insert there index.name index.bytes) x.digest) listed_of groups
          (λ k g low. has-index place there index.bytes (digest_of (shard_bytes (get_or groups k g).rows)) (all-there place groups files k g low));
    })

-- a stop keeps a place standing, or without an index
pub stop-keeps : (place : List ℕ) (told new : Files) → StandsOrEmpty place told → StopsAt place told (Some new) → StandsOrEmpty place new
stop-keeps place told new stood (before same) = let e : new ≡ told = cc in subst (StandsOrEmpty place) (sym e) stood
stop-keeps place told new stood (within rows groups indexable stop) =
    let files : new ≡ files_with (take stop.done (index_puts place groups)) told = cc (stop.files) in
    subst (StandsOrEmpty place) (sym files) (elim (first-puts (shards place groups) (index_put place (map listed_of groups)) stop.done) [
      | inl r ↦ subst (λ (ps : List Put). StandsOrEmpty place (files_with ps told)) (sym r.1) (shards-stand place groups r.0 told stood)
      | inr e ↦ subst (λ (ps : List Put). StandsOrEmpty place (files_with ps told)) (sym e) (inl (whole-stands place groups told indexable.readings))
    ])

-- a place that was indexed stands
pub indexed-stands : (place : List ℕ) (told new : Files) (summary : Summary) → IsIndexed place told (Some new) summary → Stands place new
indexed-stands place told new summary done =
    let files : new ≡ files_with (index_puts place done.groups) told = cc (done.files) in
    subst (Stands place) (sym files) (whole-stands place done.groups told done.indexable.readings)
