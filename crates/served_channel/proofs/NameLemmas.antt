-- The index and the shards of a place have names that are served.
use Rattle.std.proofs.Common.{◌≡◌, ℕ, ◌+◌, ◌-◌, ◌<◌, ◌==◌, ◌&&◌, ◌||◌, Bool, true, false, cond, List, [], ◌∷◌, ◌++◌, length, drop, get_or, Option, Some, None, refl, sym, ap, ◌∙◌, arith, append_assoc, length-append, codes}
use Rattle.std.specs.List.{position_or_len}
use Rattle.std.specs.Str.{bytes_eq}
use Rattle.std.proofs.Math.Seq.{get_or-append_seam}
use Rattle.std.proofs.lemmas.List.{get_or-drop, length-drop, append_cancel_left, append_cancel_right}
use Rattle.std.proofs.lemmas.Slice.Eq.{bytes_eq-Decides}
use Rattle.digest_gate.specs.declared.digest.Digest.{Digest}
use Rattle.digest_gate.specs.Digest.{IsDigest, text_of, digest_in}
use Rattle.digest_gate.proofs.DigestLemmas.{digest_in-text_of}
use Rattle.channel_store.specs.Names.{slash, channel_of, subdir_of, file_of, is_place, is_below_place, is_input_file, is_index_file, is_shard_file, is_store_name, is_served_name, served_path, index_name}
use Rattle.channel_store.proofs.NameLemmas.{index_is_store_name}
use Rattle.channel_indexer.specs.Shards.{shard_file}
use Rattle.channel_indexer.proofs.NameLemmas.{shard-stored}
use Rattle.served_channel.specs.Back.{path_of}

-- ---- a name that ends in `k` is not that of `repodata.json`

-- the last byte
abbrev last : List ℕ → ℕ
last xs = get_or xs (length xs - 1) 0

-- what ends in the 13 bytes of `repodata.json` ends in `n`
ends-in-n : (name : List ℕ) (j k : ℕ) → drop k (drop j name) ≡ codes "repodata.json" → last name ≡ 0x6e
ends-in-n name j k e =
    let long : length (drop k (drop j name)) ≡ 13 = ap length e in
    let at : length name - 1 ≡ j + (k + 12) = omega (arith, length-drop k (drop j name), length-drop j name) in
    let found : get_or (drop k (drop j name)) 12 0 ≡ 0x6e = ap (λ (l : List ℕ). get_or l 12 0) e in
    ap (λ n. get_or name n 0) at ∙ sym (get_or-drop j name (k + 12) 0) ∙ sym (get_or-drop k (drop j name) 12 0) ∙ found

-- what has a `k` at its end ends in it
ends-in-k : (front : List ℕ) → last (front ++ 0x6b ∷ []) ≡ 0x6b
ends-in-k front =
    let at : length (front ++ 0x6b ∷ []) - 1 ≡ length front = omega (arith, length-append front (0x6b ∷ [])) in
    ap (λ n. get_or (front ++ 0x6b ∷ []) n 0) at ∙ get_or-append_seam front 0x6b [] 0

no-input : (name front : List ℕ) → name ≡ front ++ 0x6b ∷ [] → is_input_file (file_of name) ≡ false
no-input name front e = go (is_input_file (file_of name)) refl
  where
    go : (b : Bool) → is_input_file (file_of name) ≡ b → b ≡ false
    go true h =
        let is : file_of name ≡ codes "repodata.json" = (bytes_eq-Decides (file_of name) (codes "repodata.json")).0 h in
        let ends_n : last name ≡ 0x6e = ends-in-n name (position_or_len (λ b. b == slash) name + 1) (position_or_len (λ b. b == slash) (subdir_of name) + 1) is in
        let ends_k : last name ≡ 0x6b = ap last e ∙ ends-in-k front in
        absurd (omega (arith, ends_n, ends_k))
    go false h = refl

-- ---- names that are served

-- of three kinds of files that are stored, the last two are served
serves : (a b c d : Bool) → (a && (b || c || d)) ≡ true → b ≡ false → (a && (c || d)) ≡ true
serves false b c d h other = h
serves true true c d h other = absurd (cc (other))
serves true false true d h other = refl
serves true false false d h other = h

served-name : (name front : List ℕ) → name ≡ front ++ 0x6b ∷ [] → is_store_name name ≡ true → is_served_name name ≡ true
served-name name front e stored =
    serves (is_below_place name) (is_input_file (file_of name)) (is_index_file (file_of name)) (is_shard_file (file_of name)) stored (no-input name front e)

-- a name that is served is named by its path
pub path-served : (name : List ℕ) → is_served_name name ≡ true → served_path (path_of name) ≡ Some name
path-served name served = ap (λ (b : Bool). cond b (Some name) None) served

pub index-served : (place : List ℕ) → is_place place ≡ true → is_served_name (index_name place) ≡ true
index-served place placed =
    served-name (index_name place) (place ++ codes "/repodata_shards.msgpac") (sym (append_assoc place (codes "/repodata_shards.msgpac") (0x6b ∷ [])))
    (index_is_store_name place placed)

pub shard-served : (place : List ℕ) (d : Digest) → is_place place ≡ true → IsDigest d → is_served_name (shard_file place d) ≡ true
shard-served place d placed is =
    let front = place ++ codes "/shards/" in
    served-name (shard_file place d) (front ++ (text_of d ++ codes ".msgpac"))
    (ap (λ (l : List ℕ). front ++ l) (sym (append_assoc (text_of d) (codes ".msgpac") (0x6b ∷ []))) ∙ sym (append_assoc front (text_of d ++ codes ".msgpac") (0x6b ∷ [])))
    (shard-stored place d placed is)

-- ---- names that differ

-- the index has another name than every shard
pub index-apart : (place : List ℕ) (d : Digest) → index_name place ≡ shard_file place d → ⊥
index-apart place d e =
    let behind = append_cancel_left place (codes "/repodata_shards.msgpack") (codes "/shards/" ++ (text_of d ++ codes ".msgpack"))
    (e ∙ append_assoc place (codes "/shards/") (text_of d ++ codes ".msgpack")) in
    let second : ◌≡◌ {A = ℕ} 114 115 = ap (λ (l : List ℕ). get_or l 1 0) behind in
    absurd (omega (arith, second))

-- one file of shards is that of one digest
pub shard-apart : (place : List ℕ) (c d : Digest) → IsDigest c → IsDigest d → shard_file place c ≡ shard_file place d → c ≡ d
shard-apart place c d is_c is_d e =
    let behind = append_cancel_left (place ++ codes "/shards/") (text_of c ++ codes ".msgpack") (text_of d ++ codes ".msgpack") e in
    let texts : text_of c ≡ text_of d = append_cancel_right (text_of c) (text_of d) (codes ".msgpack") behind in
    let same : Some c ≡ Some d = sym (digest_in-text_of c is_c) ∙ ap digest_in texts ∙ digest_in-text_of d is_d in cc
