-- An index that is written is read again as what it was written for.
use Rattle.std.proofs.Common.{◌≡◌, refl, sym, ◌∙◌, ap, subst, ℕ, zero, suc, pos, ◌+◌, ◌*◌, ◌<◌, ◌^◌, Bool, true, false, cond, ltb, ◌&&◌, ◌||◌, List, [], ◌∷◌, ◌++◌, length, get_or, map, arith, append_assoc, append-nil}
use Rattle.std.specs.Prelude.{◌==◌, Ok, Err, Option, Some, None, IfSome, is_some, slice_index_or, slice_set, codes}
use Rattle.std.specs.List.{flat_map, All, list_all, IsDistinct, AllByRecursion}
use Rattle.std.specs.List.Sorted.{IsSortedBy, IsStrictlySortedBy}
use Rattle.std.specs.Ordering.{nat_cmp, is_lt, eq_by_cmp, ordering_reverse}
use Rattle.std.proofs.lemmas.Cmp.{nat_list_cmp_total}
use Rattle.std.specs.declared.cmp.Ordering.TheVariants.{Less}
use Rattle.std.specs.Cmp.Lexicographic.{slice_cmp}
use Rattle.std.specs.Str.{bytes_eq, is_utf8, IsAscii}
use Rattle.std.proofs.lemmas.Str.{is_utf8-from_IsUtf8, IsUtf8-from_ascii}
use Rattle.std.proofs.lemmas.Bool.{ltb-true}
use Rattle.std.proofs.lemmas.Map.Keys.{IsDistinct-from_sorted, Less-from_sorted}
use Rattle.std.proofs.lemmas.Map.Text.{is_eq-slice_cmp}
use Rattle.digest_gate.specs.declared.digest.Digest.{Digest}
use Rattle.gateway_words.specs.Places.{Position}
use Rattle.gateway_words.specs.Reading.{◌>>=◌}
use Rattle.mp_codec.specs.declared.fault.FaultKind.TheVariants as kind
use Rattle.mp_codec.specs.declared.head.Head.TheVariants as head
use Rattle.mp_codec.specs.Value.{Value, whole}
use Rattle.mp_codec.specs.Spelling.{Spells}
use Rattle.mp_codec.specs.Fault.{fault_here}
use Rattle.mp_codec.specs.Reading.{head_from, bytes_from}
use Rattle.mp_codec.specs.Maps.{Read, skipped, str_from, text_from, entries_from, place_of, unread, known_key_from, known_value_from, known_end_from, known_map_from}
use Rattle.mp_codec.specs.Writing.{uint_bytes, str_bytes, bin_head, bin_bytes, map_head, pair_bytes, IsShortest}
use Rattle.mp_codec.proofs.BindLemmas.{bind_ok}
use Rattle.mp_codec.proofs.WrittenLemmas.{Halves, halves, nothing_between, ReadAs, read_turned, read_all, head_read, bin_head_stands, uint_stands, bytes_read, str_read_back, text_read_back, map_read_back, known_map_written}
use Rattle.mp_codec.proofs.ShortestLemmas.{IsTight, AreTight, tight_uint, tight_str, tight_bin, tight_map, tight_none, tight_one_more, tight_known_map, pointwise, names_short, shortest}
use Rattle.shard_index.specs.Digests.{digest_by_head, digest_or_wrong, digest_behind, digest_from}
use Rattle.shard_index.specs.Version.{version_behind, version_from}
use Rattle.shard_index.specs.Info.{Info, info_keys, default_base, default_shards_base, text_in, optional_text_from, info_datum_from, info_read, info_from}
use Rattle.shard_index.specs.Index.{Listed, Contents, name_lt, version_key, info_key, shards_key, index_keys, IndexOf}
use Rattle.mp_codec.specs.Names.{new_name_from}
use Rattle.shard_index.specs.Reading.{is_listed, AreDistinct, name_from, listed_value_from, listed_after, listed_from, Datum, Shards, Version, Infos, member_from, index_end_from, index_pairs_from, index_from, contents_from}
use Rattle.shard_index.specs.Writing.{entry_bytes, listed_bytes, info_bytes, written_keys, index_bytes, IsShort, IsWritable, IsEntry, contents_written, text_pair, version_pair, bases_pairs, info_pair, shards_pair}
use Rattle.shard_index.proofs.InfoLemmas.{differ, info_is}
use Rattle.shard_index.proofs.IndexLemmas.{index_found, one_index}

-- ---- the parts of an index

pub index_parts : (subdir : List ℕ) (listed : List Listed) → map_head 3 ++ (version_pair ++ (info_pair subdir ++ shards_pair listed)) ≡ index_bytes subdir listed
unfolding index_bytes version_pair info_pair bases_pairs shards_pair text_pair
index_parts subdir listed =
    let base : List ℕ = pair_bytes (codes "base_url") (Some (str_bytes default_base)) in
    let shards_base : List ℕ = pair_bytes (codes "shards_base_url") (Some (str_bytes default_shards_base)) in
    let name : List ℕ = pair_bytes (codes "subdir") (Some (str_bytes subdir)) in
    let info : (base ++ shards_base) ++ name ≡ base ++ (shards_base ++ (name ++ [])) = append_assoc base shards_base name ∙ ap (λ (t : List ℕ). base ++ (shards_base ++ t)) (sym (append-nil name)) in
    ap (λ (t : List ℕ). map_head 3 ++ (pair_bytes version_key (Some (uint_bytes 1)) ++ ((str_bytes info_key ++ (map_head 3 ++ t)) ++ (str_bytes shards_key ++ listed_bytes listed)))) info
    ∙ ap (λ (t : List ℕ). map_head 3 ++ (pair_bytes version_key (Some (uint_bytes 1)) ++ ((str_bytes info_key ++ info_bytes subdir) ++ t))) (sym (append-nil (str_bytes shards_key ++ listed_bytes listed)))

-- ---- names that ascend

distinct_like : (e f : List ℕ → List ℕ → Bool) → ((x y : List ℕ) → e x y ≡ f x y) → (xs : List (List ℕ)) → IsDistinct e xs → IsDistinct f xs
unfolding IsDistinct
distinct_like e f same [] d = tt
distinct_like e f same (x ∷ xs) d = (each xs d.0, distinct_like e f same xs d.1)
  where
    each : (ys : List (List ℕ)) → AllByRecursion (λ y. e x y ≡ false) ys → AllByRecursion (λ y. f x y ≡ false) ys
    each [] a = tt
    each (y ∷ ys) a = (sym (same x y) ∙ a.0, each ys a.1)

pub ascending_distinct : (listed : List Listed) → IsStrictlySortedBy (slice_cmp nat_cmp) (map (λ x. x.name) listed) → AreDistinct listed
ascending_distinct listed up =
    distinct_like (eq_by_cmp (slice_cmp nat_cmp)) bytes_eq (λ x y. is_eq-slice_cmp x y) (map (λ (x : Listed). x.name) listed) (IsDistinct-from_sorted (slice_cmp nat_cmp) (map (λ (x : Listed). x.name) listed) up)

-- a name is none of those in front, where all of them differ
new_name : (front rest : List Listed) (x : Listed) → AreDistinct (front ++ x ∷ rest) → is_listed x.name front ≡ false
unfolding IsDistinct
new_name [] rest x d = refl
new_name (y ∷ front) rest x d =
    ap (λ (b : Bool). b || is_listed x.name front) (unlike front d.0) ∙ new_name front rest x d.1
  where
    unlike : (zs : List Listed) → AllByRecursion (λ q. bytes_eq y.name q ≡ false) (map (λ z. z.name) (zs ++ x ∷ rest)) → bytes_eq y.name x.name ≡ false
    unlike [] a = a.0
    unlike (z ∷ zs) a = unlike zs a.1

-- ---- lists of which something holds

all_first : {X : Type 0} (P : X → Type 0) (x : X) (xs : List X) → All P (x ∷ xs) → P x
all_first P x xs all = all 0 x (omega arith)

all_others : {X : Type 0} (P : X → Type 0) (x : X) (xs : List X) → All P (x ∷ xs) → All P xs
all_others P x xs all k d lt = all (suc k) d (omega arith)

-- ---- values

digest_back : (digest : Digest) → length digest.0 ≡ 32 → ReadAs digest_from (bin_bytes digest.0) digest
unfolding digest_from
digest_back digest len here there at =
    let h : Halves (bin_head (length digest.0)) digest.0 here there = halves (bin_head (length digest.0)) digest.0 here there at in
    let short : length digest.0 < 2 ^ 32 = omega arith in
    let same : (length digest.0 == 32) ≡ true = grind arith in
    bind_ok (head_from here) (λ h. digest_behind h.0 here h.1) (head.Bin (length digest.0), h.mid)
    (head_read (head.Bin (length digest.0)) (bin_head (length digest.0)) (bin_head_stands (length digest.0) short) here h.mid h.first)
    ∙ ap (λ (b : Bool). cond {A = Read Digest} b (bytes_from (length digest.0) h.mid >>= λ s. digest_or_wrong (digest_by_head (head.Bin (length digest.0)) s.0) here s.1) (Err (fault_here kind.Wrong here))) same
    ∙ bind_ok (bytes_from (length digest.0) h.mid) (λ s. digest_or_wrong (digest_by_head (head.Bin (length digest.0)) s.0) here s.1) (digest.0, there) (bytes_read digest.0 h.mid there h.second)
    ∙ ap (λ (b : Bool). digest_or_wrong (cond {A = Option Digest} b (Some digest) None) here there) same

version_back : ReadAs version_from (uint_bytes 1) 1
unfolding version_from
version_back here there at =
    bind_ok (head_from here) (λ h. version_behind (whole h.0) here h.1) (head.Int (pos 1), there) (head_read (head.Int (pos 1)) (uint_bytes 1) (uint_stands 1 (omega arith)) here there at)

optional_text_back : (text : List ℕ) → IsShort text → is_utf8 text ≡ true → ReadAs optional_text_from (str_bytes text) (Some text)
unfolding optional_text_from
optional_text_back text short utf8 here there at =
    bind_ok (str_from here) (λ s. Ok (text_in s.0, s.1)) (Some text, there) (str_read_back text short here there at)
    ∙ ap (λ (b : Bool). Ok (cond {A = Option (List ℕ)} b (Some text) None, there)) utf8

-- ---- the info

both_true : (a b : Bool) → (a && b) ≡ true → (a ≡ true) × (b ≡ true)
both_true true b e = (refl, e)
both_true false b e = absurd (cc)

small_ascii : (bytes : List ℕ) → list_all (λ b. ltb b 128) bytes ≡ true → IsAscii bytes
small_ascii [] all i = omega arith
small_ascii (b ∷ bytes) all zero = ltb-true b 128 (both_true (ltb b 128) (list_all (λ b. ltb b 128) bytes) all).0
small_ascii (b ∷ bytes) all (suc i) = small_ascii bytes (both_true (ltb b 128) (list_all (λ b. ltb b 128) bytes) all).1 i

-- bytes below 128 are text
ascii_text : (bytes : List ℕ) → list_all (λ b. ltb b 128) bytes ≡ true → is_utf8 bytes ≡ true
ascii_text bytes all = is_utf8-from_IsUtf8 bytes (IsUtf8-from_ascii bytes (small_ascii bytes all))

-- what is read of each key of the info
abbrev info_data : List ℕ → List (Option (Option (List ℕ)))
info_data subdir = Some (Some default_base) ∷ Some (Some default_shards_base) ∷ Some (Some subdir) ∷ None ∷ []

info_back : (subdir : List ℕ) → IsShort subdir → is_utf8 subdir ≡ true → ReadAs info_from (info_bytes subdir) (record { base_url = default_base; shards_base_url = default_shards_base; subdir = subdir })
info_back subdir short utf8 here there at =
    info_is here
    ∙ bind_ok (known_map_from info_keys 0 info_datum_from here) (λ s. Ok (info_read s.0, s.1)) (info_data subdir, there)
    (known_map_written info_keys differ refl 0 info_datum_from (Some (str_bytes default_base) ∷ Some (str_bytes default_shards_base) ∷ Some (str_bytes subdir) ∷ None ∷ []) (info_data subdir)
    (omega arith)
    (optional_text_back default_base (omega arith) (ascii_text default_base refl), (optional_text_back default_shards_base (omega arith) (ascii_text default_shards_base refl), (optional_text_back subdir short utf8, tt)))
    refl here there at)

-- ---- the names

names_back : (front rest : List Listed) → AreDistinct (front ++ rest) → All (λ x. IsShort x.name) rest → All IsEntry rest → ReadAs (listed_after (length rest) front) (flat_map entry_bytes rest) (front ++ rest)
unfolding entries_from listed_value_from entry_bytes new_name_from
names_back front [] d short are here there at =
    ap (λ (q : Position). Ok (front, q)) (nothing_between here there at) ∙ ap (λ (xs : List Listed). Ok (xs, there)) (sym (append-nil front))
names_back front (x ∷ rest) d short are here there at =
    let pair : Halves (str_bytes x.name ++ bin_bytes x.digest.0) (flat_map entry_bytes rest) here there = halves (str_bytes x.name ++ bin_bytes x.digest.0) (flat_map entry_bytes rest) here there at in
    let key : Halves (str_bytes x.name) (bin_bytes x.digest.0) here pair.mid = halves (str_bytes x.name) (bin_bytes x.digest.0) here pair.mid pair.first in
    let is : IsEntry x = all_first IsEntry x rest are in
    let seam : (front ++ x ∷ []) ++ rest ≡ front ++ x ∷ rest = append_assoc front (x ∷ []) rest in
    let name : name_from front here ≡ Ok (x.name, key.mid) =
    bind_ok (text_from here) (λ t. cond {A = Read (List ℕ)} (is_listed t.0 front) (Err (fault_here kind.Repeated here)) (Ok (t.0, t.1))) (x.name, key.mid)
    (text_read_back x.name (all_first (λ x. IsShort x.name) x rest short) is.text here key.mid key.first)
    ∙ ap (λ (b : Bool). cond {A = Read (List ℕ)} b (Err (fault_here kind.Repeated here)) (Ok (x.name, key.mid))) (new_name front rest x d) in
    let value : listed_value_from front x.name key.mid ≡ Ok (front ++ x ∷ [], pair.mid) =
    bind_ok (digest_from key.mid) (λ d. Ok (front ++ record { name = x.name; digest = d.0 } ∷ [], d.1)) (x.digest, pair.mid) (digest_back x.digest is.digest key.mid pair.mid key.second) in
    bind_ok (name_from front here) (λ k. listed_value_from front k.0 k.1 >>= λ t. listed_after (length rest) t.0 t.1) (x.name, key.mid) name
    ∙ bind_ok (listed_value_from front x.name key.mid) (λ t. listed_after (length rest) t.0 t.1) (front ++ x ∷ [], pair.mid) value
    ∙ names_back (front ++ x ∷ []) rest (subst (λ (xs : List Listed). AreDistinct xs) (sym seam) d) (all_others (λ x. IsShort x.name) x rest short) (all_others IsEntry x rest are) pair.mid there pair.second
    ∙ ap (λ (xs : List Listed). Ok (xs, there)) seam

listed_back : (listed : List Listed) → AreDistinct listed → length listed < 2 ^ 32 → All (λ x. IsShort x.name) listed → All IsEntry listed → ReadAs listed_from (listed_bytes listed) listed
unfolding listed_from
listed_back listed d few short are = map_read_back (λ n there. listed_after n [] there) (length listed) (flat_map entry_bytes listed) listed few (names_back [] listed d short are)

-- ---- the index

-- a key that was not read yet, its value, and the pairs behind them
pair_back : (n : ℕ) (s t : List (Option Datum)) (name : List ℕ) (i : ℕ) (d : Datum) (bytes body : List ℕ) (c : Contents) → IsShort name → place_of index_keys (Some name) ≡ i
    → is_some (slice_index_or s i None) ≡ false → ltb i 3 ≡ true → slice_set s i (Some d) ≡ t → ReadAs (member_from i) bytes d → ReadAs (index_pairs_from n t) body c
    → ReadAs (index_pairs_from (suc n) s) ((str_bytes name ++ bytes) ++ body) c
unfolding entries_from known_key_from known_value_from
pair_back n s t name i d bytes body c short place new known set reads rest here there at =
    let pair : Halves (str_bytes name ++ bytes) body here there = halves (str_bytes name ++ bytes) body here there at in
    let key : Halves (str_bytes name) bytes here pair.mid = halves (str_bytes name) bytes here pair.mid pair.first in
    let at_key : known_key_from index_keys s here ≡ Ok (i, key.mid) =
    bind_ok (str_from here) (λ k. cond {A = Read ℕ} (is_some (slice_index_or s (place_of index_keys k.0) None)) (Err (fault_here kind.Repeated here)) (Ok (place_of index_keys k.0, k.1))) (Some name, key.mid)
    (str_read_back name short here key.mid key.first)
    ∙ ap (λ (j : ℕ). cond {A = Read ℕ} (is_some (slice_index_or s j None)) (Err (fault_here kind.Repeated here)) (Ok (j, key.mid))) place
    ∙ ap (λ (b : Bool). cond {A = Read ℕ} b (Err (fault_here kind.Repeated here)) (Ok (i, key.mid))) new in
    let at_value : known_value_from index_keys member_from s i key.mid ≡ Ok (t, pair.mid) =
    ap (λ (b : Bool). cond {A = Read (List (Option Datum))} b (member_from i key.mid >>= λ d. Ok (slice_set s i (Some d.0), d.1)) (skipped s key.mid)) known
    ∙ bind_ok (member_from i key.mid) (λ d. Ok (slice_set s i (Some d.0), d.1)) (d, pair.mid) (reads key.mid pair.mid key.second)
    ∙ ap (λ (u : List (Option Datum)). Ok (u, pair.mid)) set in
    bind_ok (known_key_from index_keys s here) (λ k. known_value_from index_keys member_from s k.0 k.1 >>= λ t. index_pairs_from n t.0 t.1) (i, key.mid) at_key
    ∙ bind_ok (known_value_from index_keys member_from s i key.mid) (λ t. index_pairs_from n t.0 t.1) (t, pair.mid) at_value
    ∙ rest pair.mid there pair.second

-- the end of an index whose keys were all read
end_back : (info : Info) (listed : List Listed) → ReadAs (index_pairs_from 0 (Some (Shards listed) ∷ Some Version ∷ Some (Infos info) ∷ [])) [] (record { info = info; listed = listed })
unfolding entries_from index_end_from known_end_from
end_back info listed here there at = ap (λ (q : Position). Ok (record { info = info; listed = listed }, q)) (nothing_between here there at)

pub contents_back : (subdir : List ℕ) (listed : List Listed) → IsWritable subdir listed → is_utf8 subdir ≡ true → All IsEntry listed → contents_from (index_bytes subdir listed) ≡ Ok (contents_written subdir listed)
unfolding contents_from index_from index_bytes
contents_back subdir listed w utf8 are =
    let info : Info = record { base_url = default_base; shards_base_url = default_shards_base; subdir = subdir } in
    let contents : Contents = contents_written subdir listed in
    let distinct : AreDistinct listed = ascending_distinct listed w.ascending in
    read_all index_from (index_bytes subdir listed) contents
    (map_read_back (λ n there. index_pairs_from n (unread index_keys) there) 3 _ contents (omega arith)
    (pair_back 2 (None ∷ None ∷ None ∷ []) (None ∷ Some Version ∷ None ∷ []) version_key 1 Version (uint_bytes 1) _ contents (omega arith) refl refl refl refl
    (read_turned version_from (λ n. Version) (uint_bytes 1) 1 version_back)
    (pair_back 1 (None ∷ Some Version ∷ None ∷ []) (None ∷ Some Version ∷ Some (Infos info) ∷ []) info_key 2 (Infos info) (info_bytes subdir) _ contents (omega arith) refl refl refl refl
    (read_turned info_from Infos (info_bytes subdir) info (info_back subdir w.subdir_short utf8))
    (pair_back 0 (None ∷ Some Version ∷ Some (Infos info) ∷ []) (Some (Shards listed) ∷ Some Version ∷ Some (Infos info) ∷ []) shards_key 0 (Shards listed) (listed_bytes listed) [] contents (omega arith) refl refl refl refl
    (read_turned listed_from Shards (listed_bytes listed) listed (listed_back listed distinct w.few w.names_short are))
    (end_back info listed)))))

name_of : (listed : List Listed) (k : ℕ) (d : Listed) → get_or (map (λ (x : Listed). x.name) listed) k d.name ≡ (get_or listed k d).name
name_of [] k d = refl
name_of (x ∷ xs) zero d = refl
name_of (x ∷ xs) (suc k) d = name_of xs k d

names_length : (listed : List Listed) → length (map (λ (x : Listed). x.name) listed) ≡ length listed
names_length [] = refl
names_length (x ∷ xs) = ap suc (names_length xs)

-- names that ascend strictly are in order
sorted_again : (listed : List Listed) → IsStrictlySortedBy (slice_cmp nat_cmp) (map (λ x. x.name) listed) → IsSortedBy name_lt listed
sorted_again listed up k d low high =
    let less : slice_cmp nat_cmp (get_or listed k d).name (get_or listed (k + 1) d).name ≡ Less =
    ap (λ (t : List ℕ). slice_cmp nat_cmp t (get_or listed (k + 1) d).name) (sym (name_of listed k d))
    ∙ ap (λ (t : List ℕ). slice_cmp nat_cmp (get_or (map (λ (x : Listed). x.name) listed) k d.name) t) (sym (name_of listed (k + 1) d))
    ∙ Less-from_sorted (slice_cmp nat_cmp) (map (λ (x : Listed). x.name) listed) k (k + 1) d.name up (omega arith) (omega (arith, names_length listed)) in
    ap is_lt (nat_list_cmp_total.antisymm (get_or listed (k + 1) d).name (get_or listed k d).name ∙ ap ordering_reverse less)

-- a written index is one, with what it was written for
pub read_again : (subdir : List ℕ) (listed : List Listed) → IsWritable subdir listed → is_utf8 subdir ≡ true → All IsEntry listed → IndexOf (index_bytes subdir listed) (contents_written subdir listed)
read_again subdir listed w utf8 are =
    index_found (index_bytes subdir listed) (contents_written subdir listed).info listed listed (contents_back subdir listed w utf8 are) (sorted_again listed w.ascending) (λ x. refl)

-- indexes with equal bytes have the same subdir and the same names
pub same_index : (s t : List ℕ) (xs ys : List Listed) → IsWritable s xs → is_utf8 s ≡ true → All IsEntry xs → IsWritable t ys → is_utf8 t ≡ true → All IsEntry ys → index_bytes s xs ≡ index_bytes t ys → (s ≡ t) × (xs ≡ ys)
same_index s t xs ys w utf8 are v text too e =
    let other : IndexOf (index_bytes s xs) (contents_written t ys) = subst (λ (bytes : List ℕ). IndexOf bytes (contents_written t ys)) (sym e) (read_again t ys v text too) in
    let same : contents_written s xs ≡ contents_written t ys = one_index (index_bytes s xs) (contents_written s xs) (contents_written t ys) (read_again s xs w utf8 are) other in
    (ap (λ (c : Contents). c.info.subdir) same, ap (λ (c : Contents). c.listed) same)

-- ---- no spelling of the value that an index is has fewer bytes

-- each head in the names and digests that are written is the shortest
tight_entries : (listed : List Listed) → All (λ x. IsShort x.name) listed → All IsEntry listed → AreTight (length listed * 2) (flat_map entry_bytes listed)
unfolding entry_bytes
tight_entries [] short are = tight_none
tight_entries (x ∷ rest) short are =
    let is : IsEntry x = all_first IsEntry x rest are in
    let len : length x.digest.0 ≡ 32 = is.digest in
    let few : length x.digest.0 < 2 ^ 32 = omega arith in
    let two : suc (suc (length rest * 2)) ≡ suc (length rest) * 2 = omega arith in
    subst (λ (n : ℕ). AreTight n ((str_bytes x.name ++ bin_bytes x.digest.0) ++ flat_map entry_bytes rest)) two
    (subst (λ (b : List ℕ). AreTight (suc (suc (length rest * 2))) b) (sym (append_assoc (str_bytes x.name) (bin_bytes x.digest.0) (flat_map entry_bytes rest)))
    (tight_one_more (suc (length rest * 2)) (str_bytes x.name) (bin_bytes x.digest.0 ++ flat_map entry_bytes rest) (tight_str x.name (all_first (λ x. IsShort x.name) x rest short))
    (tight_one_more (length rest * 2) (bin_bytes x.digest.0) (flat_map entry_bytes rest) (tight_bin x.digest.0 few)
    (tight_entries rest (all_others (λ x. IsShort x.name) x rest short) (all_others IsEntry x rest are)))))

-- what is written behind each key of the info
abbrev info_values : List ℕ → List (Option (List ℕ))
info_values subdir = Some (str_bytes default_base) ∷ Some (str_bytes default_shards_base) ∷ Some (str_bytes subdir) ∷ None ∷ []

-- each head in an info that is written is the shortest
tight_info : (subdir : List ℕ) → IsShort subdir → IsTight (info_bytes subdir)
tight_info subdir short =
    tight_known_map info_keys (info_values subdir) refl (omega arith) (names_short info_keys refl)
    (pointwise (λ (v : Option (List ℕ)). IfSome v IsTight) (info_values subdir) (tight_str default_base (omega arith), (tight_str default_shards_base (omega arith), (tight_str subdir short, (tt, tt)))))

-- what is written behind each key
abbrev values : List ℕ → List Listed → List (Option (List ℕ))
values subdir listed = Some (uint_bytes 1) ∷ Some (info_bytes subdir) ∷ Some (listed_bytes listed) ∷ []

-- an index that is written has as few bytes as any spelling of its value
pub shortest_index : (subdir : List ℕ) (listed : List Listed) → IsWritable subdir listed → All IsEntry listed → (v : Value) → Spells v (index_bytes subdir listed) → IsShortest v (index_bytes subdir listed)
unfolding index_bytes
shortest_index subdir listed w are =
    let names : IsTight (listed_bytes listed) = tight_map (length listed) (flat_map entry_bytes listed) w.few (tight_entries listed w.names_short are) in
    shortest (index_bytes subdir listed)
    (tight_known_map written_keys (values subdir listed) refl (omega arith) (names_short written_keys refl)
    (pointwise (λ (v : Option (List ℕ)). IfSome v IsTight) (values subdir listed) (tight_uint 1 (omega arith), (tight_info subdir w.subdir_short, (names, tt)))))

-- ---- indexes that can be written

none_short : All (λ (x : Listed). IsShort x.name) []
none_short i d lt = absurd (omega arith)

-- no names
pub none_writable : (subdir : List ℕ) → IsShort subdir → IsWritable subdir []
unfolding IsStrictlySortedBy
none_writable subdir short = record { ascending = tt; few = omega arith; subdir_short = short; names_short = none_short }

-- two names that ascend
pub two_writable : (subdir : List ℕ) (x y : Listed) → IsShort subdir → IsShort x.name → IsShort y.name → slice_cmp nat_cmp x.name y.name ≡ Less → IsWritable subdir (x ∷ y ∷ [])
unfolding IsStrictlySortedBy
two_writable subdir x y short first second less = record { ascending = ((less, tt), (tt, tt)); few = omega arith; subdir_short = short; names_short = both }
  where
    both : All (λ (x : Listed). IsShort x.name) (x ∷ y ∷ [])
    both zero d lt = first
    both (suc zero) d lt = second
    both (suc (suc i)) d lt = absurd (omega arith)
