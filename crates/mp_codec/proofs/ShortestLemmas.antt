-- Bytes each of whose heads is the shortest are the shortest spelling of their value.
use Rattle.std.proofs.Common.{◌≡◌, refl, sym, ◌∙◌, ap, subst, ℕ, zero, suc, ◌+◌, ◌*◌, ◌<◌, ◌≤◌, ◌^◌, true, List, [], ◌∷◌, ◌++◌, length, arith, length-append, append-nil, append_assoc, get_or}
use Rattle.std.specs.Prelude.{nat_lt, Option, Some, None, IfSome}
use Rattle.std.specs.List.{list_all, All, AllByRecursion, flat_map}
use Rattle.std.proofs.lemmas.List.Folds.{list_all-append}
use Rattle.mp_codec.specs.declared.head.Head.TheVariants as head
use Rattle.mp_codec.specs.Value.{Value, value, Values, none, more, count}
use Rattle.mp_codec.specs.Spelling.{IsNode, Spells, SpellsAll}
use Rattle.mp_codec.specs.Writing.{are_bytes, uint_bytes, str_head, bin_head, array_head, map_head, str_bytes, bin_bytes, pairs_bytes, value_count, known_map_bytes, uint_value, str_value, bin_value, IsShortest, IsShortestHead}
use Rattle.std.proofs.lemmas.Bool.{ltb-true}
use Rattle.std.proofs.lemmas.List.Sums.{AllPass-from_list_all}
use Rattle.mp_codec.proofs.UniqueLemmas.{one_value}
use Rattle.mp_codec.proofs.WritingLemmas.{uint_spelled, str_head_spelled, bin_head_spelled, array_head_spelled, map_head_spelled, uint_shortest, str_head_shortest, bin_head_shortest, array_head_shortest, map_head_shortest}

abbrev mutual
  -- bytes that spell a value, each head in it by its shortest form
  pub Tight : Value → List ℕ → Type 0
  Tight (value h payload parts) bytes =
      (front body : List ℕ) × IsNode h front payload (count parts) × IsShortestHead h front × TightAll parts body × (bytes ≡ front ++ (payload ++ body))

  pub TightAll : Values → List ℕ → Type 0
  TightAll none bytes = bytes ≡ []
  TightAll (more v vs) bytes = (one others : List ℕ) × Tight v one × TightAll vs others × (bytes ≡ one ++ others)

-- bytes that spell some value so
abbrev pub IsTight : List ℕ → Type 0
IsTight bytes = (v : Value) × Tight v bytes

-- bytes that spell so many values so
abbrev pub AreTight : ℕ → List ℕ → Type 0
AreTight n bytes = (vs : Values) × (count vs ≡ n) × TightAll vs bytes

-- ---- they are the shortest

first_bytes : (a b : List ℕ) → are_bytes (a ++ b) ≡ true → are_bytes a ≡ true
first_bytes a b all = grind (arith, list_all-append (λ (x : ℕ). nat_lt x 256) a b)

last_bytes : (a b : List ℕ) → are_bytes (a ++ b) ≡ true → are_bytes b ≡ true
last_bytes a b all = grind (arith, list_all-append (λ (x : ℕ). nat_lt x 256) a b)

mutual
  tight_shortest : (v : Value) (written bytes : List ℕ) → Tight v written → are_bytes bytes ≡ true → Spells v bytes → length written ≤ length bytes
  tight_shortest (value h payload parts) written bytes t all s =
      let whole : are_bytes (s.0 ++ (payload ++ s.1)) ≡ true = ap are_bytes (sym s.4) ∙ all in
      let heads : length t.0 ≤ length s.0 = t.3 s.0 (first_bytes s.0 (payload ++ s.1) whole) s.2.head in
      let bodies : length t.1 ≤ length s.1 = all_shortest parts t.1 s.1 t.4 (last_bytes payload s.1 (last_bytes s.0 (payload ++ s.1) whole)) s.3 in
      let ours : length written ≡ length t.0 + (length payload + length t.1) = ap length t.5 ∙ length-append t.0 (payload ++ t.1) ∙ ap (λ (k : ℕ). length t.0 + k) (length-append payload t.1) in
      let theirs : length bytes ≡ length s.0 + (length payload + length s.1) = ap length s.4 ∙ length-append s.0 (payload ++ s.1) ∙ ap (λ (k : ℕ). length s.0 + k) (length-append payload s.1) in
      omega arith

  all_shortest : (vs : Values) (written bytes : List ℕ) → TightAll vs written → are_bytes bytes ≡ true → SpellsAll vs bytes → length written ≤ length bytes
  all_shortest none written bytes t all s = let e = ap length t in omega (arith, e)
  all_shortest (more v vs) written bytes t all s =
      let whole : are_bytes (s.0 ++ s.1) ≡ true = ap are_bytes (sym s.4) ∙ all in
      let one : length t.0 ≤ length s.0 = tight_shortest v t.0 s.0 t.2 (first_bytes s.0 s.1 whole) s.2 in
      let others : length t.1 ≤ length s.1 = all_shortest vs t.1 s.1 t.3 (last_bytes s.0 s.1 whole) s.3 in
      let ours : length written ≡ length t.0 + length t.1 = ap length t.4 ∙ length-append t.0 t.1 in
      let theirs : length bytes ≡ length s.0 + length s.1 = ap length s.4 ∙ length-append s.0 s.1 in
      omega arith

mutual
  tight_spells : (v : Value) (written : List ℕ) → Tight v written → Spells v written
  tight_spells (value h payload parts) written t = (t.0, t.1, t.2, all_spell parts t.1 t.4, t.5)

  all_spell : (vs : Values) (written : List ℕ) → TightAll vs written → SpellsAll vs written
  all_spell none written t = t
  all_spell (more v vs) written t = (t.0, t.1, tight_spells v t.0 t.2, all_spell vs t.1 t.3, t.4)

-- no spelling of the value that they spell has fewer bytes
pub shortest : (written : List ℕ) → IsTight written → (v : Value) → Spells v written → IsShortest v written
shortest written t v s bytes all spelled =
    let same : v ≡ t.0 = one_value v t.0 written s (tight_spells t.0 written t.1) in
    tight_shortest t.0 written bytes t.1 all (subst (λ (u : Value). Spells u bytes) same spelled)

-- ---- what the writers append

pub tight_uint : (n : ℕ) → n < 2 ^ 64 → IsTight (uint_bytes n)
tight_uint n lt = (uint_value n, (uint_bytes n, [], record { head = uint_spelled n lt; payload_len = refl; part_count = refl }, uint_shortest n, refl, sym (append-nil (uint_bytes n))))

pub tight_str : (payload : List ℕ) → length payload < 2 ^ 32 → IsTight (str_bytes payload)
tight_str payload lt = (str_value payload, (str_head (length payload), [], record { head = str_head_spelled (length payload) lt; payload_len = refl; part_count = refl }, str_head_shortest (length payload), refl, ap (λ (b : List ℕ). str_head (length payload) ++ b) (sym (append-nil payload))))

pub tight_bin : (payload : List ℕ) → length payload < 2 ^ 32 → IsTight (bin_bytes payload)
tight_bin payload lt = (bin_value payload, (bin_head (length payload), [], record { head = bin_head_spelled (length payload) lt; payload_len = refl; part_count = refl }, bin_head_shortest (length payload), refl, ap (λ (b : List ℕ). bin_head (length payload) ++ b) (sym (append-nil payload))))

pub tight_array : (n : ℕ) (body : List ℕ) → n < 2 ^ 32 → AreTight n body → IsTight (array_head n ++ body)
tight_array n body lt t = (value (head.Array n) [] t.0, (array_head n, body, record { head = array_head_spelled n lt; payload_len = refl; part_count = t.1 }, array_head_shortest n, t.2, refl))

pub tight_map : (n : ℕ) (body : List ℕ) → n < 2 ^ 32 → AreTight (n * 2) body → IsTight (map_head n ++ body)
tight_map n body lt t = let twice : n * 2 ≡ n + n = omega arith in (value (head.Map n) [] t.0, (map_head n, body, record { head = map_head_spelled n lt; payload_len = refl; part_count = t.1 ∙ twice }, map_head_shortest n, t.2, refl))

pub tight_none : AreTight 0 []
tight_none = (none, refl, refl)

pub tight_one_more : (n : ℕ) (one others : List ℕ) → IsTight one → AreTight n others → AreTight (suc n) (one ++ others)
tight_one_more n one others t ts = (more t.0 ts.0, ap (λ (k : ℕ). suc k) ts.1, (one, others, t.1, ts.2, refl))

-- texts, one behind the other
pub tight_each : {X : Type 0} (f : X → List ℕ) (xs : List X) → ((k : ℕ) (d : X) → k < length xs → IsTight (f (get_or xs k d))) → AreTight (length xs) (flat_map f xs)
tight_each f [] each = tight_none
tight_each f (x ∷ xs) each = tight_one_more (length xs) (f x) (flat_map f xs) (each 0 x (omega arith)) (tight_each f xs (λ k d lt. each (suc k) d (omega arith)))

-- pairs of known keys, each with a value that is so
pub tight_pairs : (names : List (List ℕ)) (values : List (Option (List ℕ))) → length names ≡ length values → All (λ (name : List ℕ). length name < 2 ^ 32) names → All (λ (v : Option (List ℕ)). IfSome v IsTight) values
    → AreTight (value_count values * 2) (pairs_bytes names values)
tight_pairs [] [] len short each = tight_none
tight_pairs [] (v ∷ vs) len short each = absurd (omega arith)
tight_pairs (name ∷ names) [] len short each = absurd (omega arith)
tight_pairs (name ∷ names) (None ∷ vs) len short each = tight_pairs names vs (omega arith) (λ k d lt. short (suc k) d (omega arith)) (λ k d lt. each (suc k) d (omega arith))
tight_pairs (name ∷ names) (Some bytes ∷ vs) len short each =
    let rest : AreTight (value_count vs * 2) (pairs_bytes names vs) = tight_pairs names vs (omega arith) (λ k d lt. short (suc k) d (omega arith)) (λ k d lt. each (suc k) d (omega arith)) in
    let two : suc (suc (value_count vs * 2)) ≡ suc (value_count vs) * 2 = omega arith in
    subst (λ (n : ℕ). AreTight n ((str_bytes name ++ bytes) ++ pairs_bytes names vs)) two
    (subst (λ (b : List ℕ). AreTight (suc (suc (value_count vs * 2))) b) (sym (append_assoc (str_bytes name) bytes (pairs_bytes names vs)))
    (tight_one_more (suc (value_count vs * 2)) (str_bytes name) (bytes ++ pairs_bytes names vs) (tight_str name (short 0 name (omega arith)))
    (tight_one_more (value_count vs * 2) bytes (pairs_bytes names vs) (each 0 None (omega arith)) rest)))

pub tight_known_map : (names : List (List ℕ)) (values : List (Option (List ℕ))) → length names ≡ length values → value_count values < 2 ^ 32 → All (λ (name : List ℕ). length name < 2 ^ 32) names → All (λ (v : Option (List ℕ)). IfSome v IsTight) values
    → IsTight (known_map_bytes names values)
tight_known_map names values len few short each = tight_map (value_count values) (pairs_bytes names values) few (tight_pairs names values len short each)

-- ---- what holds of each of some given elements

pub pointwise : {X : Type 0} (P : X → Type 0) (xs : List X) → AllByRecursion P xs → All P xs
pointwise P [] all k d lt = absurd (omega arith)
pointwise P (x ∷ xs) all zero d lt = all.0
pointwise P (x ∷ xs) all (suc k) d lt = pointwise P xs all.1 k d (omega arith)

pub names_short : (names : List (List ℕ)) → list_all (λ name. nat_lt (length name) (2 ^ 32)) names ≡ true → All (λ (name : List ℕ). length name < 2 ^ 32) names
names_short names all k d lt = ltb-true (length (get_or names k d)) (2 ^ 32) (AllPass-from_list_all (λ (name : List ℕ). nat_lt (length name) (2 ^ 32)) names all k d lt)
