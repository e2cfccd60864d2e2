-- A map of known keys that is read in two ways: where the second gives for the value behind each key what the
-- first one turned gives, it does so for the map.
use Rattle.std.proofs.Common.{◌≡◌, refl, sym, ◌∙◌, ap, subst, ℕ, zero, suc, ◌+◌, ◌<◌, Bool, true, false, cond, ltb, ◌&&◌, List, [], ◌∷◌, length, take, arith}
use Rattle.std.specs.Prelude.{Result, Ok, Err, Option, Some, None, is_some, option_map, slice_index_or, slice_set}
use Rattle.std.specs.List.{list_all}
use Rattle.std.proofs.lemmas.Bool.{ltb-true}
use Rattle.gateway_words.specs.Places.{Position}
use Rattle.gateway_words.specs.Reading.{◌>>=◌}
use Rattle.mp_codec.specs.declared.fault.FormatFault.{FormatFault}
use Rattle.mp_codec.specs.declared.fault.FaultKind.TheVariants as kind
use Rattle.mp_codec.specs.declared.head.Head.TheVariants as head
use Rattle.mp_codec.specs.Value.{Value, str_of}
use Rattle.mp_codec.specs.Fault.{Faults, fault_here}
use Rattle.mp_codec.specs.Reading.{values_from}
use Rattle.mp_codec.specs.Maps.{Read, skipped, str_from, map_head_from, map_from, place_of, unread, entries_from, known_key_from, known_value_from, known_end_from, known_map_from}
use Rattle.mp_codec.specs.Span.{IsIn}
use Rattle.mp_codec.proofs.BindLemmas.{BoundOk, bound_ok, bind_ok}
use Rattle.mp_codec.proofs.HeadLemmas.{ok_second}
use Rattle.mp_codec.proofs.PassingLemmas.{passed_value}
use Rattle.mp_codec.proofs.JudgingLemmas.{Reads, JudgesOne}
use Rattle.mp_codec.proofs.ReaderLemmas.{judged_reads, str_found, map_found}
use Rattle.mp_codec.proofs.MappedLemmas.{turned}
use Rattle.mp_codec.proofs.SpanLemmas.{lies_in, head_in, value_in}

-- behind a value that was read right a position is in the same bytes
pub judged_stays : {X : Type 0} (bytes : List ℕ) (faults : Faults) (Means : X → Value → Type 0) (here : Position) (r : Read X) → JudgesOne faults Means here r → IsIn bytes here
    → (x : X) (there : Position) → r ≡ Ok (x, there) → IsIn bytes there
judged_stays bytes faults Means here r j i x there e =
    let reads : Reads faults Means here x there = judged_reads faults Means here r j x there e in
    lies_in bytes reads.value here there i reads.lies

-- a value that was skipped
skip_stays : {X : Type 0} (bytes : List ℕ) (x y : X) (here there : Position) → IsIn bytes here → skipped x here ≡ Ok (y, there) → IsIn bytes there
skip_stays {X} bytes x y here there i e =
    let b : BoundOk (values_from 1 here) (λ there. Ok (x, there)) (y, there) = bound_ok (values_from 1 here) (λ there. Ok (x, there)) (y, there) e in
    let place : b.value ≡ there = ok_second b.rest in
    let v = passed_value here b.value b.first in
    subst (IsIn bytes) place (lies_in bytes v.0 here b.value i v.1)

-- what was read of each key from place n on, turned by the function of its place
abbrev pub turned_from : {D E : Type 0} → (ℕ → E → D) → ℕ → List (Option E) → List (Option D)
turned_from f n [] = []
turned_from f n (o ∷ s) = option_map (f n) o ∷ turned_from f (suc n) s

pub turned_at : {D E : Type 0} (f : ℕ → E → D) (n : ℕ) (s : List (Option E)) (i : ℕ) → slice_index_or (turned_from f n s) i None ≡ option_map (f (n + i)) (slice_index_or s i None)
turned_at f n [] i = refl
turned_at f n (o ∷ s) zero = ap (λ (k : ℕ). option_map (f k) o) (let same : n ≡ n + 0 = omega arith in same)
turned_at f n (o ∷ s) (suc i) = turned_at f (suc n) s i ∙ ap (λ (k : ℕ). option_map (f k) (slice_index_or s i None)) (let same : suc n + i ≡ n + suc i = omega arith in same)

-- the same from the first key on
pub turned_key : {D E : Type 0} (f : ℕ → E → D) (s : List (Option E)) (i : ℕ) → slice_index_or (turned_from f 0 s) i None ≡ option_map (f i) (slice_index_or s i None)
turned_key f s i = turned_at f 0 s i ∙ ap (λ (k : ℕ). option_map (f k) (slice_index_or s i None)) (let same : 0 + i ≡ i = omega arith in same)

turned_set : {D E : Type 0} (f : ℕ → E → D) (n : ℕ) (s : List (Option E)) (i : ℕ) (x : E) → slice_set (turned_from f n s) i (Some (f (n + i) x)) ≡ turned_from f n (slice_set s i (Some x))
turned_set f n [] i x = refl
turned_set f n (o ∷ s) zero x = ap (λ (k : ℕ). Some (f k x) ∷ turned_from f (suc n) s) (let same : n + 0 ≡ n = omega arith in same)
turned_set {D} f n (o ∷ s) (suc i) x =
    ap (λ (k : ℕ). option_map (f n) o ∷ slice_set (turned_from f (suc n) s) i (Some (f k x))) (let same : n + suc i ≡ suc n + i = omega arith in same)
    ∙ ap (λ (t : List (Option D)). option_map (f n) o ∷ t) (turned_set f (suc n) s i x)

module _ {D E : Type 0} (bytes : List ℕ) (names : List (List ℕ)) (required : ℕ) (first_from : ℕ → Position → Read E) (second_from : ℕ → Position → Read D) (f : ℕ → E → D)
    (each : (i : ℕ) (here : Position) → i < length names → IsIn bytes here → second_from i here ≡ turned (f i) (first_from i here))
    (stays : (i : ℕ) (here there : Position) (x : D) → i < length names → IsIn bytes here → second_from i here ≡ Ok (x, there) → IsIn bytes there) where
  -- what was read of each key, turned
  abbrev pub each_turned : List (Option E) → List (Option D)
  each_turned = turned_from f 0

  is_some-turned : (i : ℕ) (o : Option E) → is_some (option_map (f i) o) ≡ is_some o
  is_some-turned i (Some x) = refl
  is_some-turned i None = refl

  key_same : (s : List (Option E)) (here : Position) → known_key_from names (each_turned s) here ≡ known_key_from names s here
  unfolding known_key_from
  key_same s here = go (str_from here)
    where
      met : (i : ℕ) → is_some (slice_index_or (each_turned s) i None) ≡ is_some (slice_index_or s i None)
      met i = ap is_some (turned_key f s i) ∙ is_some-turned i (slice_index_or s i None)

      go : (r : Read (Option (List ℕ)))
          → (r >>= λ k. cond {A = Read ℕ} (is_some (slice_index_or (each_turned s) (place_of names k.0) None)) (Err (fault_here kind.Repeated here)) (Ok (place_of names k.0, k.1)))
          ≡ (r >>= λ k. cond {A = Read ℕ} (is_some (slice_index_or s (place_of names k.0) None)) (Err (fault_here kind.Repeated here)) (Ok (place_of names k.0, k.1)))
      go (Ok k) = ap (λ (b : Bool). cond {A = Read ℕ} b (Err (fault_here kind.Repeated here)) (Ok (place_of names k.0, k.1))) (met (place_of names k.0))
      go (Err g) = refl

  key_stays : (s : List (Option E)) (here mid : Position) (k : ℕ) → IsIn bytes here → known_key_from names s here ≡ Ok (k, mid) → IsIn bytes mid
  unfolding known_key_from
  key_stays s here mid k i e = go b.value b.first (is_some (slice_index_or s (place_of names b.value.0) None)) b.rest
    where
      b : BoundOk (str_from here) (λ k. cond {A = Read ℕ} (is_some (slice_index_or s (place_of names k.0) None)) (Err (fault_here kind.Repeated here)) (Ok (place_of names k.0, k.1))) (k, mid)
      b = bound_ok (str_from here) (λ k. cond {A = Read ℕ} (is_some (slice_index_or s (place_of names k.0) None)) (Err (fault_here kind.Repeated here)) (Ok (place_of names k.0, k.1))) (k, mid) e

      go : (x : Option (List ℕ) × Position) → str_from here ≡ Ok x → (b : Bool) → cond {A = Read ℕ} b (Err (fault_here kind.Repeated here)) (Ok (place_of names x.0, x.1)) ≡ Ok (k, mid) → IsIn bytes mid
      go x is true rest = absurd (cc)
      go x is false rest =
          let place : x.1 ≡ mid = ok_second rest in
          subst (IsIn bytes) place (value_in bytes str_of x.0 here x.1 i (str_found here x.1 x.0 is))

  value_same : (s : List (Option E)) (i : ℕ) (here : Position) → IsIn bytes here → known_value_from names second_from (each_turned s) i here ≡ turned each_turned (known_value_from names first_from s i here)
  unfolding known_value_from
  value_same s i here within = go (ltb i (length names)) refl
    where
      put : (r : Read E) → (turned (f i) r >>= λ d. Ok (slice_set (each_turned s) i (Some d.0), d.1)) ≡ turned each_turned (r >>= λ d. Ok (slice_set s i (Some d.0), d.1))
      put (Ok d) = ap (λ (t : List (Option D)). Ok (t, d.1)) (ap (λ (k : ℕ). slice_set (each_turned s) i (Some (f k d.0))) (let same : i ≡ 0 + i = omega arith in same) ∙ turned_set f 0 s i d.0)
      put (Err g) = refl

      skip : (r : Result Position FormatFault) → (r >>= λ there. Ok (each_turned s, there)) ≡ turned each_turned (r >>= λ there. Ok (s, there))
      skip (Ok there) = refl
      skip (Err g) = refl

      go : (b : Bool) → ltb i (length names) ≡ b → cond b (second_from i here >>= λ d. Ok (slice_set (each_turned s) i (Some d.0), d.1)) (skipped (each_turned s) here)
          ≡ turned each_turned (cond b (first_from i here >>= λ d. Ok (slice_set s i (Some d.0), d.1)) (skipped s here))
      go true e = ap (λ (r : Read D). r >>= λ d. Ok (slice_set (each_turned s) i (Some d.0), d.1)) (each i here (ltb-true _ _ e) within) ∙ put (first_from i here)
      go false e = skip (values_from 1 here)

  value_stays : (s t : List (Option E)) (i : ℕ) (here there : Position) → IsIn bytes here → known_value_from names first_from s i here ≡ Ok (t, there) → IsIn bytes there
  unfolding known_value_from
  value_stays s t i here there within e = go (ltb i (length names)) refl e
    where
      go : (b : Bool) → ltb i (length names) ≡ b → cond b (first_from i here >>= λ d. Ok (slice_set s i (Some d.0), d.1)) (skipped s here) ≡ Ok (t, there) → IsIn bytes there
      go true lt e =
          let b : BoundOk (first_from i here) (λ d. Ok (slice_set s i (Some d.0), d.1)) (t, there) = bound_ok (first_from i here) (λ d. Ok (slice_set s i (Some d.0), d.1)) (t, there) e in
          let place : b.value.1 ≡ there = ok_second b.rest in
          let read : second_from i here ≡ Ok (f i b.value.0, b.value.1) = each i here (ltb-true _ _ lt) within ∙ bind_ok (first_from i here) (λ x. Ok (f i x.0, x.1)) b.value b.first in
          subst (IsIn bytes) place (stays i here b.value.1 (f i b.value.0) (ltb-true _ _ lt) within read)
      go false lt e = skip_stays bytes s t here there within e

  end_same : (s : List (Option E)) (here : Position) → known_end_from required (each_turned s) here ≡ turned each_turned (known_end_from required s here)
  unfolding known_end_from
  end_same s here = ap (λ (b : Bool). cond {A = Read (List (Option D))} b (Ok (each_turned s, here)) (Err (fault_here kind.Missing here))) (seen 0 required s) ∙ go (list_all is_some (take required s))
    where
      seen : (n k : ℕ) (s : List (Option E)) → list_all is_some (take k (turned_from f n s)) ≡ list_all is_some (take k s)
      seen n zero s = refl
      seen n (suc k) [] = refl
      seen n (suc k) (o ∷ s) = ap (λ (b : Bool). b && list_all is_some (take k (turned_from f (suc n) s))) (is_some-turned n o) ∙ ap (λ (b : Bool). is_some o && b) (seen (suc n) k s)

      go : (b : Bool) → cond {A = Read (List (Option D))} b (Ok (each_turned s, here)) (Err (fault_here kind.Missing here)) ≡ turned each_turned (cond b (Ok (s, here)) (Err (fault_here kind.Missing here)))
      go true = refl
      go false = refl

  entries_same : (n : ℕ) (s : List (Option E)) (here : Position) → IsIn bytes here
      → entries_from (known_key_from names) (known_value_from names second_from) (known_end_from required) n (each_turned s) here
      ≡ turned each_turned (entries_from (known_key_from names) (known_value_from names first_from) (known_end_from required) n s here)
  unfolding entries_from
  entries_same zero s here within = end_same s here
  entries_same (suc n) s here within =
      ap (λ (r : Read ℕ). r >>= λ k. known_value_from names second_from (each_turned s) k.0 k.1 >>= λ t. entries_from (known_key_from names) (known_value_from names second_from) (known_end_from required) n t.0 t.1) (key_same s here)
      ∙ go (known_key_from names s here) refl (λ t there within. entries_same n t there within)
    where
      pair : (k : ℕ) (mid : Position) → IsIn bytes mid → (r : Read (List (Option E))) → known_value_from names first_from s k mid ≡ r
          → ((t : List (Option E)) (there : Position) → IsIn bytes there → entries_from (known_key_from names) (known_value_from names second_from) (known_end_from required) n (each_turned t) there
          ≡ turned each_turned (entries_from (known_key_from names) (known_value_from names first_from) (known_end_from required) n t there))
          → (turned each_turned r >>= λ t. entries_from (known_key_from names) (known_value_from names second_from) (known_end_from required) n t.0 t.1)
          ≡ turned each_turned (r >>= λ t. entries_from (known_key_from names) (known_value_from names first_from) (known_end_from required) n t.0 t.1)
      pair k mid within (Ok t) e rest = rest t.0 t.1 (value_stays s t.0 k mid t.1 within e)
      pair k mid within (Err g) e rest = refl

      go : (r : Read ℕ) → known_key_from names s here ≡ r
          → ((t : List (Option E)) (there : Position) → IsIn bytes there → entries_from (known_key_from names) (known_value_from names second_from) (known_end_from required) n (each_turned t) there
          ≡ turned each_turned (entries_from (known_key_from names) (known_value_from names first_from) (known_end_from required) n t there))
          → (r >>= λ k. known_value_from names second_from (each_turned s) k.0 k.1 >>= λ t. entries_from (known_key_from names) (known_value_from names second_from) (known_end_from required) n t.0 t.1)
          ≡ turned each_turned (r >>= λ k. known_value_from names first_from s k.0 k.1 >>= λ t. entries_from (known_key_from names) (known_value_from names first_from) (known_end_from required) n t.0 t.1)
      go (Ok k) e rest =
          let mid : IsIn bytes k.1 = key_stays s here k.1 k.0 within e in
          ap (λ (r : Read (List (Option D))). r >>= λ t. entries_from (known_key_from names) (known_value_from names second_from) (known_end_from required) n t.0 t.1) (value_same s k.0 k.1 mid)
          ∙ pair k.0 k.1 mid (known_value_from names first_from s k.0 k.1) refl rest
      go (Err g) e rest = refl

  unread_turned : (n : ℕ) (names : List (List ℕ)) → turned_from f n (unread names) ≡ unread names
  unread_turned n [] = refl
  unread_turned n (name ∷ names) = ap (λ (s : List (Option D)). None ∷ s) (unread_turned (suc n) names)

  -- the law
  pub known_map_same : (here : Position) → IsIn bytes here → known_map_from names required second_from here ≡ turned each_turned (known_map_from names required first_from here)
  unfolding known_map_from map_from
  known_map_same here within = go (map_head_from here) refl
    where
      go : (r : Read ℕ) → map_head_from here ≡ r
          → (r >>= λ n. entries_from (known_key_from names) (known_value_from names second_from) (known_end_from required) n.0 (unread names) n.1)
          ≡ turned each_turned (r >>= λ n. entries_from (known_key_from names) (known_value_from names first_from) (known_end_from required) n.0 (unread names) n.1)
      go (Ok n) e =
          ap (λ (s : List (Option D)). entries_from (known_key_from names) (known_value_from names second_from) (known_end_from required) n.0 s n.1) (sym (unread_turned 0 names))
          ∙ entries_same n.0 (unread names) n.1 (head_in bytes (head.Map n.0) here n.1 within (map_found here n.1 n.0 e))
      go (Err g) e = refl
