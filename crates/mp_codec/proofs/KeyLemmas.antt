-- Known keys by a table: a map is read right where each known key's value is.
use Rattle.std.proofs.Common.{◌≡◌, refl, sym, ◌∙◌, ap, subst, ℕ, zero, suc, ◌+◌, ◌<◌, ◌≤◌, inl, inr, Bool, true, false, not, cond, ltb, ◌&&◌, ◌||◌, List, [], ◌∷◌, ◌++◌, length, take, arith}
use Rattle.std.specs.Prelude.{Ok, Err, Option, Some, None, is_some, slice_index_or, slice_set}
use Rattle.std.specs.Str.{bytes_eq}
use Rattle.std.specs.List.{list_any, list_all}
use Rattle.std.proofs.lemmas.Bool.{ltb-true, ltb-false}
use Rattle.std.proofs.lemmas.Slice.Eq.{bytes_eq-Decides}
use Rattle.gateway_words.specs.Places.{Position}
use Rattle.gateway_words.specs.Reading.{◌>>=◌}
use Rattle.mp_codec.specs.declared.fault.FormatFault.{FormatFault}
use Rattle.mp_codec.specs.declared.fault.FaultKind.TheVariants as kind
use Rattle.mp_codec.specs.Value.{Value, Pairs, str_of, pairs_of}
use Rattle.mp_codec.specs.Spelling.{Lies}
use Rattle.mp_codec.specs.Fault.{Faults, no_fault, fault_here, MapRules, PairsFault, MapFault}
use Rattle.mp_codec.specs.Keys.{has_bytes, is_key, value_at, has_key, is_repeated, RepeatedKey, repeated, MissingKey, missing}
use Rattle.mp_codec.specs.Maps.{Read, skipped, str_from, place_of, is_distinct, unread, known_key_from, known_value_from, known_end_from, known_map_from, entries_from}
use Rattle.mp_codec.proofs.JudgingLemmas.{StandBehind, JudgesOne}
use Rattle.mp_codec.proofs.LeafLemmas.{HasStr, str_judged, skipped_judged}
use Rattle.mp_codec.proofs.MapLemmas.{same_faults, mapped, guarded, JudgesEnd, pairs_behind, entries_judged, map_judged}

-- ---- what stands behind a key, with one pair more

value_at-other : (name : List ℕ) (front : Pairs) (key v : Value) → is_key name key ≡ false → value_at name (front ++ (key, v) ∷ []) ≡ value_at name front
value_at-other name [] key v e = ap (λ (b : Bool). cond b (Some v) None) e
value_at-other name (p ∷ ps) key v e = ap (λ (r : Option Value). cond (is_key name p.0) (Some p.1) r) (value_at-other name ps key v e)

value_at-new : (name : List ℕ) (front : Pairs) (key v : Value) → is_key name key ≡ true → has_key name front ≡ false → value_at name (front ++ (key, v) ∷ []) ≡ Some v
value_at-new name [] key v e lacks = ap (λ (b : Bool). cond b (Some v) None) e
value_at-new name (p ∷ ps) key v e lacks = go (is_key name p.0) lacks (λ less. value_at-new name ps key v e less)
  where
    go : (b : Bool) → is_some (cond b (Some p.1) (value_at name ps)) ≡ false → (has_key name ps ≡ false → value_at name (ps ++ (key, v) ∷ []) ≡ Some v) → cond b (Some p.1) (value_at name (ps ++ (key, v) ∷ [])) ≡ Some v
    go true lacks rest = absurd (cc)
    go false lacks rest = rest lacks

-- ---- what was read of each key

-- what the value behind a key says, where there is one
abbrev pub datum_at : {D : Type 0} → (Value → D) → Option Value → Option D
datum_at datum (Some v) = Some (datum v)
datum_at datum None = None

-- of each key, from place n on, what stands behind it
abbrev pub KnowsFrom : {D : Type 0} → (ℕ → Value → D) → ℕ → List (List ℕ) → List (Option D) → Pairs → Type 0
KnowsFrom datum n [] [] front = Unit {0}
KnowsFrom datum n [] (o ∷ s) front = ⊥
KnowsFrom datum n (name ∷ names) [] front = ⊥
KnowsFrom datum n (name ∷ names) (o ∷ s) front = (o ≡ datum_at (datum n) (value_at name front)) × KnowsFrom datum (suc n) names s front

some_datum : {D : Type 0} (datum : Value → D) (o : Option Value) → is_some (datum_at datum o) ≡ is_some o
some_datum datum (Some v) = refl
some_datum datum None = refl

-- the key is none of these names
abbrev no_name : Option (List ℕ) → List (List ℕ) → Bool
no_name o names = list_any (λ name. has_bytes name o) names

both_false : (a b : Bool) → (a || b) ≡ false → (a ≡ false) × (b ≡ false)
both_false true b e = absurd (cc)
both_false false b e = (refl, e)

both_true : (a b : Bool) → (a && b) ≡ true → (a ≡ true) × (b ≡ true)
both_true true b e = (refl, e)
both_true false b e = absurd (cc)

not_true : (a : Bool) → not a ≡ true → a ≡ false
not_true true e = absurd (cc)
not_true false e = refl

pub same_bytes : (xs ys : List ℕ) → bytes_eq xs ys ≡ true → xs ≡ ys
same_bytes xs ys e = (bytes_eq-Decides xs ys).0 e

-- a key of one name is of no other
of_one : (name : List ℕ) (names : List (List ℕ)) (o : Option (List ℕ)) → list_any (λ other. bytes_eq name other) names ≡ false → has_bytes name o ≡ true → no_name o names ≡ false
of_one name names None d e = absurd (cc)
of_one name names (Some bytes) d e = ap (λ (t : List ℕ). list_any (λ other. bytes_eq t other) names) (same_bytes bytes name e) ∙ d

-- a key whose place is past them is none of them
place_past : (names : List (List ℕ)) (o : Option (List ℕ)) → length names ≤ place_of names o → no_name o names ≡ false
place_past [] o le = refl
place_past (name ∷ names) o le = go (has_bytes name o) refl le (λ less. place_past names o less)
  where
    go : (b : Bool) → has_bytes name o ≡ b → suc (length names) ≤ cond b 0 (suc (place_of names o)) → (length names ≤ place_of names o → no_name o names ≡ false) → (b || no_name o names) ≡ false
    go true is le rest = absurd (omega arith)
    go false is le rest = rest (omega arith)

-- a key was read before exactly where it stands in front
known_is : {D : Type 0} (datum : ℕ → Value → D) (n : ℕ) (names : List (List ℕ)) (s : List (Option D)) (front : Pairs) (o : Option (List ℕ)) → is_distinct names ≡ true → KnowsFrom datum n names s front
    → is_some (slice_index_or s (place_of names o) None) ≡ list_any (λ name. has_bytes name o && has_key name front) names
known_is datum n [] [] front o d k = refl
known_is datum n [] (x ∷ s) front o d k = absurd k
known_is datum n (name ∷ names) [] front o d k = absurd k
known_is {D} datum n (name ∷ names) (x ∷ s) front o d k =
    let apart = both_true (not (list_any (λ other. bytes_eq name other) names)) (is_distinct names) d in
    let head : is_some x ≡ has_key name front = ap is_some k.0 ∙ some_datum (datum n) (value_at name front) in
    go (has_bytes name o) refl (not_true (list_any (λ other. bytes_eq name other) names) apart.0) head (known_is datum (suc n) names s front o apart.1 k.1)
  where
    nowhere : (ns : List (List ℕ)) → no_name o ns ≡ false → list_any (λ name. has_bytes name o && has_key name front) ns ≡ false
    nowhere [] e = refl
    nowhere (m ∷ ns) e =
        let b = both_false (has_bytes m o) (no_name o ns) e in
        let first : (has_bytes m o && has_key m front) ≡ false = ap (λ (t : Bool). t && has_key m front) b.0 in
        ap (λ (t : Bool). t || list_any (λ name. has_bytes name o && has_key name front) ns) first ∙ nowhere ns b.1

    go : (b : Bool) → has_bytes name o ≡ b → list_any (λ other. bytes_eq name other) names ≡ false → is_some x ≡ has_key name front
        → is_some (slice_index_or s (place_of names o) None) ≡ list_any (λ name. has_bytes name o && has_key name front) names
        → is_some (slice_index_or (x ∷ s) (cond b 0 (suc (place_of names o))) None) ≡ ((b && has_key name front) || list_any (λ name. has_bytes name o && has_key name front) names)
    go true is apart head rest =
        let others : list_any (λ name. has_bytes name o && has_key name front) names ≡ false = nowhere names (of_one name names o apart is) in
        head ∙ sym (or_false (has_key name front)) ∙ ap (λ (t : Bool). has_key name front || t) (sym others)
      where
        or_false : (b : Bool) → (b || false) ≡ b
        or_false true = refl
        or_false false = refl
    go false is apart head rest = rest

-- a pair whose key is none of these changes nothing
unchanged : {D : Type 0} (datum : ℕ → Value → D) (n : ℕ) (names : List (List ℕ)) (s : List (Option D)) (front : Pairs) (key v : Value) → no_name (str_of key) names ≡ false → KnowsFrom datum n names s front
    → KnowsFrom datum n names s (front ++ (key, v) ∷ [])
unchanged datum n [] [] front key v e k = tt
unchanged datum n [] (x ∷ s) front key v e k = k
unchanged datum n (name ∷ names) [] front key v e k = k
unchanged datum n (name ∷ names) (x ∷ s) front key v e k =
    let b = both_false (is_key name key) (no_name (str_of key) names) e in
    (k.0 ∙ ap (datum_at (datum n)) (sym (value_at-other name front key v b.0)), unchanged datum (suc n) names s front key v b.1 k.1)

-- a new key is known from then on
one_more : {D : Type 0} (datum : ℕ → Value → D) (n : ℕ) (names : List (List ℕ)) (s : List (Option D)) (front : Pairs) (key v : Value) (x : D) → is_distinct names ≡ true → KnowsFrom datum n names s front
    → is_repeated names front key ≡ false → place_of names (str_of key) < length names → datum (n + place_of names (str_of key)) v ≡ x
    → KnowsFrom datum n names (slice_set s (place_of names (str_of key)) (Some x)) (front ++ (key, v) ∷ [])
one_more datum n [] s front key v x d k fresh lt is = absurd (omega arith)
one_more datum n (name ∷ names) [] front key v x d k fresh lt is = absurd k
one_more {D} datum n (name ∷ names) (y ∷ s) front key v x d k fresh lt is =
    let apart = both_true (not (list_any (λ other. bytes_eq name other) names)) (is_distinct names) d in
    let new = both_false (is_key name key && has_key name front) (is_repeated names front key) fresh in
    go (is_key name key) refl (not_true (list_any (λ other. bytes_eq name other) names) apart.0) new.0 lt is (λ less same. one_more datum (suc n) names s front key v x apart.1 k.1 new.1 less same)
  where
    go : (b : Bool) → is_key name key ≡ b → list_any (λ other. bytes_eq name other) names ≡ false → (is_key name key && has_key name front) ≡ false
        → cond b 0 (suc (place_of names (str_of key))) < suc (length names) → datum (n + cond b 0 (suc (place_of names (str_of key)))) v ≡ x
        → (place_of names (str_of key) < length names → datum (suc n + place_of names (str_of key)) v ≡ x → KnowsFrom datum (suc n) names (slice_set s (place_of names (str_of key)) (Some x)) (front ++ (key, v) ∷ []))
        → KnowsFrom datum n (name ∷ names) (slice_set (y ∷ s) (cond b 0 (suc (place_of names (str_of key)))) (Some x)) (front ++ (key, v) ∷ [])
    go true e apart new lt is rest =
        let lacks : has_key name front ≡ false = ap (λ (b : Bool). b && has_key name front) (sym e) ∙ new in
        let at : n + 0 ≡ n = omega arith in
        let value : value_at name (front ++ (key, v) ∷ []) ≡ Some v = value_at-new name front key v e lacks in (
          ap (λ (x : D). Some x) (sym is ∙ ap (λ (j : ℕ). datum j v) at) ∙ ap (datum_at (datum n)) (sym value),
          unchanged datum (suc n) names s front key v (of_one name names (str_of key) apart e) k.1,
        )
    go false e apart new lt is rest = (
      k.0 ∙ ap (datum_at (datum n)) (sym (value_at-other name front key v e)),
      rest (omega arith) (ap (λ (j : ℕ). datum j v) (let at : suc n + place_of names (str_of key) ≡ n + suc (place_of names (str_of key)) = omega arith in at) ∙ is),
    )

-- nothing is known of an empty map
unread_knows : {D : Type 0} (datum : ℕ → Value → D) (n : ℕ) (names : List (List ℕ)) → KnowsFrom datum n names (unread names) []
unread_knows datum n [] = tt
unread_knows datum n (name ∷ names) = (refl, unread_knows datum (suc n) names)

-- so many first keys were read exactly where they stand in the map
all_seen : {D : Type 0} (datum : ℕ → Value → D) (k n : ℕ) (names : List (List ℕ)) (s : List (Option D)) (front : Pairs) → KnowsFrom datum n names s front → list_all is_some (take k s) ≡ list_all (λ name. has_key name front) (take k names)
all_seen datum zero n names s front h = refl
all_seen datum (suc k) n [] [] front h = refl
all_seen datum (suc k) n [] (o ∷ s) front h = absurd h
all_seen datum (suc k) n (name ∷ ns) [] front h = absurd h
all_seen datum (suc k) n (name ∷ ns) (o ∷ s) front h =
    let first : is_some o ≡ has_key name front = ap is_some h.0 ∙ some_datum (datum n) (value_at name front) in
    ap (λ (b : Bool). b && list_all is_some (take k s)) first ∙ ap (λ (b : Bool). has_key name front && b) (all_seen datum k (suc n) ns s front h.1)

-- ---- what is wrong with keys

-- a known key that stands again, taken apart
record Again (names : List (List ℕ)) (front : Pairs) (here : Position) (f : FormatFault) : Type 0 where
  key : Value
  there : Position
  lies : Lies key here there
  again : is_repeated names front key ≡ true
  is : f ≡ fault_here kind.Repeated here

again_of : {names : List (List ℕ)} {front : Pairs} {here : Position} {f : FormatFault} → RepeatedKey names front here f → Again names front here f
again_of (repeated {there = there} {key = key} l e) = record { key = key; there = there; lies = l; again = e; is = refl }

pub repeated_behind : (names : List (List ℕ)) (front : Pairs) → StandBehind (RepeatedKey names front)
repeated_behind names front here f p = let a : Again names front here f = again_of p in let at : f.at ≡ here.at = ap (λ (f : FormatFault). f.at) a.is in omega arith

lacks_of : {names : List (List ℕ)} {front : Pairs} {here : Position} {f : FormatFault} → MissingKey names front here f → (f ≡ fault_here kind.Missing here) × (list_all (λ name. has_key name front) names ≡ false)
lacks_of (missing e) = (refl, e)

pub missing_behind : (names : List (List ℕ)) (front : Pairs) → StandBehind (MissingKey names front)
missing_behind names front here f p = let w = lacks_of p in let at : f.at ≡ here.at = ap (λ (f : FormatFault). f.at) w.0 in omega arith

-- ---- the readers of keys, values and the end, by a table

module _ {D : Type 0} (names : List (List ℕ)) (distinct : is_distinct names ≡ true) (required : ℕ) (asked : ℕ → Faults) (datum : ℕ → Value → D) (datum_from : ℕ → Position → Read D)
    (each : (i : ℕ) (here : Position) → i < length names → JudgesOne (asked i) (λ x v. datum i v ≡ x) here (datum_from i here))
    (not_asked : (i : ℕ) (here : Position) (f : FormatFault) → length names ≤ i → asked i here f → ⊥)
    (asked_behind : (i : ℕ) → StandBehind (asked i)) where
  abbrev pub Knows : List (Option D) → Pairs → Type 0
  Knows s front = KnowsFrom datum 0 names s front

  abbrev pub IsKnown : List (Option D) → Pairs → ℕ → Value → Type 0
  IsKnown s front i v = (i ≡ place_of names (str_of v)) × (is_repeated names front v ≡ false)

  abbrev pub OfKey : Value → Faults
  OfKey key = asked (place_of names (str_of key))

  abbrev pub table_rules : MapRules
  table_rules = record { key = RepeatedKey names; value = OfKey; end = MissingKey (take required names) }

  keys_judged : (s : List (Option D)) (front : Pairs) (here : Position) → Knows s front → JudgesOne (RepeatedKey names front) (IsKnown s front) here (known_key_from names s here)
  unfolding known_key_from
  keys_judged s front here knows =
      guarded no_fault (RepeatedKey names front) HasStr (IsKnown s front) kind.Repeated here (λ o. is_some (slice_index_or s (place_of names o) None)) (place_of names)
      (λ f p. absurd p)
      (λ o v there l is bad. repeated l (sym (known v o is) ∙ bad))
      (λ f p. let a : Again names front here f = again_of p in
      inr (record { value = a.key; there = a.there; lies = a.lies; is = a.is; bad_value = λ o is. known a.key o is ∙ a.again; clean = λ g q. q }))
      (λ o v is good. (ap (place_of names) (sym is), sym (known v o is) ∙ good))
      (str_from here) (str_judged here)
    where
      known : (v : Value) (o : Option (List ℕ)) → str_of v ≡ o → is_some (slice_index_or s (place_of names o) None) ≡ is_repeated names front v
      known v o is = known_is datum 0 names s front o distinct knows ∙ ap (λ (o : Option (List ℕ)). list_any (λ name. has_bytes name o && has_key name front) names) (sym is)

  values_judged : (s : List (Option D)) (front : Pairs) (i : ℕ) (key : Value) (here : Position) → Knows s front → IsKnown s front i key
      → JudgesOne (OfKey key) (λ t v. Knows t (front ++ (key, v) ∷ [])) here (known_value_from names datum_from s i here)
  unfolding known_value_from
  values_judged s front i key here knows is = go (ltb i (length names)) refl
    where
      go : (b : Bool) → ltb i (length names) ≡ b → JudgesOne (OfKey key) (λ t v. Knows t (front ++ (key, v) ∷ [])) here (cond b (datum_from i here >>= λ d. Ok (slice_set s i (Some d.0), d.1)) (skipped s here))
      go true e =
          let lt : i < length names = ltb-true _ _ e in
          let less : place_of names (str_of key) < length names = subst (λ (j : ℕ). j < length names) is.0 lt in
          mapped (OfKey key) (λ x v. datum i v ≡ x) (λ t v. Knows t (front ++ (key, v) ∷ [])) (λ (x : D). slice_set s i (Some x)) here (datum_from i here)
          (λ x v t. subst (λ (j : ℕ). Knows (slice_set s j (Some x)) (front ++ (key, v) ∷ [])) (sym is.0)
          (one_more datum 0 names s front key v x distinct knows is.1 less (let z : 0 + place_of names (str_of key) ≡ i = let at : i ≡ place_of names (str_of key) = is.0 in omega arith in ap (λ (j : ℕ). datum j v) z ∙ t)))
          (subst (λ (j : ℕ). JudgesOne (asked j) (λ x v. datum i v ≡ x) here (datum_from i here)) is.0 (each i here lt))
      go false e =
          let past : length names ≤ place_of names (str_of key) = subst (λ (j : ℕ). length names ≤ j) is.0 (ltb-false _ _ e) in
          same_faults no_fault (OfKey key) (λ t v. Knows t (front ++ (key, v) ∷ [])) here (skipped s here) (λ f p. absurd p) (λ f p. not_asked (place_of names (str_of key)) here f past p)
          (skipped_judged s (λ t v. Knows t (front ++ (key, v) ∷ [])) here (λ v there l. unchanged datum 0 names s front key v (place_past names (str_of key) past) knows))

  end_judged : (s : List (Option D)) (front : Pairs) (here : Position) → Knows s front → JudgesEnd (MissingKey (take required names) front) (λ y. Knows y front) here (known_end_from required s here)
  unfolding known_end_from
  end_judged s front here knows = go (list_all is_some (take required s)) refl (all_seen datum required 0 names s front knows)
    where
      go : (b : Bool) → list_all is_some (take required s) ≡ b → list_all is_some (take required s) ≡ list_all (λ name. has_key name front) (take required names)
          → JudgesEnd (MissingKey (take required names) front) (λ y. Knows y front) here (cond b (Ok (s, here)) (Err (fault_here kind.Missing here)))
      go true e same = record { place = refl; good = knows; none = λ g p. let wrong : true ≡ false = sym e ∙ same ∙ (lacks_of p).1 in absurd (cc) }
      go false e same = record {
        stands = missing (sym same ∙ e);
        first = λ g p. let is : g ≡ fault_here kind.Missing here = (lacks_of p).0 in inr (ap (λ (f : FormatFault). f.at) (sym is), inl refl);
        ends = inr (refl, refl);
      }

  pub table_pairs_behind : (front : Pairs) (n : ℕ) → StandBehind (PairsFault table_rules front n)
  table_pairs_behind = pairs_behind table_rules Knows IsKnown Knows (known_key_from names) (known_value_from names datum_from) (known_end_from required)
      (repeated_behind names) (λ key. asked_behind (place_of names (str_of key))) (missing_behind (take required names)) keys_judged values_judged end_judged

  -- the law: what is read of each known key is what stands behind it, and a fault is the first one
  pub table_judged : (here : Position) → JudgesOne (MapFault table_rules) (λ y v. Knows y (pairs_of v)) here (known_map_from names required datum_from here)
  unfolding known_map_from
  table_judged here =
      map_judged table_rules Knows (λ n there. entries_from (known_key_from names) (known_value_from names datum_from) (known_end_from required) n (unread names) there)
      (λ n. table_pairs_behind [] n)
      (λ n there. entries_judged table_rules Knows IsKnown Knows (known_key_from names) (known_value_from names datum_from) (known_end_from required)
      (repeated_behind names) (λ key. asked_behind (place_of names (str_of key))) (missing_behind (take required names)) keys_judged values_judged end_judged
      n (unread names) [] there (unread_knows datum 0 names))
      here
