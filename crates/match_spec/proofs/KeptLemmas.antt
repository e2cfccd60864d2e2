-- The places of the bytes that stay are within the text, and blanks in a row all stay or none.
use Rattle.std.proofs.Common.{◌≡◌, ◌+◌, ◌≤◌, ◌<◌, ◌-◌, ◌∙◌, ap, ℕ, zero, suc, List, [], ◌∷◌, ◌++◌, Bool, true, false, get_or, length, drop, take, reverse, refl, sym, arith, inl, inr, subst}
use Rattle.std.specs.Prelude.{filter, not, ◌==◌, Option, unwrap_or, IfSome, if◌then◌else◌}
use Rattle.std.proofs.lemmas.List.{append_assoc, drop_more, reverse-append, take_all, take_more}
use Rattle.gateway_words.specs.Ascii.{space}
use Rattle.byte_text.specs.Text.{begins_at, drop_blanks, skip_blanks}
use Rattle.std.proofs.lemmas.Bool.{cases_Bool}
use Rattle.match_spec.specs.Kept.{Placed, are_bound, blank_at, blanks_stay, kept, place_in, place_of_last, placed_from, stays}

-- each place is at most this one
abbrev AreWithin : ℕ → List Placed → Type 0
AreWithin end [] = Unit {0}
AreWithin end (p ∷ ps) = (p.at ≤ end) × AreWithin end ps

-- so are the places of a text's bytes
placed-within : (at : ℕ) (t : List ℕ) (end : ℕ) → at + length t ≤ end → AreWithin end (placed_from at t)
placed-within at [] end h = tt
placed-within at (b ∷ rest) end h = (omega arith, placed-within (suc at) rest end (omega arith))

-- and those of some of them
filter-within : (test : Placed → Bool) (ps : List Placed) (end : ℕ) → AreWithin end ps → AreWithin end (filter test ps)
filter-within test [] end h = tt
filter-within test (p ∷ ps) end h = elim (cases_Bool (test p)) [
  | inl yes' ↦ rw yes' (h.0, filter-within test ps end h.1)
  | inr no' ↦ rw no' (filter-within test ps end h.1)
]

-- and those of the last of them
drop-within : (n : ℕ) (ps : List Placed) (end : ℕ) → AreWithin end ps → AreWithin end (drop n ps)
drop-within zero ps end h = h
drop-within (suc n) [] end h = tt
drop-within (suc n) (p ∷ ps) end h = drop-within n ps end h.1

-- the first place is within
first-within : (ps : List Placed) (end : ℕ) → AreWithin end ps → place_in end ps ≤ end
first-within [] end h = omega arith
first-within (p ∷ ps) end h = h.0

-- the place of the last n bytes that stay is within the text
pub place-within : (n : ℕ) (t : List ℕ) (ps : List Placed) → ps ≡ kept t → place_of_last n (length t) ps ≤ length t
unfolding kept
place-within n t ps e =
    let P : List Placed → Type 0 = λ qs. place_of_last n (length t) qs ≤ length t in
    let all = filter-within (λ (p : Placed). stays t p.at) (placed_from 0 t) (length t) (placed-within 0 t (length t) (omega arith)) in
    subst P (sym e) (first-within (drop (length (kept t) - n) (kept t)) (length t) (drop-within (length (kept t) - n) (kept t) (length t) all))

-- ---- blanks in a row

-- where a blank stands, the text goes on
goes-on : (t : List ℕ) (n : ℕ) → begins_at space (drop n t) ≡ true → n < length t
goes-on [] zero h = grind (arith, h)
goes-on [] (suc n) h = grind (arith, h)
goes-on (b ∷ t) zero h = omega arith
goes-on (b ∷ t) (suc n) h = let on = goes-on t n h in omega (arith, on)

-- a blank at the end is dropped with those before it
drop-blank : (front : List ℕ) (b : ℕ) → (b == space) ≡ true → drop_blanks (front ++ b ∷ []) ≡ drop_blanks front
drop-blank front b is =
    ap (λ r. reverse (skip_blanks r)) (reverse-append front (b ∷ []))
    ∙ ap (λ c. reverse (if c then skip_blanks (reverse front) else b ∷ reverse front)) is

-- the blank behind a blank stays where that one does
pub blank-behind : (t : List ℕ) (n : ℕ) → begins_at space (drop n t) ≡ true → blanks_stay t (n + 1) ≡ blanks_stay t n
blank-behind t n h =
    let lt = goes-on t n h in
    let here = drop_more t n 0 lt in
    let is : (get_or t n 0 == space) ≡ true = ap (begins_at space) (sym here) ∙ h in
    let front = ap drop_blanks (take_more t n 0 lt) ∙ drop-blank (take n t) (get_or t n 0) is in
    let back = ap skip_blanks here ∙ ap (λ c. if c then skip_blanks (drop (n + 1) t) else get_or t n 0 ∷ drop (n + 1) t) is in
    λ i. not (are_bound (front i) (sym back i))

-- so what is known of a blank holds for the place behind it
pub known-behind : (t : List ℕ) (n : ℕ) (r : Option Bool) → r ≡ blank_at t n → IfSome r (λ stay. stay ≡ blanks_stay t (n + 1))
known-behind t n r e =
    let P : Option Bool → Type 0 = λ q. IfSome q (λ stay. stay ≡ blanks_stay t (n + 1)) in
    subst P (sym e) (elim (cases_Bool (begins_at space (drop n t))) [
      | inl yes' ↦ rw yes' (sym (blank-behind t n yes'))
      | inr no' ↦ rw no' tt
    ])

-- a byte stays where no blank is known to be dropped
pub stays-by : (t : List ℕ) (n : ℕ) (r : Option Bool) → r ≡ blank_at t n → unwrap_or r true ≡ stays t n
stays-by t n r e = ap (λ q. unwrap_or q true) e ∙ elim (cases_Bool (begins_at space (drop n t))) [
  | inl yes' ↦ rw yes' refl
  | inr no' ↦ rw no' refl
]

-- ---- the bytes that stay, one after the other

-- the bytes behind the first one, each with its place
rest-placed : (at : ℕ) (rest : List ℕ) → placed_from (at + 1) (take (suc (length rest) - 1) rest) ≡ placed_from (suc at) rest
rest-placed at rest =
    let on : at + 1 ≡ suc at = omega arith in
    let all : take (suc (length rest) - 1) rest ≡ rest = take_all (suc (length rest) - 1) rest (omega arith) in
    λ i. placed_from (on i) (all i)

-- a byte that stays is the first of those from its place on
pub one-stays : (t : List ℕ) (at : ℕ) (rest : List ℕ) (front : List Placed) → 1 ≤ length rest → stays t at ≡ true → (front ++ record { at = at; byte = get_or rest 0 0 } ∷ []) ++ filter (λ (p : Placed). stays t p.at) (placed_from (at + 1) (take (length rest - 1) (drop 1 rest))) ≡ front ++ filter (λ (p : Placed). stays t p.at) (placed_from at rest)
one-stays t at [] front some is = grind (arith, some)
one-stays t at (b ∷ rest) front some is =
    let behind = ap (filter (λ (p : Placed). stays t p.at)) (rest-placed at rest) in
    rw is (append_assoc front (record { at = at; byte = b } ∷ []) _ ∙ ap (λ ps. front ++ record { at = at; byte = b } ∷ ps) behind)

-- and one that doesn't stay is none of them
pub none-stays : (t : List ℕ) (at : ℕ) (rest : List ℕ) (front : List Placed) → 1 ≤ length rest → stays t at ≡ false → front ++ filter (λ (p : Placed). stays t p.at) (placed_from (at + 1) (take (length rest - 1) (drop 1 rest))) ≡ front ++ filter (λ (p : Placed). stays t p.at) (placed_from at rest)
none-stays t at [] front some is = grind (arith, some)
none-stays t at (b ∷ rest) front some is =
    let behind = ap (filter (λ (p : Placed). stays t p.at)) (rest-placed at rest) in
    rw is (ap (λ ps. front ++ ps) behind)
