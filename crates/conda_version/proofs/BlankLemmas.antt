-- A blank in front of a text moves the places of its faults, and changes nothing else.
use Rattle.std.proofs.Common.{◌≡◌, ◌==◌, ◌∙◌, ◌+◌, ◌-◌, ◌≤◌, ℕ, suc, List, [], ◌∷◌, ◌++◌, Bool, true, false, length, map, refl, sym, ap, arith, inl, inr}
use Rattle.std.specs.Prelude.{◌&&◌, ◌||◌, nat_le, nat_lt, not, Option, Some, None, Result, Ok, Err}
use Rattle.std.specs.Option.{option_map}
use Rattle.std.proofs.lemmas.Bool.{cases_Bool}
use Rattle.std.proofs.lemmas.Bool.Decides.{nat_tests}
use Rattle.std.proofs.lemmas.List.{length-map, map-append}
use Rattle.gateway_words.specs.Ascii.{space}
use Rattle.conda_version.specs.Allowing.{allows, answer_of, fresh, groups_after, signs_of}
use Rattle.conda_version.specs.Blanks.{moved}
use Rattle.conda_version.specs.Constraint.{comes_before, constraint_fault, earlier, ends_item, faults, faults_from, faults_here, first_of, if_so, leaf_faults, most_levels, constraint_fault_number, open_after, place_of, shifted}
use Rattle.conda_version.specs.Grammar.{Parts, first_wrong, has_empty_part, if_there, is_no_number, is_twice, is_wide, parts, version_of, version_of_parts, version_of_trimmed, version_unless}
use Rattle.conda_version.specs.Leaf.{Test, leaf_of}
use Rattle.byte_text.specs.Text.{drop_blanks, is_nil, skip_blanks}
use Rattle.conda_version.specs.Token.{Open, Placed, Token, and, closed, leaf, left, longer, or, right, tokens, tokens_from}
use Rattle.conda_version.specs.declared.fault.ConstraintFault.{ConstraintFault}
use Rattle.conda_version.specs.declared.fault.ConstraintFault.TheVariants as fault
use Rattle.conda_version.proofs.TokenLemmas.{sign-cases}

-- ---- versions

-- without its blanks a text is no longer
pub skip-within : (t : List ℕ) → length (skip_blanks t) ≤ length t
skip-within [] = omega arith
skip-within (b ∷ rest) = elim (cases_Bool (b == space)) [
  | inl blank ↦ rw blank (omega (arith, skip-within rest))
  | inr on ↦ rw on (omega arith)
]

-- the faults of parts have no place
parts-moved : (t : List ℕ) (p : Parts) → version_of_parts t p ≡ moved (version_of_parts t p)
parts-moved t p = elim (cases_Bool (is_twice t p)) [
  | inl yes' ↦ rw yes' refl
  | inr no' ↦ rw no' (elim (cases_Bool (if_there is_no_number p.epoch)) [
    | inl yes' ↦ rw yes' refl
    | inr no' ↦ rw no' (elim (cases_Bool (has_empty_part p)) [
      | inl yes' ↦ rw yes' refl
      | inr no' ↦ rw no' (elim (cases_Bool (is_wide p)) [
        | inl yes' ↦ rw yes' refl
        | inr no' ↦ rw no' refl
      ])
    ])
  ])
]

-- the place of a wrong byte is one more
unless-moved : (from : ℕ) (t : List ℕ) (wrong : Option ℕ) → version_unless (from + 1) t wrong ≡ moved (version_unless from t wrong)
unless-moved from t None = parts-moved t (parts t)
unless-moved from t (Some at) =
    let place : from + 1 + at ≡ from + at + 1 = omega arith in
    rw place refl

-- so it is of a text without blanks at its ends
trimmed-moved : (from : ℕ) (t : List ℕ) → version_of_trimmed (from + 1) t ≡ moved (version_of_trimmed from t)
trimmed-moved from t = elim (cases_Bool (is_nil t)) [
  | inl none ↦ rw none refl
  | inr some ↦ rw some (unless-moved from t (first_wrong t))
]

-- a blank in front of a version
pub version-moved : (t : List ℕ) → version_of (space ∷ t) ≡ moved (version_of t)
unfolding version_of
version-moved t =
    let place : length (space ∷ t) - length (skip_blanks t) ≡ length t - length (skip_blanks t) + 1 = omega (arith, skip-within t) in
    ap (λ n. version_of_trimmed n (drop_blanks (skip_blanks t))) place
    ∙ trimmed-moved (length t - length (skip_blanks t)) (drop_blanks (skip_blanks t))

-- ---- the tokens of a constraint

-- a token one place further on
abbrev pub further : Placed → Placed
further p = record { at = suc p.at; token = p.token }

-- a leaf that is open, one place further on
abbrev pub open_further : Open → Open
open_further None = None
open_further (Some l) = Some (suc l.0, l.1)

-- the leaf that is open, as a token
closed-further : (l : Open) → closed (open_further l) ≡ map further (closed l)
closed-further None = refl
closed-further (Some l) = refl

-- a byte that is no sign
longer-further : (l : Open) (at b : ℕ) → longer (open_further l) (suc at) b ≡ open_further (longer l at b)
longer-further None at b = elim (cases_Bool (b == space)) [
  | inl blank ↦ rw blank refl
  | inr on ↦ rw on refl
]
longer-further (Some l) at b = refl

-- all tokens stand one place further on
tokens-further : (t : List ℕ) (l : Open) (at : ℕ) → tokens_from (open_further l) (suc at) t ≡ map further (tokens_from l at t)
tokens-further [] l at = closed-further l
tokens-further (b ∷ rest) l at = elim (sign-cases b) [
  | inl none ↦ simp none ((λ i. tokens_from (longer-further l at b i) (suc (suc at)) rest) ∙ tokens-further rest (longer l at b) (suc at))
  | inr some ↦ simp some.1
      ((λ i. closed-further l i ++ (record { at = suc at; token = some.0 } ∷ tokens-further rest None (suc at) i))
      ∙ sym (map-append further (closed l) (record { at = at; token = some.0 } ∷ tokens_from None (suc at) rest)))
]

-- the tokens themselves stay
same-tokens : (ps : List Placed) → map (λ (p : Placed). p.token) (map further ps) ≡ map (λ (p : Placed). p.token) ps
same-tokens [] = refl
same-tokens (p ∷ ps) = ap (λ ts. p.token ∷ ts) (same-tokens ps)

-- a blank in front of a constraint
pub signs-moved : (t : List ℕ) → signs_of (space ∷ t) ≡ signs_of t
signs-moved t = ap (map (λ (p : Placed). p.token)) (tokens-further t None 0) ∙ same-tokens (tokens t)

-- what it allows stays
pub allows-moved : (t version : List ℕ) → allows (space ∷ t) version ≡ allows t version
unfolding allows
allows-moved t version = ap (λ ts. answer_of (groups_after (version_of version) (fresh ∷ []) ts)) (signs-moved t)

-- ---- the faults of a constraint

-- the fault one place further on
abbrev pub later : ConstraintFault → ConstraintFault
later (fault.Empty at) = fault.Empty (suc at)
later (fault.Operator at) = fault.Operator (suc at)
later (fault.Version at) = fault.Version (suc at)
later (fault.Paren at) = fault.Paren (suc at)
later (fault.Star at) = fault.Star (suc at)

-- as it is defined
later-shifted : (f : ConstraintFault) → later f ≡ shifted 1 f
later-shifted (fault.Empty at) = ap fault.Empty (omega arith)
later-shifted (fault.Operator at) = ap fault.Operator (omega arith)
later-shifted (fault.Version at) = ap fault.Version (omega arith)
later-shifted (fault.Paren at) = ap fault.Paren (omega arith)
later-shifted (fault.Star at) = ap fault.Star (omega arith)

-- as it is defined, where there is one
option-shifted : (o : Option ConstraintFault) → option_map later o ≡ option_map (shifted 1) o
option-shifted None = refl
option-shifted (Some f) = ap Some (later-shifted f)

-- a fault, where something is so
so-later : (so : Bool) (f : ConstraintFault) → if_so so (later f) ≡ map later (if_so so f)
so-later true f = refl
so-later false f = refl

-- the place of the fault of a leaf
shift-later : (at : ℕ) (f : ConstraintFault) → shifted (suc at) f ≡ later (shifted at f)
shift-later at (fault.Empty n) = ap fault.Empty (omega arith)
shift-later at (fault.Operator n) = ap fault.Operator (omega arith)
shift-later at (fault.Version n) = ap fault.Version (omega arith)
shift-later at (fault.Paren n) = ap fault.Paren (omega arith)
shift-later at (fault.Star n) = ap fault.Star (omega arith)

-- the fault of a leaf
leaf-later : (at : ℕ) (r : Result Test ConstraintFault) → leaf_faults (suc at) r ≡ map later (leaf_faults at r)
leaf-later at (Ok test) = refl
leaf-later at (Err f) = ap (λ g. g ∷ []) (shift-later at f)

-- the faults at a token
here-later : (item : Bool) (depth at : ℕ) (t : Token) → faults_here item depth (suc at) t ≡ map later (faults_here item depth at t)
here-later item depth at (leaf text) =
    (λ i. so-later item (fault.Paren at) i ++ leaf-later at (leaf_of text) i)
    ∙ sym (map-append later (if_so item (fault.Paren at)) (leaf_faults at (leaf_of text)))
here-later item depth at left = so-later (item || nat_le most_levels depth) (fault.Paren at)
here-later item depth at right =
    (λ i. so-later (not item) (fault.Empty at) i ++ so-later (depth == 0) (fault.Paren at) i)
    ∙ sym (map-append later (if_so (not item) (fault.Empty at)) (if_so (depth == 0) (fault.Paren at)))
here-later item depth at and = so-later (not item) (fault.Empty at)
here-later item depth at or = so-later (not item) (fault.Empty at)

-- the places of the `(` that are open
open-later : (xs : List ℕ) (at : ℕ) (t : Token) → open_after (map suc xs) (suc at) t ≡ map suc (open_after xs at t)
open-later xs at (leaf text) = refl
open-later xs at left = refl
open-later [] at right = refl
open-later (x ∷ xs) at right = refl
open-later xs at and = refl
open-later xs at or = refl

-- each `(` that is never closed
unclosed-later : (xs : List ℕ) → map (λ at. fault.Paren at) (map suc xs) ≡ map later (map (λ at. fault.Paren at) xs)
unclosed-later [] = refl
unclosed-later (x ∷ xs) = ap (λ fs. fault.Paren (suc x) ∷ fs) (unclosed-later xs)

-- all faults
faults-later : (ps : List Placed) (item : Bool) (xs : List ℕ) (end : ℕ)
    → faults_from item (map suc xs) (suc end) (map further ps) ≡ map later (faults_from item xs end ps)
faults-later [] item xs end =
    (λ i. so-later (not item) (fault.Empty end) i ++ unclosed-later xs i)
    ∙ sym (map-append later (if_so (not item) (fault.Empty end)) (map (λ at. fault.Paren at) xs))
faults-later (p ∷ ps) item xs end =
    (λ i. faults_here item (length-map xs suc i) (suc p.at) p.token ++ faults_from (ends_item p.token) (open-later xs p.at p.token i) (suc end) (map further ps))
    ∙ (λ i. here-later item (length xs) p.at p.token i ++ faults-later ps (ends_item p.token) (open_after xs p.at p.token) end i)
    ∙ sym (map-append later (faults_here item (length xs) p.at p.token) (faults_from (ends_item p.token) (open_after xs p.at p.token) end ps))

-- the place is one more
place-later : (f : ConstraintFault) → place_of (later f) ≡ suc (place_of f)
place-later (fault.Empty at) = refl
place-later (fault.Operator at) = refl
place-later (fault.Version at) = refl
place-later (fault.Paren at) = refl
place-later (fault.Star at) = refl

-- the number stays
number-later : (f : ConstraintFault) → constraint_fault_number (later f) ≡ constraint_fault_number f
number-later (fault.Empty at) = refl
number-later (fault.Operator at) = refl
number-later (fault.Version at) = refl
number-later (fault.Paren at) = refl
number-later (fault.Star at) = refl

-- one more on both sides
below-later : (a b : ℕ) → nat_lt (suc a) (suc b) ≡ nat_lt a b
below-later a b = elim (cases_Bool (nat_lt a b)) [
  | inl yes' ↦ rw yes' (grind (arith, nat_tests))
  | inr no' ↦ rw no' (grind (arith, nat_tests))
]

-- the same of equality
same-later : (a b : ℕ) → (suc a == suc b) ≡ (a == b)
same-later a b = elim (cases_Bool (a == b)) [
  | inl yes' ↦ rw yes' (grind (arith, nat_tests))
  | inr no' ↦ rw no' (grind (arith, nat_tests))
]

-- so does the order of two faults
before-later : (g f : ConstraintFault) → comes_before (later g) (later f) ≡ comes_before g f
before-later g f =
    (λ i. nat_lt (place-later g i) (place-later f i) || (place-later g i == place-later f i && nat_lt (number-later g i) (number-later f i)))
    ∙ (λ i. below-later (place_of g) (place_of f) i || (same-later (place_of g) (place_of f) i && nat_lt (constraint_fault_number g) (constraint_fault_number f)))

-- the earlier of two
earlier-later : (best : Option ConstraintFault) (g : ConstraintFault) → earlier (option_map later best) (later g) ≡ later (earlier best g)
earlier-later None g = refl
earlier-later (Some f) g = elim (cases_Bool (comes_before g f)) [
  | inl yes' ↦ rw (before-later g f, yes') refl
  | inr no' ↦ rw (before-later g f, no') refl
]

-- the first of some
first-later : (fs : List ConstraintFault) (best : Option ConstraintFault) → first_of (option_map later best) (map later fs) ≡ option_map later (first_of best fs)
first-later [] best = refl
first-later (f ∷ fs) best =
    (λ i. first_of (Some (earlier-later best f i)) (map later fs)) ∙ first-later fs (Some (earlier best f))

-- a blank in front of a constraint
pub fault-moved : (t : List ℕ) → constraint_fault (space ∷ t) ≡ option_map (shifted 1) (constraint_fault t)
unfolding constraint_fault
fault-moved t =
    (λ i. first_of None (faults_from false [] (suc (length t)) (tokens-further t None 0 i)))
    ∙ ap (first_of None) (faults-later (tokens t) false [] (length t))
    ∙ first-later (faults t) None
    ∙ option-shifted (first_of None (faults t))
