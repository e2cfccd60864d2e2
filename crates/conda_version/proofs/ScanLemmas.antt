-- The first fault of a text, found with a count in place of the places that are open.
use Rattle.std.proofs.Common.{◌≡◌, ◌==◌, ◌<◌, ◌≤◌, ℕ, suc, List, [], ◌∷◌, ◌++◌, Bool, true, false, length, map, refl, sym, ap, ◌∙◌, arith, inl, inr}
use Rattle.std.specs.Prelude.{not, nat_lt, Option, Some, None, if◌then◌else◌}
use Rattle.std.proofs.lemmas.Bool.{cases_Bool}
use Rattle.std.proofs.lemmas.Bool.Decides.{nat_tests}
use Rattle.gateway_words.specs.Ascii.{space}
use Rattle.conda_version.specs.Constraint.{comes_before, constraint_fault, earlier, ends_item, faults_from, faults_here, first_of, if_so, open_after}
use Rattle.conda_version.specs.Scan.{depth_after, outermost_after, scan_faults}
use Rattle.conda_version.specs.Token.{Open, Placed, Token, and, closed, leaf, left, longer, or, right, tokens, tokens_from}
use Rattle.conda_version.proofs.TokenLemmas.{sign-cases}
use Rattle.conda_version.specs.declared.fault.ConstraintFault.{ConstraintFault}
use Rattle.conda_version.specs.declared.fault.ConstraintFault.TheVariants as fault

-- the first of two lists of faults, one after the other
pub first-append : (fs gs : List ConstraintFault) (best : Option ConstraintFault) → first_of best (fs ++ gs) ≡ first_of (first_of best fs) gs
first-append [] gs best = refl
first-append (f ∷ fs) gs best = first-append fs gs (Some (earlier best f))

-- ---- places rise

-- the tokens stand in this order, from a place on
abbrev pub Rise : ℕ → List Placed → Type 0
Rise low [] = Unit {0}
Rise low (p ∷ ps) = (low ≤ p.at) × Rise (suc p.at) ps

-- from an earlier place on they rise too
rise-lower : (ps : List Placed) (low at : ℕ) → low ≤ at → Rise at ps → Rise low ps
rise-lower [] low at h r = tt
rise-lower (p ∷ ps) low at h r = (omega (arith, r.0), r.1)

-- a place before which the leaf that is open begins
abbrev pub OpensBefore : Open → ℕ → Type 0
OpensBefore None at = Unit {0}
OpensBefore (Some l) at = l.0 < at

-- where the first token may begin
abbrev pub first_place : Open → ℕ → ℕ
first_place None at = at
first_place (Some l) at = l.0

-- a leaf that goes on began before
opens-longer : (l : Open) (at b : ℕ) → OpensBefore l at → OpensBefore (longer l at b) (suc at)
opens-longer None at b h = by (b == space)
  where
    by : (blank : Bool) → OpensBefore (if blank then None else Some (at, b ∷ [])) (suc at)
    by true = tt
    by false = omega arith
opens-longer (Some l) at b h = omega (arith, h)

-- a byte that is no sign moves no token forward
place-longer : (l : Open) (at b : ℕ) (ps : List Placed) → OpensBefore l at → Rise (first_place (longer l at b) (suc at)) ps → Rise (first_place l at) ps
place-longer None at b ps h r = by (b == space) r
  where
    by : (blank : Bool) → Rise (first_place (if blank then None else Some (at, b ∷ [])) (suc at)) ps → Rise at ps
    by true r = rise-lower ps at (suc at) (omega arith) r
    by false r = r
place-longer (Some l) at b ps h r = r

-- a sign stands behind the leaf that it ends
rise-ended : (l : Open) (at : ℕ) (s : Token) (ps : List Placed) → OpensBefore l at → Rise (suc at) ps → Rise (first_place l at) (closed l ++ (record { at = at; token = s } ∷ ps))
rise-ended None at s ps h r = (omega arith, r)
rise-ended (Some l) at s ps h r = (omega arith, (omega (arith, h), r))

-- the leaf that is open stands where it began
rise-closed : (l : Open) (at : ℕ) → Rise (first_place l at) (closed l)
rise-closed None at = tt
rise-closed (Some l) at = (omega arith, tt)

-- the tokens of a text rise
tokens-rise : (t : List ℕ) (l : Open) (at : ℕ) → OpensBefore l at → Rise (first_place l at) (tokens_from l at t)
tokens-rise [] l at h = rise-closed l at
tokens-rise (b ∷ rest) l at h = elim (sign-cases b) [
  | inl none ↦ simp none (place-longer l at b (tokens_from (longer l at b) (suc at) rest) h (tokens-rise rest (longer l at b) (suc at) (opens-longer l at b h)))
  | inr some ↦ simp some.1 (rise-ended l at some.0 (tokens_from None (suc at) rest) h (tokens-rise rest None (suc at) tt))
]

-- ---- the outermost place is the least

-- places of `(` that are open, the innermost first, all below a place
abbrev pub Fall : ℕ → List ℕ → Type 0
Fall low [] = Unit {0}
Fall low (x ∷ xs) = (x < low) × Fall x xs

-- below a place is below a later one
fall-raise : (xs : List ℕ) (low at : ℕ) → low ≤ at → Fall low xs → Fall at xs
fall-raise [] low at h f = tt
fall-raise (x ∷ xs) low at h f = (omega (arith, f.0), f.1)

-- the last of some places
abbrev pub IsOutermost : List ℕ → ℕ → Type 0
IsOutermost [] o = Unit {0}
IsOutermost (x ∷ []) o = o ≡ x
IsOutermost (x ∷ (y ∷ xs)) o = IsOutermost (y ∷ xs) o

-- the outermost place is the least
outermost-below : (xs : List ℕ) (x o : ℕ) → Fall x xs → IsOutermost (x ∷ xs) o → o ≤ x
outermost-below [] x o f e = omega (arith, e)
outermost-below (y ∷ xs) x o f e = omega (arith, f.0, outermost-below xs y o f.1 e)

-- a fault at a later place doesn't count beside an earlier one
cb-paren : (o x : ℕ) → o < x → comes_before (fault.Paren o) (fault.Paren x) ≡ true
cb-paren o x h = grind (arith, nat_tests)

-- what is before a `(` that is before a fault is before that fault
cb-through : (o x : ℕ) (f : ConstraintFault) → o < x → comes_before (fault.Paren x) f ≡ true → comes_before (fault.Paren o) f ≡ true
cb-through o x f h e = grind (arith, nat_tests)

-- a `(` further on doesn't count beside one that lies before it
absorb : (best : Option ConstraintFault) (o x : ℕ) → o < x → earlier (Some (earlier best (fault.Paren x))) (fault.Paren o) ≡ earlier best (fault.Paren o)
absorb None o x h = rw (cb-paren o x h) refl
absorb (Some f) o x h = elim (cases_Bool (comes_before (fault.Paren x) f)) [
  | inl before ↦ rw (before, cb-paren o x h, cb-through o x f h before) refl
  | inr behind ↦ rw behind refl
]

-- of the `(` that are open the outermost decides
unclosed : (xs : List ℕ) (x o : ℕ) (best : Option ConstraintFault) → Fall x xs → IsOutermost (x ∷ xs) o
    → first_of best (map (λ at. fault.Paren at) (x ∷ xs)) ≡ Some (earlier best (fault.Paren o))
unclosed [] x o best f e = ap (λ at. Some (earlier best (fault.Paren at))) (sym e)
unclosed (y ∷ xs) x o best f e =
    unclosed xs y o (Some (earlier best (fault.Paren x))) f.1 e
    ∙ ap Some (absorb best o x (omega (arith, f.0, outermost-below xs y o f.1 e)))

-- or none, where none is open
all-unclosed : (xs : List ℕ) (low o : ℕ) (best : Option ConstraintFault) → Fall low xs → IsOutermost xs o
    → first_of best (map (λ at. fault.Paren at) xs) ≡ first_of best (if_so (nat_lt 0 (length xs)) (fault.Paren o))
all-unclosed [] low o best f e = refl
all-unclosed (x ∷ xs) low o best f e =
    let some : nat_lt 0 (length (x ∷ xs)) ≡ true = grind (arith, nat_tests) in
    rw some (unclosed xs x o best f.1 e)

-- ---- one token further on

-- the count follows the places
pub open-length : (xs : List ℕ) (at : ℕ) (t : Token) → length (open_after xs at t) ≡ depth_after (length xs) t
open-length xs at (leaf text) = refl
open-length xs at left = omega arith
open-length [] at right = omega arith
open-length (x ∷ xs) at right = omega arith
open-length xs at and = refl
open-length xs at or = refl

-- so does the outermost place
open-outermost : (xs : List ℕ) (at o : ℕ) (t : Token) → IsOutermost xs o → IsOutermost (open_after xs at t) (outermost_after (length xs) o at t)
open-outermost xs at o (leaf text) e = e
open-outermost [] at o left e = refl
open-outermost (x ∷ xs) at o left e =
    let some : (length (x ∷ xs) == 0) ≡ false = grind (arith, nat_tests) in
    rw some e
open-outermost [] at o right e = tt
open-outermost (x ∷ []) at o right e = tt
open-outermost (x ∷ (y ∷ xs)) at o right e = e
open-outermost xs at o and e = e
open-outermost xs at o or e = e

-- the places stay in order
open-falls : (xs : List ℕ) (low at : ℕ) (t : Token) → low ≤ at → Fall low xs → Fall (suc at) (open_after xs at t)
open-falls xs low at (leaf text) h f = fall-raise xs low (suc at) (omega arith) f
open-falls xs low at left h f = (omega arith, fall-raise xs low at h f)
open-falls [] low at right h f = tt
open-falls (x ∷ xs) low at right h f = fall-raise xs x (suc at) (omega (arith, f.0)) f.1
open-falls xs low at and h f = fall-raise xs low (suc at) (omega arith) f
open-falls xs low at or h f = fall-raise xs low (suc at) (omega arith) f

-- the first fault needs the count and the outermost place alone
pub scan-same : (ps : List Placed) (item : Bool) (xs : List ℕ) (low o end : ℕ) (best : Option ConstraintFault) → Fall low xs → IsOutermost xs o → Rise low ps
    → first_of best (faults_from item xs end ps) ≡ first_of best (scan_faults item (length xs) o end ps)
scan-same [] item xs low o end best f e r =
    first-append (if_so (not item) (fault.Empty end)) (map (λ at. fault.Paren at) xs) best
    ∙ all-unclosed xs low o (first_of best (if_so (not item) (fault.Empty end))) f e
    ∙ sym (first-append (if_so (not item) (fault.Empty end)) (if_so (nat_lt 0 (length xs)) (fault.Paren o)) best)
scan-same (p ∷ ps) item xs low o end best f e r =
    let here = faults_here item (length xs) p.at p.token in
    first-append here (faults_from (ends_item p.token) (open_after xs p.at p.token) end ps) best
    ∙ scan-same ps (ends_item p.token) (open_after xs p.at p.token) (suc p.at) (outermost_after (length xs) o p.at p.token) end (first_of best here)
    (open-falls xs low p.at p.token r.0 f) (open-outermost xs p.at o p.token e) r.1
    ∙ ap (λ depth. first_of (first_of best here) (scan_faults (ends_item p.token) depth (outermost_after (length xs) o p.at p.token) end ps)) (open-length xs p.at p.token)
    ∙ sym (first-append here (scan_faults (ends_item p.token) (depth_after (length xs) p.token) (outermost_after (length xs) o p.at p.token) end ps) best)

-- the fault of a text, as the search begins
pub scan-whole : (text : List ℕ) → constraint_fault text ≡ first_of None (scan_faults false 0 0 (length text) (tokens text))
unfolding constraint_fault
scan-whole text = scan-same (tokens text) false [] 0 0 (length text) None tt tt (tokens-rise text None 0 tt)
