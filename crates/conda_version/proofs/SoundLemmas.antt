-- No fault stands in a text exactly where its tokens follow one another as the grammar has them.
use Rattle.std.proofs.Common.{◌≡◌, ◌==◌, ◌<◌, ℕ, List, [], ◌∷◌, ◌++◌, Bool, true, false, length, map, refl, sym, ap, arith, subst}
use Rattle.std.specs.Prelude.{◌||◌, not, nat_le, Some, None, Result, Ok, Err}
use Rattle.std.specs.Result.{IsOk}
use Rattle.std.proofs.lemmas.Bool.Decides.{nat_tests}
use Rattle.conda_version.specs.Allowing.{signs_of}
use Rattle.conda_version.specs.Constraint.{constraint_fault, earlier, ends_item, faults, faults_from, faults_here, first_of, if_so, leaf_faults, most_levels, open_after}
use Rattle.conda_version.specs.Leaf.{Test, leaf_of}
use Rattle.conda_version.specs.Scan.{depth_after}
use Rattle.conda_version.specs.Token.{Placed, Token, and, leaf, left, or, right, tokens}
use Rattle.conda_version.specs.declared.fault.ConstraintFault.{ConstraintFault}
use Rattle.conda_version.specs.declared.fault.ConstraintFault.TheVariants as fault
use Rattle.conda_version.proofs.ScanLemmas.{open-length}

-- a token may come: whether an item stands right before it, and how many `(` are open
abbrev pub MayCome : Bool → ℕ → Token → Type 0
MayCome item depth (leaf text) = (item ≡ false) × IsOk (leaf_of text)
MayCome item depth left = (item ≡ false) × (depth < most_levels)
MayCome item depth right = (item ≡ true) × (0 < depth)
MayCome item depth and = item ≡ true
MayCome item depth or = item ≡ true

-- some tokens may come one after the other, and the end behind them
abbrev pub Sound : Bool → ℕ → List Token → Type 0
Sound item depth [] = (item ≡ true) × (depth ≡ 0)
Sound item depth (t ∷ ts) = MayCome item depth t × Sound (ends_item t) (depth_after depth t) ts

-- the token of a placed one
abbrev pub token_of : Placed → Token
token_of p = p.token

-- both parts of nothing are nothing
nil-parts : {A : Type 0} (xs ys : List A) → xs ++ ys ≡ [] → (xs ≡ []) × (ys ≡ [])
nil-parts [] ys e = (refl, e)
nil-parts (x ∷ xs) ys e = cc e

-- where no fault is, it isn't so
so-not : (so : Bool) (f : ConstraintFault) → if_so so f ≡ [] → so ≡ false
so-not false f e = refl
so-not true f e = cc e

-- where it isn't so, no fault is
not-so : (so : Bool) (f : ConstraintFault) → so ≡ false → if_so so f ≡ []
not-so so f e = rw e refl

-- an item stands there
true-item : (item : Bool) → not item ≡ false → item ≡ true
true-item true e = refl
true-item false e = sym e

-- neither of two
or-parts : (a b : Bool) → (a || b) ≡ false → (a ≡ false) × (b ≡ false)
or-parts false b e = (refl, e)
or-parts true b e = cc e

-- a leaf without a fault has a reading
leaf-read : (at : ℕ) (r : Result Test ConstraintFault) → leaf_faults at r ≡ [] → IsOk r
leaf-read at (Ok t) e = refl
leaf-read at (Err f) e = cc e

-- and one with a reading has no fault
read-leaf : (at : ℕ) (r : Result Test ConstraintFault) → IsOk r → leaf_faults at r ≡ []
read-leaf at (Ok t) e = refl
read-leaf at (Err f) e = cc e

-- no fault stands at a token exactly where it may come
here-may : (item : Bool) (depth at : ℕ) (t : Token) → faults_here item depth at t ≡ [] → MayCome item depth t
here-may item depth at (leaf text) e =
    let parts = nil-parts (if_so item (fault.Paren at)) (leaf_faults at (leaf_of text)) e in
    (so-not item (fault.Paren at) parts.0, leaf-read at (leaf_of text) parts.1)
here-may item depth at left e =
    let parts = or-parts item (nat_le most_levels depth) (so-not (item || nat_le most_levels depth) (fault.Paren at) e) in
    let fits : nat_le most_levels depth ≡ false = parts.1 in
    (parts.0, grind (arith, nat_tests))
here-may item depth at right e =
    let parts = nil-parts (if_so (not item) (fault.Empty at)) (if_so (depth == 0) (fault.Paren at)) e in
    let some : (depth == 0) ≡ false = so-not (depth == 0) (fault.Paren at) parts.1 in
    (true-item item (so-not (not item) (fault.Empty at) parts.0), grind (arith, nat_tests))
here-may item depth at and e = true-item item (so-not (not item) (fault.Empty at) e)
here-may item depth at or e = true-item item (so-not (not item) (fault.Empty at) e)

-- where a token may come, no fault stands
may-here : (item : Bool) (depth at : ℕ) (t : Token) → MayCome item depth t → faults_here item depth at t ≡ []
may-here item depth at (leaf text) m = rw m.0 (read-leaf at (leaf_of text) m.1)
may-here item depth at left m =
    let fits : nat_le most_levels depth ≡ false = let h = m.1 in grind (arith, nat_tests) in
    rw (m.0, fits) refl
may-here item depth at right m =
    let some : (depth == 0) ≡ false = let h = m.1 in grind (arith, nat_tests) in
    rw (m.0, some) refl
may-here item depth at and m = rw m refl
may-here item depth at or m = rw m refl

-- tokens without a fault are sound
pub none-sound : (ps : List Placed) (item : Bool) (xs : List ℕ) (end : ℕ) → faults_from item xs end ps ≡ [] → Sound item (length xs) (map token_of ps)
none-sound [] item xs end e =
    let parts = nil-parts (if_so (not item) (fault.Empty end)) (map (λ at. fault.Paren at) xs) e in
    (true-item item (so-not (not item) (fault.Empty end) parts.0), none xs parts.1)
  where
    none : (xs : List ℕ) → map (λ at. fault.Paren at) xs ≡ [] → length xs ≡ 0
    none [] e = refl
    none (x ∷ xs) e = cc e
none-sound (p ∷ ps) item xs end e =
    let parts = nil-parts (faults_here item (length xs) p.at p.token) (faults_from (ends_item p.token) (open_after xs p.at p.token) end ps) e in
    let rest = none-sound ps (ends_item p.token) (open_after xs p.at p.token) end parts.1 in (
      here-may item (length xs) p.at p.token parts.0,
      let P : ℕ → Type 0 = λ depth. Sound (ends_item p.token) depth (map token_of ps) in subst P (open-length xs p.at p.token) rest,
    )

-- sound tokens have no fault
pub sound-none : (ps : List Placed) (item : Bool) (xs : List ℕ) (end : ℕ) → Sound item (length xs) (map token_of ps) → faults_from item xs end ps ≡ []
sound-none [] item xs end s =
    rw s.0 (none xs s.1)
  where
    none : (xs : List ℕ) → length xs ≡ 0 → map (λ at. fault.Paren at) xs ≡ []
    none [] e = refl
    none (x ∷ xs) e = absurd (omega (arith, e))
sound-none (p ∷ ps) item xs end s =
    let P : ℕ → Type 0 = λ depth. Sound (ends_item p.token) depth (map token_of ps) in
    let rest = sound-none ps (ends_item p.token) (open_after xs p.at p.token) end (subst P (sym (open-length xs p.at p.token)) s.1) in
    (λ i. may-here item (length xs) p.at p.token s.0 i ++ rest i)

-- a first fault is there where any is
first-some : (fs : List ConstraintFault) (f : ConstraintFault) → first_of (Some f) fs ≡ None → ⊥
first-some [] f e = cc e
first-some (g ∷ fs) f e = first-some fs (earlier (Some f) g) e

-- where no fault is first, none is
first-none : (fs : List ConstraintFault) → first_of None fs ≡ None → fs ≡ []
first-none [] e = refl
first-none (f ∷ fs) e = absurd (first-some fs f e)

-- a text without a fault is sound, and a sound one has none
pub no-fault-sound : (text : List ℕ) → constraint_fault text ≡ None → Sound false 0 (signs_of text)
unfolding constraint_fault
no-fault-sound text e = none-sound (tokens text) false [] (length text) (first-none (faults text) e)

-- a sound text has no fault
pub sound-no-fault : (text : List ℕ) → Sound false 0 (signs_of text) → constraint_fault text ≡ None
unfolding constraint_fault
sound-no-fault text s = ap (first_of None) (sound-none (tokens text) false [] (length text) s)
