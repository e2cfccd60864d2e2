-- The groups that are open, in an array.
use Rattle.std.proofs.Common.{◌≡◌, ◌≢◌, ◌+◌, ◌<◌, ◌≤◌, ℕ, zero, suc, List, ◌∷◌, length, get_or, set, get_or-set_other, get_or-set_same, refl, arith}
use Rattle.conda_version.specs.Levels.{group_in, no_level, stack}
use Rattle.conda_version.specs.declared.level.Level.{Level}

-- a group further up changes none below
stack-below : (outer : List Level) (d i : ℕ) (l : Level) → d ≤ i → stack (set outer i l) d ≡ stack outer d
stack-below outer zero i l h = refl
stack-below outer (suc d) i l h =
    let ne : d ≢ i = omega arith in
    let first : get_or (set outer i l) d no_level ≡ get_or outer d no_level = rw get_or-set_other refl in
    (λ j. group_in (first j) ∷ stack-below outer d i l (omega arith) j)

-- a group that is put on top
pub stack-push : (outer : List Level) (d : ℕ) (l : Level) → d < length outer → stack (set outer d l) (d + 1) ≡ group_in l ∷ stack outer d
stack-push outer d l h =
    let e : d + 1 ≡ suc d = omega arith in
    let first : get_or (set outer d l) d no_level ≡ l = rw get_or-set_same refl in
    rw e (λ j. group_in (first j) ∷ stack-below outer d d l (omega arith) j)
