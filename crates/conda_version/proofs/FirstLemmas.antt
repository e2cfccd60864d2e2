-- The fault that is answered stands in the text, and no other comes before it.
use Rattle.std.proofs.Common.{◌≡◌, ℕ, List, [], ◌∷◌, true, refl, sym, ◌∙◌, arith, inl, inr, subst}
use Rattle.std.specs.Prelude.{◌⊎◌, Some, None}
use Rattle.std.proofs.lemmas.Bool.{cases_Bool}
use Rattle.std.proofs.lemmas.Bool.Decides.{nat_tests}
use Rattle.gateway_words.specs.Places.{IsFirst}
use Rattle.conda_version.specs.Constraint.{NotBehind, StandsIn, comes_before, constraint_fault, earlier, faults, first_of}
use Rattle.conda_version.specs.declared.fault.ConstraintFault.{ConstraintFault}

-- a fault is not behind itself
itself : (f : ConstraintFault) → NotBehind f f
itself f = grind (arith, nat_tests)

-- not behind, from one to the next
through : (f g h : ConstraintFault) → NotBehind f g → NotBehind g h → NotBehind f h
through f g h a b = grind (arith, nat_tests)

-- what comes before another fault is not behind it
before-not-behind : (f g : ConstraintFault) → comes_before f g ≡ true → NotBehind f g
before-not-behind f g a = grind (arith, nat_tests)

-- the earlier of two is one of them, and behind neither
record IsEarlier (b g e : ConstraintFault) : Type 0 where
  pub one : (e ≡ b) ⊎ (e ≡ g)
  pub left : NotBehind e b
  pub right : NotBehind e g

-- the earlier of two is so
earlier-is : (b g : ConstraintFault) → IsEarlier b g (earlier (Some b) g)
earlier-is b g = elim (cases_Bool (comes_before g b)) [
  | inl before ↦ rw before (record { one = inr refl; left = before-not-behind g b before; right = itself g })
  | inr not' ↦ rw not' (record { one = inl refl; left = itself b; right = not' })
]

-- the first of some faults beside one that is known
record IsLeast (b : ConstraintFault) (fs : List ConstraintFault) (f : ConstraintFault) : Type 0 where
  pub stands : (f ≡ b) ⊎ StandsIn fs f
  pub known : NotBehind f b
  pub others : (g : ConstraintFault) → StandsIn fs g → NotBehind f g

-- the first of some faults beside one that is known is so
first-least : (fs : List ConstraintFault) (b f : ConstraintFault) → first_of (Some b) fs ≡ Some f → IsLeast b fs f
first-least [] b f e =
    let same : b ≡ f = cc e in
    record { stands = inl (sym same); known = (let P : ConstraintFault → Type 0 = λ x. NotBehind x b in subst P same (itself b)); others = λ g s. absurd s }
first-least (g ∷ fs) b f e =
    let step = earlier-is b g in
    let rest = first-least fs (earlier (Some b) g) f e in
    record {
      stands = elim rest.stands [
        | inl is ↦ elim step.one [ inl l ↦ inl (is ∙ l) | inr r ↦ inr (inl (is ∙ r)) ]
        | inr s ↦ inr (inr s)
      ];
      known = through f (earlier (Some b) g) b rest.known step.left;
      others = λ h s. elim s [
        | inl is ↦ (let P : ConstraintFault → Type 0 = NotBehind f in subst P (sym is) (through f (earlier (Some b) g) g rest.known step.right))
        | inr s ↦ rest.others h s
      ];
    }

-- the first of some faults comes before the others
first-is-first : (fs : List ConstraintFault) (f : ConstraintFault) → first_of None fs ≡ Some f → IsFirst NotBehind (StandsIn fs) f
first-is-first [] f e = cc e
first-is-first (b ∷ fs) f e =
    let least = first-least fs b f e in
    record {
      stands = least.stands;
      first = λ g s. elim s [
        | inl is ↦ (let P : ConstraintFault → Type 0 = NotBehind f in subst P (sym is) least.known)
        | inr s ↦ least.others g s
      ];
    }

-- the fault of a text is the first that stands in it
pub fault-is-first : (text : List ℕ) (f : ConstraintFault) → constraint_fault text ≡ Some f → IsFirst NotBehind (StandsIn (faults text)) f
unfolding constraint_fault
fault-is-first text f e = first-is-first (faults text) f e
