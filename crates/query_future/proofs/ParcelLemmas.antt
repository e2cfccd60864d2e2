-- One step on a parcel in hand.
use Rattle.std.specs.Prelude.{◌≡◌, ◌⊎◌, ℕ, Some, refl}
use Rattle.std.proofs.Common.{sym, ◌∙◌, ap, inl, inr}
use Rattle.gateway_words.specs.Causes.{Rose}
use Rattle.link_io.specs.Conn.{LinkFacts}
use Rattle.link_io.specs.Origin.{Origin}
use Rattle.link_io.specs.Parcel.{Packed}
use Rattle.link_io.specs.declared.target.Target.{Target}
use Rattle.fetch_flight.specs.Advance.{Advances}
use Rattle.fetch_flight.specs.declared.flying.Progress.{Progress}
use Rattle.fetch_flight.specs.declared.flying.Progress.TheVariants as progress
use Rattle.query_future.specs.declared.parts.Did.{Did}
use Rattle.query_future.specs.declared.parts.Hand.{Hand}
use Rattle.query_future.specs.declared.parts.Hand.TheVariants as hand
use Rattle.query_future.specs.Sections.{Judging}
use Rattle.query_future.specs.Steps.{Steps}

module _ {L : Type 0} (facts : L → LinkFacts) where
  -- a call leaves the number of the connection as it was
  pub same_number : (p r : Packed L) (answer : Progress) → Advances facts p r answer → (facts r.link).number ≡ (facts p.link).number
  same_number p r (progress.Took n) a = elim a.1 [ inl x ↦ x.same.number | inr y ↦ y.stepped.same.number ]
  same_number p r progress.NotYet a = elim a.1 [ inl x ↦ x.same.number | inr y ↦ y.stepped.same.number ]
  same_number p r progress.Ready a = elim a.1 [ inl x ↦ x.stepped.same.number | inr y ↦ y.1.stepped.same.number ]
  same_number p r progress.Failed a = elim a [ inl x ↦ x.same.number | inr y ↦ y.stepped.same.number ]
  same_number p r progress.Memory a = ap (λ (z : Packed L). (facts z.link).number) a

  -- a call that waits is counted
  pub waited_rose : (p r : Packed L) → Advances facts p r progress.NotYet → Rose (facts p.link).waits (facts r.link).waits
  waited_rose p r a = elim a.1 [ inl x ↦ x.sends.1 | inr y ↦ y.stepped.steps.1 ]

  -- what a parcel came to is what it came to before the call too
  pub steps_judged : (from : L → Origin → Type 0) (p r : Packed L) (h : Hand L) (d : Did) → r.target ≡ p.target → (facts r.link).number ≡ (facts p.link).number → ((o : Origin) → from p.link o → from r.link o) → Judging facts from r h d → Steps facts from p h d
  steps_judged from p r hand.Empty d t n f j = absurd j
  steps_judged from p r (hand.Fresh q) d t n f j = absurd j
  steps_judged from p r (hand.Stepped q) d t n f j = absurd j
  steps_judged from p r (hand.Judged v u) d t n f j = (
    j.0,
    j.1,
    record {
      key = j.2.key ∙ ap (λ (z : Target). z.key) t;
      number = λ e. j.2.number e ∙ ap Some n;
      from = λ o g. j.2.from o (f o g);
    },
  )
  steps_judged from p r hand.Refused d t n f j = j
