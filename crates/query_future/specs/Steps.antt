-- What a section says of its work, and what one step on a parcel does.
use Rattle.std.specs.Prelude.{◌≡◌, ◌+◌, ◌≤◌, ◌==◌, ◌||◌, ℕ, Bool, true, false}
use Rattle.gateway_words.specs.Causes.{Rose}
use Rattle.link_io.specs.Conn.{LinkFacts}
use Rattle.link_io.specs.Origin.{Origin}
use Rattle.link_io.specs.Parcel.{Packed}
use Rattle.http_reply.specs.Going.{IsGoing}
use Rattle.fetch_flight.specs.Advance.{bytes_moved}
use Rattle.fetch_flight.specs.Verdict.{IsLandedFrom}
use Rattle.query_future.specs.declared.parts.Did.{Did}
use Rattle.query_future.specs.declared.parts.Did.TheVariants as did
use Rattle.query_future.specs.declared.parts.Hand.{Hand}
use Rattle.query_future.specs.declared.parts.Hand.TheVariants as hand
use Rattle.query_future.specs.declared.parts.Work.{Work}
use Rattle.query_future.specs.Dues.{place_of}
use Rattle.query_future.specs.Stands.{is_going}

-- whether the query ended or left
abbrev pub is_final : Did → Bool
is_final d = place_of d == 10 || place_of d == 9

-- a section that decides no ending says neither that the query ended nor that it left
abbrev pub SureFrom : {L : Type 0} → Work L → Work L → Did → Type 0
SureFrom was w d = is_going was ≡ true → is_final d ≡ false → is_going w ≡ true

-- what a call on a parcel that decided nothing did
abbrev pub Moves : {L : Type 0} → (L → LinkFacts) → Packed L → Packed L → Did → Type 0
Moves facts p r (did.Moved n) = (1 ≤ n) × (bytes_moved r ≡ bytes_moved p + n)
Moves facts p r did.Waited = Rose (facts p.link).waits (facts r.link).waits
Moves facts p r did.Ended = r ≡ p
Moves facts p r _ = ⊥

-- one call on a parcel: it is as before but for what moved, or it came to a verdict
abbrev pub Steps : {L : Type 0} → (L → LinkFacts) → (L → Origin → Type 0) → Packed L → Hand L → Did → Type 0
Steps facts from p hand.Empty d = ⊥
Steps facts from p (hand.Fresh r) d = ⊥
Steps facts from p (hand.Stepped r) d =
    IsGoing r × (r.target ≡ p.target) × ((facts r.link).number ≡ (facts p.link).number) × ((o : Origin) → from p.link o → from r.link o) × Moves facts p r d
Steps facts from p (hand.Judged v u) d = (d ≡ did.Judged) × (v.value ≡ u.value) × IsLandedFrom facts from p v.value
Steps facts from p hand.Refused d = d ≡ did.Judged

-- what a step did to what was in hand
abbrev pub StepDid : {L : Type 0} → (L → LinkFacts) → (L → Origin → Type 0) → Hand L → Hand L → Did → Type 0
StepDid facts from (hand.Fresh p) h d = Steps facts from p h d
StepDid facts from _ h d = Unit {0}
