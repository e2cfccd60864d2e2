-- What a value for a need comes to.
use Rattle.std.specs.Prelude.{◌≡◌, ◌≢◌, ◌⊎◌, ℕ, slice_get, Bool, true, false, Option, Some, None}
use Rattle.link_io.specs.Conn.{LinkFacts}
use Rattle.link_io.specs.declared.target.Target.{Target}
use Rattle.fetch_flight.specs.Made.{Wrecked}
use Rattle.fetch_flight.specs.Pin.{IsWreckOver}
use Rattle.fetch_flight.specs.Verdict.{size_of}
use Rattle.fetch_flight.specs.declared.verdicts.Verdict.{Verdict}
use Rattle.fetch_flight.specs.declared.verdicts.Verdict.TheVariants.{Wreck}
use Rattle.closure_plan.specs.declared.need.Need.{Need}
use Rattle.closure_plan.specs.Filling.{Fills, IsNeedOf}
use Rattle.closure_plan.specs.Plan.{Known, Planned, has_given, has_need, without}
use Rattle.query_needs.specs.declared.taking.Taken.{Taken}
use Rattle.query_needs.specs.declared.taking.Taken.TheVariants as taken
use Rattle.query_needs.specs.Holders.{index_in, leaf_in}
use Rattle.query_needs.specs.Known.{IsKnown}
use Rattle.query_needs.specs.Targets.{target_of}

-- a need of a query's plan
abbrev pub IsNeeded : {L : Type 0} → Known (Verdict L) (Verdict L) → Need → Type 0
IsNeeded k m = IsNeedOf index_in leaf_in k m

-- whether a need of it is given
abbrev pub is_filled : {L : Type 0} → Known (Verdict L) (Verdict L) → Need → Bool
is_filled k m = has_given index_in leaf_in k m

-- the value is in the plan, under its need, which is marked no more
pub record IsGiven {L : Type 0} (facts : L → LinkFacts) (m : Need) (v : Verdict L) (old new : Planned (Verdict L) (Verdict L)) : Type 0 where
  pub sized : size_of v ≢ None
  pub fills : Fills index_in leaf_in m old.known new.known
  pub targets : (x : Need) → IsNeeded old.known x → target_of new.known x ≡ target_of old.known x
  pub pins : (s : ℕ) (w : Verdict L) → slice_get new.known.pins s ≡ Some (Some w) → (w ≡ v) ⊎ (slice_get old.known.pins s ≡ Some (Some w))
  pub known : IsKnown facts new.known
  pub marked : new.marked ≡ without m old.marked

-- the value is a wreck that was fetched from another target than this
pub record IsForeign {L : Type 0} (t : Target) (v : Verdict L) : Type 0 where
  pub wreck : Wrecked L
  pub is : v ≡ Wreck wreck
  pub other : wreck.parcel.target ≢ t

-- the value is a wreck that was fetched from this target
pub record IsOwnWreck {L : Type 0} (facts : L → LinkFacts) (t : Target) (v : Verdict L) : Type 0 where
  pub wreck : Wrecked L
  pub is : v ≡ Wreck wreck
  pub target : wreck.parcel.target ≡ t
  pub known : IsWreckOver facts wreck

-- what a value for a need comes to: the plan has it; or it is a wreck of another target, and the need is marked no more, so
-- that it is asked for again; or it is a wreck of the need's own target, and the query failed
abbrev pub Takes : {L : Type 0} → (L → LinkFacts) → Need → Verdict L → Planned (Verdict L) (Verdict L) → Taken L → Type 0
Takes facts m v old (taken.Given new) = IsGiven facts m v old new
Takes facts m v old (taken.Again new) = IsForeign (target_of old.known m) v × (new ≡ record old { marked = without m old.marked })
Takes facts m v old (taken.Failed part wreck) = IsOwnWreck facts (target_of old.known m) v × (part ≡ old.known) × (wreck.value ≡ v)
Takes facts m v old taken.Memory = Unit {0}

-- ---- steps of it, which no public clause cites

-- whether a value is a wreck of a target, or none
abbrev pub Owns : {L : Type 0} → (L → LinkFacts) → Verdict L → Target → Option Bool → Type 0
Owns facts v t None = size_of v ≢ None
Owns facts v t (Some true) = IsOwnWreck facts t v
Owns facts v t (Some false) = IsForeign t v

-- the need is marked no more
abbrev pub IsUnmarked : {L : Type 0} → Need → Planned (Verdict L) (Verdict L) → Taken L → Type 0
IsUnmarked m old (taken.Given new) = ⊥
IsUnmarked m old (taken.Again new) = new ≡ record old { marked = without m old.marked }
IsUnmarked m old (taken.Failed part wreck) = ⊥
IsUnmarked m old taken.Memory = ⊥

-- the value is in the plan, or memory ran out
abbrev pub IsGivenOr : {L : Type 0} → (L → LinkFacts) → Need → Verdict L → Planned (Verdict L) (Verdict L) → Taken L → Type 0
IsGivenOr facts m v old (taken.Given new) = IsGiven facts m v old new
IsGivenOr facts m v old (taken.Again new) = ⊥
IsGivenOr facts m v old (taken.Failed part wreck) = ⊥
IsGivenOr facts m v old taken.Memory = Unit {0}
