-- When an answer is honest, and a failure fair.
use Rattle.std.specs.Prelude.{◌≡◌, ℕ, true, slice_get, Some}
use Rattle.link_io.specs.Conn.{LinkFacts}
use Rattle.link_io.specs.Origin.{Origin}
use Rattle.fetch_flight.specs.Verdict.{comes_from}
use Rattle.fetch_flight.specs.declared.verdicts.Verdict.{Verdict}
use Rattle.closure_request.specs.Request.{Asking}
use Rattle.closure_plan.specs.declared.need.Need.{Need}
use Rattle.closure_plan.specs.Answered.{Answered}
use Rattle.closure_plan.specs.Closure.{closure}
use Rattle.closure_plan.specs.Plan.{IsReached, Known, its_done, its_leaves, its_pins}
use Rattle.query_needs.specs.Holders.{index_in, leaf_in}
use Rattle.query_needs.specs.Known.{IsKnown}
use Rattle.query_needs.specs.Takes.{IsNeeded, IsOwnWreck}
use Rattle.query_needs.specs.Targets.{target_of}

-- an answer is honest for a request: each slot's index and each shard that is needed is what its bytes spell, and the rows
-- are the closure over them
pub record Honest {L : Type 0} (facts : L → LinkFacts) (r : Asking) (a : Answered (Verdict L) (Verdict L)) : Type 0 where
  pub request : a.known.request ≡ r
  pub reached : IsReached index_in leaf_in a.known
  pub known : IsKnown facts a.known
  pub whole : its_done index_in leaf_in a.known ≡ true
  pub rows : a.rows ≡ closure a.known.request (its_pins index_in leaf_in a.known) (its_leaves index_in leaf_in a.known)

-- a failure is fair for a request: what was given until then is as in an honest answer, and the wreck was fetched as a need
-- of it, from the need's own target
pub record Fair {L : Type 0} (facts : L → LinkFacts) (r : Asking) (part : Known (Verdict L) (Verdict L)) (m : Need) (v : Verdict L) : Type 0 where
  pub request : part.request ≡ r
  pub reached : IsReached index_in leaf_in part
  pub known : IsKnown facts part
  pub needed : IsNeeded part m
  pub wreck : IsOwnWreck facts (target_of part m) v

-- the connections of the indexes are from an origin; a shard keeps no connection
abbrev pub AreFrom : {L : Type 0} → (L → Origin → Type 0) → Origin → Known (Verdict L) (Verdict L) → Type 0
AreFrom from origin k = (s : ℕ) (v : Verdict _) → slice_get k.pins s ≡ Some (Some v) → comes_from from v origin
