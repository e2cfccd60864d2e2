-- What contracts see of a run that stopped, and of a plan that is under way.
use Rattle.std.specs.Prelude.{◌≡◌, Option, Some, None, [], Ok, IfSome}
use Rattle.channel_store.specs.Store.{Files}
use Rattle.shard_file.specs.Rows as shards
use Rattle.shard_index.specs.Index as indexes
use Rattle.closure_request.specs.Request.{Asking}
use Rattle.closure_plan.specs.Plan.{Known, Planned, pins_of, leaves_of}
use Rattle.store_closure.specs.declared.holders.OwnPin.{OwnPin}
use Rattle.store_closure.specs.declared.holders.OwnLeaf.{OwnLeaf}
use Rattle.store_closure.specs.declared.stop.BadFile.{BadFile}
use Rattle.store_closure.specs.declared.stop.Stop.{Stop}
use Rattle.store_closure.specs.declared.stop.Stop.TheVariants as stop
use Rattle.store_closure.specs.Runs.{Taken, ComesTo}

-- the bad file at which a run stopped; it is none where the store failed or memory ran out
abbrev pub bad_of : Stop → Option BadFile
bad_of (stop.Bad bad) = Some bad
bad_of stop.Failed = None
bad_of stop.Memory = None

-- what a holder of an index holds
abbrev pub its_index : OwnPin → indexes.Contents
its_index p = p.0

-- what a holder of a shard holds
abbrev pub its_shard : OwnLeaf → shards.Contents
its_shard l = l.0

-- what was taken in, of what a plan knows
abbrev pub taken : Known OwnPin OwnLeaf → Taken
taken k = record { pins = pins_of its_index k.pins; leaves = leaves_of its_shard k.leaves }

-- a plan of a request is under way: nothing is marked, and a run over the files comes to what it took in
pub record IsUnderWay (files : Option Files) (r : Asking) (p : Planned OwnPin OwnLeaf) : Type 0 where
  pub request : p.known.request ≡ r
  pub unmarked : p.marked ≡ []
  pub run : IfSome files (λ told. ComesTo told r (Ok (taken p.known)))
