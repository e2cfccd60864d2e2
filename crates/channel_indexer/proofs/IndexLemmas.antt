-- What a get of the input finds.
use Rattle.std.proofs.Common.{◌≡◌, ℕ, ◌<◌, Bool, true, false, cond, List, length, Option, Some, None, IfSome, nat_lt, ◌≤◌, [], ◌∷◌, ◌++◌, take, subst, refl, sym, ap, ◌∙◌}
use Rattle.std.proofs.lemmas.Bool.{ltb-true}
use Rattle.std.specs.FinMap.{get}
use Rattle.channel_store.specs.Store.{Files, absent, whole, long, found_in, found_within}
use Rattle.shard_file.specs.Rows.{Row}
use Rattle.channel_indexer.specs.declared.fault.IndexFault.{IndexFault}
use Rattle.channel_indexer.specs.declared.fault.IndexFault.TheVariants as fault
use Rattle.channel_indexer.specs.declared.fault.Large.TheVariants as large
use Rattle.channel_indexer.specs.declared.plan.Plan.{Plan}
use Rattle.channel_indexer.specs.declared.shards.Prepared.{Prepared}
use Rattle.channel_indexer.specs.Input.{fault_of}
use Rattle.channel_indexer.specs.Groups.{Group}
use Rattle.channel_indexer.specs.Puts.{with_puts, StopsWithin}
use Rattle.channel_indexer.specs.Prepared.{ArePrepared, AreTooLong, puts_of}
use Rattle.channel_indexer.specs.Store.{stored_fault}
use Rattle.channel_indexer.proofs.InputLemmas.{from-no-store}
use Rattle.channel_store.specs.Names.{input_name}
use Rattle.channel_indexer.specs.Shards.{index_puts}
use Rattle.channel_indexer.specs.Indexing.{PlaceFault, no_file, too_long, of_bytes, BytesFault, says, makes, SaysGroups, IsPlanOf, IsIndexable, StopsAt, within, most_input}

none-is : (limit : ℕ) (there : Option (List ℕ)) → absent ≡ found_within limit there → there ≡ None
none-is limit None e = refl
none-is limit (Some bytes) e = go (nat_lt limit (length bytes)) e
  where
    go : (b : Bool) → absent ≡ cond b long (whole bytes) → Some bytes ≡ None
    go true e = absurd (cc)
    go false e = absurd (cc)

-- no file was found at the input's name
pub absent-is : (old : Option Files) (place name : List ℕ) (limit : ℕ) → name ≡ input_name place
    → IfSome old (λ told. absent ≡ found_in told name limit) → IfSome old (λ told. PlaceFault place told fault.NoFile)
absent-is None place name limit is found = tt
absent-is (Some told) place name limit is found = no_file (ap (get told) (sym is) ∙ none-is limit (get told name) found)

long-at : (limit : ℕ) (there : Option (List ℕ)) → long ≡ found_within limit there → (bytes : List ℕ) × ((there ≡ Some bytes) × (limit < length bytes))
long-at limit None e = absurd (cc)
long-at limit (Some bytes) e = (bytes, (refl, go (nat_lt limit (length bytes)) refl e))
  where
    go : (b : Bool) → nat_lt limit (length bytes) ≡ b → long ≡ cond b long (whole bytes) → limit < length bytes
    go true is e = ltb-true limit (length bytes) is
    go false is e = absurd (cc)

-- a file that is too long was found there
pub long-is : (old : Option Files) (place name : List ℕ) → name ≡ input_name place
    → IfSome old (λ told. long ≡ found_in told name most_input) → IfSome old (λ told. PlaceFault place told (fault.TooLong large.Input))
long-is None place name is found = tt
long-is (Some told) place name is found =
    let at = long-at most_input (get told name) found in
    too_long at.0 (ap (get told) (sym is) ∙ at.1.0) at.1.1

-- ---- the plan

-- no bytes have a fault of the store
no-store : (place bytes : List ℕ) → BytesFault place bytes fault.StoreFault → ⊥
no-store place bytes (says e) = from-no-store bytes e
no-store place bytes (makes stood groups groups_said unfit) = unfit

-- an answer of the plan is no fault of the store
pub plan-no-store : (place bytes : List ℕ) (e : IndexFault) → IfSome (fault_of e) (BytesFault place bytes) → e ≡ fault.StoreFault → ⊥
plan-no-store place bytes e fails is = no-store place bytes (subst (λ (e : IndexFault). IfSome (fault_of e) (BytesFault place bytes)) is fails)

-- what can't be prepared can't be indexed
pub plan-fails : (place bytes : List ℕ) (stood : List Row) (groups : List Group) → SaysGroups bytes stood groups
    → (e : IndexFault) → IfSome (fault_of e) (AreTooLong place groups) → IfSome (fault_of e) (BytesFault place bytes)
plan-fails place bytes stood groups said e fails = go (fault_of e) fails
  where
    go : (o : Option IndexFault) → IfSome o (AreTooLong place groups) → IfSome o (BytesFault place bytes)
    go None h = tt
    go (Some f) h = makes stood groups said h

-- the input that stands at a place, where the files are told
abbrev pub StandsAt : List ℕ → List ℕ → Option Files → Type 0
StandsAt place bytes old = IfSome old (λ told. (get told (input_name place) ≡ Some bytes) × (length bytes ≤ most_input))

-- a fault of the bytes is one of the place
pub place-fails : (old : Option Files) (place bytes : List ℕ) (e : IndexFault) → StandsAt place bytes old
    → IfSome (fault_of e) (BytesFault place bytes) → IfSome (stored_fault e) (λ f. IfSome old (λ told. PlaceFault place told f))
place-fails None place bytes e stands fails = nothing (stored_fault e)
  where
    nothing : (o : Option IndexFault) → IfSome o (λ f. Unit {0})
    nothing None = tt
    nothing (Some f) = tt
place-fails (Some told) place bytes fault.NoFile stands fails = of_bytes bytes stands.0 stands.1 fails
place-fails (Some told) place bytes fault.Json stands fails = of_bytes bytes stands.0 stands.1 fails
place-fails (Some told) place bytes (fault.Fields file) stands fails = of_bytes bytes stands.0 stands.1 fails
place-fails (Some told) place bytes fault.StoreFault stands fails = tt
place-fails (Some told) place bytes (fault.TooLong what) stands fails = of_bytes bytes stands.0 stands.1 fails
place-fails (Some told) place bytes fault.Memory stands fails = tt

-- what was prepared are the puts of the groups
prepared-puts : (place : List ℕ) (groups : List Group) (prepared : Prepared) → ArePrepared place groups prepared → puts_of prepared ≡ index_puts place groups
prepared-puts place groups prepared are = λ i. are.shards i ++ are.index i ∷ []

-- a place whose file has a plan can be indexed
pub plan-indexable : (told : Files) (place bytes : List ℕ) (made : Plan) → get told (input_name place) ≡ Some bytes → length bytes ≤ most_input
    → (plan : IsPlanOf place bytes made) → IsIndexable place told plan.stood plan.groups
plan-indexable told place bytes made stands short plan = record {
  bytes = bytes;
  stands = stands;
  short = short;
  says = plan.says;
  fit = plan.plan.prepared.fit;
  index_fit = plan.plan.prepared.index_fit;
  readings = plan.plan.prepared.readings;
}

-- a stop within the puts
pub place-stops : (old middle new : Option Files) (place bytes : List ℕ) (made : Plan) → StandsAt place bytes old → IsPlanOf place bytes made
    → middle ≡ old → StopsWithin (puts_of made.prepared) middle new → IfSome old (λ told. StopsAt place told new)
place-stops None middle new place bytes made stands plan same stop = tt
place-stops (Some told) middle new place bytes made stands plan same stop =
    within plan.stood plan.groups (plan-indexable told place bytes made stands.0 stands.1 plan) (record {
      done = stop.done;
      files = stop.files ∙ (λ i. with_puts (take stop.done (prepared-puts place plan.groups made.prepared plan.plan.prepared i)) (same i));
    })
