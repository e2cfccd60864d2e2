-- What a place with a fault leads to.
use Rattle.std.proofs.Common.{◌≡◌, ℕ, List, Option, Some, None, IfSome, ap, sym, ◌∙◌, subst, rules}
use Rattle.channel_store.specs.Store.{Files}
use Rattle.shard_file.specs.Rows.{Row}
use Rattle.channel_indexer.specs.declared.fault.IndexFault.{IndexFault}
use Rattle.channel_indexer.specs.Store.{stored_fault}
use Rattle.channel_indexer.specs.Groups.{Group}
use Rattle.channel_indexer.specs.Indexing.{IsIndexable, PlaceFault}
use Rattle.gateway_tool.specs.declared.note.Note.TheVariants as note
use Rattle.gateway_tool.specs.Status.{status_bad_file}
use Rattle.gateway_tool.specs.Index.{PlaceLeadsTo}

-- a fault of the place that is answered is the one that stands there
pub bad-leads : (old : Option Files) (place : List ℕ) (e : IndexFault) → stored_fault e ≡ Some e
    → IfSome old (λ told. (f : IndexFault) → PlaceFault place told f → IfSome (stored_fault e) (λ g. g ≡ f))
    → IfSome old (λ told. (stood : List Row) (groups : List Group) → IsIndexable place told stood groups → stored_fault e ≡ None)
    → IfSome old (λ told. PlaceLeadsTo place told status_bad_file (note.Indexing e))
bad-leads None place e stored broken only = tt
bad-leads (Some told) place e stored broken only = record {
  indexable = λ stood groups can. absurd (let wrong : ◌≡◌ {A = Option IndexFault} (Some e) None = sym stored ∙ only stood groups can in cc);
  faulty = λ f stands. search rules;
  says = λ f stands is. ap note.Indexing (subst (λ (o : Option IndexFault). IfSome o (λ g. g ≡ f)) stored (broken f stands));
}
