use Rattle.std.proofs.Common.{◌≡◌, subst, true}
use Rattle.std.specs.Prelude.{OnOk, is_some}
use Rattle.std.specs.List.{AllByRecursion}
use Rattle.closure_plan.specs.Given.{LeafRows, wanted}
use Rattle.closure_plan.specs.Rows.{Adds, leaf_or_none}
use Rattle.closure_plan.specs.Plan.{Planned, its_pins, its_leaves, name_at}
use Rattle.closure_plan.proofs.RowLemmas.{given_by}
use Rattle.closure_plan.proofs.KeepLemmas.{leaves_wanted}
use Rattle.closure_plan.proofs.plan.Plan.rows_of.Goals as goal

pub returns-in-Some : goal.returns-in-Some
returns-in-Some g c =
    let now = c.args.self.now in
    let r = now.known.request in
    let pins = its_pins g.P.PinHolder.contents g.H.LeafHolder.contents now.known in
    let leaves = its_leaves g.P.PinHolder.contents g.H.LeafHolder.contents now.known in
    let l = leaf_or_none leaves c.in-Some.leaf in
    let all : AllByRecursion (λ (l : LeafRows). is_some (wanted r pins l.slot l.name) ≡ true) leaves
    = subst (λ (s : Planned _ _). AllByRecursion (λ (l : LeafRows). is_some (wanted s.known.request (its_pins g.P.PinHolder.contents g.H.LeafHolder.contents s.known) l.slot l.name) ≡ true) (its_leaves g.P.PinHolder.contents g.H.LeafHolder.contents s.known)) c.self.view_is (leaves_wanted g.P.PinHolder.contents g.H.LeafHolder.contents _ _ _ c.self.invariant.0) in
    let is = given_by r pins leaves c.args.slot (name_at now.known.names c.args.n) l all c.in-Some.ensures.found in
    subst (λ rows. OnOk c.rows_of_leaf.result (Adds r leaves c.args.rows.now.items c.rows_of_leaf.new.rows.items rows)) is c.rows_of_leaf.ensures
