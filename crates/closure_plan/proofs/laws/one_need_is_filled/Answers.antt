use Rattle.closure_plan.proofs.FillLemmas.{give_fills, pin_fills}
use Rattle.closure_plan.proofs.laws.one_need_is_filled.Goals as goal

pub returns : goal.returns
returns g c = record {
  pin = λ slot holder old is i open_yet. pin_fills g.P.PinHolder.contents g.H.LeafHolder.contents slot holder old is i open_yet;
  give = give_fills g.P.PinHolder.contents g.H.LeafHolder.contents;
}
