use Rattle.std.proofs.Common.{ℕ, Option, length, sym, subst}
use Rattle.flight_rows.specs.Rows.{Comes}
use Rattle.flight_rows.proofs.table.Flights.land.Goals as goal

pub land_kept-requires-clause-comes : goal.land_kept-requires-clause-comes
land_kept-requires-clause-comes g c = λ lifetimes outlives t flies. subst (λ (z : Option ℕ). Comes g.V.Landed.key g.V.Landed.size g.V.Landed.number g.V.Landed.from (length c.args.self.now.start) c.args.self.now.origin c.args.f t z c.args.value.value) (sym c.in-Some.ensures) (c.requires.comes t flies)

pub land_wreck-requires-clause-comes : goal.land_wreck-requires-clause-comes
land_wreck-requires-clause-comes g c = λ lifetimes outlives t flies. subst (λ (z : Option ℕ). Comes g.V.Landed.key g.V.Landed.size g.V.Landed.number g.V.Landed.from (length c.args.self.now.start) c.args.self.now.origin c.args.f t z c.args.value.value) (sym c.in-None.ensures) (c.requires.comes t flies)
