use Rattle.std.proofs.Common.{sym, refl}
use Rattle.std.specs.Prelude.{Ok, Err}
use Rattle.mp_codec.proofs.CursorLemmas.{skip_found, skip_only, skip_fault, skip_broken}
use Rattle.mp_codec.proofs.SpanLemmas.{lies_in}
use Rattle.mp_codec.proofs.cursor.Cursor.skip.Goals as goal

pub returns-in-Ok-clause-found : goal.returns-in-Ok-clause-found
returns-in-Ok-clause-found c = skip_found c.args.self.now c.in-Ok.behind (Ok tt) (sym c.in-Ok.ensures)

pub returns-in-Ok-clause-only : goal.returns-in-Ok-clause-only
returns-in-Ok-clause-only c = skip_only c.args.self.now c.in-Ok.behind (Ok tt) (sym c.in-Ok.ensures)

pub returns-in-Ok-clause-broken : goal.returns-in-Ok-clause-broken
returns-in-Ok-clause-broken c = skip_broken c.args.self.now c.in-Ok.behind (Ok tt) (sym c.in-Ok.ensures)

pub returns-in-Err-clause-only : goal.returns-in-Err-clause-only
returns-in-Err-clause-only c = skip_only c.args.self.now c.args.self.now (Err c.in-Err.fault) (sym c.in-Err.ensures, refl)

pub returns-in-Err-clause-fault : goal.returns-in-Err-clause-fault
returns-in-Err-clause-fault c = skip_fault c.args.self.now c.args.self.now (Err c.in-Err.fault) (sym c.in-Err.ensures, refl)

pub returns-in-Err-clause-broken : goal.returns-in-Err-clause-broken
returns-in-Err-clause-broken c = skip_broken c.args.self.now c.args.self.now (Err c.in-Err.fault) (sym c.in-Err.ensures, refl)

pub returns-in-Ok-clause-within : goal.returns-in-Ok-clause-within
returns-in-Ok-clause-within c = λ bytes i. let v = skip_found c.args.self.now c.in-Ok.behind (Ok tt) (sym c.in-Ok.ensures) in lies_in bytes v.0 c.args.self.now c.in-Ok.behind i v.1
