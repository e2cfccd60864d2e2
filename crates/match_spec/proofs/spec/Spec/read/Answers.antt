use Rattle.std.proofs.Common.{rules, ◌≡◌}
use Rattle.std.specs.Prelude.{Ok}
use Rattle.match_spec.specs.Parts.{Meaning}
use Rattle.match_spec.specs.Reading.{Read, spec_of}
use Rattle.match_spec.proofs.LegalLemmas.{spec-legal}
use Rattle.match_spec.proofs.spec.Spec.read.Goals as goal

pub invariant_of-result : goal.invariant_of-result
invariant_of-result c =
    let m : Meaning = record { name = c.in_ok-name.name; parts = c.in_ok-name.parts } in
    let e : ◌≡◌ {A = Read Meaning} (spec_of c.args.text.now) (Ok m) = search rules in
    spec-legal c.args.text.now m e
