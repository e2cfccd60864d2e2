use Rattle.std.proofs.Common.{rules, false, length, sym, ap, arith}
use Rattle.conda_version.specs.Allowing.{groups_after, signs_of}
use Rattle.conda_version.specs.Meaning.{seen}
use Rattle.conda_version.proofs.SoundLemmas.{no-fault-sound}
use Rattle.conda_version.proofs.constraint.allows_read.Goals as goal

pub tokens-init : goal.tokens-init
tokens-init c = record {
  same = ap (λ ls. groups_after (seen c.args.version) ls (signs_of c.args.text.now)) (sym c.new-levels.ensures);
  sound = (false, 0, ap length c.new-levels.ensures, no-fault-sound c.args.text.now c.requires);
  place = omega arith;
  fits = search rules;
}
