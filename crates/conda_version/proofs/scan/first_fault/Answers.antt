use Rattle.std.proofs.Common.{rules, arith}
use Rattle.conda_version.proofs.ScanLemmas.{scan-whole}
use Rattle.conda_version.proofs.scan.first_fault.Goals as goal

pub tokens-init : goal.tokens-init
tokens-init c = record {
  same = scan-whole c.args.text.now;
  place = omega arith;
  depth = omega arith;
  fits = search rules;
}
