use Rattle.std.proofs.Common.{suc, length, sym, ap, arith}
use Rattle.match_spec.specs.Bracket.{entries}
use Rattle.match_spec.specs.Seen.{passage_in}
use Rattle.match_spec.specs.Reading.{with_entries}
use Rattle.match_spec.proofs.bracket.read_entries.Goals as goal

pub parts-init : goal.parts-init
parts-init c =
    (suc (length c.args.inside.text.now), omega arith, ap (with_entries (entries (passage_in c.args.inside))) (sym c.new-parts.ensures))
