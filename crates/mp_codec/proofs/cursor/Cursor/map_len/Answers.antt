use Rattle.std.proofs.Common.{sym, ap, ◌∙◌}
use Rattle.mp_codec.specs.Maps.{map_head_from}
use Rattle.mp_codec.proofs.ReaderLemmas.{map_found}
use Rattle.mp_codec.proofs.SpanLemmas.{head_in}
use Rattle.mp_codec.proofs.cursor.Cursor.map_len.Goals as goal

pub returns-clause-found : goal.returns-clause-found
returns-clause-found c = map_found c.args.self.now c.map_len_ahead.new.cursor c.in_ok-pairs.pairs (ap map_head_from (sym c.copy-ahead.ensures.same) ∙ c.in_ok-pairs.ensures)

pub returns-clause-within : goal.returns-clause-within
returns-clause-within c = λ bytes i. head_in bytes _ c.args.self.now c.map_len_ahead.new.cursor i (map_found c.args.self.now c.map_len_ahead.new.cursor c.in_ok-pairs.pairs (ap map_head_from (sym c.copy-ahead.ensures.same) ∙ c.in_ok-pairs.ensures))
