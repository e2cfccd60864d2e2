use Rattle.std.proofs.Common.{◌≡◌, take}
use Rattle.gateway_tool.specs.Texts.{show_text}
use Rattle.gateway_tool.proofs.texts.show_text.Given as goal

abbrev pub invariant-loop-i : goal.invariant-loop-i
invariant-loop-i l = l.out.items ≡ show_text l.spec (take l.i l.shard.rows)
