use Rattle.std.proofs.Common.{◌≡◌, ◌++◌, take}
use Rattle.std.specs.List.{flat_map}
use Rattle.conda_record.specs.View.{seen}
use Rattle.gateway_tool.specs.Texts.{depend_line}
use Rattle.gateway_tool.proofs.texts.put_row.Given as goal

abbrev pub invariant-loop-i : goal.invariant-loop-i
invariant-loop-i l = l.out.items ≡ l.initial.out.items ++ flat_map depend_line (take l.i (seen l.row.view).depends)
