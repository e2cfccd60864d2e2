use Rattle.std.proofs.Common.{◌≡◌, ◌++◌, ℕ, ◌<◌, List, take, slice_index_or}
use Rattle.std.specs.List.{flat_map}
use Rattle.mp_codec.specs.Writing.{str_bytes}
use Rattle.conda_record.specs.Writing.{AreText}
use Rattle.conda_record.proofs.writing.put_elements.Given as goal

abbrev pub invariant-loop-text : goal.invariant-loop-text
invariant-loop-text l = record {
  written : l.out.items ≡ l.initial.out.items ++ flat_map str_bytes (take l.text-index l.texts);
  texts : (k : ℕ) (d : List ℕ) → k < l.text-index → AreText (slice_index_or l.texts k d);
}
