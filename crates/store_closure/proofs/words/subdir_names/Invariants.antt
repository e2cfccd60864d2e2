use Rattle.std.proofs.Common.{◌≡◌}
use Rattle.channel_store.specs.Names.{is_subdir_name}
use Rattle.store_closure.specs.Options.{names_in, with_names}
use Rattle.store_closure.specs.Pieces.{pieces_left, size_left}
use Rattle.store_closure.proofs.words.subdir_names.Given as goal

abbrev pub invariant-pieces : goal.invariant-pieces
invariant-pieces l = with_names is_subdir_name l.names.items (pieces_left l.left) ≡ names_in is_subdir_name l.text

abbrev pub decreases-pieces : goal.decreases-pieces
decreases-pieces l = size_left l.left
