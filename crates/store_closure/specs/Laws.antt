-- Laws of how lines end.
use Rattle.std.specs.Prelude.{◌≡◌, ℕ, List}
use Rattle.channel_store.specs.Store.{Files}
use Rattle.store_closure.specs.Asked.{Asked}
use Rattle.store_closure.specs.Lines.{End, LinesEnd}

-- lines have one end at most
abbrev pub LinesHaveOneEnd : Type 0
LinesHaveOneEnd = (told : Files) (a : Asked) (number : ℕ) (lines : List (List ℕ)) (end other : End)
    → LinesEnd told a number lines end → LinesEnd told a number lines other → end ≡ other
