-- What was appended for a line.
use Rattle.std.specs.Prelude.{◌≡◌, ℕ, Bool, List, ◌++◌, Some, Ok}
use Rattle.channel_store.specs.Store.{Files}
use Rattle.closure_request.specs.declared.refusal.RequestRefusal.{RequestRefusal}
use Rattle.answer_text.specs.Answers.{refused_line}
use Rattle.store_closure.specs.Asked.{Asked}
use Rattle.store_closure.specs.Lines.{LineEnd, numbers_of}

-- the text with which a line ends was appended
pub record PutsLine (told : Files) (a : Asked) (number : ℕ) (line old new : List ℕ) (refused : Bool) : Type 0 where
  pub text : List ℕ
  pub ends : LineEnd told a number line (Ok (text, refused))
  pub put : new ≡ old ++ text

-- the line of a refusal was appended
pub record PutsRefusal (number : ℕ) (e : RequestRefusal) (old new : List ℕ) : Type 0 where
  pub spec : ℕ
  pub fault : ℕ
  pub numbers : numbers_of e ≡ Some (spec, fault)
  pub put : new ≡ old ++ refused_line number spec fault
