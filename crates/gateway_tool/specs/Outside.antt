-- What is outside of a call of a command.
use Rattle.std.specs.Prelude.{ℕ, List, Option}
use Rattle.channel_store.specs.Store.{Files}

-- what is outside of a call: what its source has left, what its sink took and what its store has, each where it
-- is told, and how often each has failed
pub record Outside : Type 0 where
  pub left : Option (List ℕ)
  pub written : Option (List ℕ)
  pub files : Option Files
  pub read_faults : ℕ
  pub write_faults : ℕ
  pub store_faults : ℕ

-- what is outside, by these six
abbrev pub outside : Option (List ℕ) → Option (List ℕ) → Option Files → ℕ → ℕ → ℕ → Outside
outside left written files read_faults write_faults store_faults = record {
  left = left;
  written = written;
  files = files;
  read_faults = read_faults;
  write_faults = write_faults;
  store_faults = store_faults;
}
