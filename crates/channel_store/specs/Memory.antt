-- A store in memory: what it holds, and which of its calls fail.
use Rattle.std.specs.Prelude.{refl, ℕ, ◌+◌, ◌-◌, ◌^◌, min, nat_le, ◌==◌, ◌||◌, Bool, false, cond, List, ◌++◌, map, Option, Some, None}
use Rattle.std.specs.List.{list_any}
use Rattle.std.specs.declared.alloc.Global.{Global}
use Rattle.std.specs.declared.vec.Vec.{Vec}
use Rattle.std.specs.declared.string.String.{String}
use Rattle.std.specs.String.{string_bytes}
use Rattle.std.specs.FinMap as finite
use Rattle.std.specs.Coded.{Coded, code_by, coded×, coded_ℕ, coded_list, coded_option}
use Rattle.channel_store.specs.Store.{Files, files_code}

-- a store in memory
pub record MemoryStore : Type 0 where
  pub files : Files
  -- the numbers of the calls that fail, and the number from which on every call does
  pub fails : List ℕ
  pub fails_from : Option ℕ
  -- how many calls there were, and how many of them failed
  pub calls : ℕ
  pub faults : ℕ

-- a store is kept as the tuple of its fields
abbrev pub store_code : Coded MemoryStore
store_code =
    code_by (Files × (List ℕ × (Option ℕ × (ℕ × ℕ)))) (coded× files_code (coded× (coded_list coded_ℕ) (coded× (coded_option coded_ℕ) (coded× coded_ℕ coded_ℕ))))
    (λ s. (s.files, (s.fails, (s.fails_from, (s.calls, s.faults)))))
    (λ p. record { files = p.0; fails = p.1.0; fails_from = p.1.1.0; calls = p.1.1.1.0; faults = p.1.1.1.1 })
    (λ _. refl)

-- the name and the bytes of a file that the store was made of
abbrev pub first_file : List ℕ × Vec ℕ Global → List ℕ × List ℕ
first_file file = (file.0, file.1.items)

-- the name and the bytes of a file that was put
abbrev pub later_file : String Global × Vec ℕ Global → List ℕ × List ℕ
later_file file = (string_bytes file.0, file.1.items)

-- the files that were put, and behind them those that the store was made of; of one name the first counts
abbrev pub files_of : List (String Global × Vec ℕ Global) → List (List ℕ × Vec ℕ Global) → Files
files_of later first = finite.from_entries (map later_file later ++ map first_file first)

-- a store of these files, before its first call; of one name the first counts
abbrev pub store_of : List (List ℕ × Vec ℕ Global) → List ℕ → Option ℕ → MemoryStore
store_of files fails fails_from = record {
  files = finite.from_entries (map first_file files);
  fails = fails;
  fails_from = fails_from;
  calls = 0;
  faults = 0;
}

-- a number that isn't above this one, if there is a number
abbrev pub is_from : Option ℕ → ℕ → Bool
is_from (Some from) number = nat_le from number
is_from None number = false

-- the next call of a store fails
abbrev pub fails_next : MemoryStore → Bool
fails_next store = is_from store.fails_from store.calls || list_any (λ n. n == store.calls) store.fails

-- one more; a count stands still at its type's end
abbrev pub one_more : ℕ → ℕ
one_more count = min (count + 1) (2 ^ 64 - 1)

-- the store behind its next call, as far as that call leaves its files
abbrev pub counted : MemoryStore → MemoryStore
counted store = record store {
  calls = one_more store.calls;
  faults = cond (fails_next store) (one_more store.faults) store.faults;
}
