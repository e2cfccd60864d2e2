-- A worked table, and what the passes of its two queries say of it.
use Rattle.std.specs.Prelude.{true, List, [], ◌∷◌, ◌++◌, None, Some}
use Rattle.link_io.specs.Origin.{plain}
use Rattle.flight_journal.specs.declared.entry.Entry.{Entry}
use Rattle.flight_journal.specs.declared.entry.Entry.TheVariants.{Began, Joined, Landed, Evicted}
use Rattle.flight_journal.specs.Count.{begun_in}
use Rattle.flight_journal.specs.Worked.{two_landings, index_at}
use Rattle.flight_rows.specs.Sight.{Sight}
use Rattle.flight_table.specs.Facts.{Facts, taken_pass}

-- with a budget of 10: two flights of size 6 have landed, and one of size 11, in which another query waited. Its value is still
-- owed to that one
abbrev pub an_owed_value : List Entry
an_owed_value = two_landings ++ Began 0 2 (index_at 2) ∷ Joined 1 2 ∷ Landed 0 2 (Some 11) ∷ Evicted 1 ∷ Evicted 2 ∷ []

-- a table with a budget of 10 and nothing dialed at the start, whose parcels all stand in it
abbrev pub table_of : List Entry → Sight
table_of journal = record { journal = journal; keep = 10; start = []; dialed = begun_in journal; origin = plain None; hands = [] }

-- the first query landed three flights, and awaits nothing
abbrev pub landed_three : Facts
landed_three = record {
  query = 0;
  calls = 7;
  live = true;
  asks = (index_at 0).key ∷ (index_at 1).key ∷ (index_at 2).key ∷ [];
  losses = 0;
  wrecks = [];
  lost = [];
  hand = None;
  awaits = [];
  base = 0;
  origin = plain None;
}

-- the second one joined the third flight, and awaits it
abbrev pub awaits_one : Facts
awaits_one = record {
  query = 1;
  calls = 2;
  live = true;
  asks = (index_at 2).key ∷ [];
  losses = 0;
  wrecks = [];
  lost = [];
  hand = None;
  awaits = (2, index_at 2) ∷ [];
  base = 0;
  origin = plain None;
}

-- it took the value
abbrev pub took_it : Facts
took_it = taken_pass [] [] awaits_one

-- the same pass, were it to forget what it awaits
abbrev pub forgot_it : Facts
forgot_it = record awaits_one { awaits = [] }
