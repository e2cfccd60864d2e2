-- What is always so of the flights of a table.
use Rattle.std.proofs.Common.{◌≡◌, ℕ, List, Option, Some}
use Rattle.std.specs.declared.cmp.Ordering.{Ordering}
use Rattle.std.specs.BTreeMap.{BTreeMap}
use Rattle.shard_cache.specs.Recency.{is_listed}
use Rattle.link_io.specs.Origin.{Origin}
use Rattle.link_io.specs.Parcel.{Packed}
use Rattle.link_io.specs.declared.target.Key.{Key}
use Rattle.link_io.specs.declared.target.Target.{Target}
use Rattle.flight_journal.specs.declared.entry.Entry.{Entry}
use Rattle.flight_journal.specs.State.{WaitsIn}
use Rattle.flight_journal.specs.Journal.{after, IsSettled}
use Rattle.flight_journal.proofs.LegalLemmas.{one_key_after}
use Rattle.flight_rows.specs.declared.row.Row.{Row}
use Rattle.flight_rows.specs.Rows.{Keeps, hands_of}
use Rattle.flight_rows.specs.Sight.{IsSightSound, hand_in}
use Rattle.flight_rows.proofs.EntryLemmas.{away_flies}
use Rattle.flight_rows.proofs.TakeLemmas.{row_in_hand, flight_of}

module _ {L V : Type 0} (Aimed : ℕ → Target → Packed L → Type 0) (Came_so : ℕ → Target → Option ℕ → V → Type 0) (cmp : Key → Key → Ordering) (keep : ℕ) (start dialed : List Target) (journal : List Entry) where
  -- who has a parcel in hand waits in its flight
  in_hand_waits : (room : ℕ) (rows : BTreeMap ℕ (Row L V)) (keys : BTreeMap Key ℕ) (order : List (ℕ × ℕ)) (recent opened begun owed q f : ℕ)
      → Keeps Aimed Came_so cmp keep start dialed journal room rows keys order recent opened begun owed
      → hand_in (hands_of rows.entries) f ≡ Some q → WaitsIn (after journal) q f
  in_hand_waits room rows keys order recent opened begun owed q f keeps held =
      let r = row_in_hand rows f q held in
      let x = flight_of Aimed Came_so (after journal) rows f r.0 keeps.holds.rows_fit r.1 in
      let away = away_flies Aimed Came_so f q x.0 (is_listed f (after journal).kept) r.0.at r.2 x.2.at_so in
      (x.0, x.1, away.0, away.2)

  pub sight_sound : (room : ℕ) (rows : BTreeMap ℕ (Row L V)) (keys : BTreeMap Key ℕ) (order : List (ℕ × ℕ)) (recent opened begun owed : ℕ) (origin : Origin)
      → Keeps Aimed Came_so cmp keep start dialed journal room rows keys order recent opened begun owed
      → IsSettled keep (after journal)
      → IsSightSound (record { journal = journal; keep = keep; start = start; dialed = dialed; origin = origin; hands = hands_of rows.entries })
  sight_sound room rows keys order recent opened begun owed origin keeps settled = record {
    legal = keeps.legal;
    settled = settled;
    dialed = keeps.dialed_so;
    plain = keeps.plain;
    in_hand = λ q f held. in_hand_waits room rows keys order recent opened begun owed q f keeps held;
    one_key = λ f g u v a b same. one_key_after keep f g journal u v keeps.legal a b same;
  }
