-- What is due, and the counts of what sections did.
use Rattle.std.specs.Prelude.{◌+◌, ◌-◌, ◌^◌, ◌&&◌, min, nat_lt, is_some, ℕ, Bool, true, false, List, replicate, slice_set, slice_index, if◌then◌else◌}
use Rattle.closure_plan.specs.Plan.{its_done, its_next}
use Rattle.query_needs.specs.Holders.{index_in, leaf_in}
use Rattle.query_future.specs.declared.parts.Hand.{Hand}
use Rattle.query_future.specs.declared.parts.Hand.TheVariants as hand
use Rattle.query_future.specs.declared.parts.Work.{Work}
use Rattle.query_future.specs.declared.parts.Work.TheVariants as work
use Rattle.query_future.specs.declared.parts.Due.{Due}
use Rattle.query_future.specs.declared.parts.Due.TheVariants as due
use Rattle.query_future.specs.declared.parts.Did.{Did}
use Rattle.query_future.specs.declared.parts.Did.TheVariants as did

-- the most pairs of a window
abbrev pub most_of_window : ℕ
most_of_window = 8

-- the place of a count
abbrev pub place_of : Did → ℕ
place_of did.Asked = 0
place_of did.Value = 1
place_of did.Again = 2
place_of did.Taken = 3
place_of did.Busy = 4
place_of (did.Moved n) = 5
place_of did.Waited = 6
place_of did.Judged = 7
place_of did.Back = 8
place_of did.Left = 9
place_of did.Ended = 10

-- no counts yet
abbrev pub no_counts : List ℕ
no_counts = replicate 11 0

-- one more; a count that stands at 18,446,744,073,709,551,615 stays there
abbrev pub raised : ℕ → ℕ
raised n = min (n + 1) (2 ^ 64 - 1)

-- the counts with one more of what was done
abbrev pub counted : Did → List ℕ → List ℕ
counted d counts = slice_set counts (place_of d) (raised (slice_index counts (place_of d)))

-- what is due with nothing in hand and n pairs in the window
abbrev pub due_work : {L : Type 0} → Work L → ℕ → Due
due_work (work.Going p) n =
    if its_done index_in leaf_in p.known then due.Close
    else if nat_lt n most_of_window && is_some (its_next index_in leaf_in p) then due.Ask
    else due.Take
due_work (work.Failing part m v) n = due.Close
due_work (work.Answering a) n = due.Close
due_work work.Memory n = due.Close

-- what is due: by whether the pass is open, what is in hand, the work, and how many pairs the window has
abbrev pub due_by : {L : Type 0} → Bool → Hand L → Work L → ℕ → Due
due_by false h w n = due.Over
due_by true hand.Empty w n = due_work w n
due_by true (hand.Fresh p) w n = due.Step
due_by true (hand.Stepped p) w n = due.Put
due_by true (hand.Judged v u) w n = due.Land
due_by true hand.Refused w n = due.Lose
