-- What stands of a query: its plan or its ending, beside its window and its pass.
use Rattle.std.specs.Prelude.{◌≡◌, ◌≢◌, ◌+◌, ◌≤◌, ℕ, Bool, true, false, List, length, Option, Some, None}
use Rattle.link_io.specs.Conn.{LinkFacts}
use Rattle.link_io.specs.Origin.{Origin}
use Rattle.link_io.specs.Parcel.{Packed}
use Rattle.link_io.specs.declared.target.Target.{Target}
use Rattle.fetch_flight.specs.Verdict.{comes_from, key_of, number_of, size_of}
use Rattle.fetch_flight.specs.declared.verdicts.Verdict.{Verdict}
use Rattle.closure_request.specs.Request.{Asking}
use Rattle.closure_plan.specs.declared.need.Need.{Need}
use Rattle.closure_plan.specs.Answered.{Answered}
use Rattle.closure_plan.specs.Plan.{Known, Planned}
use Rattle.flight_journal.specs.Count.{Among}
use Rattle.flight_journal.specs.Journal.{after}
use Rattle.flight_journal.specs.State.{is_open}
use Rattle.flight_rows.specs.Rows.{Comes, IsAimed}
use Rattle.flight_rows.specs.Sight.{Sight}
use Rattle.flight_table.specs.Doors.{Gate, TellsDoor}
use Rattle.flight_table.specs.Facts.{Facts}
use Rattle.flight_table.specs.Follows.{HasParcel, HasValue}
use Rattle.flight_table.specs.Tells.{Tells}
use Rattle.query_needs.specs.Known.{IsKnown}
use Rattle.query_needs.specs.Outcomes.{AreFrom, Fair, Honest}
use Rattle.query_needs.specs.Takes.{is_filled}
use Rattle.query_future.specs.declared.parts.Hand.{Hand}
use Rattle.query_future.specs.declared.parts.Hand.TheVariants as hand
use Rattle.query_future.specs.declared.parts.Pair.{Pair}
use Rattle.query_future.specs.declared.parts.Work.{Work}
use Rattle.query_future.specs.declared.parts.Work.TheVariants as work
use Rattle.query_future.specs.Windows.{AskedBy, CountedBy, IsAt, Paired}

-- what a query has beside its work and what is in hand: its pass, its window with a cursor, what it asked for in order, and
-- how often a need was asked for again
pub record Tracked : Type 0 where
  pub pass : Facts
  pub window : List Pair
  pub cursor : ℕ
  pub asked : List Need
  pub again : ℕ

-- nothing was lost by the query, and it asked again at most once for each wreck and each loss of others
pub record IsFew (f : Facts) (times : ℕ) : Type 0 where
  pub losses : f.losses ≡ 0
  pub again : times ≤ length f.wrecks + length f.lost

-- how often a query asked, and asked again, by what its pass says
pub record IsCounted (f : Facts) (asked : List Need) (times : ℕ) : Type 0 where
  pub asks : length f.asks ≡ length asked
  pub again : times ≤ length f.wrecks + length f.lost

-- whether the ending isn't decided
abbrev pub is_going : {L : Type 0} → Work L → Bool
is_going (work.Going p) = true
is_going (work.Failing part m v) = false
is_going (work.Answering a) = false
is_going work.Memory = false

module _ {L : Type 0} (facts : L → LinkFacts) (from : L → Origin → Type 0) where
  -- a query whose ending isn't decided
  pub record GoesOn (p : Planned (Verdict L) (Verdict L)) (f : Facts) (ws : List Pair) (asked : List Need) (again : ℕ) : Type 0 where
    pub known : IsKnown facts p.known
    pub are_from : AreFrom from f.origin p.known
    pub paired : Paired p f ws
    pub asked_by : AskedBy p.known f asked
    pub counted : CountedBy p.known asked (again + length ws)
    pub window_asked : (w : Pair) → Among w ws → Among w.need asked
    pub ungiven : (w : Pair) → Among w ws → is_filled p.known w.need ≡ false
    pub few : IsFew f again

  -- a wreck is of a flight that the query landed or took
  pub record IsOwnFlight (v : Verdict L) (f : Facts) : Type 0 where
    pub flight : ℕ
    pub among : Among flight f.wrecks
    pub number : number_of facts v ≡ Some (f.base + flight)
    pub is_from : comes_from from v f.origin

  -- a query that failed
  pub record Fails (part : Known (Verdict L) (Verdict L)) (m : Need) (v : Verdict L) (f : Facts) (asked : List Need) (again : ℕ) : Type 0 where
    pub fair : Fair facts part.request part m v
    pub are_from : AreFrom from f.origin part
    pub own : IsOwnFlight v f
    pub need : Among m asked
    pub asked_by : AskedBy part f asked
    pub few : IsFew f again

  -- a query with its answer: each need was asked for, and each ask was given or repeated
  pub record Answers (a : Answered (Verdict L) (Verdict L)) (f : Facts) (asked : List Need) (again : ℕ) : Type 0 where
    pub honest : Honest facts a.known.request a
    pub are_from : AreFrom from f.origin a.known
    pub asked_by : AskedBy a.known f asked
    pub counted : CountedBy a.known asked again
    pub few : IsFew f again

  -- by the work of a query
  abbrev pub Stands : Work L → Tracked → Type 0
  Stands (work.Going p) t = GoesOn p t.pass t.window t.asked t.again
  Stands (work.Failing part m v) t = Fails part m v.value t.pass t.asked t.again
  Stands (work.Answering a) t = Answers a t.pass t.asked t.again
  Stands work.Memory t = IsCounted t.pass t.asked t.again

  -- the flight in hand is that of the pair at the cursor
  pub record InHand (t : Tracked) : Type 0 where
    pub pair : Pair
    pub at : IsAt t.window t.cursor pair
    pub hand : t.pass.hand ≡ Some pair.flight

  -- a parcel in hand that can go on, and a value in hand
  abbrev pub HoldsParcel : Tracked → Packed L → Type 0
  HoldsParcel t p = (i : InHand t) × HasParcel (IsAimed facts from t.pass.base t.pass.origin) i.pair.flight t.pass p

  abbrev pub HoldsValue : Tracked → Verdict L → Type 0
  HoldsValue t v = (i : InHand t) × HasValue (Comes key_of size_of (number_of facts) (comes_from from) t.pass.base t.pass.origin) i.pair.flight t.pass (size_of v) v

  -- what is in hand
  abbrev pub HasInHand : Hand L → Work L → Tracked → Type 0
  HasInHand hand.Empty w t = t.pass.hand ≡ None
  HasInHand (hand.Fresh p) w t = (is_going w ≡ true) × HoldsParcel t p
  HasInHand (hand.Stepped p) w t = HoldsParcel t p
  HasInHand (hand.Judged v u) w t = (is_going w ≡ true) × (v.value ≡ u.value) × HoldsValue t v.value
  HasInHand hand.Refused w t = (is_going w ≡ true) × InHand t

  -- what is so of a query between two sections
  pub record Rests (w : Work L) (h : Hand L) (t : Tracked) : Type 0 where
    pub stands : Stands w t
    pub in_hand : HasInHand h w t
    pub cursor_in : t.cursor ≤ length t.window
    pub few : length t.window ≤ 8

-- the request of a work, where it has one
abbrev pub HasRequest : {L : Type 0} → Asking → Work L → Type 0
HasRequest r (work.Going p) = p.known.request ≡ r
HasRequest r (work.Failing part m v) = part.request ≡ r
HasRequest r (work.Answering a) = a.known.request ≡ r
HasRequest r work.Memory = Unit {0}

-- the request is kept, where there is one
abbrev pub KeepsRequest : {L : Type 0} → Work L → Work L → Type 0
KeepsRequest old new = (r : Asking) → HasRequest r old → HasRequest r new

-- a call with a pass that said p and says r behind it, or none: what is so of a pass stays so, and so do the doors'
pub record Carries (s t : Sight) (p r : Facts) : Type 0 where
  pub now : Tells s p → Tells t r
  pub others : (o : Facts) → o.query ≢ p.query → Tells s o → Tells t o
  pub opens : (q : ℕ) → q ≢ p.query → is_open (after t.journal) q ≡ is_open (after s.journal) q
  pub doors : (d : Gate) → TellsDoor s d → TellsDoor t d
  pub query : r.query ≡ p.query
  pub base : r.base ≡ p.base
  pub origin : r.origin ≡ p.origin
