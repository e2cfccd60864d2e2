-- What a call with a pass leaves of all that passes and doors say.
use Rattle.std.proofs.Common.{◌≡◌, ◌≢◌, ℕ, ◌+◌, ◌||◌, Bool, true, false, true≢false, List, [], ◌∷◌, ◌++◌, length, Some, None, refl, sym, ap, ◌∙◌, subst, ⊎_elim, append-nil, append_assoc, add-zero, ne_eqb}
use Rattle.std.specs.List.{list_any}
use Rattle.std.proofs.lemmas.Bool.{cases_eq}
use Rattle.flight_journal.specs.declared.entry.Entry.{Entry}
use Rattle.flight_journal.specs.State.{State, nothing, is_open}
use Rattle.flight_journal.specs.Journal.{after, Allowed, Legal}
use Rattle.flight_journal.specs.Count.{names, query_in, is_this}
use Rattle.flight_journal.proofs.PushLemmas.{after_push}
use Rattle.flight_journal.proofs.CarryLemmas.{open_stays}
use Rattle.flight_rows.specs.Sight.{Sight, IsSightSound, hand_in}
use Rattle.flight_rows.specs.Serves.{Writes, HandsStay, HandMoves}
use Rattle.flight_table.specs.Facts.{Facts}
use Rattle.flight_table.specs.Knows.{Knows}
use Rattle.flight_table.specs.Tells.{Tells, HoldsTheSame}
use Rattle.flight_table.specs.Doors.{Gate, TellsDoor, opens, cancels, refreshes, count}
use Rattle.flight_table.specs.Follows.{Follows}
use Rattle.flight_table.proofs.TellLemmas.{front_from, next_from, knows_on, tells_on, same_where_stays, same_where_moves}
use Rattle.flight_table.proofs.CountingLemmas.{count_append, NoDoors}

pub either_false : (a b : Bool) → a ≡ false → b ≡ false → a || b ≡ false
either_false true b h k = absurd (true≢false h)
either_false false b h k = k

-- an entry of a query names no other
pub names_other : (q p : ℕ) (e : Entry) → query_in e ≡ Some p → q ≢ p → names q e ≡ false
names_other q p e is ne = ap (is_this q) is ∙ ne_eqb p q (λ i. ne (sym i))

-- ---- whether a query is open
pub opens_on : (budget q : ℕ) (journal written : List Entry) → Legal budget (journal ++ written) → list_any (names q) written ≡ false → is_open (after (journal ++ written)) q ≡ is_open (after journal) q
opens_on budget q journal [] legal others = ap (λ (js : List Entry). is_open (after js) q) (append-nil journal)
opens_on budget q journal (e ∷ written) legal others =
    let first = left (names q e) (list_any (names q) written) others in
    let join : (journal ++ e ∷ []) ++ written ≡ journal ++ e ∷ written = append_assoc journal (e ∷ []) written in
    ap (λ (js : List Entry). is_open (after js) q) (sym join)
    ∙ opens_on budget q (journal ++ e ∷ []) written (subst (λ (js : List Entry). Legal budget js) (sym join) legal) first.1
    ∙ ap (λ (s : State). is_open s q) (after_push journal e)
    ∙ open_stays budget q (after journal) e (next_from budget nothing journal e written legal) first.0
  where
    left : (a b : Bool) → a || b ≡ false → (a ≡ false) × (b ≡ false)
    left true b h = absurd (true≢false h)
    left false b h = (refl, h)

-- ---- doors
pub same_count : (such : Entry → Bool) (s t : Sight) (written : List Entry) → Writes written s t → count such written ≡ 0 → count such t.journal ≡ count such s.journal
same_count such s t written w none = ap (count such) w.journal ∙ count_append such s.journal written ∙ ap (λ n. count such s.journal + n) none ∙ add-zero (count such s.journal)

pub doors_on : (s t : Sight) (written : List Entry) (d : Gate) → Writes written s t → NoDoors written → TellsDoor s d → TellsDoor t d
doors_on s t written d w none so = record {
  keep = so.keep ∙ sym w.keep;
  start = so.start ∙ sym w.start;
  origin = so.origin ∙ sym w.origin;
  opened = λ all. so.opened all ∙ sym (same_count opens s t written w none.opened);
  cancelled = λ all. so.cancelled all ∙ sym (same_count cancels s t written w none.cancelled);
  refreshed = λ all. so.refreshed all ∙ sym (same_count refreshes s t written w none.refreshed);
}

-- ---- all of it
-- the entries that a call of a query writes name no other, and no other's parcels move
pub record Apart (q : ℕ) (written : List Entry) (s t : Sight) : Type 0 where
  pub names_none : (o : ℕ) → o ≢ q → list_any (names o) written ≡ false
  pub holds : (o : ℕ) → o ≢ q → HoldsTheSame o s t
  pub doors : NoDoors written

pub others_on : (q : ℕ) (written : List Entry) (s t : Sight) → Writes written s t → IsSightSound t → ((o : ℕ) → o ≢ q → list_any (names o) written ≡ false) → ((o : ℕ) → o ≢ q → HoldsTheSame o s t) → (o : Facts) → o.query ≢ q → Tells s o → Tells t o
others_on q written s t w sound none holds o ne k = tells_on s t written o w sound (none o.query ne) (holds o.query ne) k

pub opens_over : (q : ℕ) (written : List Entry) (s t : Sight) → Writes written s t → IsSightSound t → list_any (names q) written ≡ false → is_open (after t.journal) q ≡ is_open (after s.journal) q
opens_over q written s t w sound none =
    ap (λ (js : List Entry). is_open (after js) q) w.journal
    ∙ opens_on t.keep q s.journal written (subst (λ (js : List Entry). Legal t.keep js) w.journal sound.legal) none

pub follows_by : (s t : Sight) (p r : Facts) (written : List Entry) → Writes written s t → IsSightSound t → Apart p.query written s t → Tells s p → Tells t r → r.query ≡ p.query → r.base ≡ p.base → r.origin ≡ p.origin → Follows s t p r
follows_by s t p r written w sound a told now same base origin = record {
  told = told;
  now = now;
  others = λ o ne k. others_on p.query written s t w sound a.names_none a.holds o ne k;
  opens = λ q ne. opens_over q written s t w sound (a.names_none q ne);
  doors = λ d k. doors_on s t written d w a.doors k;
  query = same;
  base = base;
  origin = origin;
}

-- ---- one entry of the query, and others that name none
pub allowed_by : (s t : Sight) (e : Entry) (rest : List Entry) → Writes (e ∷ rest) s t → IsSightSound t → Allowed t.keep (after s.journal) e
allowed_by s t e rest w sound = next_from t.keep nothing s.journal e rest (subst (λ (js : List Entry). Legal t.keep js) w.journal sound.legal)

pub legal_by : (s t : Sight) (written : List Entry) → Writes written s t → IsSightSound t → Legal t.keep s.journal
legal_by s t written w sound = front_from t.keep nothing s.journal written (subst (λ (js : List Entry). Legal t.keep js) w.journal sound.legal)

pub knows_over : (s t : Sight) (r : Facts) (e : Entry) (rest : List Entry) → Writes (e ∷ rest) s t → IsSightSound t → list_any (names r.query) rest ≡ false → Knows (s.journal ++ e ∷ []) r → Knows t.journal r
knows_over s t r e rest w sound none k =
    let join : (s.journal ++ e ∷ []) ++ rest ≡ s.journal ++ e ∷ rest = append_assoc s.journal (e ∷ []) rest in
    subst (λ (js : List Entry). Knows js r) (join ∙ sym w.journal)
    (knows_on t.keep (s.journal ++ e ∷ []) rest r (subst (λ (js : List Entry). Legal t.keep js) (w.journal ∙ sym join) sound.legal) none k)

-- ---- hands
pub record HandIs (t : Sight) (r : Facts) : Type 0 where
  pub hand : (f : ℕ) → r.hand ≡ Some f → hand_in t.hands f ≡ Some r.query
  pub in_hand : (f : ℕ) → hand_in t.hands f ≡ Some r.query → r.hand ≡ Some f

pub hand_stays : (s t : Sight) (p r : Facts) → HandsStay s t → Tells s p → r.hand ≡ p.hand → r.query ≡ p.query → HandIs t r
hand_stays s t p r stays k same query = record {
  hand = λ f h. stays f ∙ k.hand f (sym same ∙ h) ∙ ap Some (sym query);
  in_hand = λ f h. same ∙ k.in_hand f (sym (stays f) ∙ h ∙ ap Some query);
}

pub hand_taken : (s t : Sight) (p r : Facts) (f : ℕ) → HandMoves f (Some p.query) s t → Tells s p → p.hand ≡ None → r.hand ≡ Some f → r.query ≡ p.query → HandIs t r
hand_taken s t p r f moves k idle is query = record {
  hand = λ g h. ap (hand_in t.hands) (sym (one g (sym is ∙ h))) ∙ moves.here ∙ ap Some (sym query);
  in_hand = λ g h. ⊎_elim
      (λ (i : g ≡ f). is ∙ ap Some (sym i))
      (λ (ne : g ≢ f). absurd (nothing_is (sym idle ∙ k.in_hand g (sym (moves.others g ne) ∙ h ∙ ap Some query))))
      (cases_eq g f);
}
  where
    one : (g : ℕ) → Some f ≡ Some g → f ≡ g
    one g e = cc

    nothing_is : {g : ℕ} → None ≡ Some g → ⊥
    nothing_is e = cc

pub hand_freed : (s t : Sight) (p r : Facts) (f : ℕ) → HandMoves f None s t → Tells s p → p.hand ≡ Some f → r.hand ≡ None → r.query ≡ p.query → HandIs t r
hand_freed s t p r f moves k held is query = record {
  hand = λ g h. absurd (nothing_is g (sym is ∙ h));
  in_hand = λ g h. ⊎_elim
      (λ (i : g ≡ f). absurd (nothing_is r.query (sym moves.here ∙ ap (hand_in t.hands) (sym i) ∙ h)))
      (λ (ne : g ≢ f). absurd (ne (sym (one g (sym held ∙ k.in_hand g (sym (moves.others g ne) ∙ h ∙ ap Some query))))))
      (cases_eq g f);
}
  where
    one : (g : ℕ) → Some f ≡ Some g → f ≡ g
    one g e = cc

    nothing_is : (g : ℕ) → None ≡ Some g → ⊥
    nothing_is g e = cc

pub tells_by : (s t : Sight) (p r : Facts) → Knows t.journal r → HandIs t r → t.start ≡ s.start → t.origin ≡ s.origin → Tells s p → r.base ≡ p.base → r.origin ≡ p.origin → Tells t r
tells_by s t p r knows hand start origin k base from = record {
  knows = knows;
  hand = hand.hand;
  in_hand = hand.in_hand;
  base = base ∙ k.base ∙ ap length (sym start);
  origin = from ∙ k.origin ∙ sym origin;
}

-- a parcel moves to the query or from it, and no other's moves
pub apart_taken : (q f : ℕ) (s t : Sight) → HandMoves f (Some q) s t → hand_in s.hands f ≡ None → (o : ℕ) → o ≢ q → HoldsTheSame o s t
apart_taken q f s t moves none o ne = same_where_moves o f (Some q) s t moves (λ e. nothing_is (sym none ∙ e)) (λ e. ne (sym (one e)))
  where
    nothing_is : None ≡ Some o → ⊥
    nothing_is e = cc

    one : Some q ≡ Some o → q ≡ o
    one e = cc

pub apart_freed : (q f : ℕ) (s t : Sight) → HandMoves f None s t → hand_in s.hands f ≡ Some q → (o : ℕ) → o ≢ q → HoldsTheSame o s t
apart_freed q f s t moves held o ne = same_where_moves o f None s t moves (λ e. ne (sym (one (sym held ∙ e)))) (λ e. nothing_is e)
  where
    nothing_is : None ≡ Some o → ⊥
    nothing_is e = cc

    one : Some q ≡ Some o → q ≡ o
    one e = cc

pub apart_stays : (s t : Sight) → HandsStay s t → (o : ℕ) → HoldsTheSame o s t
apart_stays s t stays o = same_where_stays o s t stays
