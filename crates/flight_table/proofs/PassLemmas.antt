-- What each call with a pass leaves of what passes and doors say.
use Rattle.std.proofs.Common.{◌≡◌, ◌≢◌, ◌⊎◌, ℕ, Bool, false, List, [], ◌∷◌, ◌++◌, Option, Some, None, slice_get, refl, sym, ◌∙◌, subst, inl, ⊎_elim, append-nil, arith}
use Rattle.std.specs.List.{list_any}
use Rattle.link_io.specs.Target.{IsPlain}
use Rattle.link_io.specs.declared.target.Target.{Target}
use Rattle.flight_journal.specs.declared.entry.Entry.{Entry}
use Rattle.flight_journal.specs.declared.entry.Entry.TheVariants.{Began, Joined, Hit, Taken, Landed, Lost, Cancelled}
use Rattle.flight_journal.specs.State.{WaitsIn, IsOwed, Flies, IsKept, IsOpen, is_open}
use Rattle.flight_journal.specs.Journal.{after}
use Rattle.flight_journal.specs.Count.{Among, names, only_if, is_wreck, query_in}
use Rattle.flight_journal.proofs.LegalLemmas.{waits_open}
use Rattle.flight_rows.specs.Sight.{Sight, IsSightSound, hand_in}
use Rattle.flight_rows.specs.Serves.{Writes, HandsStay, HandMoves, Lands, Leaves, IsLeaving, evictions, abandonments}
use Rattle.flight_table.specs.Facts.{Facts, lost_pass, landed_pass, left_pass, freed_pass, holding_pass, hit_pass, awaiting_pass, taken_pass, missed_pass, awaits_but}
use Rattle.flight_table.specs.Knows.{Knows, WasLost}
use Rattle.flight_table.specs.Tells.{Tells}
use Rattle.flight_table.specs.Follows.{Follows}
use Rattle.flight_table.proofs.AwaitsLemmas.{without, but_same, but_only, but_once}
use Rattle.flight_table.proofs.CountingLemmas.{NoDoors, no_doors_evict, no_doors_abandon, evict_none, abandon_none}
use Rattle.flight_table.proofs.FollowLemmas.{either_false, names_other, others_on, opens_over, follows_by, allowed_by, legal_by, knows_over, tells_by, hand_stays, hand_taken, hand_freed, apart_taken, apart_freed, apart_stays}
use Rattle.flight_table.proofs.PartLemmas.{knows_lost, knows_landed, knows_taken}
use Rattle.flight_table.proofs.CloseLemmas.{knows_leaving}
use Rattle.flight_table.proofs.HitPassLemmas.{knows_hit}
use Rattle.flight_table.proofs.AwaitLemmas.{knows_begun, knows_joined, once_more, last_or_before}

-- who has a parcel in hand is open, and awaits its flight
pub held_open : (s : Sight) (p : Facts) (f : ℕ) → IsSightSound s → Tells s p → p.hand ≡ Some f → IsOpen (after s.journal) p.query
held_open s p f sound k held = waits_open s.keep p.query f s.journal sound.legal (sound.in_hand p.query f (k.hand f held))

pub held_awaited : (s : Sight) (p : Facts) (f : ℕ) → IsSightSound s → Tells s p → p.hand ≡ Some f → (t : Target) × Among (f, t) p.awaits
held_awaited s p f sound k held = k.knows.all_awaits f (inl (sound.in_hand p.query f (k.hand f held)))

-- one entry of the query alone
pub one_names : (q : ℕ) (e : Entry) → query_in e ≡ Some q → (o : ℕ) → o ≢ q → list_any (names o) (e ∷ []) ≡ false
one_names q e is o ne = either_false (names o e) false (names_other o q e is ne) refl

-- a flight is lost
pub lost_follows : (s t : Sight) (p : Facts) (f : ℕ) → Writes (Lost p.query f ∷ []) s t → HandMoves f None s t → IsSightSound t → Tells s p → p.hand ≡ Some f → Follows s t p (lost_pass (awaits_but f p.awaits) p)
lost_follows s t p f w moves sound k held =
    let r = lost_pass (awaits_but f p.awaits) p in
    let e = Lost p.query f in
    let knows = knows_over s t r e [] w sound refl (knows_lost t.keep f s.journal p (awaits_but f p.awaits) (allowed_by s t e [] w sound) (without f p.awaits k.knows.awaits_once) k.knows) in
    let now = tells_by s t p r knows (hand_freed s t p r f moves k held refl refl) w.start w.origin k refl refl in
    follows_by s t p r (e ∷ []) w sound
    (record { names_none = one_names p.query e refl; holds = apart_freed p.query f s t moves (k.hand f held); doors = record { opened = refl; cancelled = refl; refreshed = refl } })
    k now refl refl refl

-- a flight lands
pub landed_follows : (s t : Sight) (p : Facts) (f : ℕ) (size : Option ℕ) → Lands p.query f size s t → HandMoves f None s t → IsSightSound t → Tells s p → p.hand ≡ Some f → Follows s t p (landed_pass f size (awaits_but f p.awaits) p)
landed_follows s t p f size lands moves sound k held =
    let r = landed_pass f size (awaits_but f p.awaits) p in
    let e = Landed p.query f size in
    let gone = evictions lands.0 in
    let none = no_doors_evict lands.0 in
    let knows = knows_over s t r e gone lands.1 sound (evict_none p.query lands.0) (knows_landed t.keep f size s.journal p (awaits_but f p.awaits) (allowed_by s t e gone lands.1 sound) (without f p.awaits k.knows.awaits_once) k.knows) in
    let now = tells_by s t p r knows (hand_freed s t p r f moves k held refl refl) lands.1.start lands.1.origin k refl refl in
    follows_by s t p r (e ∷ gone) lands.1 sound
    (record {
      names_none = λ o ne. either_false (names o e) (list_any (names o) gone) (names_other o p.query e refl ne) (evict_none o lands.0);
      holds = apart_freed p.query f s t moves (k.hand f held);
      doors = let o = none.opened in let c = none.cancelled in let g = none.refreshed in record { opened = omega arith; cancelled = omega arith; refreshed = omega arith };
    })
    k now refl refl refl

-- what is said of a journal says nothing of hands
pub knows_hand : (js : List Entry) (p : Facts) (hand : Option ℕ) → Knows js p → Knows js (record p { hand = hand })
knows_hand js p hand k = record {
  entered = k.entered;
  calls = k.calls;
  live = k.live;
  asks = k.asks;
  losses = k.losses;
  wrecks = k.wrecks;
  lost = k.lost;
  lost_once = k.lost_once;
  lost_apart = k.lost_apart;
  awaits_once = k.awaits_once;
  awaits = k.awaits;
  all_awaits = k.all_awaits;
}

-- a parcel is put back
pub freed_follows : (s t : Sight) (p : Facts) (f : ℕ) → Writes [] s t → HandMoves f None s t → IsSightSound t → Tells s p → p.hand ≡ Some f → Follows s t p (freed_pass p)
freed_follows s t p f w moves sound k held =
    let r = freed_pass p in
    let same : t.journal ≡ s.journal = w.journal ∙ append-nil s.journal in
    let now = tells_by s t p r (subst (λ (js : List Entry). Knows js r) (sym same) (knows_hand s.journal p r.hand k.knows)) (hand_freed s t p r f moves k held refl refl) w.start w.origin k refl refl in
    follows_by s t p r [] w sound
    (record { names_none = λ o ne. refl; holds = apart_freed p.query f s t moves (k.hand f held); doors = record { opened = refl; cancelled = refl; refreshed = refl } })
    k now refl refl refl

-- a parcel is taken in hand
pub holding_follows : (s t : Sight) (p : Facts) (f : ℕ) → Writes [] s t → HandMoves f (Some p.query) s t → hand_in s.hands f ≡ None → IsSightSound t → Tells s p → p.hand ≡ None → Follows s t p (holding_pass f p)
holding_follows s t p f w moves free sound k idle =
    let r = holding_pass f p in
    let same : t.journal ≡ s.journal = w.journal ∙ append-nil s.journal in
    let now = tells_by s t p r (subst (λ (js : List Entry). Knows js r) (sym same) (knows_hand s.journal p r.hand k.knows)) (hand_taken s t p r f moves k idle refl refl) w.start w.origin k refl refl in
    follows_by s t p r [] w sound
    (record { names_none = λ o ne. refl; holds = apart_taken p.query f s t moves free; doors = record { opened = refl; cancelled = refl; refreshed = refl } })
    k now refl refl refl

-- nothing happens
pub same_follows : (s : Sight) (p : Facts) → Tells s p → Follows s s p p
same_follows s p k = record { told = k; now = k; others = λ o ne h. h; opens = λ q ne. refl; doors = λ d h. h; query = refl; base = refl; origin = refl }

-- a query leaves: by this entry, which opens no query and gives up no index
left_with : (s t : Sight) (p : Facts) (e : Entry) → IsLeaving p.query e → query_in e ≡ Some p.query → Leaves e s t → HandsStay s t → IsSightSound t → Tells s p → Tells t (left_pass p)
left_with s t p e leaving named leaves stays sound k =
    let r = left_pass p in
    let gone = abandonments leaves.0 in
    let knows = knows_over s t r e gone leaves.1 sound (abandon_none p.query leaves.0) (knows_leaving t.keep s.journal e p (legal_by s t (e ∷ gone) leaves.1 sound) (allowed_by s t e gone leaves.1 sound) leaving k.knows) in
    tells_by s t p r knows (hand_stays s t p r stays k refl refl) leaves.1.start leaves.1.origin k refl refl

pub left_follows : (s t : Sight) (p : Facts) (e : Entry) → IsLeaving p.query e → query_in e ≡ Some p.query → Leaves e s t → HandsStay s t → IsSightSound t → Tells s p → NoDoors (e ∷ []) → Follows s t p (left_pass p)
left_follows s t p e leaving named leaves stays sound k apart =
    let none = no_doors_abandon leaves.0 in
    let o = apart.opened in
    let c = apart.cancelled in
    let f = apart.refreshed in
    follows_by s t p (left_pass p) (e ∷ abandonments leaves.0) leaves.1 sound
    (record {
      names_none = λ q ne. either_false (names q e) (list_any (names q) (abandonments leaves.0)) (names_other q p.query e named ne) (abandon_none q leaves.0);
      holds = λ q ne. apart_stays s t stays q;
      doors = record { opened = let n = none.opened in omega arith; cancelled = let n = none.cancelled in omega arith; refreshed = let n = none.refreshed in omega arith };
    })
    k (left_with s t p e leaving named leaves stays sound k) refl refl refl

-- what a cancelled query leaves of the others
pub record Gone (s t : Sight) (p : Facts) : Type 0 where
  pub now : Tells t (left_pass p)
  pub others : (o : Facts) → o.query ≢ p.query → Tells s o → Tells t o
  pub opens : (q : ℕ) → q ≢ p.query → is_open (after t.journal) q ≡ is_open (after s.journal) q

pub cancelled_follows : (s t : Sight) (p : Facts) → Leaves (Cancelled p.query) s t → HandsStay s t → IsSightSound t → Tells s p → Gone s t p
cancelled_follows s t p leaves stays sound k = record {
  now = left_with s t p (Cancelled p.query) (inl refl) refl leaves stays sound k;
  others = λ o ne h. others_on p.query (Cancelled p.query ∷ abandonments leaves.0) s t leaves.1 sound none (λ q ne'. apart_stays s t stays q) o ne h;
  opens = λ q ne. opens_over q (Cancelled p.query ∷ abandonments leaves.0) s t leaves.1 sound (none q ne);
}
  where
    none : (q : ℕ) → q ≢ p.query → list_any (names q) (Cancelled p.query ∷ abandonments leaves.0) ≡ false
    none q ne = either_false (names q (Cancelled p.query)) (list_any (names q) (abandonments leaves.0)) (names_other q p.query (Cancelled p.query) refl ne) (abandon_none q leaves.0)

-- the query takes what is kept
pub hit_follows : (s t : Sight) (p : Facts) (f : ℕ) (u : Target) → Writes (Hit p.query f ∷ []) s t → HandsStay s t → IsSightSound t → IsKept (after s.journal) f u → Tells s p → Follows s t p (hit_pass u.key p)
hit_follows s t p f u w stays sound kept k =
    let r = hit_pass u.key p in
    let e = Hit p.query f in
    let knows = knows_over s t r e [] w sound refl (knows_hit t.keep f s.journal p u (legal_by s t (e ∷ []) w sound) (allowed_by s t e [] w sound) kept k.knows) in
    let now = tells_by s t p r knows (hand_stays s t p r stays k refl refl) w.start w.origin k refl refl in
    follows_by s t p r (e ∷ []) w sound
    (record { names_none = one_names p.query e refl; holds = λ o ne. apart_stays s t stays o; doors = record { opened = refl; cancelled = refl; refreshed = refl } })
    k now refl refl refl

-- the query begins a flight
pub begun_follows : (s t : Sight) (p : Facts) (f : ℕ) (u : Target) → Writes (Began p.query f u ∷ []) s t → HandsStay s t → IsSightSound t → IsPlain u → Tells s p → Follows s t p (awaiting_pass f u p)
begun_follows s t p f u w stays sound plain k =
    let r = awaiting_pass f u p in
    let e = Began p.query f u in
    let knows = knows_over s t r e [] w sound refl (knows_begun t.keep f s.journal p u (allowed_by s t e [] w sound) plain k.knows) in
    let now = tells_by s t p r knows (hand_stays s t p r stays k refl refl) w.start w.origin k refl refl in
    follows_by s t p r (e ∷ []) w sound
    (record { names_none = one_names p.query e refl; holds = λ o ne. apart_stays s t stays o; doors = record { opened = refl; cancelled = refl; refreshed = refl } })
    k now refl refl refl

-- the query joins a flight
pub joined_follows : (s t : Sight) (p : Facts) (f : ℕ) (u : Target) → Writes (Joined p.query f ∷ []) s t → HandsStay s t → IsSightSound t → Flies (after s.journal) f u → IsPlain u → Tells s p → Follows s t p (awaiting_pass f u p)
joined_follows s t p f u w stays sound flies plain k =
    let r = awaiting_pass f u p in
    let e = Joined p.query f in
    let knows = knows_over s t r e [] w sound refl (knows_joined t.keep f s.journal p u (allowed_by s t e [] w sound) flies plain k.knows) in
    let now = tells_by s t p r knows (hand_stays s t p r stays k refl refl) w.start w.origin k refl refl in
    follows_by s t p r (e ∷ []) w sound
    (record { names_none = one_names p.query e refl; holds = λ o ne. apart_stays s t stays o; doors = record { opened = refl; cancelled = refl; refreshed = refl } })
    k now refl refl refl

-- the query takes an owed value
pub taken_follows : (s t : Sight) (p : Facts) (f : ℕ) (wreck : Bool) → Writes (Taken p.query f ∷ []) s t → HandsStay s t → IsSightSound t → is_wreck (slice_get (after s.journal).flights f) ≡ wreck → Tells s p
    → Follows s t p (taken_pass (only_if wreck (f ∷ [])) (awaits_but f p.awaits) p)
taken_follows s t p f wreck w stays sound is k =
    let r = taken_pass (only_if wreck (f ∷ [])) (awaits_but f p.awaits) p in
    let e = Taken p.query f in
    let one = knows_taken t.keep f s.journal p (awaits_but f p.awaits) (allowed_by s t e [] w sound) (without f p.awaits k.knows.awaits_once) k.knows in
    let knows = knows_over s t r e [] w sound refl (subst (λ (b : Bool). Knows (s.journal ++ e ∷ []) (taken_pass (only_if b (f ∷ [])) (awaits_but f p.awaits) p)) is one) in
    let now = tells_by s t p r knows (hand_stays s t p r stays k refl refl) w.start w.origin k refl refl in
    follows_by s t p r (e ∷ []) w sound
    (record { names_none = one_names p.query e refl; holds = λ o ne. apart_stays s t stays o; doors = record { opened = refl; cancelled = refl; refreshed = refl } })
    k now refl refl refl

-- ---- a flight that another query lost
knows_missed : (js : List Entry) (p : Facts) (f : ℕ) (t : Target) → Among (f, t) p.awaits → ¬ WaitsIn (after js) p.query f → ¬ IsOwed (after js) p.query f → Knows js p → Knows js (missed_pass f p)
knows_missed js p f t among no_wait no_debt k = record {
  entered = k.entered;
  calls = k.calls;
  live = k.live;
  asks = k.asks;
  losses = k.losses;
  wrecks = k.wrecks;
  lost = λ g w. ⊎_elim (λ (before : Among g p.lost). k.lost g before) (λ (same : f ≡ g). subst (λ n. WasLost js p.query n) same was) (last_or_before f g p.lost w);
  lost_once = once_more f p.lost k.lost_once (λ w. k.lost_apart f t among w);
  lost_apart = λ g u w in_lost. let old = but_only f g u p.awaits w in ⊎_elim
      (λ (before : Among g p.lost). k.lost_apart g u old.0 before)
      (λ (same : f ≡ g). old.1 (sym same))
      (last_or_before f g p.lost in_lost);
  awaits_once = but_once f p.awaits k.awaits_once;
  awaits = λ g u w. k.awaits g u (but_only f g u p.awaits w).0;
  all_awaits = λ g either. let w = k.all_awaits g either in (w.0, but_same f g w.0 p.awaits (λ i. apart g i either) w.1);
}
  where
    was : WasLost js p.query f
    was =
        ⊎_elim
        (λ (w : WaitsIn (after js) p.query f). absurd (no_wait w))
        (λ (rest : IsOwed (after js) p.query f ⊎ WasLost js p.query f). ⊎_elim (λ (o : IsOwed (after js) p.query f). absurd (no_debt o)) (λ (l : WasLost js p.query f). l) rest)
        (k.awaits f t among).stands

    apart : (g : ℕ) → g ≡ f → WaitsIn (after js) p.query g ⊎ IsOwed (after js) p.query g → ⊥
    apart g i either = ⊎_elim
        (λ (w : WaitsIn (after js) p.query g). no_wait (subst (λ n. WaitsIn (after js) p.query n) i w))
        (λ (o : IsOwed (after js) p.query g). no_debt (subst (λ n. IsOwed (after js) p.query n) i o))
        either

pub missed_follows : (s : Sight) (p : Facts) (f : ℕ) (t : Target) → Among (f, t) p.awaits → ¬ WaitsIn (after s.journal) p.query f → ¬ IsOwed (after s.journal) p.query f → Tells s p → Follows s s p (missed_pass f p)
missed_follows s p f t among no_wait no_debt k = record {
  told = k;
  now = record { knows = knows_missed s.journal p f t among no_wait no_debt k.knows; hand = k.hand; in_hand = k.in_hand; base = k.base; origin = k.origin };
  others = λ o ne h. h;
  opens = λ q ne. refl;
  doors = λ d h. h;
  query = refl;
  base = refl;
  origin = refl;
}
