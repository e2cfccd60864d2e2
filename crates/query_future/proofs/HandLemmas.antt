-- What is in hand, when it comes and goes.
use Rattle.std.specs.Prelude.{◌≡◌, ◌≢◌, ◌⊎◌, ◌↔◌, ◌&&◌, ◌||◌, ◌+◌, ◌<◌, ◌≤◌, ℕ, Bool, true, false, List, [], ◌∷◌, ◌++◌, map, length, slice_index_or, Option, Some, None, refl}
use Rattle.std.specs.List.{list_all, list_any}
use Rattle.std.proofs.Common.{sym, ◌∙◌, ap, subst, inl, inr, arith, true≢false}
use Rattle.std.proofs.lemmas.List.{get_or_default}
use Rattle.link_io.specs.Conn.{LinkFacts}
use Rattle.link_io.specs.Origin.{Origin}
use Rattle.link_io.specs.Parcel.{Packed}
use Rattle.link_io.specs.declared.target.Key.{Key}
use Rattle.link_io.specs.declared.target.Target.{Target}
use Rattle.fetch_flight.specs.Verdict.{comes_from, key_of, number_of, size_of}
use Rattle.fetch_flight.specs.declared.verdicts.Verdict.{Verdict}
use Rattle.closure_plan.specs.declared.need.Need.{Need}
use Rattle.closure_plan.specs.declared.need.Need.TheVariants as need
use Rattle.closure_plan.specs.Needs.{Wish, has_wish, is_given, same_wish}
use Rattle.closure_plan.proofs.NeedLemmas.{one_wish}
use Rattle.closure_plan.specs.Closure.{closure}
use Rattle.closure_plan.specs.Answered.{Answered}
use Rattle.closure_plan.specs.Plan.{HasNumber, IsReached, Known, Planned, given_count, has_given, its_done, its_leaves, its_needs, its_pins, wish_of}
use Rattle.flight_journal.specs.Count.{Among}
use Rattle.flight_rows.specs.Rows.{Comes, IsAimed}
use Rattle.flight_table.specs.Facts.{Facts, freed_pass, holding_pass, landed_pass, left_pass, lost_pass, missed_pass, taken_pass, wreck_of}
use Rattle.flight_table.specs.Follows.{Ends, HasParcel, HasValue, Parts, Removes}
use Rattle.query_needs.specs.Holders.{index_in, leaf_in}
use Rattle.query_needs.specs.Known.{IsKnown}
use Rattle.query_needs.specs.Outcomes.{AreFrom, Honest}
use Rattle.query_needs.specs.Takes.{IsNeeded, is_filled}
use Rattle.query_future.specs.declared.parts.Hand.{Hand}
use Rattle.query_future.specs.declared.parts.Hand.TheVariants as hand
use Rattle.query_future.specs.declared.parts.Pair.{Pair}
use Rattle.query_future.specs.declared.parts.Work.{Work}
use Rattle.query_future.specs.declared.parts.Work.TheVariants as work
use Rattle.query_future.specs.Sections.{Closes, Ending, Gets, IsWhole}
use Rattle.query_future.specs.Stands.{Answers, Fails, GoesOn, HasInHand, HasRequest, HoldsParcel, InHand, KeepsRequest, Rests, Stands, Tracked, is_going}
use Rattle.query_future.specs.Windows.{AskedBy, CountedBy, IsAt, Paired, as_await}
use Rattle.query_future.proofs.AmongLemmas.{front, nothing, removes_among}
use Rattle.query_future.proofs.StandsLemmas.{here, stands_counted}
use Rattle.query_future.proofs.WindowLemmas.{asked_widens, await_of, key_awaited, widens_same}

-- two pairs of one place are one
pub same_at : (ws : List Pair) (c : ℕ) (a b : Pair) → IsAt ws c a → IsAt ws c b → a ≡ b
same_at ws c a b i j = i.is ∙ get_or_default ws c a b i.low ∙ sym j.is

-- only what a pass has in hand, how many calls it made, and whether it is open changed
pub record SameFacts (f g : Facts) : Type 0 where
  pub asks : g.asks ≡ f.asks
  pub losses : g.losses ≡ f.losses
  pub wrecks : g.wrecks ≡ f.wrecks
  pub lost : g.lost ≡ f.lost
  pub base : g.base ≡ f.base
  pub origin : g.origin ≡ f.origin

pub hand_same : (f g : Facts) (h : Option ℕ) → g ≡ record f { hand = h } → SameFacts f g
hand_same f g h e = record { asks = ap (λ (z : Facts). z.asks) e; losses = ap (λ (z : Facts). z.losses) e; wrecks = ap (λ (z : Facts). z.wrecks) e; lost = ap (λ (z : Facts). z.lost) e; base = ap (λ (z : Facts). z.base) e; origin = ap (λ (z : Facts). z.origin) e }

pub left_same : (f g : Facts) → g ≡ left_pass f → SameFacts f g
left_same f g e = record { asks = ap (λ (z : Facts). z.asks) e; losses = ap (λ (z : Facts). z.losses) e; wrecks = ap (λ (z : Facts). z.wrecks) e; lost = ap (λ (z : Facts). z.lost) e; base = ap (λ (z : Facts). z.base) e; origin = ap (λ (z : Facts). z.origin) e }

module _ {L : Type 0} where
  asked_same : (k : Known (Verdict L) (Verdict L)) (f g : Facts) (asked : List Need) → AskedBy k f asked → g.asks ≡ f.asks → AskedBy k g asked
  asked_same k f g asked h a = record { needs_are = h.needs_are; keys = a ∙ h.keys }

  module _ (facts : L → LinkFacts) (from : L → Origin → Type 0) where
    abbrev Arrives : ℕ → Origin → ℕ → Target → Option ℕ → Verdict L → Type 0
    Arrives = Comes key_of size_of (number_of facts) (comes_from from)

    pub goes_same : (p : Planned (Verdict L) (Verdict L)) (f g : Facts) (ws : List Pair) (asked : List Need) (again : ℕ) → GoesOn facts from p f ws asked again → SameFacts f g → g.awaits ≡ f.awaits → GoesOn facts from p g ws asked again
    goes_same p f g ws asked again h s a = record {
      known = h.known;
      are_from = rw s.origin h.are_from;
      paired = record { marked = h.paired.marked; own = h.paired.own; keys = h.paired.keys; flights = h.paired.flights; awaits = ap (λ z. map as_await z) a ∙ h.paired.awaits };
      asked_by = asked_same p.known f g asked h.asked_by s.asks;
      counted = h.counted;
      window_asked = h.window_asked;
      ungiven = h.ungiven;
      few = record { losses = s.losses ∙ h.few.losses; again = rw (s.wrecks, s.lost) h.few.again };
    }

    -- a decided ending stays as it is
    pub ending_same : (w : Work L) (t u : Tracked) → is_going w ≡ false → Stands facts from w t → SameFacts t.pass u.pass → u.asked ≡ t.asked → u.again ≡ t.again → Stands facts from w u
    ending_same (work.Going p) t u e h s a n = absurd (true≢false e)
    ending_same (work.Failing part m v) t u e h s a n = rw (a, n) (record {
      fair = h.fair;
      are_from = rw s.origin h.are_from;
      own = record { flight = h.own.flight; among = rw s.wrecks h.own.among; number = rw s.base h.own.number; is_from = rw s.origin h.own.is_from };
      need = h.need;
      asked_by = asked_same part t.pass u.pass t.asked h.asked_by s.asks;
      few = record { losses = s.losses ∙ h.few.losses; again = rw (s.wrecks, s.lost) h.few.again };
    })
    ending_same (work.Answering x) t u e h s a n = rw (a, n) (record {
      honest = h.honest;
      are_from = rw s.origin h.are_from;
      asked_by = asked_same x.known t.pass u.pass t.asked h.asked_by s.asks;
      counted = h.counted;
      few = record { losses = s.losses ∙ h.few.losses; again = rw (s.wrecks, s.lost) h.few.again };
    })
    ending_same work.Memory t u e h s a n = rw (a, n) (record { asks = ap length s.asks ∙ h.asks; again = rw (s.wrecks, s.lost) h.again })

    pub work_same : (w : Work L) (t : Tracked) (g : Facts) (c : ℕ) → Stands facts from w t → SameFacts t.pass g → g.awaits ≡ t.pass.awaits → Stands facts from w (record t { pass = g; cursor = c })
    work_same (work.Going p) t g c h s a = goes_same p t.pass g t.window t.asked t.again h s a
    work_same (work.Failing part m v) t g c h s a = ending_same (work.Failing part m v) t (record t { pass = g; cursor = c }) refl h s refl refl
    work_same (work.Answering x) t g c h s a = ending_same (work.Answering x) t (record t { pass = g; cursor = c }) refl h s refl refl
    work_same work.Memory t g c h s a = ending_same work.Memory t (record t { pass = g; cursor = c }) refl h s refl refl

    -- want of memory, with nothing in hand: the counts stand
    pub rests_memory : (p : Planned (Verdict L) (Verdict L)) (t : Tracked) → Rests facts from (work.Going p) hand.Empty t → Rests facts from work.Memory hand.Empty t
    rests_memory p t h = record { stands = stands_counted facts from (work.Going p) t h.stands; in_hand = h.in_hand; cursor_in = h.cursor_in; few = h.few }

    -- ---- taking

    -- the parcel of the flight at the cursor is in hand now
    pub rests_flying : (p : Planned (Verdict L) (Verdict L)) (t : Tracked) (g : Facts) (w : Pair) (r : Packed L) → Rests facts from (work.Going p) hand.Empty t → IsAt t.window t.cursor w → HasParcel (IsAimed facts from t.pass.base t.pass.origin) w.flight t.pass r → g ≡ holding_pass w.flight t.pass → Rests facts from (work.Going p) (hand.Fresh r) (record t { pass = g })
    rests_flying p t g w r h i y e = record {
      stands = goes_same p t.pass g t.window t.asked t.again h.stands (hand_same t.pass g (Some w.flight) e) (ap (λ (z : Facts). z.awaits) e);
      in_hand = (refl, (record { pair = w; at = i; hand = ap (λ (z : Facts). z.hand) e }, rw e y));
      cursor_in = h.cursor_in;
      few = h.few;
    }

    pub ends_gets : (x : ℕ) (v : Verdict L) (f g : Facts) → Ends (Arrives f.base f.origin) x v f g → Gets facts from x v f g
    ends_gets x v f g y = record {
      target = y.target;
      removes = y.removes;
      value = subst (λ z. Arrives f.base f.origin x y.target z v) (sym y.so.sized) y.so;
      asks = ap (λ (z : Facts). z.asks) y.is;
      wrecks = ap (λ (z : Facts). z.wrecks) y.is ∙ ap (λ z. f.wrecks ++ wreck_of x z) (sym y.so.sized);
      lost = ap (λ (z : Facts). z.lost) y.is;
      losses = ap (λ (z : Facts). z.losses) y.is;
      base = ap (λ (z : Facts). z.base) y.is;
      origin = ap (λ (z : Facts). z.origin) y.is;
    }

    -- the flight at the cursor is awaited, so it was lost by another query where nothing comes of it
    pub misses_here : (p : Planned (Verdict L) (Verdict L)) (f g : Facts) (ws : List Pair) (c : ℕ) (w : Pair) → Paired p f ws → IsAt ws c w → Parts w.flight (λ rest. missed_pass w.flight f) f g ⊎ (((t : Target) → ¬ Among (w.flight, t) f.awaits) × (g ≡ f)) → Parts w.flight (λ rest. missed_pass w.flight f) f g
    misses_here p f g ws c w h i m = elim m [ inl y ↦ y | inr n ↦ absurd (let a = await_of p f ws h w (here ws c w i) in n.0 a.0 a.1.0) ]

    -- ---- landing

    lands_gets : (p : Planned (Verdict L) (Verdict L)) (f g : Facts) (ws : List Pair) (c : ℕ) (w : Pair) (v : Verdict L) → Paired p f ws → IsAt ws c w → HasValue (Arrives f.base f.origin) w.flight f (size_of v) v → Parts w.flight (λ rest. landed_pass w.flight (size_of v) rest f) f g → Gets facts from w.flight v f g
    lands_gets p f g ws c w v h i m y =
        let k : m.0.key ≡ y.target.key = key_awaited p f ws h w (here ws c w i) m.0 m.1 ∙ sym (key_awaited p f ws h w (here ws c w i) y.target (removes_among (w.flight, y.target) f.awaits g.awaits y.removes)) in
        record {
          target = y.target;
          removes = y.removes;
          value = record { keyed = m.2.keyed ∙ k; sized = refl; is_from = m.2.is_from; numbered = m.2.numbered };
          asks = ap (λ (z : Facts). z.asks) y.is;
          wrecks = ap (λ (z : Facts). z.wrecks) y.is;
          lost = ap (λ (z : Facts). z.lost) y.is;
          losses = ap (λ (z : Facts). z.losses) y.is;
          base = ap (λ (z : Facts). z.base) y.is;
          origin = ap (λ (z : Facts). z.origin) y.is;
        }

    -- the value in hand landed, so its copy may be taken in
    pub landed_gets : (p : Planned (Verdict L) (Verdict L)) (t : Tracked) (g : Facts) (w : Pair) (v u : Verdict L) → v ≡ u → GoesOn facts from p t.pass t.window t.asked t.again → (i : InHand facts from t) → HasValue (Arrives t.pass.base t.pass.origin) i.pair.flight t.pass (size_of v) v → IsAt t.window t.cursor w → Parts w.flight (λ rest. landed_pass w.flight (size_of v) rest t.pass) t.pass g → Gets facts from w.flight u t.pass g
    landed_gets p t g w v u e h i m j y =
        let s = same_at t.window t.cursor i.pair w i.at j in
        subst (λ z. Gets facts from w.flight z t.pass g) e
        (lands_gets p t.pass g t.window t.cursor w v h.paired j (subst (λ (z : Pair). HasValue (Arrives t.pass.base t.pass.origin) z.flight t.pass (size_of v) v) s m) y)

    -- the flight in hand was lost, for want of memory
    pub rests_lost : (p : Planned (Verdict L) (Verdict L)) (t : Tracked) (g : Facts) (x : ℕ) → Rests facts from (work.Going p) hand.Refused t → Parts x (λ rest. lost_pass rest t.pass) t.pass g → Rests facts from work.Memory hand.Empty (record t { pass = g })
    rests_lost p t g x h y =
        let e = stands_counted facts from (work.Going p) t h.stands in
        let u : g.wrecks ≡ t.pass.wrecks = ap (λ (z : Facts). z.wrecks) y.is in
        let k : g.lost ≡ t.pass.lost = ap (λ (z : Facts). z.lost) y.is in
        record {
          stands = record { asks = ap (λ (z : Facts). length z.asks) y.is ∙ e.asks; again = rw (u, k) e.again };
          in_hand = ap (λ (z : Facts). z.hand) y.is;
          cursor_in = h.cursor_in;
          few = h.few;
        }

    -- ---- closing

    nil_from_none : (ws : List Pair) → ((w : Pair) → Among w ws → ⊥) → ws ≡ []
    nil_from_none [] h = refl
    nil_from_none (w ∷ ws) h = absurd (h w (front w ws))

    -- where all is done the window is empty
    done_empty : (p : Planned (Verdict L) (Verdict L)) (f : Facts) (ws : List Pair) (asked : List Need) (again : ℕ) → GoesOn facts from p f ws asked again → ((m : Need) → IsNeeded p.known m → is_filled p.known m ≡ true) → ws ≡ []
    done_empty p f ws asked again h given = nil_from_none ws (λ w m. true≢false (sym (given w.need (h.paired.own w m).needed) ∙ h.ungiven w m))

    -- the answer of a plan that is done
    stands_done : (p : Planned (Verdict L) (Verdict L)) (t : Tracked) (a : Answered (Verdict L) (Verdict L)) → GoesOn facts from p t.pass t.window t.asked t.again → its_done index_in leaf_in p.known ≡ true → IsWhole (work.Going p) → a.known ≡ p.known → a.rows ≡ closure p.known.request (its_pins index_in leaf_in p.known) (its_leaves index_in leaf_in p.known) → Answers facts from a t.pass t.asked t.again
    stands_done p t a h d w k r =
        let wide = widens_same p.known a.known k in
        record {
          honest = record { request = refl; reached = subst (IsReached index_in leaf_in) (sym k) w.0; known = subst (IsKnown facts) (sym k) h.known; whole = ap (its_done index_in leaf_in) k ∙ d; rows = rw k r };
          are_from = subst (AreFrom from t.pass.origin) (sym k) h.are_from;
          asked_by = asked_widens p.known a.known t.pass t.pass t.asked h.asked_by wide refl;
          counted = record {
            given = subst (λ k. (m : Need) → IsNeeded k m → is_filled k m ≡ true → Among m t.asked) (sym k) h.counted.given;
            count = let b : length t.window ≡ 0 = ap length (done_empty p t.pass t.window t.asked t.again h w.1) in let c : length t.asked ≡ t.again + length t.window + given_count p.known = h.counted.count in let e : given_count a.known ≡ given_count p.known = ap given_count k in omega arith;
          };
          few = h.few;
        }

    -- what stands once the ending is decided and the pass is closed
    pub stands_ended : (w r : Work L) (t u : Tracked) → Stands facts from w t → Closes w → IsWhole w → Ending w r → SameFacts t.pass u.pass → u.asked ≡ t.asked → u.again ≡ t.again → Stands facts from r u
    stands_ended (work.Going p) (work.Going q) t u h c z e s a n = absurd e
    stands_ended (work.Going p) (work.Failing part m v) t u h c z e s a n = absurd e
    stands_ended (work.Going p) (work.Answering x) t u h c z e s a n = ending_same (work.Answering x) t u refl (stands_done p t x h c z e.0 e.1) s a n
    stands_ended (work.Going p) work.Memory t u h c z e s a n = ending_same work.Memory t u refl (stands_counted facts from (work.Going p) t h) s a n
    stands_ended (work.Failing part m v) r t u h c z e s a n = subst (λ z. Stands facts from z u) (sym e) (ending_same (work.Failing part m v) t u refl h s a n)
    stands_ended (work.Answering x) r t u h c z e s a n = subst (λ z. Stands facts from z u) (sym e) (ending_same (work.Answering x) t u refl h s a n)
    stands_ended work.Memory r t u h c z e s a n = subst (λ z. Stands facts from z u) (sym e) (ending_same work.Memory t u refl h s a n)

    -- the pass closed
    pub rests_closed : (w r : Work L) (t : Tracked) (g : Facts) → Rests facts from w hand.Empty t → Closes w → IsWhole w → Ending w r → g ≡ left_pass t.pass → Rests facts from r hand.Empty (record t { pass = g })
    rests_closed w r t g h c z e s = record {
      stands = stands_ended w r t (record t { pass = g }) h.stands c z e (left_same t.pass g s) refl refl;
      in_hand = ap (λ (z : Facts). z.hand) s ∙ h.in_hand;
      cursor_in = h.cursor_in;
      few = h.few;
    }

    -- a parcel was put back
    pub rests_put : (w : Work L) (t : Tracked) (g : Facts) (p : Packed L) → Rests facts from w (hand.Stepped p) t → g ≡ freed_pass t.pass → t.cursor + 1 ≤ length t.window → Rests facts from w hand.Empty (record t { pass = g; cursor = t.cursor + 1 })
    rests_put w t g p h e l = record {
      stands = work_same w t g (t.cursor + 1) h.stands (hand_same t.pass g None e) (ap (λ (z : Facts). z.awaits) e);
      in_hand = ap (λ (z : Facts). z.hand) e;
      cursor_in = l;
      few = h.few;
    }

-- each need is given where all are, by what a plan says of its needs
all_of : (p : Wish → Bool) (x : Wish) (xs : List Wish) → list_all p xs ≡ true → list_any (same_wish x) xs ≡ true → p x ≡ true
all_of p x [] a b = absurd (true≢false (sym b))
all_of p x (y ∷ xs) a b = all_cons (p x) (p y) (list_all p xs) (same_wish x y) (list_any (same_wish x) xs) (λ e. ap p (one_wish x y e)) (λ c d. all_of p x xs c d) a b
  where
    all_cons : (px py ps sy ss : Bool) → (sy ≡ true → px ≡ py) → (ps ≡ true → ss ≡ true → px ≡ true) → (py && ps) ≡ true → (sy || ss) ≡ true → px ≡ true
    all_cons px true ps true ss i j a b = i refl
    all_cons px true ps false ss i j a b = j a b
    all_cons px false ps sy ss i j a b = absurd (true≢false (sym a))

module _ {L : Type 0} where
  has_number : (k : Known (Verdict L) (Verdict L)) (m : Need) → IsNeeded k m → HasNumber k.names m
  has_number k (need.Index s) n = tt
  has_number k (need.Shard s x) n = n.0

  pub each_given : (k : Known (Verdict L) (Verdict L)) → its_done index_in leaf_in k ≡ true → ((m : Need) → HasNumber k.names m → IsNeeded k m ↔ (has_wish (its_needs index_in leaf_in k) (wish_of k.names m) ≡ true)) → (m : Need) → IsNeeded k m → is_filled k m ≡ true
  each_given k d are m n = all_of (is_given (its_pins index_in leaf_in k) (its_leaves index_in leaf_in k)) (wish_of k.names m) (its_needs index_in leaf_in k) d ((are m (has_number k m n)).0 n)
