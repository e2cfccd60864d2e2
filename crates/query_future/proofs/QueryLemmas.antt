-- A section, from what its turn did, and a query that begins.
use Rattle.std.specs.Prelude.{◌≡◌, ◌≤◌, ◌+◌, ℕ, zero, suc, Bool, true, false, List, [], ◌∷◌, map, length, slice_get, Option, Some, None, is_some, cond, fold, refl}
use Rattle.std.specs.List.{All, count_by}
use Rattle.std.specs.Option.{option_map, option_flatten}
use Rattle.std.proofs.Common.{sym, ◌∙◌, ap, subst, arith, true≢false}
use Rattle.std.proofs.lemmas.Option.{none-some}
use Rattle.std.proofs.lemmas.List.Elements.{All-nil}
use Rattle.link_io.specs.Conn.{LinkFacts}
use Rattle.link_io.specs.Origin.{Origin, plain}
use Rattle.fetch_flight.specs.declared.verdicts.Verdict.{Verdict}
use Rattle.closure_request.specs.Slots.{slots}
use Rattle.closure_plan.specs.declared.need.Need.{Need}
use Rattle.closure_plan.specs.declared.need.Need.TheVariants as need
use Rattle.closure_plan.specs.Given.{pin_at}
use Rattle.closure_plan.specs.Plan.{Known, Placed, Planned, given_count, its_pins, name_at, pins_of}
use Rattle.closure_plan.specs.Start.{IsUntouched, unpinned}
use Rattle.shard_index.specs.Index as indexes
use Rattle.flight_journal.specs.Count.{Among}
use Rattle.flight_rows.specs.Sight.{Sight}
use Rattle.flight_table.specs.Facts.{Facts, new_pass}
use Rattle.query_needs.specs.Holders.{index_in, leaf_in}
use Rattle.query_needs.specs.Known.{IsKnown, IsLeafHeld}
use Rattle.query_needs.specs.Takes.{IsNeeded, is_filled}
use Rattle.query_needs.specs.Targets.{IsFormed}
use Rattle.query_needs.proofs.PinLemmas.{wanted_pinned}
use Rattle.query_future.specs.declared.parts.Did.{Did}
use Rattle.query_future.specs.declared.parts.Hand.{Hand}
use Rattle.query_future.specs.declared.parts.Hand.TheVariants as hand
use Rattle.query_future.specs.declared.parts.Work.{Work}
use Rattle.query_future.specs.declared.parts.Work.TheVariants as work
use Rattle.query_future.specs.Dues.{counted}
use Rattle.query_future.specs.Queries.{IsQuery, Queried, Turns}
use Rattle.query_future.specs.Sections.{Turned}
use Rattle.query_future.specs.Stands.{GoesOn, HasInHand, KeepsRequest, Rests, Stands, Tracked, is_going}
use Rattle.query_future.specs.Windows.{as_await}
use Rattle.query_future.proofs.AmongLemmas.{nothing, once_none}

-- some table
pub no_sight : Sight
no_sight = record { journal = []; keep = 0; start = []; dialed = []; origin = plain None; hands = [] }

module _ {L : Type 0} (facts : L → LinkFacts) (from : L → Origin → Type 0) where
  pub query_turned : (s t : Sight) (old : Tracked) (was : Work L) (q : Queried L) (w : Work L) (h : Hand L) → Turned facts from s t old q.track was w h → q.work ≡ w → q.hand ≡ h → IsQuery facts from q
  query_turned s t old was q w h y e f = record {
    rests = subst (λ (z : Work L). Rests facts from z q.hand q.track) (sym e) (subst (λ (z : Hand L). Rests facts from w z q.track) (sym f) y.rests);
    over = λ l. let o = y.over l in (f ∙ o.0, ap is_going e ∙ o.1);
  }

  pub turn_seen : (s t : Sight) (i q : Queried L) (was w : Work L) (h : Hand L) (d : Did) → Turned facts from s t i.track q.track was w h → was ≡ i.work → q.work ≡ w → q.hand ≡ h → q.counts ≡ counted d i.counts → Turns facts from s t i q d
  turn_seen s t i q was w h d y a e f n = record {
    carries = y.carries;
    is_query = query_turned s t i.track was q w h y e f;
    request = subst (λ z. KeepsRequest z q.work) a (subst (λ z. KeepsRequest was z) (sym e) y.request);
    counts = n;
  }

  -- ---- a query that begins

  no_pin : {P : Type 0} (n s : ℕ) (x : P) → slice_get (unpinned {P = P} n) s ≡ Some (Some x) → ⊥
  no_pin zero s x e = none-some (Some x) e
  no_pin (suc n) zero x e = let z : ⊥ = cc in z
  no_pin (suc n) (suc s) x e = no_pin n s x e

  no_pin_at : (n s : ℕ) → is_some (pin_at (pins_of (index_in {L = L}) (unpinned n)) s) ≡ false
  no_pin_at zero s = refl
  no_pin_at (suc n) zero = refl
  no_pin_at (suc n) (suc s) = no_pin_at n s

  none_counted : (n m : ℕ) → fold (λ a (x : Option (Verdict L)). a + cond (is_some x) 1 0) m (unpinned n) ≡ m
  none_counted zero m = refl
  none_counted (suc n) m = let a : m + 0 ≡ m = omega arith in ap (λ z. fold (λ a (x : Option (Verdict L)). a + cond (is_some x) 1 0) z (unpinned n)) a ∙ none_counted n m

  module _ (p : Planned (Verdict L) (Verdict L)) (h : IsUntouched p.known.request p) (formed : IsFormed p.known.request) where
    no_pins : (s : ℕ) (v : Verdict L) → slice_get p.known.pins s ≡ Some (Some v) → ⊥
    no_pins s v e = no_pin (length (slots p.known.request)) s v (subst (λ ps. slice_get ps s ≡ Some (Some v)) h.pins e)

    nothing_pinned : (s : ℕ) → is_some (pin_at (its_pins index_in leaf_in p.known) s) ≡ false
    nothing_pinned s = ap (λ ps. is_some (pin_at (pins_of index_in ps) s)) h.pins ∙ no_pin_at (length (slots p.known.request)) s

    nothing_given : (m : Need) → IsNeeded p.known m → is_filled p.known m ≡ true → ⊥
    nothing_given (need.Index s) n e = true≢false (sym e ∙ nothing_pinned s)
    nothing_given (need.Shard s k) n e = true≢false (sym (wanted_pinned p.known.request (its_pins index_in leaf_in p.known) s (name_at p.known.names k) n.1) ∙ nothing_pinned s)

    none_given : given_count p.known ≡ 0
    none_given = let a : count_by is_some p.known.pins ≡ 0 = ap (count_by is_some) h.pins ∙ none_counted (length (slots p.known.request)) 0 in let b : length p.known.leaves ≡ 0 = ap length h.leaves in omega arith

    pub goes_new : (f : Facts) → f ≡ new_pass f.query f.base f.origin → GoesOn facts from p f [] [] 0
    goes_new f e = record {
      known = record { formed = formed; pins = λ s v w. absurd (no_pins s v w); leaves = subst (All (λ (l : Placed (Verdict L)). IsLeafHeld l.holder)) (sym h.leaves) (All-nil (λ (l : Placed (Verdict L)). IsLeafHeld l.holder)) };
      are_from = λ s v w. absurd (no_pins s v w);
      paired = record { marked = h.marked; own = λ w m. absurd (nothing w m); keys = once_none; flights = once_none; awaits = ap (λ (z : Facts). map as_await z.awaits) e };
      asked_by = record { needs_are = λ m a. absurd (nothing m a); keys = ap (λ (z : Facts). z.asks) e };
      counted = record { given = λ m n t. absurd (nothing_given m n t); count = let a : given_count p.known ≡ 0 = none_given in omega arith };
      window_asked = λ w m. absurd (nothing w m);
      ungiven = λ w m. absurd (nothing w m);
      few = record { losses = ap (λ (z : Facts). z.losses) e; again = omega arith };
    }

    -- a query that has asked for nothing
    pub query_new : (f : Facts) → f ≡ new_pass f.query f.base f.origin → (counts : List ℕ) → IsQuery facts from (record { track = record { pass = f; window = []; cursor = 0; asked = []; again = 0 }; work = work.Going p; hand = hand.Empty; counts = counts })
    query_new f e counts = record {
      rests = record { stands = goes_new f e; in_hand = ap (λ (z : Facts). z.hand) e; cursor_in = omega arith; few = omega arith };
      over = λ l. absurd (true≢false (sym (ap (λ (z : Facts). z.live) e) ∙ l));
    }
