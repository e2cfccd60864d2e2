-- A turn, from what its call did.
use Rattle.std.specs.Prelude.{◌≡◌, ◌≢◌, ◌<◌, ◌≤◌, ◌+◌, ◌⊎◌, ℕ, Bool, true, false, List, length, Option, Some, None, refl}
use Rattle.std.proofs.Common.{sym, ◌∙◌, ap, subst, inl, inr, arith, true≢false}
use Rattle.link_io.specs.Conn.{LinkFacts}
use Rattle.link_io.specs.Origin.{Origin}
use Rattle.link_io.specs.Parcel.{Packed}
use Rattle.link_io.specs.declared.target.Key.{Key}
use Rattle.link_io.specs.declared.target.Target.{Target}
use Rattle.http_reply.specs.Going.{IsUndecided}
use Rattle.fetch_flight.specs.Verdict.{IsLandedFrom, comes_from, key_of, number_of, size_of}
use Rattle.fetch_flight.specs.declared.verdicts.Verdict.{Verdict}
use Rattle.closure_plan.specs.Plan.{Planned}
use Rattle.flight_rows.specs.Rows.{Comes, IsAimed}
use Rattle.flight_rows.specs.Sight.{Sight}
use Rattle.flight_table.specs.Facts.{Facts}
use Rattle.flight_table.specs.Follows.{Follows, HasParcel, HasValue}
use Rattle.query_future.specs.declared.parts.Did.{Did}
use Rattle.query_future.specs.declared.parts.Did.TheVariants as did
use Rattle.query_future.specs.declared.parts.Hand.{Hand}
use Rattle.query_future.specs.declared.parts.Hand.TheVariants as hand
use Rattle.query_future.specs.declared.parts.Work.{Work}
use Rattle.query_future.specs.declared.parts.Work.TheVariants as work
use Rattle.query_future.specs.Sections.{AfterStep, SameTrack, Turned}
use Rattle.query_future.specs.Steps.{Steps}
use Rattle.query_future.proofs.StandsLemmas.{stands_counted}
use Rattle.query_future.specs.Stands.{Carries, HasInHand, HasRequest, HoldsParcel, HoldsValue, KeepsRequest, Rests, Stands, Tracked, is_going}

pub carries_same : (s : Sight) (p : Facts) → Carries s s p p
carries_same s p = record { now = λ h. h; others = λ o n h. h; opens = λ q n. refl; doors = λ d h. h; query = refl; base = refl; origin = refl }

pub carries_by : (s t : Sight) (p r : Facts) → Follows s t p r → Carries s t p r
carries_by s t p r f = record { now = λ h. f.now; others = f.others; opens = f.opens; doors = f.doors; query = f.query; base = f.base; origin = f.origin }

module _ {L : Type 0} where
  pub keeps_going : (w r : Work L) (p : Planned (Verdict L) (Verdict L)) → w ≡ work.Going p → KeepsRequest (work.Going p) r → KeepsRequest w r
  keeps_going w r p e k = subst (λ z. KeepsRequest z r) (sym e) k

  pub request_step : (w r : Work L) (d : Did) → AfterStep w d r → KeepsRequest w r
  request_step w r d a = elim a [ inl z ↦ (λ q h. subst (λ j. HasRequest q j) (sym z.1) tt) | inr z ↦ (λ q h. subst (λ j. HasRequest q j) (sym z.1) h) ]

  going_step : (w r : Work L) (d : Did) → AfterStep w d r → d ≡ did.Judged → is_going w ≡ true → is_going r ≡ true
  going_step w r d a n g = elim a [ inl z ↦ absurd (let e : did.Judged ≡ did.Ended = sym n ∙ z.0 in let b : ⊥ = cc in b) | inr z ↦ ap is_going z.1 ∙ g ]

  module _ (facts : L → LinkFacts) (from : L → Origin → Type 0) where
    pub turned_live : (s t : Sight) (old new : Tracked) (was now : Work L) (h : Hand L) → Rests facts from now h new → Carries s t old.pass new.pass → KeepsRequest was now → new.pass.live ≡ true → Turned facts from s t old new was now h
    turned_live s t old new was now h r f k l = record { rests = r; carries = f; request = k; over = λ e. absurd (true≢false (sym l ∙ e)) }

    pub ask_rests : (w r : Work L) (h : Hand L) (t u : Tracked) → Rests facts from w h t → h ≡ hand.Empty → length t.window < 8 → Stands facts from r u → SameTrack t u → Rests facts from r h u
    ask_rests w r h t u y e n s m = record {
      stands = s;
      in_hand = subst (λ z. HasInHand facts from z r u) (sym e) (m.hand ∙ subst (λ z. HasInHand facts from z w t) e y.in_hand);
      cursor_in = let a : t.cursor ≤ length t.window = y.cursor_in in let b : u.cursor ≡ t.cursor = m.cursor in let c : length t.window ≤ length u.window = m.longer in omega arith;
      few = let c : length u.window ≤ length t.window + 1 = m.few in omega arith;
    }

    stands_at : (w : Work L) (t : Tracked) (c : ℕ) → Stands facts from w t → Stands facts from w (record t { cursor = c })
    stands_at (work.Going p) t c s = s
    stands_at (work.Failing part m v) t c s = s
    stands_at (work.Answering a) t c s = s
    stands_at work.Memory t c s = s

    -- the same query with nothing in hand and the cursor at another place of the window
    pub rests_begun : (w : Work L) (p : Planned (Verdict L) (Verdict L)) (h : Hand L) (t : Tracked) (c : ℕ) → Rests facts from w h t → h ≡ hand.Empty → w ≡ work.Going p → c ≤ length t.window → Rests facts from (work.Going p) hand.Empty (record t { cursor = c })
    rests_begun w p h t c y e g l = record {
      stands = stands_at (work.Going p) t c (subst (λ z. Stands facts from z t) g y.stands);
      in_hand = subst (λ z. HasInHand facts from z w t) e y.in_hand;
      cursor_in = l;
      few = y.few;
    }

    pub rests_at : (w : Work L) (h : Hand L) (t : Tracked) (c : ℕ) → Rests facts from w h t → h ≡ hand.Empty → c ≤ length t.window → Rests facts from w h (record t { cursor = c })
    rests_at w h t c y e l = record {
      stands = stands_at w t c y.stands;
      in_hand = subst (λ z. HasInHand facts from z w (record t { cursor = c })) (sym e) (subst (λ z. HasInHand facts from z w t) e y.in_hand);
      cursor_in = l;
      few = y.few;
    }

    stands_step : (w r : Work L) (d : Did) (t : Tracked) → AfterStep w d r → Stands facts from w t → Stands facts from r t
    stands_step w r d t a s = elim a [ inl z ↦ subst (λ j. Stands facts from j t) (sym z.1) (stands_counted facts from w t s) | inr z ↦ subst (λ j. Stands facts from j t) (sym z.1) s ]

    judged_holds : (t : Tracked) (p : Packed L) (v : Verdict L) → HoldsParcel facts from t p → IsLandedFrom facts from p v → HoldsValue facts from t v
    judged_holds t p v h j =
        let a = h.1.3 in (
          h.0,
          (
            h.1.0,
            h.1.1,
            record {
              keyed = j.key ∙ ap (λ (z : Target). z.key) a.aimed;
              sized = refl;
              is_from = j.from t.pass.origin a.is_from;
              numbered = λ n. j.number n ∙ ap Some a.numbered;
            },
          ),
        )

    stepped_holds : (t : Tracked) (p r : Packed L) → HoldsParcel facts from t p → r.target ≡ p.target → (facts r.link).number ≡ (facts p.link).number → ((o : Origin) → from p.link o → from r.link o) → r.broken ≡ false → IsUndecided r → HoldsParcel facts from t r
    stepped_holds t p r h e n f b u =
        let a = h.1.3 in (
          h.0,
          (
            h.1.0,
            h.1.1,
            h.1.2,
            record {
              aimed = e ∙ a.aimed;
              numbered = n ∙ a.numbered;
              is_from = f t.pass.origin a.is_from;
              whole = b;
              undecided = u;
            },
          ),
        )

    pub rests_stepped : (w r : Work L) (p : Packed L) (h : Hand L) (d : Did) (t : Tracked) → Rests facts from w (hand.Fresh p) t → Steps facts from p h d → AfterStep w d r → Rests facts from r h t
    rests_stepped w r p hand.Empty d t y s a = absurd s
    rests_stepped w r p (hand.Fresh q) d t y s a = absurd s
    rests_stepped w r p (hand.Stepped q) d t y s a = record {
      stands = stands_step w r d t a y.stands;
      in_hand = stepped_holds t p q y.in_hand.1 s.1 s.2 s.3 s.0.whole s.0.undecided;
      cursor_in = y.cursor_in;
      few = y.few;
    }
    rests_stepped w r p (hand.Judged u v) d t y s a = record {
      stands = stands_step w r d t a y.stands;
      in_hand = (going_step w r d a s.0 y.in_hand.0, s.1, judged_holds t p u.value y.in_hand.1 s.2);
      cursor_in = y.cursor_in;
      few = y.few;
    }
    rests_stepped w r p hand.Refused d t y s a = record {
      stands = stands_step w r d t a y.stands;
      in_hand = (going_step w r d a s y.in_hand.0, y.in_hand.1.0);
      cursor_in = y.cursor_in;
      few = y.few;
    }

    pub rests_as : (w v : Work L) (h i : Hand L) (t : Tracked) → w ≡ v → h ≡ i → Rests facts from w h t → Rests facts from v i t
    rests_as w v h i t p q r = subst (λ z. Rests facts from z i t) p (subst (λ z. Rests facts from w z t) q r)
