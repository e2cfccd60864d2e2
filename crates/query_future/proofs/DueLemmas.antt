-- What is known where a section is due.
use Rattle.std.specs.Prelude.{◌≡◌, ◌≢◌, ◌<◌, ◌≤◌, ◌&&◌, ◌+◌, ℕ, Bool, true, false, nat_lt, is_some, List, [], ◌∷◌, length, Option, Some, None, refl, cond, if◌then◌else◌, map}
use Rattle.std.proofs.Common.{sym, ◌∙◌, ap, subst, inl, inr, arith, true≢false}
use Rattle.std.proofs.lemmas.Bool.{ltb-true, ltb-false}
use Rattle.fetch_flight.specs.declared.verdicts.Verdict.{Verdict}
use Rattle.closure_plan.specs.declared.need.Need.{Need}
use Rattle.closure_plan.specs.Needs.{Wish, next_wish}
use Rattle.closure_plan.specs.Laws.{EndIsDone}
use Rattle.closure_plan.specs.Plan.{Planned, its_done, its_leaves, its_next, its_pins, wish_of}
use Rattle.flight_table.specs.Facts.{Facts}
use Rattle.query_needs.specs.Holders.{index_in, leaf_in}
use Rattle.query_future.specs.declared.parts.Due.{Due}
use Rattle.query_future.specs.declared.parts.Due.TheVariants as due
use Rattle.query_future.specs.declared.parts.Hand.{Hand}
use Rattle.query_future.specs.declared.parts.Hand.TheVariants as hand
use Rattle.query_future.specs.declared.parts.Pair.{Pair}
use Rattle.query_future.specs.declared.parts.Work.{Work}
use Rattle.query_future.specs.declared.parts.Work.TheVariants as work
use Rattle.query_future.specs.Dues.{due_by, due_work}
use Rattle.query_future.specs.Sections.{Closes}
use Rattle.query_future.specs.Windows.{Paired, need_of}

-- ---- Ask

pub record AsksNow {L : Type 0} (l : Bool) (h : Hand L) (w : Work L) (n : ℕ) : Type 0 where
  pub live : l ≡ true
  pub empty : h ≡ hand.Empty
  pub plan : Planned (Verdict L) (Verdict L)
  pub going : w ≡ work.Going plan
  pub next : is_some (its_next index_in leaf_in plan) ≡ true
  pub few : n < 8

ask_bools : (n : ℕ) (d l s : Bool) → nat_lt n 8 ≡ l → cond d due.Close (cond (l && s) due.Ask due.Take) ≡ due.Ask → (s ≡ true) × (n < 8)
ask_bools n true l s a e = absurd (let z : ⊥ = cc in z)
ask_bools n false true true a e = (refl, ltb-true n 8 a)
ask_bools n false true false a e = absurd (let z : ⊥ = cc in z)
ask_bools n false false s a e = absurd (let z : ⊥ = cc in z)

module _ {L : Type 0} where
  pub ask_due : (l : Bool) (h : Hand L) (w : Work L) (n : ℕ) → due_by l h w n ≡ due.Ask → AsksNow l h w n
  ask_due false h w n e = absurd (let z : ⊥ = cc in z)
  ask_due true (hand.Fresh p) w n e = absurd (let z : ⊥ = cc in z)
  ask_due true (hand.Stepped p) w n e = absurd (let z : ⊥ = cc in z)
  ask_due true (hand.Judged u v) w n e = absurd (let z : ⊥ = cc in z)
  ask_due true hand.Refused w n e = absurd (let z : ⊥ = cc in z)
  ask_due true hand.Empty (work.Going p) n e = let r = ask_bools n (its_done index_in leaf_in p.known) (nat_lt n 8) (is_some (its_next index_in leaf_in p)) refl e in record { live = refl; empty = refl; plan = p; going = refl; next = r.0; few = r.1 }
  ask_due true hand.Empty (work.Failing a b c) n e = absurd (let z : ⊥ = cc in z)
  ask_due true hand.Empty (work.Answering a) n e = absurd (let z : ⊥ = cc in z)
  ask_due true hand.Empty work.Memory n e = absurd (let z : ⊥ = cc in z)

-- ---- Take

none_is : {A : Type 0} (o : Option A) → is_some o ≡ false → o ≡ None
none_is None e = refl
none_is (Some x) e = absurd (true≢false e)

pair_there : (ws : List Pair) → (ws ≡ [] → ⊥) → 0 < length ws
pair_there [] h = absurd (h refl)
pair_there (w ∷ ws) h = omega arith

pub record TakesNow {L : Type 0} (l : Bool) (h : Hand L) (w : Work L) (n : ℕ) : Type 0 where
  pub live : l ≡ true
  pub empty : h ≡ hand.Empty
  pub plan : Planned (Verdict L) (Verdict L)
  pub going : w ≡ work.Going plan
  pub undone : its_done index_in leaf_in plan.known ≡ false
  pub none : n < 8 → is_some (its_next index_in leaf_in plan) ≡ false

take_bools : (n : ℕ) (d l s : Bool) → nat_lt n 8 ≡ l → cond d due.Close (cond (l && s) due.Ask due.Take) ≡ due.Take → (d ≡ false) × (n < 8 → s ≡ false)
take_bools n true l s a e = absurd (let z : ⊥ = cc in z)
take_bools n false true true a e = absurd (let z : ⊥ = cc in z)
take_bools n false true false a e = (refl, λ _. refl)
take_bools n false false s a e = (refl, λ h. absurd (let z : 8 ≤ n = ltb-false n 8 a in omega arith))

module _ {L : Type 0} where
  pub take_due : (l : Bool) (h : Hand L) (w : Work L) (n : ℕ) → due_by l h w n ≡ due.Take → TakesNow l h w n
  take_due false h w n e = absurd (let z : ⊥ = cc in z)
  take_due true (hand.Fresh p) w n e = absurd (let z : ⊥ = cc in z)
  take_due true (hand.Stepped p) w n e = absurd (let z : ⊥ = cc in z)
  take_due true (hand.Judged u v) w n e = absurd (let z : ⊥ = cc in z)
  take_due true hand.Refused w n e = absurd (let z : ⊥ = cc in z)
  take_due true hand.Empty (work.Going p) n e = let r = take_bools n (its_done index_in leaf_in p.known) (nat_lt n 8) (is_some (its_next index_in leaf_in p)) refl e in record { live = refl; empty = refl; plan = p; going = refl; undone = r.0; none = r.1 }
  take_due true hand.Empty (work.Failing a b c) n e = absurd (let z : ⊥ = cc in z)
  take_due true hand.Empty (work.Answering a) n e = absurd (let z : ⊥ = cc in z)
  take_due true hand.Empty work.Memory n e = absurd (let z : ⊥ = cc in z)

  -- a window is not empty where Take is due
  pub take_some : EndIsDone → (l : Bool) (h : Hand L) (w : Work L) (p : Planned (Verdict L) (Verdict L)) (f : Facts) (ws : List Pair) → w ≡ work.Going p → TakesNow l h w (length ws) → Paired p f ws → 0 < length ws
  take_some end l h w p f ws g d y =
      let same : d.plan ≡ p = going_same d.plan p (sym d.going ∙ g) in
      pair_there ws (λ e.
      let n : length ws < 8 = subst (λ (z : List Pair). length z < 8) (sym e) (omega arith) in
      let none : its_next index_in leaf_in p ≡ None = subst (λ z. its_next index_in leaf_in z ≡ None) same (none_is (its_next index_in leaf_in d.plan) (d.none n)) in
      let marks : p.marked ≡ [] = y.marked ∙ ap (map need_of) e in
      let unmet : next_wish p.known.request (its_pins index_in leaf_in p.known) (its_leaves index_in leaf_in p.known) [] ≡ None = sym (ap (λ ms. next_wish p.known.request (its_pins index_in leaf_in p.known) (its_leaves index_in leaf_in p.known) (map (wish_of p.known.names) ms)) marks) ∙ none in
      true≢false (sym (end p.known.request (its_pins index_in leaf_in p.known) (its_leaves index_in leaf_in p.known) unmet) ∙ subst (λ z. its_done index_in leaf_in z.known ≡ false) same d.undone))
    where
      going_same : (a b : Planned (Verdict L) (Verdict L)) → work.Going a ≡ work.Going b → a ≡ b
      going_same a b e = cc

-- ---- Close

close_bools : (d x : Bool) → cond d due.Close (cond x due.Ask due.Take) ≡ due.Close → d ≡ true
close_bools true x e = refl
close_bools false true e = absurd (let z : ⊥ = cc in z)
close_bools false false e = absurd (let z : ⊥ = cc in z)

module _ {L : Type 0} where
  pub record ClosesNow (l : Bool) (h : Hand L) (w : Work L) : Type 0 where
    pub live : l ≡ true
    pub empty : h ≡ hand.Empty
    pub closes : Closes w

  pub close_due : (l : Bool) (h : Hand L) (w : Work L) (n : ℕ) → due_by l h w n ≡ due.Close → ClosesNow l h w
  close_due false h w n e = absurd (let z : ⊥ = cc in z)
  close_due true (hand.Fresh p) w n e = absurd (let z : ⊥ = cc in z)
  close_due true (hand.Stepped p) w n e = absurd (let z : ⊥ = cc in z)
  close_due true (hand.Judged u v) w n e = absurd (let z : ⊥ = cc in z)
  close_due true hand.Refused w n e = absurd (let z : ⊥ = cc in z)
  close_due true hand.Empty (work.Going p) n e = record { live = refl; empty = refl; closes = close_bools (its_done index_in leaf_in p.known) (nat_lt n 8 && is_some (its_next index_in leaf_in p)) e }
  close_due true hand.Empty (work.Failing a b c) n e = record { live = refl; empty = refl; closes = tt }
  close_due true hand.Empty (work.Answering a) n e = record { live = refl; empty = refl; closes = tt }
  close_due true hand.Empty work.Memory n e = record { live = refl; empty = refl; closes = tt }

  -- ---- Step, Put, Land and Lose tell what is in hand

  not_work : (w : Work L) (n : ℕ) (d : Due) → d ≢ due.Ask → d ≢ due.Take → d ≢ due.Close → due_work w n ≡ d → ⊥
  not_work (work.Going p) n d a b c e = not_there (its_done index_in leaf_in p.known) (nat_lt n 8 && is_some (its_next index_in leaf_in p)) d a b c e
    where
      not_there : (x y : Bool) (d : Due) → d ≢ due.Ask → d ≢ due.Take → d ≢ due.Close → cond x due.Close (cond y due.Ask due.Take) ≡ d → ⊥
      not_there true y d a b c e = c (sym e)
      not_there false true d a b c e = a (sym e)
      not_there false false d a b c e = b (sym e)
  not_work (work.Failing x y z) n d a b c e = c (sym e)
  not_work (work.Answering x) n d a b c e = c (sym e)
  not_work work.Memory n d a b c e = c (sym e)

  abbrev pub due_hand : Hand L → Due
  due_hand hand.Empty = due.Over
  due_hand (hand.Fresh p) = due.Step
  due_hand (hand.Stepped p) = due.Put
  due_hand (hand.Judged u v) = due.Land
  due_hand hand.Refused = due.Lose

  pub hand_due : (l : Bool) (h : Hand L) (w : Work L) (n : ℕ) (d : Due) → d ≢ due.Ask → d ≢ due.Take → d ≢ due.Close → d ≢ due.Over → due_by l h w n ≡ d → (l ≡ true) × (due_hand h ≡ d)
  hand_due false h w n d a b c o e = absurd (o (sym e))
  hand_due true hand.Empty w n d a b c o e = absurd (not_work w n d a b c e)
  hand_due true (hand.Fresh p) w n d a b c o e = (refl, e)
  hand_due true (hand.Stepped p) w n d a b c o e = (refl, e)
  hand_due true (hand.Judged u v) w n d a b c o e = (refl, e)
  hand_due true hand.Refused w n d a b c o e = (refl, e)

  pub lost_hand : (h : Hand L) → due_hand h ≡ due.Lose → h ≡ hand.Refused
  lost_hand hand.Empty e = absurd (let z : ⊥ = cc in z)
  lost_hand (hand.Fresh p) e = absurd (let z : ⊥ = cc in z)
  lost_hand (hand.Stepped p) e = absurd (let z : ⊥ = cc in z)
  lost_hand (hand.Judged u v) e = absurd (let z : ⊥ = cc in z)
  lost_hand hand.Refused e = refl
