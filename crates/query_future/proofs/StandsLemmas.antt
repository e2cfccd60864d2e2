-- What stands of a query, when a value comes to it and when it asks.
use Rattle.std.specs.Prelude.{◌≡◌, ◌≢◌, ◌⊎◌, ◌+◌, ◌<◌, ◌≤◌, ℕ, suc, Bool, true, false, List, [], ◌∷◌, ◌++◌, map, take, drop, length, slice_get, slice_index_or, Option, Some, None, refl}
use Rattle.std.specs.List.{remove}
use Rattle.std.proofs.Common.{sym, ◌∙◌, ap, subst, inl, inr, arith, true≢false}
use Rattle.std.proofs.lemmas.List.{append-nil, get_or_default, length-map, length_push}
use Rattle.std.proofs.lemmas.List.Edits.{length-remove}
use Rattle.std.proofs.lemmas.Option.{none-some, same_Some}
use Rattle.link_io.specs.Conn.{LinkFacts}
use Rattle.link_io.specs.Origin.{Origin}
use Rattle.link_io.specs.Target.{IsPlain}
use Rattle.link_io.specs.declared.target.Key.{Key}
use Rattle.link_io.specs.declared.target.Target.{Target}
use Rattle.fetch_flight.specs.Verdict.{comes_from, key_of, number_of, size_of}
use Rattle.fetch_flight.specs.declared.verdicts.Verdict.{Verdict}
use Rattle.fetch_flight.specs.declared.verdicts.Verdict.TheVariants.{Index, Shard, Wreck}
use Rattle.closure_plan.specs.declared.need.Need.{Need}
use Rattle.closure_plan.specs.Filling.{Fills}
use Rattle.closure_plan.specs.Plan.{IsReached, Known, Planned, given_count, without}
use Rattle.flight_journal.specs.Count.{Among, IsOnce}
use Rattle.flight_rows.specs.Rows.{Comes}
use Rattle.flight_table.specs.Facts.{Facts, missed_pass, wreck_of}
use Rattle.flight_table.specs.Follows.{Awaits, Hits, Parts, Removes}
use Rattle.query_needs.specs.Holders.{index_in, leaf_in}
use Rattle.query_needs.specs.Known.{IsKnown}
use Rattle.query_needs.specs.Outcomes.{AreFrom}
use Rattle.query_needs.specs.Takes.{IsForeign, IsGiven, IsNeeded, is_filled}
use Rattle.query_needs.specs.Targets.{key_at, target_of}
use Rattle.query_future.specs.declared.parts.Did.{Did}
use Rattle.query_future.specs.declared.parts.Did.TheVariants as did
use Rattle.query_future.specs.declared.parts.Pair.{Pair}
use Rattle.query_future.specs.declared.parts.Work.{Work}
use Rattle.query_future.specs.declared.parts.Work.TheVariants as work
use Rattle.query_future.specs.Sections.{Gets, IsNext, Sure, TakesIn, again_of}
use Rattle.query_future.specs.Steps.{is_final}
use Rattle.query_future.specs.Stands.{Fails, GoesOn, HasRequest, IsCounted, IsFew, KeepsRequest, Stands, Tracked}
use Rattle.query_future.specs.Windows.{AskedBy, CountedBy, IsAt, IsOwn, Paired, need_of}
use Rattle.query_future.proofs.AmongLemmas.{among_last, among_left, among_map, among_mid, among_more, front_or, once_behind, once_front, removes_among, split_here}
use Rattle.query_future.proofs.WindowLemmas.{Widens, asked_push, asked_widens, await_of, key_awaited, marked_back, once_needs, paired_less, paired_push, paired_widens, widens_same}

pub untrue : (b : Bool) → (b ≡ true → ⊥) → b ≡ false
untrue true h = absurd (h refl)
untrue false h = refl

-- ---- places of the window

-- what is left after the pair at the cursor was dropped stood in the window
pub among_removed : (ws : List Pair) (c : ℕ) (w v : Pair) → IsAt ws c w → Among v (remove ws c) → Among v ws
among_removed ws c w v i m = subst (λ z. Among v z) (sym (split_here ws c w i.low i.is)) (among_more v w (take c ws) (drop (suc c) ws) m)

pub here : (ws : List Pair) (c : ℕ) (w : Pair) → IsAt ws c w → Among w ws
here ws c w i = subst (λ z. Among w z) (sym (split_here ws c w i.low i.is)) (among_mid w (take c ws) (drop (suc c) ws))

apart_split : (a b : List Pair) (w v : Pair) → IsOnce (map need_of (a ++ w ∷ b)) → Among v (a ++ b) → v.need ≢ w.need
apart_split [] b w v o m e = once_front w.need (map need_of b) o (subst (λ j. Among j (map need_of b)) e (among_map need_of v b m))
apart_split (y ∷ a) b w v o m e =
    elim (front_or v y (a ++ b) m) [
      | inl s ↦ once_front y.need (map need_of (a ++ w ∷ b)) o (subst (λ j. Among j (map need_of (a ++ w ∷ b))) (sym (ap need_of s ∙ e)) (among_map need_of w (a ++ w ∷ b) (among_mid w a b)))
      | inr t ↦ apart_split a b w v (once_behind y.need (map need_of (a ++ w ∷ b)) o) t e
    ]

-- what was taken out of the place is the pair that stood there
pub removed_is : (ws : List Pair) (c : ℕ) (w x : Pair) → IsAt ws c w → x ≡ slice_index_or ws c x → x ≡ w
removed_is ws c w x i e = e ∙ get_or_default ws c x w i.low ∙ sym i.is

module _ {L : Type 0} where
  given_widens : (facts : L → LinkFacts) (m : Need) (v : Verdict L) (old new : Planned (Verdict L) (Verdict L)) → IsGiven facts m v old new → Widens old.known new.known
  given_widens facts m v old new g = record { needs = g.fills.needs; targets = g.targets }

  counted_push : (k l : Known (Verdict L) (Verdict L)) (asked : List Need) (n : Need) (m : ℕ) → CountedBy k asked m → Fills index_in leaf_in n k l → CountedBy l (asked ++ n ∷ []) m
  counted_push k l asked n m h e = record {
    given = λ o a g. elim (e.only o a g) [ inl s ↦ subst (λ z. Among z (asked ++ n ∷ [])) (sym s) (among_mid n asked []) | inr z ↦ among_left o asked (n ∷ []) (h.given o z.0 z.1) ];
    count = let a : length (asked ++ n ∷ []) ≡ length asked + 1 = length_push asked n in let b : length asked ≡ m + given_count k = h.count in let d : given_count l ≡ given_count k + 1 = e.count in omega arith;
  }

  -- what is next is no need of the window
  next_apart : (p : Planned (Verdict L) (Verdict L)) (f : Facts) (ws : List Pair) (n : Need) (w : Pair) → Paired p f ws → IsNext p n → Among w ws → w.need ≢ n
  next_apart p f ws n w h i m e = i.apart w.need (subst (λ l. Among w.need l) (sym h.marked) (among_map need_of w ws m)) (ap (λ j. key_at p.known j) e)

  -- no other pair of the window has the need of the one that was dropped
  other_need : (p : Planned (Verdict L) (Verdict L)) (f : Facts) (ws : List Pair) (c : ℕ) (w v : Pair) → Paired p f ws → IsAt ws c w → Among v (remove ws c) → v.need ≢ w.need
  other_need p f ws c w v h i m = apart_split (take c ws) (drop (suc c) ws) w v (subst (λ l. IsOnce (map need_of l)) (split_here ws c w i.low i.is) (once_needs p f ws h)) m

  -- the pins of a plan that was given a value are from where the value is from
  from_given : (facts : L → LinkFacts) (from : L → Origin → Type 0) (o : Origin) (m : Need) (v : Verdict L) (old new : Planned (Verdict L) (Verdict L)) → IsGiven facts m v old new → AreFrom from o old.known → comes_from from v o → AreFrom from o new.known
  from_given facts from o m v old new g a c s w e = elim (g.pins s w e) [ inl q ↦ subst (λ z. comes_from from z o) (sym q) c | inr q ↦ a s w q ]

  sized_foreign : (t : Target) (v : Verdict L) (z : ℕ) → size_of v ≡ Some z → IsForeign t v → ⊥
  sized_foreign t v z s i = none-some z (sym (ap size_of i.is) ∙ s)

  module _ (facts : L → LinkFacts) (from : L → Origin → Type 0) where
    abbrev Arrives : ℕ → Origin → ℕ → Target → Option ℕ → Verdict L → Type 0
    Arrives = Comes key_of size_of (number_of facts) (comes_from from)

    -- the counts of a query, whatever it works on
    pub counts_of_asked : (k : Known (Verdict L) (Verdict L)) (f : Facts) (asked : List Need) (again : ℕ) → AskedBy k f asked → again ≤ length f.wrecks + length f.lost → IsCounted f asked again
    counts_of_asked k f asked again h n = record { asks = ap length h.keys ∙ length-map asked (key_at k); again = n }

    pub stands_counted : (w : Work L) (t : Tracked) → Stands facts from w t → IsCounted t.pass t.asked t.again
    stands_counted (work.Going p) t h = counts_of_asked p.known t.pass t.asked t.again h.asked_by h.few.again
    stands_counted (work.Failing part m v) t h = counts_of_asked part t.pass t.asked t.again h.asked_by h.few.again
    stands_counted (work.Answering a) t h = counts_of_asked a.known t.pass t.asked t.again h.asked_by h.few.again
    stands_counted work.Memory t h = h

    -- a kept value was taken in
    pub stands_kept : (p : Planned (Verdict L) (Verdict L)) (f g : Facts) (ws : List Pair) (asked : List Need) (again c x : ℕ) (n : Need) (v : Verdict L) (w : Work L) (d : Did) → GoesOn facts from p f ws asked again → IsNext p n → Hits (Arrives f.base f.origin) x (key_at p.known n) v f g → TakesIn facts n v (record p { marked = p.marked ++ n ∷ [] }) w d → Stands facts from w (record { pass = g; window = ws; cursor = c; asked = asked ++ n ∷ []; again = again })
    stands_kept p f g ws asked again c x n v (work.Going q) d h i y t =
        elim t [
          | inl z ↦ (let e = z.0 in
              let wide = given_widens facts n v (record p { marked = p.marked ++ n ∷ [] }) q e in
              let a : g.asks ≡ f.asks ++ key_at p.known n ∷ [] = ap (λ (o : Facts). o.asks) y.is in
              let l : g.losses ≡ f.losses = ap (λ (o : Facts). o.losses) y.is in
              let u : g.wrecks ≡ f.wrecks = ap (λ (o : Facts). o.wrecks) y.is in
              let k : g.lost ≡ f.lost = ap (λ (o : Facts). o.lost) y.is in
              record {
                known = e.known;
                are_from = subst (λ o. AreFrom from o q.known) (sym (ap (λ (o : Facts). o.origin) y.is)) (from_given facts from f.origin n v (record p { marked = p.marked ++ n ∷ [] }) q e h.are_from y.so.is_from);
                paired = paired_widens p q f g ws h.paired (e.marked ∙ marked_back p f ws n h.paired i) wide (ap (λ (o : Facts). o.awaits) y.is);
                asked_by = asked_widens p.known q.known g g (asked ++ n ∷ []) (asked_push p.known f g asked n h.asked_by i.can.needed a) wide refl;
                counted = counted_push p.known q.known asked n (again + length ws) h.counted e.fills;
                window_asked = λ w m. among_left w.need asked (n ∷ []) (h.window_asked w m);
                ungiven = λ w m. untrue (is_filled q.known w.need) (λ b. elim (e.fills.only w.need (wide.needs w.need (h.paired.own w m).needed) b) [ inl s ↦ next_apart p f ws n w h.paired i m s | inr z ↦ true≢false (sym z.1 ∙ h.ungiven w m) ]);
                few = record { losses = l ∙ h.few.losses; again = rw (u, k) h.few.again };
              })
          | inr z ↦ absurd (sized_foreign (target_of p.known n) v y.size y.so.sized z.0)
        ]
    stands_kept p f g ws asked again c x n v (work.Failing part m o) d h i y t = absurd (none-some y.size (sym (ap size_of t.0.is) ∙ y.so.sized))
    stands_kept p f g ws asked again c x n v (work.Answering a) d h i y t = absurd t
    stands_kept p f g ws asked again c x n v work.Memory d h i y t =
        let e = counts_of_asked p.known f asked again h.asked_by h.few.again in
        let a : length f.asks ≡ length asked = e.asks in
        let b : length g.asks ≡ length f.asks + 1 = ap (λ (o : Facts). length o.asks) y.is ∙ length_push f.asks (key_at p.known n) in
        let l : length (asked ++ n ∷ []) ≡ length asked + 1 = length_push asked n in
        let u : g.wrecks ≡ f.wrecks = ap (λ (o : Facts). o.wrecks) y.is in
        let k : g.lost ≡ f.lost = ap (λ (o : Facts). o.lost) y.is in
        record { asks = omega arith; again = rw (u, k) h.few.again }

    -- a flight is awaited from now on
    pub stands_awaits : (p : Planned (Verdict L) (Verdict L)) (f g : Facts) (ws : List Pair) (asked : List Need) (again x : ℕ) (n : Need) (t : Target) → GoesOn facts from p f ws asked again → IsNext p n → t ≡ target_of p.known n → IsPlain t → Awaits x t.key f g → GoesOn facts from (record p { marked = p.marked ++ n ∷ [] }) g (ws ++ record { need = n; flight = x; target = t } ∷ []) (asked ++ n ∷ []) again
    stands_awaits p f g ws asked again x n t h i o l y =
        let w : Pair = record { need = n; flight = x; target = t } in
        let q : Planned (Verdict L) (Verdict L) = record p { marked = p.marked ++ n ∷ [] } in
        let a : g.asks ≡ f.asks ++ key_at p.known n ∷ [] = ap (λ (z : Facts). z.asks) y.is ∙ ap (λ (z : Key). f.asks ++ z ∷ []) y.keyed ∙ ap (λ (z : Target). f.asks ++ z.key ∷ []) o in
        let u : g.wrecks ≡ f.wrecks = ap (λ (z : Facts). z.wrecks) y.is in
        let k : g.lost ≡ f.lost = ap (λ (z : Facts). z.lost) y.is in
        record {
          known = h.known;
          are_from = subst (λ o. AreFrom from o p.known) (sym (ap (λ (z : Facts). z.origin) y.is)) h.are_from;
          paired = paired_push p q f g ws w y.target h.paired i o l y.keyed y.new (ap (λ (z : Facts). z.awaits) y.is) refl refl;
          asked_by = asked_push p.known f g asked n h.asked_by i.can.needed a;
          counted = record {
            given = λ m b c. among_left m asked (n ∷ []) (h.counted.given m b c);
            count = let b : length (asked ++ n ∷ []) ≡ length asked + 1 = length_push asked n in let c : length (ws ++ w ∷ []) ≡ length ws + 1 = length_push ws w in let d : length asked ≡ again + length ws + given_count p.known = h.counted.count in omega arith;
          };
          window_asked = λ v m. elim (among_last v w ws m) [ inl z ↦ among_left v.need asked (n ∷ []) (h.window_asked v z) | inr s ↦ subst (λ (j : Pair). Among j.need (asked ++ n ∷ [])) s (among_mid n asked []) ];
          ungiven = λ v m. elim (among_last v w ws m) [ inl z ↦ h.ungiven v z | inr s ↦ subst (λ (j : Pair). is_filled p.known j.need ≡ false) s i.can.not_given ];
          few = record { losses = ap (λ (z : Facts). z.losses) y.is ∙ h.few.losses; again = rw (u, k) h.few.again };
        }

    wreck_more : (x : ℕ) (o : Option ℕ) (xs : List ℕ) → length xs ≤ length (xs ++ wreck_of x o)
    wreck_more x None xs = let a : length (xs ++ x ∷ []) ≡ length xs + 1 = length_push xs x in omega arith
    wreck_more x (Some z) xs = let a : length (xs ++ []) ≡ length xs = ap length (append-nil xs) in omega arith

    wreck_one : (x : ℕ) (v : Verdict L) (t : Target) (xs : List ℕ) → IsForeign t v → length (xs ++ wreck_of x (size_of v)) ≡ length xs + 1
    wreck_one x v t xs i = ap (λ o. length (xs ++ wreck_of x o)) (ap size_of i.is) ∙ length_push xs x

    -- a value of the flight of the pair at the cursor was taken in
    pub stands_got : (p : Planned (Verdict L) (Verdict L)) (f g : Facts) (ws : List Pair) (asked : List Need) (again c : ℕ) (w : Pair) (v : Verdict L) (now : Work L) (d : Did) → GoesOn facts from p f ws asked again → IsReached index_in leaf_in p.known → IsAt ws c w → Gets facts from w.flight v f g → TakesIn facts w.need v p now d → Stands facts from now (record { pass = g; window = remove ws c; cursor = c; asked = asked; again = again_of d again })
    stands_got p f g ws asked again c w v (work.Going q) d h r i y t =
        let n : length (remove ws c) + 1 ≡ length ws = length-remove ws c i.low in
        elim t [
          | inl z ↦ (let e = z.0 in
              let wide = given_widens facts w.need v p q e in
              let b : again_of d again ≡ again = ap (λ s. again_of s again) z.1 in
              let few : length f.wrecks ≤ length g.wrecks = subst (λ s. length f.wrecks ≤ length s) (sym y.wrecks) (wreck_more w.flight (size_of v) f.wrecks) in
              let lost : length g.lost ≡ length f.lost = ap length y.lost in
              let was : again ≤ length f.wrecks + length f.lost = h.few.again in
              record {
                known = e.known;
                are_from = subst (λ o. AreFrom from o q.known) (sym y.origin) (from_given facts from f.origin w.need v p q e h.are_from y.value.is_from);
                paired = paired_less p q f g ws c w y.target h.paired i y.removes e.marked wide;
                asked_by = asked_widens p.known q.known f g asked h.asked_by wide y.asks;
                counted = record {
                  given = λ m a k. elim (e.fills.only m a k) [ inl s ↦ subst (λ o. Among o asked) (sym s) (h.window_asked w (here ws c w i)) | inr o ↦ h.counted.given m o.0 o.1 ];
                  count = let a : length asked ≡ again + length ws + given_count p.known = h.counted.count in let k : given_count q.known ≡ given_count p.known + 1 = e.fills.count in omega arith;
                };
                window_asked = λ v m. h.window_asked v (among_removed ws c w v i m);
                ungiven = λ v m. let o = among_removed ws c w v i m in untrue (is_filled q.known v.need) (λ b. elim (e.fills.only v.need (wide.needs v.need (h.paired.own v o).needed) b) [ inl s ↦ other_need p f ws c w v h.paired i m s | inr z ↦ true≢false (sym z.1 ∙ h.ungiven v o) ]);
                few = record { losses = y.losses ∙ h.few.losses; again = omega arith };
              })
          | inr z ↦ (
              let b : again_of d again ≡ again + 1 = ap (λ s. again_of s again) z.2 in
              let few : length g.wrecks ≡ length f.wrecks + 1 = ap length y.wrecks ∙ wreck_one w.flight v (target_of p.known w.need) f.wrecks z.0 in
              let lost : length g.lost ≡ length f.lost = ap length y.lost in
              let was : again ≤ length f.wrecks + length f.lost = h.few.again in
              let same : q.known ≡ p.known = ap (λ (z : Planned (Verdict L) (Verdict L)). z.known) z.1 in
              let e = widens_same p.known q.known same in
              record {
                known = subst (IsKnown facts) (sym same) h.known;
                are_from = subst (λ o. AreFrom from o q.known) (sym y.origin) (subst (AreFrom from f.origin) (sym same) h.are_from);
                paired = paired_less p q f g ws c w y.target h.paired i y.removes (ap (λ (z : Planned (Verdict L) (Verdict L)). z.marked) z.1) e;
                asked_by = asked_widens p.known q.known f g asked h.asked_by e y.asks;
                counted = record {
                  given = subst (λ k. (m : Need) → IsNeeded k m → is_filled k m ≡ true → Among m asked) (sym same) h.counted.given;
                  count = let a : length asked ≡ again + length ws + given_count p.known = h.counted.count in let k : given_count q.known ≡ given_count p.known = ap given_count same in omega arith;
                };
                window_asked = λ v m. h.window_asked v (among_removed ws c w v i m);
                ungiven = λ v m. ap (λ j. is_filled j v.need) same ∙ h.ungiven v (among_removed ws c w v i m);
                few = record { losses = y.losses ∙ h.few.losses; again = omega arith };
              })
        ]
    stands_got p f g ws asked again c w v (work.Failing part m o) d h r i y t =
        let b : again_of d again ≡ again = ap (λ s. again_of s again) t.4 in
        let few : length f.wrecks ≤ length g.wrecks = subst (λ s. length f.wrecks ≤ length s) (sym y.wrecks) (wreck_more w.flight (size_of v) f.wrecks) in
        let lost : length g.lost ≡ length f.lost = ap length y.lost in
        let was : again ≤ length f.wrecks + length f.lost = h.few.again in
        let none : size_of v ≡ None = ap size_of t.0.is in
        let own = h.paired.own w (here ws c w i) in
        rw (t.1, t.2, t.3) (record {
          fair = record { request = refl; reached = r; known = h.known; needed = own.needed; wreck = t.0 };
          are_from = subst (λ o. AreFrom from o p.known) (sym y.origin) h.are_from;
          own = record {
            flight = w.flight;
            among = subst (λ s. Among w.flight s) (sym (y.wrecks ∙ ap (λ s. f.wrecks ++ wreck_of w.flight s) none)) (among_mid w.flight f.wrecks []);
            number = y.value.numbered none ∙ ap (λ s. Some (s + w.flight)) (sym y.base);
            is_from = subst (λ o. comes_from from v o) (sym y.origin) y.value.is_from;
          };
          need = h.window_asked w (here ws c w i);
          asked_by = asked_widens p.known p.known f g asked h.asked_by (widens_same p.known p.known refl) y.asks;
          few = record { losses = y.losses ∙ h.few.losses; again = omega arith };
        })
    stands_got p f g ws asked again c w v (work.Answering a) d h r i y t = absurd t
    stands_got p f g ws asked again c w v work.Memory d h r i y t =
        let e = counts_of_asked p.known f asked again h.asked_by h.few.again in
        let b : again_of d again ≡ again = ap (λ s. again_of s again) t in
        let few : length f.wrecks ≤ length g.wrecks = subst (λ s. length f.wrecks ≤ length s) (sym y.wrecks) (wreck_more w.flight (size_of v) f.wrecks) in
        let lost : length g.lost ≡ length f.lost = ap length y.lost in
        let was : again ≤ length f.wrecks + length f.lost = h.few.again in
        record { asks = ap length y.asks ∙ e.asks; again = omega arith }

    -- the pair at the cursor was lost by another query
    pub stands_missed : (p q : Planned (Verdict L) (Verdict L)) (f g : Facts) (ws : List Pair) (asked : List Need) (again c : ℕ) (w : Pair) → GoesOn facts from p f ws asked again → IsAt ws c w → Parts w.flight (λ rest. missed_pass w.flight f) f g → q ≡ record p { marked = without w.need p.marked } → GoesOn facts from q g (remove ws c) asked (again + 1)
    stands_missed p q f g ws asked again c w h i y s =
        let n : length (remove ws c) + 1 ≡ length ws = length-remove ws c i.low in
        let few : g.wrecks ≡ f.wrecks = ap (λ (z : Facts). z.wrecks) y.is in
        let lost : length g.lost ≡ length f.lost + 1 = ap (λ (z : Facts). length z.lost) y.is ∙ length_push f.lost w.flight in
        let was : again ≤ length f.wrecks + length f.lost = h.few.again in
        let fewer : length g.wrecks ≡ length f.wrecks = ap length few in
        let same : q.known ≡ p.known = ap (λ (z : Planned (Verdict L) (Verdict L)). z.known) s in
        let e = widens_same p.known q.known same in
        record {
          known = subst (IsKnown facts) (sym same) h.known;
          are_from = subst (λ o. AreFrom from o q.known) (sym (ap (λ (z : Facts). z.origin) y.is)) (subst (AreFrom from f.origin) (sym same) h.are_from);
          paired = paired_less p q f g ws c w y.target h.paired i y.removes (ap (λ (z : Planned (Verdict L) (Verdict L)). z.marked) s) e;
          asked_by = asked_widens p.known q.known f g asked h.asked_by e (ap (λ (z : Facts). z.asks) y.is);
          counted = record {
            given = subst (λ k. (m : Need) → IsNeeded k m → is_filled k m ≡ true → Among m asked) (sym same) h.counted.given;
            count = let a : length asked ≡ again + length ws + given_count p.known = h.counted.count in let b : given_count q.known ≡ given_count p.known = ap given_count same in omega arith;
          };
          window_asked = λ v m. h.window_asked v (among_removed ws c w v i m);
          ungiven = λ v m. ap (λ j. is_filled j v.need) same ∙ h.ungiven v (among_removed ws c w v i m);
          few = record { losses = ap (λ (z : Facts). z.losses) y.is ∙ h.few.losses; again = omega arith };
        }

    pub marked_here : (p : Planned (Verdict L) (Verdict L)) (f : Facts) (ws : List Pair) (c : ℕ) (w : Pair) → Paired p f ws → IsAt ws c w → Among w.need p.marked
    marked_here p f ws c w h i = subst (λ l. Among w.need l) (sym h.marked) (among_map need_of w ws (here ws c w i))

    -- a value that came for the pair at the cursor has the key of its target
    pub got_key : (p : Planned (Verdict L) (Verdict L)) (f g : Facts) (ws : List Pair) (c : ℕ) (w : Pair) (v : Verdict L) → Paired p f ws → IsAt ws c w → Gets facts from w.flight v f g → key_of v ≡ w.target.key
    got_key p f g ws c w v h i y = y.value.keyed ∙ key_awaited p f ws h w (here ws c w i) y.target (removes_among (w.flight, y.target) f.awaits g.awaits y.removes)

    -- what was taken in keeps the request
    pub takes_request : (n : Need) (v : Verdict L) (p : Planned (Verdict L) (Verdict L)) (w : Work L) (d : Did) → TakesIn facts n v p w d → KeepsRequest (work.Going p) w
    takes_request n v p (work.Going q) d t = λ r h. elim t [ inl z ↦ z.0.fills.request ∙ h | inr z ↦ ap (λ (k : Planned (Verdict L) (Verdict L)). k.known.request) z.1 ∙ h ]
    takes_request n v p (work.Failing part m x) d t = λ r h. ap (λ (k : Known (Verdict L) (Verdict L)). k.request) t.1 ∙ h
    takes_request n v p (work.Answering a) d t = absurd t
    takes_request n v p work.Memory d t = λ r h. tt

    -- taking in decides an ending only where it says so
    pub takes_sure : (n : Need) (v : Verdict L) (p : Planned (Verdict L) (Verdict L)) (w : Work L) (d : Did) → TakesIn facts n v p w d → Sure w d
    takes_sure n v p (work.Going q) d t = λ f. refl
    takes_sure n v p (work.Failing part m x) d t = λ f. absurd (true≢false (ap is_final (sym t.4) ∙ f))
    takes_sure n v p (work.Answering a) d t = absurd t
    takes_sure n v p work.Memory d t = λ f. absurd (true≢false (ap is_final (sym t) ∙ f))
