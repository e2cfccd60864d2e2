-- The window beside the plan and the pass, when a pair comes and goes.
use Rattle.std.specs.Prelude.{◌≡◌, ◌≢◌, ◌⊎◌, ◌+◌, ◌<◌, ℕ, suc, true, false, List, [], ◌∷◌, ◌++◌, map, take, drop, length, refl}
use Rattle.std.specs.List.{remove}
use Rattle.std.proofs.Common.{sym, ◌∙◌, ap, subst, inl, inr, true≢false}
use Rattle.std.proofs.lemmas.List.{map-append, map-id, append-nil, map_push}
use Rattle.link_io.specs.Target.{IsPlain}
use Rattle.link_io.specs.declared.target.Key.{Key}
use Rattle.link_io.specs.declared.target.Target.{Target}
use Rattle.fetch_flight.specs.declared.verdicts.Verdict.{Verdict}
use Rattle.closure_plan.specs.declared.need.Need.{Need}
use Rattle.closure_plan.specs.Plan.{Known, Planned, without}
use Rattle.flight_journal.specs.Count.{Among, IsOnce}
use Rattle.flight_table.specs.Facts.{Facts}
use Rattle.flight_table.specs.Follows.{Removes}
use Rattle.query_needs.specs.Takes.{IsNeeded}
use Rattle.query_needs.specs.Targets.{key_at, target_of}
use Rattle.query_future.specs.declared.parts.Pair.{Pair}
use Rattle.query_future.specs.Sections.{IsNext}
use Rattle.query_future.specs.Windows.{AskedBy, CountedBy, IsAt, IsOwn, Paired, as_await, as_pair, flight_of, need_of, sought_key}
use Rattle.query_future.proofs.AmongLemmas.{among_last, among_map, among_mapped, among_mid, among_more, map_map, map_same, once_map_less, once_map_push, once_push, once_same, once_unmap, split_here, taken_once}
use Rattle.query_future.proofs.MarkLemmas.{without_once}

-- the needs that were there are needs still, with their targets
pub record Widens {L : Type 0} (old new : Known (Verdict L) (Verdict L)) : Type 0 where
  pub needs : (m : Need) → IsNeeded old m → IsNeeded new m
  pub targets : (m : Need) → IsNeeded old m → target_of new m ≡ target_of old m

pub widens_same : {L : Type 0} (k l : Known (Verdict L) (Verdict L)) → l ≡ k → Widens k l
widens_same k l e = record { needs = λ m n. subst (λ z. IsNeeded z m) (sym e) n; targets = λ m n. ap (λ z. target_of z m) e }

module _ {L : Type 0} where
  module _ (p : Planned (Verdict L) (Verdict L)) (f : Facts) (ws : List Pair) (h : Paired p f ws) where
    -- no need is marked twice
    pub once_needs : IsOnce (map need_of ws)
    once_needs =
        once_unmap (key_at p.known) (map need_of ws)
        (subst (λ l. IsOnce l) (map_same sought_key (λ (w : Pair). key_at p.known w.need) ws (λ w m. ap (λ (t : Target). t.key) (h.own w m).target) ∙ sym (map_map (key_at p.known) need_of ws)) h.keys)

    pub once_marked : IsOnce p.marked
    once_marked = subst (λ l. IsOnce l) (sym h.marked) once_needs

    -- what the pass awaits is a pair of the window, and the other way round
    pub pair_of : (x : ℕ) (t : Target) → Among (x, t) f.awaits → (w : Pair) × (Among w ws × ((w.flight ≡ x) × (w.target.key ≡ t.key)))
    pair_of x t m =
        let a : Among (x, t.key) (map as_pair ws) = subst (λ l. Among (x, t.key) l) h.awaits (among_map as_await (x, t) f.awaits m) in
        let r = among_mapped as_pair (x, t.key) ws a in
        (r.0, (r.1.0, (ap (λ (z : ℕ × Key). z.0) r.1.1, ap (λ (z : ℕ × Key). z.1) r.1.1)))

    pub await_of : (w : Pair) → Among w ws → (t : Target) × (Among (w.flight, t) f.awaits × (t.key ≡ w.target.key))
    await_of w m =
        let a : Among (as_pair w) (map as_await f.awaits) = subst (λ l. Among (as_pair w) l) (sym h.awaits) (among_map as_pair w ws m) in
        let r = among_mapped as_await (as_pair w) f.awaits a in
        let e : r.0.0 ≡ w.flight = ap (λ (z : ℕ × Key). z.0) r.1.1 in
        let k : r.0.1.key ≡ w.target.key = ap (λ (z : ℕ × Key). z.1) r.1.1 in
        (r.0.1, (subst (λ (n : ℕ). Among (n, r.0.1) f.awaits) e r.1.0, k))

    -- nothing that is awaited has the key of what is next
    pub apart_next : (n : Need) → IsNext p n → (x : ℕ) (t : Target) → Among (x, t) f.awaits → t.key ≢ key_at p.known n
    apart_next n i x t m e =
        let w = pair_of x t m in
        let o = h.own w.0 w.1.0 in
        i.apart w.0.need (subst (λ l. Among w.0.need l) (sym h.marked) (among_map need_of w.0 ws w.1.0)) (sym (ap (λ (u : Target). u.key) o.target) ∙ w.1.1.1 ∙ e)

    -- what is awaited for a pair has its key
    pub key_awaited : (w : Pair) → Among w ws → (t : Target) → Among (w.flight, t) f.awaits → t.key ≡ w.target.key
    key_awaited w m t a =
        let r = pair_of w.flight t a in
        let s : r.0 ≡ w = once_same flight_of ws r.0 w h.flights r.1.0 m r.1.1.0 in
        sym r.1.1.1 ∙ ap (λ (v : Pair). v.target.key) s

  own_widens : (k l : Known (Verdict L) (Verdict L)) (w : Pair) → Widens k l → IsOwn k w → IsOwn l w
  own_widens k l w g o = record { needed = g.needs w.need o.needed; target = o.target ∙ sym (g.targets w.need o.needed); plain = o.plain }

  -- the pair at the cursor goes: its flight is awaited no more and its need is marked no more
  less_split : (p q : Planned (Verdict L) (Verdict L)) (f g : Facts) (a b : List Pair) (w : Pair) (t : Target) → Paired p f (a ++ w ∷ b) → Removes (w.flight, t) f.awaits g.awaits → q.marked ≡ without w.need p.marked → Widens p.known q.known → Paired q g (a ++ b)
  less_split p q f g a b w t h r m e =
      let image : map as_await r.front ++ as_await (w.flight, t) ∷ map as_await r.back ≡ map as_pair a ++ as_pair w ∷ map as_pair b = sym (map-append as_await r.front ((w.flight, t) ∷ r.back)) ∙ ap (λ l. map as_await l) (sym r.was) ∙ h.awaits ∙ map-append as_pair a (w ∷ b) in
      let once : IsOnce (map (λ (z : ℕ × Key). z.0) (map as_await r.front ++ as_await (w.flight, t) ∷ map as_await r.back)) = subst (λ l. IsOnce (map (λ (z : ℕ × Key). z.0) l)) (map-append as_pair a (w ∷ b) ∙ sym image) (subst (λ l. IsOnce l) (sym (map_map (λ (z : ℕ × Key). z.0) as_pair (a ++ w ∷ b))) h.flights) in
      let marks : p.marked ≡ map need_of a ++ w.need ∷ map need_of b = h.marked ∙ map-append need_of a (w ∷ b) in
      record {
        marked = m ∙ ap (without w.need) marks ∙ without_once w.need (map need_of a) (map need_of b) (subst (λ l. IsOnce l) marks (once_marked p f (a ++ w ∷ b) h)) ∙ sym (map-append need_of a b);
        own = λ v l. own_widens p.known q.known v e (h.own v (among_more v w a b l));
        keys = once_map_less sought_key a b w h.keys;
        flights = once_map_less flight_of a b w h.flights;
        awaits = ap (λ l. map as_await l) r.is ∙ map-append as_await r.front r.back ∙ taken_once (λ (z : ℕ × Key). z.0) (map as_await r.front) (map as_await r.back) (map as_pair a) (map as_pair b) (as_await (w.flight, t)) (as_pair w) once image refl ∙ sym (map-append as_pair a b);
      }

  pub paired_less : (p q : Planned (Verdict L) (Verdict L)) (f g : Facts) (ws : List Pair) (c : ℕ) (w : Pair) (t : Target) → Paired p f ws → IsAt ws c w → Removes (w.flight, t) f.awaits g.awaits → q.marked ≡ without w.need p.marked → Widens p.known q.known → Paired q g (remove ws c)
  paired_less p q f g ws c w t h i r m e =
      less_split p q f g (take c ws) (drop (suc c) ws) w t (subst (λ l. Paired p f l) (split_here ws c w i.low i.is) h) r m e

  -- a pair comes: its need is marked and its flight is awaited
  pub paired_push : (p q : Planned (Verdict L) (Verdict L)) (f g : Facts) (ws : List Pair) (w : Pair) (t : Target) → Paired p f ws → IsNext p w.need → w.target ≡ target_of p.known w.need → IsPlain w.target → t.key ≡ w.target.key → ((u : Target) → ¬ Among (w.flight, u) f.awaits) → g.awaits ≡ f.awaits ++ (w.flight, t) ∷ [] → q.known ≡ p.known → q.marked ≡ p.marked ++ w.need ∷ [] → Paired q g (ws ++ w ∷ [])
  paired_push p q f g ws w t h i o l e n a k m = record {
    marked = m ∙ ap (λ z. z ++ w.need ∷ []) h.marked ∙ sym (map_push need_of ws w);
    own = λ v y. subst (λ z. IsOwn z v) (sym k) (elim (among_last v w ws y) [ inl z ↦ h.own v z | inr s ↦ subst (λ u. IsOwn p.known u) s (record { needed = i.can.needed; target = o; plain = l }) ]);
    keys = once_map_push sought_key ws w h.keys (λ y. let r = among_mapped sought_key (sought_key w) ws y in i.apart r.0.need (subst (λ z. Among r.0.need z) (sym h.marked) (among_map need_of r.0 ws r.1.0)) (sym (ap (λ (u : Target). u.key) (h.own r.0 r.1.0).target) ∙ r.1.1 ∙ ap (λ (u : Target). u.key) o));
    flights = once_map_push flight_of ws w h.flights (λ y. let r = among_mapped flight_of w.flight ws y in let z = await_of p f ws h r.0 r.1.0 in n z.0 (subst (λ (x : ℕ). Among (x, z.0) f.awaits) r.1.1 z.1.0));
    awaits = ap (λ z. map as_await z) a ∙ map_push as_await f.awaits (w.flight, t) ∙ ap (λ z. z ++ (w.flight, t.key) ∷ []) h.awaits ∙ ap (λ (y : Key). map as_pair ws ++ (w.flight, y) ∷ []) e ∙ sym (map_push as_pair ws w);
  }

  -- the plan grew, and nothing else changed
  pub paired_widens : (p q : Planned (Verdict L) (Verdict L)) (f g : Facts) (ws : List Pair) → Paired p f ws → q.marked ≡ p.marked → Widens p.known q.known → g.awaits ≡ f.awaits → Paired q g ws
  paired_widens p q f g ws h m e a = record { marked = m ∙ h.marked; own = λ v l. own_widens p.known q.known v e (h.own v l); keys = h.keys; flights = h.flights; awaits = ap (λ z. map as_await z) a ∙ h.awaits }

  -- a need that was marked last and is marked no more
  pub marked_back : (p : Planned (Verdict L) (Verdict L)) (f : Facts) (ws : List Pair) (n : Need) → Paired p f ws → IsNext p n → without n (p.marked ++ n ∷ []) ≡ p.marked
  marked_back p f ws n h i =
      without_once n p.marked [] (once_push p.marked n (once_marked p f ws h) (λ m. i.apart n m refl)) ∙ append-nil p.marked

  pub asked_widens : (k l : Known (Verdict L) (Verdict L)) (f g : Facts) (asked : List Need) → AskedBy k f asked → Widens k l → g.asks ≡ f.asks → AskedBy l g asked
  asked_widens k l f g asked h e a = record {
    needs_are = λ n m. e.needs n (h.needs_are n m);
    keys = a ∙ h.keys ∙ map_same (key_at k) (key_at l) asked (λ n m. sym (ap (λ (t : Target). t.key) (e.targets n (h.needs_are n m))));
  }

  pub asked_push : (k : Known (Verdict L) (Verdict L)) (f g : Facts) (asked : List Need) (n : Need) → AskedBy k f asked → IsNeeded k n → g.asks ≡ f.asks ++ key_at k n ∷ [] → AskedBy k g (asked ++ n ∷ [])
  asked_push k f g asked n h m e = record {
    needs_are = λ o l. elim (among_last o n asked l) [ inl z ↦ h.needs_are o z | inr s ↦ subst (λ u. IsNeeded k u) s m ];
    keys = e ∙ ap (λ z. z ++ key_at k n ∷ []) h.keys ∙ sym (map_push (key_at k) asked n);
  }
