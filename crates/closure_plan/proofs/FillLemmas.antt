-- A pin or a shard more fills one need.
use Rattle.std.proofs.Common.{◌≡◌, ◌∙◌, ◌⊎◌, inl, inr, ℕ, zero, suc, ◌+◌, ◌<◌, arith, Bool, true, false, cond, ◌||◌, ◌&&◌, ◌==◌, not, List, [], ◌∷◌, ◌++◌, length, map, Option, Some, None, find, refl, sym, ap, subst, true≢false}
use Rattle.std.specs.Prelude.{is_some}
use Rattle.std.specs.List.{AllByRecursion, IsDistinct, list_any, slice_get, slice_set, count_by, fold}
use Rattle.std.specs.Option.{option_and_then}
use Rattle.std.specs.Cmp.{unsigned_Decides}
use Rattle.std.proofs.lemmas.List.{length-append, map-append, get_or_append_left}
use Rattle.std.proofs.lemmas.List.Elements.{All-push, All-weaker, recursion_from_All}
use Rattle.digest_gate.specs.declared.digest.Digest.{Digest}
use Rattle.shard_file.specs.Rows as shards
use Rattle.shard_index.specs.Index as indexes
use Rattle.closure_plan.specs.declared.need.Need.{Need}
use Rattle.closure_plan.specs.declared.need.Need.TheVariants as need
use Rattle.closure_plan.specs.Names.{Name, is_name, has_name}
use Rattle.closure_request.specs.Request.{Asking}
use Rattle.closure_request.specs.Slots.{slots}
use Rattle.closure_plan.specs.Given.{Pins, is_at, pin_at, wanted}
use Rattle.closure_plan.specs.Laws.{Extends}
use Rattle.closure_plan.specs.Needs.{Wish, has_wish, is_key, same_wish}
use Rattle.closure_plan.specs.Plan.{CanMark, HasNumber, IsLeaf, IsNeed, IsPlan, IsReached, Known, Placed, Planned, digest_of_need, has_given, its_leaves, its_needs, its_next, its_pins, its_wishes, leaf_of, leaves_of, may_ask, name_at, pins_of, same_need, wish_of}
use Rattle.closure_plan.specs.Giving.{Gave, with_pin}
use Rattle.closure_plan.specs.Filling.{Fills, GiveFills, IsNeedOf, NextCanBeMarked, PinFills}
use Rattle.closure_plan.proofs.ArrivalLemmas.{and_both, and_first, and_second}
use Rattle.closure_plan.proofs.AskLemmas.{can_mark}
use Rattle.closure_plan.proofs.GiveLemmas.{leaf_names}
use Rattle.closure_plan.proofs.KeepLemmas.{ext, none_of_some, not_one, other_pin}
use Rattle.closure_plan.proofs.LawLemmas.{next_askable}
use Rattle.closure_plan.proofs.MarkLemmas.{same_is}
use Rattle.closure_plan.proofs.NameLemmas.{In, itself, one_name, or_left, or_right}
use Rattle.closure_plan.proofs.NeedLemmas.{numbers_are, wish_itself}
use Rattle.closure_plan.proofs.NumberLemmas.{number_of, one_number}
use Rattle.closure_plan.proofs.PinLemmas.{some_stays, wanted_stays}

-- ---- lists

append_none : (xs : List Name) → xs ≡ xs ++ []
append_none [] = refl
append_none (x ∷ xs) = ap (λ ys. x ∷ ys) (append_none xs)

-- what two readings say alike of the name of a number
same_at : (f g : Name → Option Digest) (names : List Name) (k : ℕ) → k < length names → f (name_at names k) ≡ g (name_at names k)
    → option_and_then f (slice_get names k) ≡ option_and_then g (slice_get names k)
same_at f g [] k l e = absurd (omega arith)
same_at f g (n ∷ ns) zero l e = e
same_at f g (n ∷ ns) (suc k) l e = same_at f g ns k (omega arith) e

-- a name that is listed keeps its number
same_get : (names fresh : List Name) (k : ℕ) → k < length names → slice_get (names ++ fresh) k ≡ slice_get names k
same_get [] fresh k l = absurd (omega arith)
same_get (n ∷ ns) fresh zero l = refl
same_get (n ∷ ns) fresh (suc k) l = same_get ns fresh k (omega arith)

module _ {X : Type 0} (p : X → Bool) (y : X) where
  found_last : (xs : List X) → p y ≡ true → is_some (find p (xs ++ y ∷ [])) ≡ true
  found_last [] e = ap (λ b. is_some (cond b (Some y) None)) e
  found_last (x ∷ xs) e = elim (p x) as (λ b. is_some (cond b (Some x) (find p (xs ++ y ∷ []))) ≡ true) [
    | true ↦ refl
    | false ↦ found_last xs e
  ]

  found_else : (xs : List X) → p y ≡ false → find p (xs ++ y ∷ []) ≡ find p xs
  found_else [] e = ap (λ b. cond b (Some y) None) e
  found_else (x ∷ xs) e = elim (p x) as (λ b. cond b (Some x) (find p (xs ++ y ∷ [])) ≡ cond b (Some x) (find p xs)) [
    | true ↦ refl
    | false ↦ found_else xs e
  ]

-- ---- pins

module _ {P : Type 0} (pinned : P → indexes.Contents) (holder : P) where
  set_pinned : (pins : List (Option P)) (s : ℕ) → s < length pins → is_some (pin_at (pins_of pinned (slice_set pins s (Some holder))) s) ≡ true
  set_pinned [] s l = absurd (omega arith)
  set_pinned (p ∷ ps) zero l = refl
  set_pinned (p ∷ ps) (suc s) l = set_pinned ps s (omega arith)

  -- from each start a pin more is counted
  count_start : (n m : ℕ) (pins : List (Option P)) → n ≡ m + 1 → fold (λ a x. a + cond (is_some x) 1 0) n pins ≡ fold (λ a x. a + cond (is_some x) 1 0) m pins + 1
  count_start n m [] e = e
  count_start n m (p ∷ ps) e = count_start (n + cond (is_some p) 1 0) (m + cond (is_some p) 1 0) ps (omega (arith, e))

  count_set : (n : ℕ) (pins : List (Option P)) (s : ℕ) → s < length pins → pin_at (pins_of pinned pins) s ≡ None
      → fold (λ a x. a + cond (is_some x) 1 0) n (slice_set pins s (Some holder)) ≡ fold (λ a x. a + cond (is_some x) 1 0) n pins + 1
  count_set n [] s l e = absurd (omega arith)
  count_set n (None ∷ ps) zero l e = count_start (n + 1) (n + 0) ps (omega arith)
  count_set n (Some p ∷ ps) zero l e = absurd (true≢false (ap is_some e))
  count_set n (p ∷ ps) (suc s) l e = count_set (n + cond (is_some p) 1 0) ps s (omega arith) e

module _ {P H : Type 0} (pinned : P → indexes.Contents) (held : H → shards.Contents) where
  -- a shard that was given is needed
  leaf_wanted : (r : Asking) (pins : Pins) (names : List Name) (ls : List (Placed H)) → AllByRecursion (IsLeaf held r pins names) ls
      → (s : ℕ) (n : Name) → is_some (find (is_at s n) (leaves_of held ls)) ≡ true → is_some (wanted r pins s n) ≡ true
  leaf_wanted r pins names [] all s n e = absurd (true≢false (sym e))
  leaf_wanted r pins names (l ∷ ls) all s n e = elim (is_at s n (leaf_of held l)) as (λ b. is_at s n (leaf_of held l) ≡ b → is_some (cond b (Some (leaf_of held l)) (find (is_at s n) (leaves_of held ls))) ≡ true → is_some (wanted r pins s n) ≡ true) [
    | true ↦ λ here _.
        ap (λ t. is_some (wanted r pins t n)) (sym ((unsigned_Decides l.slot s).0 (and_first (l.slot == s) (is_name n l.name) here)))
        ∙ ap (λ m. is_some (wanted r pins l.slot m)) (one_name n l.name (and_second (l.slot == s) (is_name n l.name) here))
        ∙ ap is_some all.0.digest
    | false ↦ λ _ e. leaf_wanted r pins names ls all.1 s n e
  ] refl e

  leaves_in : (k : Known P H) → IsReached pinned held k → AllByRecursion (IsLeaf held k.request (its_pins pinned held k) k.names) k.leaves
  leaves_in k is = recursion_from_All (IsLeaf held k.request (its_pins pinned held k) k.names) k.leaves is.leaves

  module _ (slot : ℕ) (holder : P) (old : Known P H) (is : IsReached pinned held old)
      (i : IsNeedOf pinned held old (need.Index slot)) (g : has_given pinned held old (need.Index slot) ≡ false) where
    abbrev new : Known P H
    new = with_pin slot holder old

    abbrev before : Pins
    before = its_pins pinned held old

    abbrev after : Pins
    after = its_pins pinned held new

    unpinned : pin_at before slot ≡ None
    unpinned = none_of_some (pin_at before slot) g

    abbrev more : Extends before after
    more = ext pinned old.pins slot holder unpinned

    low : slot < length old.pins
    low = let l : slot < length (slots old.request) = i in let e : length old.pins ≡ length (slots old.request) = is.each_slot in omega arith

    pin_needs : (x : Need) → IsNeedOf pinned held old x → IsNeedOf pinned held new x
    pin_needs (need.Index t) h = h
    pin_needs (need.Shard t k) h = (h.0, some_stays old.request before after more t (name_at old.names k) h.1)

    pin_digests : (x : Need) → IsNeedOf pinned held old x → digest_of_need old.request after old.names x ≡ digest_of_need old.request before old.names x
    pin_digests (need.Index t) h = refl
    pin_digests (need.Shard t k) h = same_at (wanted old.request after t) (wanted old.request before t) old.names k h.0 (one (wanted old.request before t (name_at old.names k)) refl h.1)
      where
        one : (o : Option Digest) → wanted old.request before t (name_at old.names k) ≡ o → is_some o ≡ true → wanted old.request after t (name_at old.names k) ≡ wanted old.request before t (name_at old.names k)
        one None e some = absurd (true≢false (sym some))
        one (Some d) e some = wanted_stays old.request before after more t (name_at old.names k) d e ∙ sym e

    pin_others : (x : Need) → IsNeedOf pinned held old x → same_need (need.Index slot) x ≡ false → has_given pinned held new x ≡ has_given pinned held old x
    pin_others (need.Index t) h apart = ap is_some (other_pin pinned old.pins slot (Some holder) t (λ same. true≢false (sym ((unsigned_Decides slot t).1 same) ∙ apart)))
    pin_others (need.Shard t k) h apart = refl

    pin_only : (x : Need) → IsNeedOf pinned held new x → has_given pinned held new x ≡ true → (x ≡ need.Index slot) ⊎ (IsNeedOf pinned held old x × (has_given pinned held old x ≡ true))
    pin_only (need.Index t) h e = elim (slot == t) as (λ b. (slot == t) ≡ b → (need.Index t ≡ need.Index slot) ⊎ (IsNeedOf pinned held old (need.Index t) × (has_given pinned held old (need.Index t) ≡ true))) [
      | true ↦ λ same. inl (ap (λ s. need.Index s) (sym ((unsigned_Decides slot t).0 same)))
      | false ↦ λ apart. inr (h, sym (pin_others (need.Index t) h apart) ∙ e)
    ] refl
    pin_only (need.Shard t k) h e = inr ((h.0, leaf_wanted old.request before old.names old.leaves (leaves_in old is) t (name_at old.names k) e), e)

    pub pin_fills : Fills pinned held (need.Index slot) old new
    pin_fills = record {
      request = refl;
      fresh = [];
      names = append_none old.names;
      needs = pin_needs;
      digests = pin_digests;
      filled = set_pinned pinned holder old.pins slot low;
      others = pin_others;
      only = pin_only;
      count = let one : count_by is_some (slice_set old.pins slot (Some holder)) ≡ count_by is_some old.pins + 1 = count_set pinned holder 0 old.pins slot low unpinned in omega (arith, one);
    }

  -- ---- shards

  module _ (slot k : ℕ) (holder : H) (old : Known P H) (is : IsReached pinned held old)
      (i : IsNeedOf pinned held old (need.Shard slot k)) (g : has_given pinned held old (need.Shard slot k) ≡ false) (fresh : List Name) where
    abbrev one : Placed H
    one = record { slot = slot; name = name_at old.names k; holder = holder }

    abbrev longer : List Name
    longer = old.names ++ fresh

    abbrev given_more : Known P H
    given_more = record { request = old.request; names = longer; pins = old.pins; leaves = old.leaves ++ one ∷ [] }

    abbrev pins : Pins
    pins = its_pins pinned held old

    more_leaves : leaves_of held (old.leaves ++ one ∷ []) ≡ leaves_of held old.leaves ++ leaf_of held one ∷ []
    more_leaves = map-append (leaf_of held) old.leaves (one ∷ [])

    kept : (m : ℕ) → m < length old.names → name_at longer m ≡ name_at old.names m
    kept m l = get_or_append_left old.names fresh [] m l

    give_needs : (x : Need) → IsNeedOf pinned held old x → IsNeedOf pinned held given_more x
    give_needs (need.Index t) h = h
    give_needs (need.Shard t m) h = (let l = h.0 in let e = length-append old.names fresh in omega arith, ap (λ n. is_some (wanted old.request pins t n)) (kept m h.0) ∙ h.1)

    give_digests : (x : Need) → IsNeedOf pinned held old x → digest_of_need old.request pins longer x ≡ digest_of_need old.request pins old.names x
    give_digests (need.Index t) h = refl
    give_digests (need.Shard t m) h = ap (option_and_then (wanted old.request pins t)) (same_get old.names fresh m h.0)

    itself_at : is_at slot (name_at old.names k) (leaf_of held one) ≡ true
    itself_at = and_both (slot == slot) (is_name (name_at old.names k) (name_at old.names k)) ((unsigned_Decides slot slot).1 refl) (itself (name_at old.names k))

    give_filled : has_given pinned held given_more (need.Shard slot k) ≡ true
    give_filled = ap (λ ls. is_some (find (is_at slot (name_at longer k)) ls)) more_leaves
        ∙ ap (λ n. is_some (find (is_at slot n) (leaves_of held old.leaves ++ leaf_of held one ∷ []))) (kept k i.0)
        ∙ found_last (is_at slot (name_at old.names k)) (leaf_of held one) (leaves_of held old.leaves) itself_at

    not_here : (t m : ℕ) → m < length old.names → ((slot == t) && (k == m)) ≡ false → is_at t (name_at old.names m) (leaf_of held one) ≡ false
    not_here t m l apart = elim (is_at t (name_at old.names m) (leaf_of held one)) as (λ b. is_at t (name_at old.names m) (leaf_of held one) ≡ b → b ≡ false) [
      | true ↦ λ e.
          let same : name_at old.names m ≡ name_at old.names k = one_name (name_at old.names m) (name_at old.names k) (and_second (slot == t) (is_name (name_at old.names m) (name_at old.names k)) e) in
          let number : m ≡ k = one_number old.names is.distinct m k l i.0 same in
          absurd (true≢false (sym (and_both (slot == t) (k == m) (and_first (slot == t) (is_name (name_at old.names m) (name_at old.names k)) e) ((unsigned_Decides k m).1 (sym number))) ∙ apart))
      | false ↦ λ _. refl
    ] refl

    give_others : (x : Need) → IsNeedOf pinned held old x → same_need (need.Shard slot k) x ≡ false → has_given pinned held given_more x ≡ has_given pinned held old x
    give_others (need.Index t) h apart = refl
    give_others (need.Shard t m) h apart =
        ap (λ ls. is_some (find (is_at t (name_at longer m)) ls)) more_leaves
        ∙ ap (λ n. is_some (find (is_at t n) (leaves_of held old.leaves ++ leaf_of held one ∷ []))) (kept m h.0)
        ∙ ap is_some (found_else (is_at t (name_at old.names m)) (leaf_of held one) (leaves_of held old.leaves) (not_here t m h.0 apart))

    all_named : AllByRecursion (λ (l : Placed H). has_name old.names l.name ≡ true) (old.leaves ++ one ∷ [])
    all_named = recursion_from_All (λ (l : Placed H). has_name old.names l.name ≡ true) (old.leaves ++ one ∷ [])
        (All-push (λ (l : Placed H). has_name old.names l.name ≡ true) old.leaves one
        (All-weaker (IsLeaf held old.request pins old.names) (λ (l : Placed H). has_name old.names l.name ≡ true) (λ l x. x.reached) old.leaves is.leaves)
        (number_in old.names k i.0))
      where
        number_in : (names : List Name) (k : ℕ) → k < length names → has_name names (name_at names k) ≡ true
        number_in [] k l = absurd (omega arith)
        number_in (n ∷ ns) zero l = ap (λ b. b || has_name ns n) (itself n)
        number_in (n ∷ ns) (suc k) l = behind (is_name (name_at ns k) n) (has_name ns (name_at ns k)) (number_in ns k (omega arith))
          where
            behind : (a b : Bool) → b ≡ true → (a || b) ≡ true
            behind true b e = refl
            behind false b e = e

    -- a name of a shard that was given is one of those that were listed
    low_number : IsDistinct is_name longer → (t m : ℕ) → m < length longer → has_given pinned held given_more (need.Shard t m) ≡ true → m < length old.names
    low_number distinct t m l e =
        let there : In (name_at longer m) old.names = leaf_names pinned held old.names (old.leaves ++ one ∷ []) all_named t (name_at longer m) e in
        let at = number_of (name_at longer m) old.names there in
        let wide = length-append old.names fresh in
        let same : at.0 ≡ m = one_number longer distinct at.0 m (let low = at.1 in omega arith) l (kept at.0 at.1 ∙ at.2) in
        subst (λ x. x < length old.names) same at.1

    give_only : IsDistinct is_name longer → (x : Need) → IsNeedOf pinned held given_more x → has_given pinned held given_more x ≡ true
        → (x ≡ need.Shard slot k) ⊎ (IsNeedOf pinned held old x × (has_given pinned held old x ≡ true))
    give_only distinct (need.Index t) h e = inr (h, e)
    give_only distinct (need.Shard t m) h e =
        let l : m < length old.names = low_number distinct t m h.0 e in
        let was : IsNeedOf pinned held old (need.Shard t m) = (l, ap (λ n. is_some (wanted old.request pins t n)) (sym (kept m l)) ∙ h.1) in
        elim ((slot == t) && (k == m)) as (λ b. ((slot == t) && (k == m)) ≡ b → (need.Shard t m ≡ need.Shard slot k) ⊎ (IsNeedOf pinned held old (need.Shard t m) × (has_given pinned held old (need.Shard t m) ≡ true))) [
          | true ↦ λ same. inl (sym (same_is (need.Shard slot k) (need.Shard t m) same))
          | false ↦ λ apart. inr (was, sym (give_others (need.Shard t m) was apart) ∙ e)
        ] refl

    more_fills : IsDistinct is_name longer → Fills pinned held (need.Shard slot k) old given_more
    more_fills distinct = record {
      request = refl;
      fresh = fresh;
      names = refl;
      needs = give_needs;
      digests = give_digests;
      filled = give_filled;
      others = give_others;
      only = give_only distinct;
      count = let more : length (old.leaves ++ one ∷ []) ≡ length old.leaves + 1 = length-append old.leaves (one ∷ []) in omega (arith, more);
    }

  pub give_fills : (slot k : ℕ) (holder : H) (old new : Known P H) → IsReached pinned held old → IsReached pinned held new
      → IsNeedOf pinned held old (need.Shard slot k) → has_given pinned held old (need.Shard slot k) ≡ false → Gave slot k holder old new
      → Fills pinned held (need.Shard slot k) old new
  give_fills slot k holder old later is after i g gave =
      subst (Fills pinned held (need.Shard slot k) old) (sym (λ j. record { request = gave.request j; names = gave.names j; pins = gave.pins j; leaves = gave.leaves j }))
      (more_fills slot k holder old is i g gave.fresh (subst (IsDistinct is_name) gave.names after.distinct))

  -- ---- the next need

  pub next_can_be_marked : (p : Planned P H) → IsPlan pinned held p → (m : Need) → HasNumber p.known.names m
      → its_next pinned held p ≡ Some (wish_of p.known.names m)
      → CanMark pinned held p m × (list_any (is_key p.known.request (its_pins pinned held p.known) (wish_of p.known.names m)) (its_wishes pinned held p) ≡ false)
  next_can_be_marked p plan m h e =
      let wish : Wish = wish_of p.known.names m in
      let may : may_ask pinned held p wish ≡ true = next_askable p.known.request (its_pins pinned held p.known) (its_leaves pinned held p.known) (its_wishes pinned held p) wish e in
      let is_need : IsNeedOf pinned held p.known m = (numbers_are pinned held p.known plan.reached m h).1 (found_there (may_ask pinned held p) (its_needs pinned held p.known) wish e) in (
        can_mark pinned held p m is_need may,
        not_one (list_any (is_key p.known.request (its_pins pinned held p.known) wish) (its_wishes pinned held p))
            (and_second (not (has_given pinned held p.known m)) (not (list_any (is_key p.known.request (its_pins pinned held p.known) wish) (its_wishes pinned held p))) may),
      )
    where
      found_there : (q : Wish → Bool) (ws : List Wish) (w : Wish) → find q ws ≡ Some w → has_wish ws w ≡ true
      found_there q [] w e = absurd (true≢false (sym (ap is_some e)))
      found_there q (x ∷ xs) w e = elim (q x) as (λ b. cond b (Some x) (find q xs) ≡ Some w → has_wish (x ∷ xs) w ≡ true) [
        | true ↦ λ e. let same : x ≡ w = cc in or_left (same_wish w x) (has_wish xs w) (ap (same_wish w) same ∙ wish_itself w)
        | false ↦ λ e. or_right (same_wish w x) (has_wish xs w) (found_there q xs w e)
      ] e
