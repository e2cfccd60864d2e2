-- What stays so of a plan where a shard is given.
use Rattle.std.proofs.Common.{◌≡◌, ℕ, zero, suc, ◌+◌, ◌*◌, ◌<◌, ◌≤◌, Bool, true, false, cond, ◌||◌, ◌&&◌, ◌==◌, not, List, [], ◌∷◌, ◌++◌, map, length, refl, sym, ap, subst, ◌∙◌, true≢false, arith, find, flat_map, Option, Some, None, ltb, ltb-true, ltb-false}
use Rattle.std.specs.Prelude.{is_some, eqb}
use Rattle.std.specs.List.{All, AllByRecursion, IsDistinct, list_any, slice_index_or, range_with_len}
use Rattle.std.specs.Option.{option_or}
use Rattle.std.specs.Cmp.{unsigned_Decides}
use Rattle.std.proofs.lemmas.List.{length-append, map-append, get_or_append_left}
use Rattle.std.proofs.lemmas.List.Elements.{All-push, All-filter, All-weaker, recursion_from_All, filter_passes}
use Rattle.std.proofs.lemmas.List.Folds.{list_any-append, find-append}
use Rattle.std.proofs.lemmas.Map.Keys.{IsDistinct-head, IsDistinct-tail, IsDistinct-cons}
use Rattle.digest_gate.specs.Digest.{digest_of}
use Rattle.shard_file.specs.Rows as shards
use Rattle.shard_index.specs.Index as indexes
use Rattle.closure_plan.specs.declared.need.Need.{Need}
use Rattle.closure_plan.specs.declared.need.Need.TheVariants as need
use Rattle.closure_plan.specs.Names.{Name, is_name, has_name, ascending}
use Rattle.closure_request.specs.Request.{Asking, root_names}
use Rattle.closure_request.specs.Slots.{slots, numbers}
use Rattle.closure_plan.specs.Given.{Pins, LeafRows, is_at, rows_of, rows_at, wanted, given, given_of, deps_of}
use Rattle.closure_plan.specs.Rounds.{reached}
use Rattle.closure_plan.specs.Closure.{reach, leads_to, targets}
use Rattle.closure_plan.specs.Plan.{Placed, Planned, IsLeaf, IsNeed, is_same_leaf, leaf_of, leaves_of, name_at, same_need, without, has_given, its_pins, its_leaves}
use Rattle.closure_plan.specs.Inside.{Holds, place_of}
use Rattle.closure_plan.proofs.NameLemmas.{In, itself, one_name, or_left, same_names, rises-ascending, has-ascending}
use Rattle.closure_plan.proofs.ArrivalLemmas.{and_first, and_second, and_both, has_slot, reach_after}
use Rattle.closure_plan.proofs.NumberLemmas.{in_at, one_number}
use Rattle.closure_plan.proofs.MarkLemmas.{distinct_filtered, once_of}
use Rattle.closure_plan.proofs.PinLemmas.{wanted_within}
use Rattle.closure_plan.proofs.KeepLemmas.{each_pin, not_one}

pub range_has : (a k s : ℕ) → a ≤ s → s < a + k → list_any (λ t. t == s) (range_with_len a k) ≡ true
range_has a zero s low high = absurd (omega arith)
range_has a (suc k) s low high = elim (a == s) as (λ b. (a == s) ≡ b → (b || list_any (λ t. t == s) (range_with_len (a + 1) k)) ≡ true) [
  | true ↦ λ e. refl
  | false ↦ λ e. range_has (a + 1) k s (later e) (omega arith)
] refl
  where
    later : (a == s) ≡ false → a + 1 ≤ s
    later e = elim (ltb a s) as (λ b. ltb a s ≡ b → a + 1 ≤ s) [
      | true ↦ λ l. let h = ltb-true _ _ l in omega arith
      | false ↦ λ l. let h = ltb-false _ _ l in let same : a ≡ s = omega arith in absurd (true≢false (sym ((unsigned_Decides a s).1 same) ∙ e))
    ] refl

pub none_is : {A : Type 0} (o : Option A) → is_some o ≡ false → o ≡ None
none_is None e = refl
none_is (Some a) e = absurd (true≢false e)

or_none : (b : Bool) → (b || false) ≡ b
or_none true = refl
or_none false = refl

module _ {P H : Type 0} (pinned : P → indexes.Contents) (held : H → shards.Contents) where
  pub leaf_names : (names : List Name) (ls : List (Placed H)) → AllByRecursion (λ l. has_name names l.name ≡ true) ls → (s : ℕ) (n : Name) → is_some (find (is_at s n) (leaves_of held ls)) ≡ true → In n names
  leaf_names names [] all s n e = absurd (true≢false (sym e))
  leaf_names names (l ∷ ls) all s n e = elim (is_at s n (leaf_of held l)) as (λ b. is_at s n (leaf_of held l) ≡ b → is_some (cond b (Some (leaf_of held l)) (find (is_at s n) (leaves_of held ls))) ≡ true → In n names) [
    | true ↦ λ here e. subst (λ m. In m names) (sym (one_name n l.name (and_second (l.slot == s) (is_name n l.name) here))) all.0
    | false ↦ λ here e. leaf_names names ls all.1 s n e
  ] refl e

  -- each leaf has a listed name
  pub leaves_named : (seen : Planned P H) (by_name : List ℕ) (room : ℕ) → Holds pinned held seen by_name room → AllByRecursion (λ (l : Placed H). has_name seen.known.names l.name ≡ true) seen.known.leaves
  leaves_named seen by_name room h = recursion_from_All (λ (l : Placed H). has_name seen.known.names l.name ≡ true) seen.known.leaves
      (All-weaker (IsLeaf held seen.known.request (its_pins pinned held seen.known) seen.known.names) (λ (l : Placed H). has_name seen.known.names l.name ≡ true) (λ l i. i.reached) seen.known.leaves h.keeps.reached.leaves)

  module _ (seen : Planned P H) (by_name : List ℕ) (room : ℕ) (h : Holds pinned held seen by_name room)
      (slot k : ℕ) (holder : H) (i : IsNeed seen.known.request (its_pins pinned held seen.known) seen.known.names (need.Shard slot k))
      (digest : wanted seen.known.request (its_pins pinned held seen.known) slot (name_at seen.known.names k) ≡ Some (digest_of (held holder).bytes))
      (none : has_given pinned held seen.known (need.Shard slot k) ≡ false)
      (fresh : List Name) (distinct : IsDistinct is_name (seen.known.names ++ fresh)) where
    abbrev r : Asking
    r = seen.known.request

    abbrev pins : Pins
    pins = its_pins pinned held seen.known

    abbrev old : List LeafRows
    old = its_leaves pinned held seen.known

    abbrev name : Name
    name = name_at seen.known.names k

    abbrev one : Placed H
    one = record { slot = slot; name = name; holder = holder }

    abbrev longer : List Name
    longer = seen.known.names ++ fresh

    more_leaves : leaves_of held (seen.known.leaves ++ one ∷ []) ≡ old ++ leaf_of held one ∷ []
    more_leaves = map-append (leaf_of held) seen.known.leaves (one ∷ [])

    no_leaf : find (is_at slot name) old ≡ None
    no_leaf = none_is (find (is_at slot name) old) none

    its_place : is_at slot name (leaf_of held one) ≡ true
    its_place = and_both (slot == slot) (is_name name name) ((unsigned_Decides slot slot).1 refl) (itself name)

    new_rows : rows_at (old ++ leaf_of held one ∷ []) slot name ≡ (held holder).rows
    new_rows = ap rows_of (find-append (is_at slot name) old (leaf_of held one ∷ []) ∙ ap (λ o. option_or o (find (is_at slot name) (leaf_of held one ∷ []))) no_leaf ∙ ap (λ b. cond b (Some (leaf_of held one)) None) its_place)

    new_given : given r pins (old ++ leaf_of held one ∷ []) slot name ≡ given_of r slot name (held holder).rows
    new_given = ap (λ b. cond b (given_of r slot name (rows_at (old ++ leaf_of held one ∷ []) slot name)) []) (i.1) ∙ ap (given_of r slot name) new_rows

    at_slot : has_slot (numbers r) slot ≡ true
    at_slot = range_has 0 (length (slots r)) slot (omega arith) (let l = subst (λ m. slot < m) (each_pin pinned held seen by_name room h) (wanted_within r pins slot name i.1) in omega arith)

    kept_name : (m : ℕ) → m < length seen.known.names → name_at longer m ≡ name_at seen.known.names m
    kept_name m l = get_or_append_left seen.known.names fresh [] m l

    deep_reach : r.flat ≡ false → ((q : Name) → has_name longer q ≡ (has_name seen.known.names q || has_name (flat_map deps_of (given_of r slot name (held holder).rows)) q)) → ascending longer ≡ reach r pins (old ++ leaf_of held one ∷ [])
    deep_reach deep new = reach_after r pins old (leaf_of held one) deep seen.known.names longer h.keeps.reached.all_reached
        (leaf_names seen.known.names seen.known.leaves (recursion_from_All (λ l. has_name seen.known.names l.name ≡ true) seen.known.leaves (All-weaker (IsLeaf held r pins seen.known.names) (λ l. has_name seen.known.names l.name ≡ true) (λ l i. i.reached) seen.known.leaves h.keeps.reached.leaves)))
        (in_at seen.known.names k i.0) at_slot
        (λ q. new q ∙ ap (λ rows. has_name seen.known.names q || has_name (flat_map deps_of rows) q) (sym new_given))

    flat_reach : r.flat ≡ true → ((q : Name) → has_name longer q ≡ has_name seen.known.names q) → ascending longer ≡ reach r pins (old ++ leaf_of held one ∷ [])
    flat_reach flat new =
        same_names (ascending longer) (ascending seen.known.names) (rises-ascending longer) (rises-ascending seen.known.names) (λ q. has-ascending q longer ∙ new q ∙ sym (has-ascending q seen.known.names))
        ∙ h.keeps.reached.all_reached ∙ whole old ∙ sym (whole (old ++ leaf_of held one ∷ []))
      where
        whole : (leaves : List LeafRows) → reach r pins leaves ≡ ascending (root_names r)
        whole leaves = ap (λ b. cond b (ascending (root_names r)) (reached (leads_to r pins leaves) (targets leaves) (root_names r))) flat

    -- the names of what is given, where the request isn't flat
    abbrev added : List Name
    added = cond r.flat [] (flat_map deps_of (given_of r slot name (held holder).rows))

    all_reach : ((q : Name) → has_name longer q ≡ (has_name seen.known.names q || has_name added q)) → ascending longer ≡ reach r pins (old ++ leaf_of held one ∷ [])
    all_reach new = elim r.flat as (λ b. r.flat ≡ b → ((q : Name) → has_name longer q ≡ (has_name seen.known.names q || has_name (cond b [] (flat_map deps_of (given_of r slot name (held holder).rows))) q)) → ascending longer ≡ reach r pins (old ++ leaf_of held one ∷ [])) [
      | true ↦ λ flat new. flat_reach flat (λ q. new q ∙ or_none (has_name seen.known.names q))
      | false ↦ λ deep new. deep_reach deep new
    ] refl new

    abbrev left : List Need
    left = without (need.Shard slot k) seen.marked

    abbrev after : Planned P H
    after = record { known = record seen.known { names = longer; leaves = seen.known.leaves ++ one ∷ [] }; marked = left }

    longer_in : (n : Name) → has_name seen.known.names n ≡ true → has_name longer n ≡ true
    longer_in n e = list_any-append (is_name n) seen.known.names fresh ∙ or_left (has_name seen.known.names n) (has_name fresh n) e

    below_longer : (m : ℕ) → m < length seen.known.names → m < length longer
    below_longer m l = let e = length-append seen.known.names fresh in omega arith

    still_leaf : (l : Placed H) → IsLeaf held r pins seen.known.names l → IsLeaf held r pins longer l
    still_leaf l x = record { reached = longer_in l.name x.reached; digest = x.digest }

    still_need : (m : Need) → IsNeed r pins seen.known.names m → IsNeed r pins longer m
    still_need (need.Index t) x = x
    still_need (need.Shard t m) x = (below_longer m x.0, ap (λ n. is_some (wanted r pins t n)) (kept_name m x.0) ∙ x.1)

    not_here : (t m : ℕ) → m < length seen.known.names → ((slot == t) && (k == m)) ≡ false → is_at t (name_at seen.known.names m) (leaf_of held one) ≡ false
    not_here t m l apart = elim ((slot == t) && is_name (name_at seen.known.names m) name) as (λ b. ((slot == t) && is_name (name_at seen.known.names m) name) ≡ b → b ≡ false) [
      | true ↦ λ e.
          let same : name_at seen.known.names m ≡ name = one_name (name_at seen.known.names m) name (and_second (slot == t) (is_name (name_at seen.known.names m) name) e) in
          let number : m ≡ k = one_number seen.known.names h.keeps.reached.distinct m k l i.0 same in
          absurd (true≢false (sym (and_both (slot == t) (k == m) (and_first (slot == t) (is_name (name_at seen.known.names m) name) e) ((unsigned_Decides k m).1 (sym number))) ∙ apart))
      | false ↦ λ e. refl
    ] refl

    still_open : (m : Need) → IsNeed r pins seen.known.names m → not (same_need (need.Shard slot k) m) ≡ true → has_given pinned held seen.known m ≡ false → has_given pinned held after.known m ≡ false
    still_open (need.Index t) x apart g = g
    still_open (need.Shard t m) x apart g =
        ap (λ ls. is_some (find (is_at t (name_at longer m)) ls)) more_leaves
        ∙ ap (λ n. is_some (find (is_at t n) (old ++ leaf_of held one ∷ []))) (kept_name m x.0)
        ∙ ap is_some (find-append (is_at t (name_at seen.known.names m)) old (leaf_of held one ∷ [])
        ∙ ap (λ o. option_or o (find (is_at t (name_at seen.known.names m)) (leaf_of held one ∷ []))) (none_is (find (is_at t (name_at seen.known.names m)) old) g)
        ∙ ap (λ b. cond b (Some (leaf_of held one)) None) (not_here t m x.0 (not_one ((slot == t) && (k == m)) apart)))

    apart_left : IsDistinct eqb (map (place_of (length (slots r))) left)
    apart_left = distinct_filtered (place_of (length (slots r))) (λ x. not (same_need (need.Shard slot k) x)) seen.marked h.apart

    other_leaf : (l : Placed H) → is_at slot name (leaf_of held l) ≡ false → is_same_leaf l one ≡ false
    other_leaf l e = elim (is_same_leaf l one) as (λ b. is_same_leaf l one ≡ b → b ≡ false) [
      | true ↦ λ same.
          let named : l.name ≡ name = one_name l.name name (and_second (l.slot == slot) (is_name l.name name) same) in
          absurd (true≢false (sym (and_both (l.slot == slot) (is_name name l.name) (and_first (l.slot == slot) (is_name l.name name) same) (ap (is_name name) named ∙ itself name)) ∙ e))
      | false ↦ λ _. refl
    ] refl

    leaf_push : (l : Placed H) (ls : List (Placed H)) → AllByRecursion (λ m. is_same_leaf l m ≡ false) ls → is_same_leaf l one ≡ false → AllByRecursion (λ m. is_same_leaf l m ≡ false) (ls ++ one ∷ [])
    leaf_push l [] a e = (e, tt)
    leaf_push l (m ∷ ms) a e = (a.0, leaf_push l ms a.1 e)

    -- the new leaf is that of a slot and a name of its own
    distinct_leaves : (ls : List (Placed H)) → IsDistinct is_same_leaf ls → find (is_at slot name) (leaves_of held ls) ≡ None → IsDistinct is_same_leaf (ls ++ one ∷ [])
    distinct_leaves [] d none = IsDistinct-cons is_same_leaf one [] tt d
    distinct_leaves (l ∷ ls) d none = elim (is_at slot name (leaf_of held l)) as (λ b. is_at slot name (leaf_of held l) ≡ b → cond b (Some (leaf_of held l)) (find (is_at slot name) (leaves_of held ls)) ≡ None → IsDistinct is_same_leaf (l ∷ ls ++ one ∷ [])) [
      | true ↦ λ here e. absurd (true≢false (ap is_some e))
      | false ↦ λ other e. IsDistinct-cons is_same_leaf l (ls ++ one ∷ []) (leaf_push l ls (IsDistinct-head is_same_leaf l ls d) (other_leaf l other)) (distinct_leaves ls (IsDistinct-tail is_same_leaf l ls d) e)
    ] refl none

    -- a shard more
    pub holds_given : (by_name2 : List ℕ) (room2 : ℕ)
        → ((q : Name) → has_name longer q ≡ (has_name seen.known.names q || has_name added q))
        → map (name_at longer) by_name2 ≡ ascending longer
        → All (λ j. j < length longer) by_name2
        → (length longer + 1) * length (slots r) ≤ room2
        → Holds pinned held after by_name2 room2
    holds_given by_name2 room2 new order inside wide = record {
      keeps = record {
        reached = record {
          each_slot = h.keeps.reached.each_slot;
          distinct = distinct;
          all_reached = all_reach new ∙ ap (reach r pins) (sym more_leaves);
          leaves = All-push (IsLeaf held r pins longer) seen.known.leaves one (All-weaker (IsLeaf held r pins seen.known.names) (IsLeaf held r pins longer) still_leaf seen.known.leaves h.keeps.reached.leaves)
              (record { reached = longer_in name (in_at seen.known.names k i.0); digest = digest });
          one_leaf = distinct_leaves seen.known.leaves h.keeps.reached.one_leaf no_leaf;
        };
        marks = All-weaker (IsNeed r pins seen.known.names) (IsNeed r pins longer) still_need left (All-filter (λ x. not (same_need (need.Shard slot k) x)) (IsNeed r pins seen.known.names) seen.marked h.keeps.marks);
        not_given = λ j d l. still_open (slice_index_or left j d)
            (All-filter (λ x. not (same_need (need.Shard slot k) x)) (IsNeed r pins seen.known.names) seen.marked h.keeps.marks j d l)
            (filter_passes (λ x. not (same_need (need.Shard slot k) x)) seen.marked j d l)
            (All-filter (λ x. not (same_need (need.Shard slot k) x)) (λ m. has_given pinned held seen.known m ≡ false) seen.marked h.keeps.not_given j d l);
        once = once_of (length (slots r)) left apart_left;
      };
      order = order;
      within = inside;
      apart = apart_left;
      room = wide;
    }
