-- The names of which a shard may still be owed decide what is asked for next, and whether all is given.
use Rattle.std.proofs.Common.{◌≡◌, ℕ, zero, suc, ◌+◌, ◌<◌, ◌≤◌, arith, ltb, ltb-true, ltb-false, append_assoc, Bool, true, false, cond, ◌||◌, ◌&&◌, not, T, List, [], ◌∷◌, ◌++◌, map, length, take, drop, filter, find, flat_map, refl, sym, ap, subst, ◌∙◌, true≢false, Option, Some, None}
use Rattle.std.specs.Prelude.{is_some}
use Rattle.std.specs.Ordering.{is_lt}
use Rattle.std.specs.List.{All, AllByRecursion, list_all, list_any, slice_index_or, remove}
use Rattle.std.specs.Option.{option_or}
use Rattle.std.proofs.lemmas.List.{map-append, get_or_append_left}
use Rattle.std.proofs.lemmas.List.Elements.{All-append, All-take, All-drop, recursion_from_All}
use Rattle.std.proofs.lemmas.List.Folds.{find-append, list_all-append, list_any-append}
use Rattle.shard_file.specs.Rows as shards
use Rattle.shard_index.specs.Index as indexes
use Rattle.closure_plan.specs.Names.{Name, is_name, has_name, by_bytes, ascending}
use Rattle.closure_request.specs.Request.{Asking}
use Rattle.closure_request.specs.Slots.{numbers}
use Rattle.closure_plan.specs.Given.{Pins, LeafRows, is_at, wanted}
use Rattle.closure_plan.specs.Closure.{reach}
use Rattle.closure_plan.specs.Needs.{Wish, the_index, the_shard, is_given, is_key, shards_of}
use Rattle.closure_plan.specs.Plan.{Planned, its_pins, its_leaves, its_wishes, name_at, may_ask}
use Rattle.closure_plan.specs.Fresh.{IsOrder}
use Rattle.closure_plan.specs.Inside.{Holds}
use Rattle.closure_plan.specs.Owing.{AreOwing, Owes, has_all}
use Rattle.closure_plan.proofs.NameLemmas.{Within, Rises, pairs, one_name, itself, or_left, or_right, or_cases, same_names, has-ascending, rises-ascending}
use Rattle.closure_plan.proofs.ArrivalLemmas.{and_first, and_second}
use Rattle.closure_plan.proofs.NumberLemmas.{in_at, number_of}
use Rattle.closure_plan.proofs.OrderLemmas.{order_kept, map_take, map_drop, first_of, second_of}
use Rattle.std.specs.FinMap.Entries as entries

-- ---- rising lists

-- a list that is its own order rises
pub rises_order : (xs : List Name) → xs ≡ ascending xs → Rises xs
rises_order xs e = subst Rises (sym e) (rises-ascending xs)

pub order_rises : (xs : List Name) → Rises xs → xs ≡ ascending xs
order_rises xs h = same_names xs (ascending xs) h (rises-ascending xs) (λ q. sym (has-ascending q xs))

pairs_filter : (p : Name → Bool) (xs : List Name) → pairs (filter p xs) ≡ entries.where_key by_bytes p (pairs xs)
pairs_filter p [] = refl
pairs_filter p (x ∷ xs) = elim (p x) as (λ b. pairs (cond b (x ∷ filter p xs) (filter p xs)) ≡ cond b ((x, tt) ∷ entries.where_key by_bytes p (pairs xs)) (entries.where_key by_bytes p (pairs xs))) [
  | true ↦ ap (λ es. (x, tt) ∷ es) (pairs_filter p xs)
  | false ↦ pairs_filter p xs
]

-- what passes of a rising list rises
rises_filter : (p : Name → Bool) (xs : List Name) → Rises xs → Rises (filter p xs)
rises_filter p xs h = subst (λ es. T (entries.is_sorted by_bytes es)) (sym (pairs_filter p xs)) (entries.is_sorted-where_key by_bytes p (pairs xs) h)

and_false : (b : Bool) → (b && false) ≡ false
and_false true = refl
and_false false = refl

has_filter : (p : Name → Bool) (q : Name) (xs : List Name) → has_name (filter p xs) q ≡ (has_name xs q && p q)
has_filter p q [] = refl
has_filter p q (x ∷ xs) =
    let rest = has_filter p q xs in
    elim (is_name q x) as (λ b. is_name q x ≡ b → has_name (cond (p x) (x ∷ filter p xs) (filter p xs)) q ≡ ((b || has_name xs q) && p q)) [
      | true ↦ λ same. elim (p x) as (λ c. p x ≡ c → has_name (cond c (x ∷ filter p xs) (filter p xs)) q ≡ p q) [
        | true ↦ λ px. ap (λ b. b || has_name (filter p xs) q) same ∙ sym (ap p (one_name q x same) ∙ px)
        | false ↦ λ px. let pq : p q ≡ false = ap p (one_name q x same) ∙ px in rest ∙ ap (λ b. has_name xs q && b) pq ∙ and_false (has_name xs q) ∙ sym pq
      ] refl
      | false ↦ λ apart. elim (p x) as (λ c. has_name (cond c (x ∷ filter p xs) (filter p xs)) q ≡ (has_name xs q && p q)) [
        | true ↦ ap (λ b. b || has_name (filter p xs) q) apart ∙ rest
        | false ↦ rest
      ]
    ] refl

-- a rising list within another is what it has of that
within_filter : (xs ys : List Name) → Rises xs → Rises ys → Within xs ys → xs ≡ filter (has_name xs) ys
within_filter xs ys f g within = same_names xs (filter (has_name xs) ys) f (rises_filter (has_name xs) ys g) (λ q. sym (has_filter (has_name xs) q ys ∙ both q))
  where
    both : (q : Name) → (has_name ys q && has_name xs q) ≡ has_name xs q
    both q = elim (has_name xs q) as (λ b. has_name xs q ≡ b → (has_name ys q && b) ≡ b) [
      | true ↦ λ i. ap (λ b. b && true) (within q i)
      | false ↦ λ i. and_false (has_name ys q)
    ] refl

-- ---- lists of what names stand for

module _ {W : Type 0} (p : W → Bool) (lists : Name → List W) (t : Name → Bool) where
  find_filtered : (ys : List Name) → ((n : Name) → has_name ys n ≡ true → t n ≡ false → find p (lists n) ≡ None) → find p (flat_map lists (filter t ys)) ≡ find p (flat_map lists ys)
  find_filtered [] none = refl
  find_filtered (x ∷ xs) none =
      let rest : find p (flat_map lists (filter t xs)) ≡ find p (flat_map lists xs) = find_filtered xs (λ n i e. none n (or_right (is_name n x) (has_name xs n) i) e) in
      elim (t x) as (λ b. t x ≡ b → find p (flat_map lists (cond b (x ∷ filter t xs) (filter t xs))) ≡ find p (lists x ++ flat_map lists xs)) [
        | true ↦ λ e. find-append p (lists x) (flat_map lists (filter t xs)) ∙ ap (λ o. option_or (find p (lists x)) o) rest ∙ sym (find-append p (lists x) (flat_map lists xs))
        | false ↦ λ e. rest ∙ ap (λ o. option_or o (find p (flat_map lists xs))) (sym (none x (or_left (is_name x x) (has_name xs x) (itself x)) e)) ∙ sym (find-append p (lists x) (flat_map lists xs))
      ] refl

  all_filtered : (ys : List Name) → ((n : Name) → has_name ys n ≡ true → t n ≡ false → list_all p (lists n) ≡ true) → list_all p (flat_map lists (filter t ys)) ≡ list_all p (flat_map lists ys)
  all_filtered [] all = refl
  all_filtered (x ∷ xs) all =
      let rest : list_all p (flat_map lists (filter t xs)) ≡ list_all p (flat_map lists xs) = all_filtered xs (λ n i e. all n (or_right (is_name n x) (has_name xs n) i) e) in
      elim (t x) as (λ b. t x ≡ b → list_all p (flat_map lists (cond b (x ∷ filter t xs) (filter t xs))) ≡ list_all p (lists x ++ flat_map lists xs)) [
        | true ↦ λ e. list_all-append p (lists x) (flat_map lists (filter t xs)) ∙ ap (λ b. list_all p (lists x) && b) rest ∙ sym (list_all-append p (lists x) (flat_map lists xs))
        | false ↦ λ e. rest ∙ ap (λ b. b && list_all p (flat_map lists xs)) (sym (all x (or_left (is_name x x) (has_name xs x) (itself x)) e)) ∙ sym (list_all-append p (lists x) (flat_map lists xs))
      ] refl

none_found : {W : Type 0} (g p : W → Bool) → ((w : W) → g w ≡ true → p w ≡ false) → (ws : List W) → list_all g ws ≡ true → find p ws ≡ None
none_found g p apart [] all = refl
none_found g p apart (w ∷ ws) all =
    ap (λ b. cond b (Some w) (find p ws)) (apart w (and_first (g w) (list_all g ws) all)) ∙ none_found g p apart ws (and_second (g w) (list_all g ws) all)

all_on : {W : Type 0} (p q : W → Bool) → ((w : W) → p w ≡ true → q w ≡ true) → (ws : List W) → list_all p ws ≡ true → list_all q ws ≡ true
all_on p q on [] all = refl
all_on p q on (w ∷ ws) all =
    ap (λ b. b && list_all q ws) (on w (and_first (p w) (list_all p ws) all)) ∙ all_on p q on ws (and_second (p w) (list_all p ws) all)

-- ---- names by number

within_names : (names : List Name) (ks : List ℕ) → AllByRecursion (λ k. k < length names) ks → Within (map (name_at names) ks) names
within_names names [] a q i = absurd (true≢false (sym i))
within_names names (k ∷ ks) a q i = or_cases (is_name q (name_at names k)) (has_name (map (name_at names) ks) q) (has_name names q ≡ true)
    (λ e. subst (λ n. has_name names n ≡ true) (sym (one_name q (name_at names k) e)) (in_at names k a.0))
    (λ e. within_names names ks a.1 q e)
    i

not_asked : (given other : Bool) → given ≡ true → (not given && not other) ≡ false
not_asked given other e = ap (λ b. not b && not other) e

module _ {P H : Type 0} (pinned : P → indexes.Contents) (held : H → shards.Contents) (seen : Planned P H) (by_name : List ℕ) (room : ℕ) (h : Holds pinned held seen by_name room)
    (owing : List ℕ) (o : AreOwing seen.known.request (its_pins pinned held seen.known) seen.known.names (its_leaves pinned held seen.known) owing) where
  abbrev r : Asking
  r = seen.known.request

  abbrev pins : Pins
  pins = its_pins pinned held seen.known

  abbrev leaves : List LeafRows
  leaves = its_leaves pinned held seen.known

  abbrev owed : List Name
  owed = map (name_at seen.known.names) owing

  owed_filter : owed ≡ filter (has_name owed) (ascending seen.known.names)
  owed_filter = within_filter owed (ascending seen.known.names) (rises_order owed o.order) (rises-ascending seen.known.names)
      (λ q i. has-ascending q seen.known.names ∙ within_names seen.known.names owing (recursion_from_All (λ k. k < length seen.known.names) owing o.within) q i)

  has_others : (n : Name) → has_name (ascending seen.known.names) n ≡ true → has_name owed n ≡ false → has_all r pins leaves n ≡ true
  has_others n i e = o.others n (sym (has-ascending n seen.known.names) ∙ i) e

  -- what is asked for first is found among them
  pub owing_find : find (may_ask pinned held seen) (flat_map (shards_of r pins) owed) ≡ find (may_ask pinned held seen) (flat_map (shards_of r pins) (reach r pins leaves))
  owing_find =
      ap (λ ns. find (may_ask pinned held seen) (flat_map (shards_of r pins) ns)) owed_filter
      ∙ find_filtered (may_ask pinned held seen) (shards_of r pins) (has_name owed) (ascending seen.known.names)
      (λ n i e. none_found (is_given pins leaves) (may_ask pinned held seen) (λ w g. not_asked (is_given pins leaves w) (list_any (is_key r pins w) (its_wishes pinned held seen)) g) (shards_of r pins n) (has_others n i e))
      ∙ ap (λ ns. find (may_ask pinned held seen) (flat_map (shards_of r pins) ns)) h.keeps.reached.all_reached

  -- all is given where all of them is
  pub owing_all : list_all (is_given pins leaves) (flat_map (shards_of r pins) owed) ≡ list_all (is_given pins leaves) (flat_map (shards_of r pins) (reach r pins leaves))
  owing_all =
      ap (λ ns. list_all (is_given pins leaves) (flat_map (shards_of r pins) ns)) owed_filter
      ∙ all_filtered (is_given pins leaves) (shards_of r pins) (has_name owed) (ascending seen.known.names) has_others
      ∙ ap (λ ns. list_all (is_given pins leaves) (flat_map (shards_of r pins) ns)) h.keeps.reached.all_reached

-- ---- one less

both_of : (a b : Bool) → T a → T b → T (a && b)
both_of true b x y = y
both_of false b x y = x

below_remove : (x : Name) (xs : List Name) (at : ℕ) → T (entries.below_all by_bytes x (pairs xs)) → T (entries.below_all by_bytes x (pairs (remove xs at)))
below_remove x [] zero h = h
below_remove x [] (suc at) h = h
below_remove x (y ∷ ys) zero h = second_of (is_lt (by_bytes x y)) (entries.below_all by_bytes x (pairs ys)) h
below_remove x (y ∷ ys) (suc at) h = both_of (is_lt (by_bytes x y)) (entries.below_all by_bytes x (pairs (remove ys at)))
    (first_of (is_lt (by_bytes x y)) (entries.below_all by_bytes x (pairs ys)) h)
    (below_remove x ys at (second_of (is_lt (by_bytes x y)) (entries.below_all by_bytes x (pairs ys)) h))

-- a rising list without one of its elements rises
rises_remove : (xs : List Name) (at : ℕ) → Rises xs → Rises (remove xs at)
rises_remove [] zero h = h
rises_remove [] (suc at) h = h
rises_remove (x ∷ xs) zero h = second_of (entries.below_all by_bytes x (pairs xs)) (entries.is_sorted by_bytes (pairs xs)) h
rises_remove (x ∷ xs) (suc at) h = both_of (entries.below_all by_bytes x (pairs (remove xs at))) (entries.is_sorted by_bytes (pairs (remove xs at)))
    (below_remove x xs at (first_of (entries.below_all by_bytes x (pairs xs)) (entries.is_sorted by_bytes (pairs xs)) h))
    (rises_remove xs at (second_of (entries.below_all by_bytes x (pairs xs)) (entries.is_sorted by_bytes (pairs xs)) h))

map_remove : (f : ℕ → Name) (ks : List ℕ) (at : ℕ) → map f (remove ks at) ≡ remove (map f ks) at
map_remove f ks at = map-append f (take at ks) (drop (suc at) ks) ∙ ap (λ xs. xs ++ map f (drop (suc at) ks)) (map_take f ks at) ∙ ap (λ xs. take at (map f ks) ++ xs) (map_drop f ks (suc at))

or_right_of : (a b : Bool) → (a || b) ≡ true → b ≡ false → a ≡ true
or_right_of true b e f = refl
or_right_of false b e f = absurd (true≢false (sym e ∙ f))

or_false_left : (a b : Bool) → (a || b) ≡ false → a ≡ false
or_false_left true b e = e
or_false_left false b e = refl

or_false_right : (a b : Bool) → (a || b) ≡ false → b ≡ false
or_false_right true b e = absurd (true≢false e)
or_false_right false b e = e

-- the name that isn't left is that of the number which was removed
removed_name : (f : ℕ → Name) (n : Name) (ks : List ℕ) (at d : ℕ) → has_name (map f ks) n ≡ true → has_name (map f (remove ks at)) n ≡ false → n ≡ f (slice_index_or ks at d)
removed_name f n [] at d i e = absurd (true≢false (sym i))
removed_name f n (k ∷ ks) zero d i e = one_name n (f k) (or_right_of (is_name n (f k)) (has_name (map f ks) n) i e)
removed_name f n (k ∷ ks) (suc at) d i e =
    removed_name f n ks at d
    (or_cases (is_name n (f k)) (has_name (map f ks) n) (has_name (map f ks) n ≡ true)
    (λ here. absurd (true≢false (sym here ∙ or_false_left (is_name n (f k)) (has_name (map f (remove ks at)) n) e)))
    (λ there. there) i)
    (or_false_right (is_name n (f k)) (has_name (map f (remove ks at)) n) e)

module _ (r : Asking) (pins : Pins) (names : List Name) (leaves : List LeafRows) (owing : List ℕ) where
  -- a name less, of which all is given
  pub owing_less : AreOwing r pins names leaves owing → (at d : ℕ) → has_all r pins leaves (name_at names (slice_index_or owing at d)) ≡ true → AreOwing r pins names leaves (remove owing at)
  owing_less o at d all = record {
    order = order_rises (map (name_at names) (remove owing at)) (subst Rises (sym (map_remove (name_at names) owing at)) (rises_remove (map (name_at names) owing) at (rises_order (map (name_at names) owing) o.order)));
    within = All-append (λ k. k < length names) (take at owing) (drop (suc at) owing) (All-take (λ k. k < length names) at owing o.within) (All-drop (λ k. k < length names) (suc at) owing o.within);
    others = λ n i e. elim (has_name (map (name_at names) owing) n) as (λ b. has_name (map (name_at names) owing) n ≡ b → has_all r pins leaves n ≡ true) [
      | true ↦ λ there. ap (has_all r pins leaves) (removed_name (name_at names) n owing at d there e) ∙ all
      | false ↦ λ other. o.others n i other
    ] refl;
  }

  -- each listed name may be owed one
  pub owing_each : map (name_at names) owing ≡ ascending names → All (λ k. k < length names) owing → AreOwing r pins names leaves owing
  owing_each is within = record {
    order = order_rises (map (name_at names) owing) (subst Rises (sym is) (rises-ascending names));
    within = within;
    others = λ n i e. absurd (true≢false (sym i ∙ sym (has-ascending n names) ∙ ap (λ ns. has_name ns n) (sym is) ∙ e));
  }

  given_on : (later : List LeafRows) (w : Wish) → is_given pins leaves w ≡ true → is_given pins (leaves ++ later) w ≡ true
  given_on later (the_index s) e = e
  given_on later (the_shard s n) e = ap is_some (find-append (is_at s n) leaves later) ∙ some_or (find (is_at s n) leaves) e
    where
      some_or : (o : Option LeafRows) → is_some o ≡ true → is_some (option_or o (find (is_at s n) later)) ≡ true
      some_or None e = absurd (true≢false (sym e))
      some_or (Some l) e = refl

  module _ (o : AreOwing r pins names leaves owing) (fresh : List Name) where
    -- the same numbers, where more names have numbers
    pub owing_kept : IsOrder (names ++ fresh) (map (name_at names) owing) owing
    owing_kept = order_kept names fresh (map (name_at names) owing) owing o.order o.within

    -- some names and leaves more, where the numbers of those of which a shard is needed are among them
    pub owing_given : (later : List LeafRows) (more : List ℕ) → Owes r pins (names ++ fresh) (length names) (length (names ++ fresh)) owing more → AreOwing r pins (names ++ fresh) (leaves ++ later) more
    owing_given later more owes =
        let owed : List Name = map (name_at names) owing in
        let put = owes owed owing_kept in record {
          order = order_rises (map (name_at (names ++ fresh)) more) (subst Rises (sym put.1.is) (rises-ascending (owed ++ put.0)));
          within = put.1.within;
          others = λ n i e.
              let none : (has_name owed n || has_name put.0 n) ≡ false = sym (list_any-append (is_name n) owed put.0) ∙ sym (has-ascending n (owed ++ put.0)) ∙ ap (λ ns. has_name ns n) (sym put.1.is) ∙ e in
              let at = number_of n (names ++ fresh) i in
              elim (ltb at.0 (length names)) as (λ b. ltb at.0 (length names) ≡ b → has_all r pins (leaves ++ later) n ≡ true) [
                | true ↦ λ t.
                    let listed : has_name names n ≡ true = subst (λ m. has_name names m ≡ true) (sym (get_or_append_left names fresh [] at.0 (ltb-true at.0 (length names) t)) ∙ at.2) (in_at names at.0 (ltb-true at.0 (length names) t)) in
                    all_on (is_given pins leaves) (is_given pins (leaves ++ later)) (given_on later) (shards_of r pins n) (o.others n listed (or_false_left (has_name owed n) (has_name put.0 n) none))
                | false ↦ λ t.
                    let left : has_name put.0 (name_at (names ++ fresh) at.0) ≡ false = ap (has_name put.0) at.2 ∙ or_false_right (has_name owed n) (has_name put.0 n) none in
                    ap (has_all r pins (leaves ++ later)) (sym at.2) ∙ ap (list_all (is_given pins (leaves ++ later))) (put.2 at.0 (ltb-false at.0 (length names) t) at.1 left)
              ] refl;
        }

-- ---- the names of which a shard is needed, one after another

no_more : (xs : List Name) → xs ≡ xs ++ []
no_more [] = refl
no_more (x ∷ xs) = ap (λ ys. x ∷ ys) (no_more xs)

module _ (r : Asking) (pins : Pins) (names : List Name) where
  pub owes_none : (from : ℕ) (old : List ℕ) → Owes r pins names from from old old
  owes_none from old rest o = ([], subst (λ ns. IsOrder names ns old) (no_more rest) o, λ k low high e. absurd (omega arith))

  unneeded : (n : Name) (ss : List ℕ) → list_all (λ s. not (is_some (wanted r pins s n))) ss ≡ true → flat_map (λ s. cond (is_some (wanted r pins s n)) (the_shard s n ∷ []) []) ss ≡ []
  unneeded n [] all = refl
  unneeded n (s ∷ ss) all = elim (is_some (wanted r pins s n)) as (λ b. (not b && list_all (λ s. not (is_some (wanted r pins s n))) ss) ≡ true → (cond b (the_shard s n ∷ []) [] ++ flat_map (λ s. cond (is_some (wanted r pins s n)) (the_shard s n ∷ []) []) ss) ≡ []) [
    | true ↦ λ e. absurd (true≢false (sym e))
    | false ↦ λ e. unneeded n ss e
  ] all

  -- a name of which no shard is needed
  pub owes_left : (from at : ℕ) (old new : List ℕ) → Owes r pins names from at old new → list_all (λ s. not (is_some (wanted r pins s (name_at names at)))) (numbers r) ≡ true → Owes r pins names from (at + 1) old new
  owes_left from at old new h none rest o = let put = h rest o in (
    put.0,
    put.1,
    λ k low high e. elim (ltb k at) as (λ b. ltb k at ≡ b → shards_of r pins (name_at names k) ≡ []) [
      | true ↦ λ t. put.2 k low (ltb-true k at t) e
      | false ↦ λ t. let here : at ≤ k = ltb-false k at t in let same : k ≡ at = omega arith in ap (λ j. shards_of r pins (name_at names j)) same ∙ unneeded (name_at names at) (numbers r) none
    ] refl,
  )

  -- a name of which one is needed
  pub owes_put : (from at : ℕ) (old mid new : List ℕ) → Owes r pins names from at old mid → ((listed : List Name) → IsOrder names listed mid → IsOrder names (listed ++ name_at names at ∷ []) new) → Owes r pins names from (at + 1) old new
  owes_put from at old mid new h step rest o = let put = h rest o in (
    put.0 ++ name_at names at ∷ [],
    subst (λ ns. IsOrder names ns new) (append_assoc rest put.0 (name_at names at ∷ [])) (step (rest ++ put.0) put.1),
    λ k low high e.
        let apart : (has_name put.0 (name_at names k) || has_name (name_at names at ∷ []) (name_at names k)) ≡ false = sym (list_any-append (is_name (name_at names k)) put.0 (name_at names at ∷ [])) ∙ e in
        elim (ltb k at) as (λ b. ltb k at ≡ b → shards_of r pins (name_at names k) ≡ []) [
          | true ↦ λ t. put.2 k low (ltb-true k at t) (or_false_left (has_name put.0 (name_at names k)) (has_name (name_at names at ∷ []) (name_at names k)) apart)
          | false ↦ λ t.
              let here : at ≤ k = ltb-false k at t in
              let same : k ≡ at = omega arith in
              absurd (true≢false (sym (ap (λ j. has_name (name_at names at ∷ []) (name_at names j)) same ∙ or_left (is_name (name_at names at) (name_at names at)) false (itself (name_at names at))) ∙ or_false_right (has_name put.0 (name_at names k)) (has_name (name_at names at ∷ []) (name_at names k)) apart))
        ] refl,
  )

  pub owes_end : (from at : ℕ) (old new : List ℕ) → length names ≤ at → Owes r pins names from at old new → Owes r pins names from (length names) old new
  owes_end from at old new l h rest o = let put = h rest o in (put.0, put.1, λ k low high e. put.2 k low (omega arith) e)
