-- What was made before makes a shard's arrival good.
use Rattle.std.proofs.Common.{◌≡◌, ℕ, ◌+◌, ◌*◌, ◌<◌, ◌≤◌, arith, true, ◌||◌, List, [], ◌∷◌, ◌++◌, length, map, set, take, find, refl, sym, ap, subst, ◌∙◌, Option, Some}
use Rattle.std.specs.List.{IsDistinct}
use Rattle.std.specs.Option.{option_and_then}
use Rattle.std.proofs.lemmas.List.{length-append, length-map, map-append}
use Rattle.std.proofs.lemmas.Option.{slice_get-get_or}
use Rattle.digest_gate.specs.Digest.{digest_of}
use Rattle.shard_file.specs.Rows as shards
use Rattle.shard_index.specs.Index as indexes
use Rattle.closure_plan.specs.declared.need.Need.TheVariants as need
use Rattle.closure_plan.specs.declared.plan.giving.Ready.{Ready}
use Rattle.closure_plan.specs.Names.{Name, is_name, has_name}
use Rattle.closure_request.specs.Slots.{slots}
use Rattle.closure_plan.specs.Given.{LeafRows, is_at, wanted}
use Rattle.closure_plan.specs.Cells.{AreCells, cell_at}
use Rattle.closure_plan.specs.Plan.{Planned, its_leaves, its_pins, leaf_of, leaves_of, name_at, digest_of_need, has_need, without}
use Rattle.closure_plan.specs.Inside.{Holds}
use Rattle.closure_plan.specs.Giving.{reached_by}
use Rattle.closure_plan.specs.Fresh.{IsOrder}
use Rattle.closure_plan.specs.Owing.{AreOwing, Owes}
use Rattle.closure_plan.specs.Ready.{IsReady}
use Rattle.closure_plan.proofs.CellLemmas.{cells_given, cells_same}
use Rattle.closure_plan.proofs.NumberLemmas.{place_low}
use Rattle.closure_plan.proofs.OrderLemmas.{order_kept}
use Rattle.closure_plan.proofs.OwingLemmas.{owing_given}
use Rattle.closure_plan.proofs.MarkLemmas.{slot_below}
use Rattle.closure_plan.proofs.KeepLemmas.{each_pin, marked_need, marked_open}
use Rattle.closure_plan.proofs.GiveLemmas.{holds_given, leaf_names, leaves_named, none_is}

append_none : {A : Type 0} (xs : List A) → xs ++ [] ≡ xs
append_none [] = refl
append_none (x ∷ xs) = ap (λ ys. x ∷ ys) (append_none xs)

module _ {P H : Type 0} (pinned : P → indexes.Contents) (held : H → shards.Contents) (seen : Planned P H) (by_name : List ℕ) (room : ℕ) (h : Holds pinned held seen by_name room)
    (slot k : ℕ) (marked : has_need seen.marked (need.Shard slot k) ≡ true) where
  -- the number is that of a name
  pub number_below : k < length seen.known.names
  number_below = (marked_need pinned held seen by_name room h (need.Shard slot k) marked).0

  -- with more room it is as good
  pub holds_wider : (wider : ℕ) → room ≤ wider → Holds pinned held seen by_name wider
  holds_wider wider l = record {
    keeps = h.keeps;
    order = h.order;
    within = h.within;
    apart = h.apart;
    room = let r = h.room in omega arith;
  }

  module _ (holder : H) (digest : digest_of_need seen.known.request (its_pins pinned held seen.known) seen.known.names (need.Shard slot k) ≡ Some (digest_of (held holder).bytes))
      (ready : Ready) (is : IsReady seen.known.request seen.known.names slot k (held holder).rows ready) where
    abbrev fresh : List Name
    fresh = ready.fresh.items

    wanted_is : wanted seen.known.request (its_pins pinned held seen.known) slot (name_at seen.known.names k) ≡ Some (digest_of (held holder).bytes)
    wanted_is = sym (ap (option_and_then (wanted seen.known.request (its_pins pinned held seen.known) slot)) (slice_get-get_or seen.known.names k [] number_below)) ∙ digest

    apart_names : IsDistinct is_name (seen.known.names ++ fresh)
    apart_names = is.grows.distinct (subst (IsDistinct is_name) (sym (append_none seen.known.names)) h.keeps.reached.distinct)

    new_names : (q : Name) → has_name (seen.known.names ++ fresh) q ≡ (has_name seen.known.names q || has_name (reached_by seen.known.request slot (name_at seen.known.names k) (held holder).rows) q)
    new_names q = is.grows.members q ∙ ap (λ ns. has_name ns q || has_name (reached_by seen.known.request slot (name_at seen.known.names k) (held holder).rows) q) (append_none seen.known.names)

    abbrev given : Name → Planned P H
    given name = record { known = record seen.known { names = seen.known.names ++ fresh; leaves = seen.known.leaves ++ record { slot = slot; name = name; holder = holder } ∷ [] }; marked = without (need.Shard slot k) seen.marked }

    -- a shard more
    pub holds_ready : (order : List ℕ) (wide : ℕ) → IsOrder (seen.known.names ++ fresh) (seen.known.names ++ fresh) order → ready.room ≤ wide
        → Holds pinned held (given ready.name) order wide
    holds_ready order wide o l = subst (λ n. Holds pinned held (given n) order wide) (sym is.name)
        (holds_given pinned held seen by_name room h slot k holder (marked_need pinned held seen by_name room h (need.Shard slot k) marked) wanted_is (marked_open pinned held seen by_name room h (need.Shard slot k) marked) fresh apart_names
        order wide new_names o.is o.within (let r = is.room in omega arith))

    slot_low : slot < length (slots seen.known.request)
    slot_low = slot_below seen.known.request (its_pins pinned held seen.known) seen.known.names (each_pin pinned held seen by_name room h) slot k
        (marked_need pinned held seen by_name room h (need.Shard slot k) marked)

    abbrev n_slots : ℕ
    n_slots = length (slots seen.known.request)

    abbrev old : List LeafRows
    old = its_leaves pinned held seen.known

    abbrev l : LeafRows
    l = record { slot = slot; name = ready.name; rows = (held holder).rows }

    -- the cell is among so many
    pub place_ready : (size : ℕ) → ready.room ≤ size → k * length (slots seen.known.request) + slot < size
    place_ready size wide =
        let r = is.room in
        let longer : k < length (seen.known.names ++ fresh) = let a = number_below in let b = length-append seen.known.names fresh in omega arith in
        place_low (length (seen.known.names ++ fresh)) n_slots k slot size longer slot_low (omega arith)

    -- a cell more is filled
    pub cells_ready : (cells grown : List (Option ℕ)) → AreCells (length (slots seen.known.request)) seen.known.names (its_leaves pinned held seen.known) cells
        → ((place : ℕ) → cell_at grown place ≡ cell_at cells place) → ready.room ≤ length grown
        → (place count : ℕ) → place ≡ k * length (slots seen.known.request) + slot → count ≡ length seen.known.leaves
        → AreCells (length (slots seen.known.request)) (seen.known.names ++ fresh) (leaves_of held (seen.known.leaves ++ record { slot = slot; name = ready.name; holder = holder } ∷ [])) (set grown place (Some count))
    cells_ready cells grown are same wide place count place_is count_is =
        subst (λ (ls : List LeafRows). AreCells n_slots (seen.known.names ++ fresh) ls (set grown place (Some count))) (sym (map-append (leaf_of held) seen.known.leaves (record { slot = slot; name = ready.name; holder = holder } ∷ [])))
        (subst (λ (p : ℕ). AreCells n_slots (seen.known.names ++ fresh) (old ++ l ∷ []) (set grown p (Some count))) (sym place_is)
        (subst (λ (m : ℕ). AreCells n_slots (seen.known.names ++ fresh) (old ++ l ∷ []) (set grown (k * n_slots + slot) (Some m))) (length-map seen.known.leaves (leaf_of held) ∙ sym count_is)
        (cells_given n_slots seen.known.names fresh old l grown (cells_same n_slots seen.known.names old cells grown same are) apart_names
        (leaf_names pinned held seen.known.names seen.known.leaves (leaves_named pinned held seen by_name room h))
        slot k slot_low number_below refl is.name (none_is (find (is_at slot (name_at seen.known.names k)) old) (marked_open pinned held seen by_name room h (need.Shard slot k) marked))
        (place_ready (length grown) wide))))

    -- the names of which a shard may be owed, with the new ones
    pub owing_ready : (owing more : List ℕ) → AreOwing seen.known.request (its_pins pinned held seen.known) seen.known.names (its_leaves pinned held seen.known) owing
        → Owes seen.known.request (its_pins pinned held seen.known) (seen.known.names ++ fresh) (length seen.known.names) (length (seen.known.names ++ fresh)) owing more
        → AreOwing seen.known.request (its_pins pinned held seen.known) (seen.known.names ++ fresh) (leaves_of held (seen.known.leaves ++ record { slot = slot; name = ready.name; holder = holder } ∷ [])) more
    owing_ready owing more o owes =
        subst (λ (ls : List LeafRows). AreOwing seen.known.request (its_pins pinned held seen.known) (seen.known.names ++ fresh) ls more) (sym (map-append (leaf_of held) seen.known.leaves (record { slot = slot; name = ready.name; holder = holder } ∷ [])))
        (owing_given seen.known.request (its_pins pinned held seen.known) seen.known.names old owing o fresh (l ∷ []) more owes)

    -- the names by number, with the new ones among them
    pub order_ready : (order : List ℕ) → (IsOrder (seen.known.names ++ fresh) (take (length seen.known.names) (seen.known.names ++ fresh)) by_name → IsOrder (seen.known.names ++ fresh) (seen.known.names ++ fresh) order) → IsOrder (seen.known.names ++ fresh) (seen.known.names ++ fresh) order
    order_ready order longer = longer (subst (λ ns. IsOrder (seen.known.names ++ fresh) ns by_name) (sym (front seen.known.names)) (order_kept seen.known.names fresh seen.known.names by_name h.order h.within))
      where
        front : (ns : List Name) → take (length ns) (ns ++ fresh) ≡ ns
        front [] = refl
        front (n ∷ ns) = ap (λ ms. n ∷ ms) (front ns)
