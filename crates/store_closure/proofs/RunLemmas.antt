-- Runs over the files of a store, need by need.
use Rattle.std.proofs.Common.{◌≡◌, ℕ, zero, suc, ◌∷◌, [], map, length, Option, Some, None, IfSome, Result, Ok, Err, refl, sym, ap, subst, ◌∙◌}
use Rattle.std.specs.List.{slice_set, list_all}
use Rattle.gateway_words.specs.Reading.{◌>>=◌}
use Rattle.channel_store.specs.Store.{Files}
use Rattle.closure_request.specs.Request.{Asking}
use Rattle.closure_request.specs.Slots.{slots}
use Rattle.closure_plan.specs.Plan.{Planned, its_next, wish_of}
use Rattle.closure_plan.specs.Start.{IsUntouched, unpinned}
use Rattle.closure_plan.specs.Needs.{Wish, next_wish}
use Rattle.store_closure.specs.declared.holders.OwnPin.{OwnPin}
use Rattle.store_closure.specs.declared.holders.OwnLeaf.{OwnLeaf}
use Rattle.store_closure.specs.declared.stop.BadFile.{BadFile}
use Rattle.store_closure.specs.Runs.{Taken, nothing, with_need, with_next, step, ComesTo, StopsAt}
use Rattle.store_closure.specs.Stops.{its_index, its_shard, taken, IsUnderWay}

-- where nothing is pinned, nothing was taken in
pub unpinned_is : {P Q : Type 0} (f : P → Q) (n : ℕ) → map (λ (o : Option P). Rattle.std.specs.Option.option_map f o) (unpinned n) ≡ unpinned n
unpinned_is f zero = refl
unpinned_is f (suc n) = ap (λ xs. None ∷ xs) (unpinned_is f n)

module _ (r : Asking) (p : Planned OwnPin OwnLeaf) where
  -- a plan at its start took nothing in
  took_nothing : IsUntouched r p → taken p.known ≡ nothing r
  took_nothing start = rw (start.pins, start.leaves, unpinned_is its_index (length (slots r))) refl

  -- it is under way
  pub starts : (files : Option Files) → IsUntouched r p → IsUnderWay files r p
  starts None start = record { request = start.request; unmarked = start.marked; run = tt }
  starts (Some told) start = record {
    request = start.request;
    unmarked = start.marked;
    run = record { count = 0; run = ap Ok (sym (took_nothing start)) };
  }

-- one need more
module _ (told : Files) (r : Asking) (t : Taken) (w : Wish) (next : next_wish r t.pins t.leaves [] ≡ Some w) where
  pub one_more : (end : Result Taken BadFile) → ComesTo told r (Ok t) → with_need told r t w ≡ end → ComesTo told r end
  one_more end so is = record {
    count = suc so.count;
    run = ap (λ (x : Result Taken BadFile). x >>= step told r) so.run ∙ ap (with_next told r t) next ∙ is;
  }

-- the need that a plan under way asks for next
pub next_of : (files : Option Files) (r : Asking) (p : Planned OwnPin OwnLeaf) (w : Wish) → IsUnderWay files r p → Some w ≡ its_next its_index its_shard p
    → next_wish r (taken p.known).pins (taken p.known).leaves [] ≡ Some w
next_of files r p w way next =
    let list = ap (map (wish_of p.known.names)) way.unmarked in
    ap (λ (a : Asking). next_wish a (taken p.known).pins (taken p.known).leaves []) (sym way.request)
    ∙ ap (next_wish p.known.request (taken p.known).pins (taken p.known).leaves) (sym list) ∙ sym next

module _ (r : Asking) (p : Planned OwnPin OwnLeaf) (w : Wish) where
  -- a run goes on
  pub goes_on : (files : Option Files) (q : Planned OwnPin OwnLeaf) → IsUnderWay files r p → Some w ≡ its_next its_index its_shard p
      → IfSome files (λ told. with_need told p.known.request (taken p.known) w ≡ Ok (taken q.known))
      → q.marked ≡ [] → q.known.request ≡ p.known.request → IsUnderWay files r q
  goes_on None q way next is unmarked same = record { request = same ∙ way.request; unmarked = unmarked; run = tt }
  goes_on (Some told) q way next is unmarked same = record {
    request = same ∙ way.request;
    unmarked = unmarked;
    run = one_more told r (taken p.known) w (next_of (Some told) r p w way next) (Ok (taken q.known)) way.run
        (ap (λ (a : Asking). with_need told a (taken p.known) w) (sym way.request) ∙ is);
  }

  -- a run stops
  pub stops : (files : Option Files) (bad : BadFile) → IsUnderWay files r p → Some w ≡ its_next its_index its_shard p
      → IfSome files (λ told. with_need told p.known.request (taken p.known) w ≡ Err bad) → IfSome files (λ told. StopsAt told r bad)
  stops None bad way next is = tt
  stops (Some told) bad way next is =
      one_more told r (taken p.known) w (next_of (Some told) r p w way next) (Err bad) way.run
      (ap (λ (a : Asking). with_need told a (taken p.known) w) (sym way.request) ∙ is)

-- the same over files that are those of the start
module _ (r : Asking) (p : Planned OwnPin OwnLeaf) (w : Wish) (files now : Option Files) (same : now ≡ files) (way : IsUnderWay files r p) (next : Some w ≡ its_next its_index its_shard p) where
  pub keeps_on : (q : Planned OwnPin OwnLeaf) → IfSome now (λ told. with_need told p.known.request (taken p.known) w ≡ Ok (taken q.known))
      → q.marked ≡ [] → q.known.request ≡ p.known.request → IsUnderWay files r q
  keeps_on q is unmarked asked =
      goes_on r p w files q way next (subst (λ (fs : Option Files). IfSome fs (λ told. with_need told p.known.request (taken p.known) w ≡ Ok (taken q.known))) same is) unmarked asked

  pub halts : (bad : Option BadFile) → IfSome now (λ told. IfSome bad (λ b. with_need told p.known.request (taken p.known) w ≡ Err b))
      → IfSome bad (λ b. IfSome files (λ told. StopsAt told r b))
  halts None is = tt
  halts (Some b) is = stops r p w files b way next (subst (λ (fs : Option Files). IfSome fs (λ told. with_need told p.known.request (taken p.known) w ≡ Err b)) same is)
