-- The next need may be asked for.
use Rattle.std.specs.Prelude.{◌≡◌, ◌≢◌, ◌||◌, ℕ, Bool, true, false, List, [], ◌∷◌, map, Option, Some, None, IfSome, refl}
use Rattle.std.specs.Option.{option_map}
use Rattle.std.specs.List.{All, list_any}
use Rattle.std.proofs.Common.{sym, ◌∙◌, ap, subst, inl, inr, true≢false}
use Rattle.std.proofs.lemmas.Option.{get_or_from_slice_get, slice_get_within}
use Rattle.link_io.specs.Conn.{LinkFacts}
use Rattle.channel_url.specs.Law.{IndexesAreApart}
use Rattle.fetch_flight.specs.declared.verdicts.Verdict.{Verdict}
use Rattle.closure_plan.specs.declared.need.Need.{Need}
use Rattle.closure_plan.specs.declared.need.Need.TheVariants as need
use Rattle.closure_plan.specs.Filling.{NextCanBeMarked}
use Rattle.closure_plan.specs.Needs.{is_key}
use Rattle.closure_plan.specs.Plan.{CanMark, HasNumber, IsNeed, IsPlan, Planned, its_next, its_pins, its_wishes, wish_of}
use Rattle.flight_journal.specs.Count.{Among}
use Rattle.query_needs.specs.Holders.{index_in, leaf_in}
use Rattle.query_needs.specs.Known.{IsKnown}
use Rattle.query_needs.specs.Targets.{key_at}
use Rattle.query_needs.proofs.KeyLemmas.{one_key}
use Rattle.query_future.specs.Sections.{IsNext}
use Rattle.query_future.proofs.AmongLemmas.{front_or, nothing}

all_among : {X : Type 0} (P : X → Type 0) (xs : List X) (x : X) → All P xs → Among x xs → P x
all_among P xs x h m = subst P (get_or_from_slice_get xs m.0 x x m.1) (h m.0 x (slice_get_within xs m.0 x m.1))

or_right : (a b : Bool) → b ≡ true → (a || b) ≡ true
or_right true b e = refl
or_right false b e = e

any_mapped : {X Y : Type 0} (f : Y → Bool) (g : X → Y) (xs : List X) (x : X) → Among x xs → f (g x) ≡ true → list_any f (map g xs) ≡ true
any_mapped f g [] x m e = absurd (nothing x m)
any_mapped f g (y ∷ xs) x m e =
    elim (front_or x y xs m) [
      | inl s ↦ (let a : f (g y) ≡ true = ap (λ z. f (g z)) s ∙ e in cc)
      | inr t ↦ or_right (f (g y)) (list_any f (map g xs)) (any_mapped f g xs x t e)
    ]

module _ {L : Type 0} where
  number_of_need : (p : Planned (Verdict L) (Verdict L)) (m : Need) → IsNeed p.known.request (its_pins index_in leaf_in p.known) p.known.names m → HasNumber p.known.names m
  number_of_need p (need.Index s) h = tt
  number_of_need p (need.Shard s k) h = h.0

  pub next_is : (facts : L → LinkFacts) (p : Planned (Verdict L) (Verdict L)) (m : Need) → IndexesAreApart → NextCanBeMarked {P = Verdict L} {H = Verdict L} index_in leaf_in → IsKnown facts p.known → IsPlan index_in leaf_in p → CanMark index_in leaf_in p m → Some (wish_of p.known.names m) ≡ its_next index_in leaf_in p → IsNext p m
  next_is facts p m apart law k h c e =
      let l = law p h m (number_of_need p m c.needed) (sym e) in
      record {
        can = c;
        apart = λ x a s. true≢false (sym (any_mapped (is_key p.known.request (its_pins index_in leaf_in p.known) (wish_of p.known.names m)) (wish_of p.known.names) p.marked x a
            (one_key p.known apart k.formed m x c.needed (all_among (IsNeed p.known.request (its_pins index_in leaf_in p.known) p.known.names) p.marked x h.marks a) (sym s))) ∙ l.1);
      }

  pub next_of_plan : (facts : L → LinkFacts) (p : Planned (Verdict L) (Verdict L)) (o : Option Need) → IndexesAreApart → NextCanBeMarked {P = Verdict L} {H = Verdict L} index_in leaf_in → IsKnown facts p.known → IsPlan index_in leaf_in p → IfSome o (CanMark index_in leaf_in p) → option_map (wish_of p.known.names) o ≡ its_next index_in leaf_in p → IfSome o (IsNext p)
  next_of_plan facts p None apart law k h c e = tt
  next_of_plan facts p (Some m) apart law k h c e = next_is facts p m apart law k h c e
