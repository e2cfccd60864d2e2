-- What more pins leave as it was.
use Rattle.std.proofs.Common.{◌≡◌, ℕ, zero, suc, ◌<◌, ◌⊎◌, inl, inr, true, false, cond, ◌||◌, ◌&&◌, ◌==◌, not, List, [], ◌∷◌, length, refl, sym, ap, ◌∙◌, true≢false, arith, find, Option, Some, None}
use Rattle.std.specs.Prelude.{is_some}
use Rattle.std.specs.List.{list_all, AllByRecursion}
use Rattle.std.specs.Cmp.{unsigned_Decides}
use Rattle.digest_gate.specs.declared.digest.Digest.{Digest}
use Rattle.shard_index.specs.Index as indexes
use Rattle.closure_request.specs.declared.options.Priority.{Priority}
use Rattle.closure_request.specs.declared.options.Priority.TheVariants as priority
use Rattle.closure_plan.specs.Names.{Name, is_name}
use Rattle.closure_request.specs.Request.{Asking}
use Rattle.closure_request.specs.Slots.{is_earlier, numbers}
use Rattle.closure_plan.specs.Given.{Pins, LeafRows, pin_at, is_at, rows_of, rows_at, listed_digest, is_without, lets, opens, wanted}
use Rattle.closure_plan.specs.Closure.{reach}
use Rattle.closure_plan.specs.Laws.{Extends}
use Rattle.closure_plan.proofs.NameLemmas.{one_name}
use Rattle.closure_plan.proofs.ArrivalLemmas.{and_first, and_second, reach_pinned}

without_stays : (o : Option indexes.Contents) (n : Name) (more : Option indexes.Contents) → ((index : indexes.Contents) → o ≡ Some index → more ≡ Some index) → is_without o n ≡ true → is_without more n ≡ true
without_stays None n more same e = absurd (true≢false (sym e))
without_stays (Some index) n more same e = ap (λ o. is_without o n) (same index refl) ∙ e

listed_stays : (o : Option indexes.Contents) (n : Name) (d : Digest) (more : Option indexes.Contents) → ((index : indexes.Contents) → o ≡ Some index → more ≡ Some index) → listed_digest o n ≡ Some d → listed_digest more n ≡ Some d
listed_stays None n d more same e = absurd (true≢false (sym (ap is_some e)))
listed_stays (Some index) n d more same e = ap (λ o. listed_digest o n) (same index refl) ∙ e

module _ (r : Asking) (pins more : Pins) (extends : Extends pins more) where
  lets_stay : (s : ℕ) (n : Name) (t : ℕ) → lets r pins s n t ≡ true → lets r more s n t ≡ true
  lets_stay s n t e = elim (is_earlier r t s) as (λ b. (not b || is_without (pin_at pins t) n) ≡ true → (not b || is_without (pin_at more t) n) ≡ true) [
    | true ↦ λ e. without_stays (pin_at pins t) n (pin_at more t) (extends t) e
    | false ↦ λ e. refl
  ] e

  all_stay : (s : ℕ) (n : Name) (ts : List ℕ) → list_all (lets r pins s n) ts ≡ true → list_all (lets r more s n) ts ≡ true
  all_stay s n [] e = refl
  all_stay s n (t ∷ ts) e =
      ap (λ b. b && list_all (lets r more s n) ts) (lets_stay s n t (and_first (lets r pins s n t) (list_all (lets r pins s n) ts) e))
      ∙ all_stay s n ts (and_second (lets r pins s n t) (list_all (lets r pins s n) ts) e)

  opens_stay : (p : Priority) (s : ℕ) (n : Name) → opens p r pins s n ≡ true → opens p r more s n ≡ true
  opens_stay priority.Flexible s n e = refl
  opens_stay priority.Strict s n e = all_stay s n (numbers r) e

  -- what is wanted stays wanted
  pub wanted_stays : (s : ℕ) (n : Name) (d : Digest) → wanted r pins s n ≡ Some d → wanted r more s n ≡ Some d
  wanted_stays s n d e =
      elim (opens r.priority r pins s n) as (λ b. opens r.priority r pins s n ≡ b → cond b (listed_digest (pin_at pins s) n) None ≡ Some d → wanted r more s n ≡ Some d) [
        | true ↦ λ o e. ap (λ b. cond b (listed_digest (pin_at more s) n) None) (opens_stay r.priority s n o) ∙ listed_stays (pin_at pins s) n d (pin_at more s) (extends s) e
        | false ↦ λ o e. absurd (true≢false (sym (ap is_some e)))
      ] refl e

  pub some_stays : (s : ℕ) (n : Name) → is_some (wanted r pins s n) ≡ true → is_some (wanted r more s n) ≡ true
  some_stays s n e = elim (wanted r pins s n) as (λ (o : Option Digest). wanted r pins s n ≡ o → is_some o ≡ true → is_some (wanted r more s n) ≡ true) [
    | Some d ↦ λ is e. ap is_some (wanted_stays s n d is)
    | None ↦ λ is e. absurd (true≢false (sym e))
  ] refl e

  -- a leaf stands at a name in a slot only where the shard is wanted
  abbrev pub Wanted : LeafRows → Type 0
  Wanted l = is_some (wanted r pins l.slot l.name) ≡ true

  no_rows : (leaves : List LeafRows) → AllByRecursion Wanted leaves → (s : ℕ) (n : Name) → is_some (wanted r pins s n) ≡ false → rows_at leaves s n ≡ []
  no_rows [] all s n e = refl
  no_rows (l ∷ ls) all s n e = elim (is_at s n l) as (λ b. is_at s n l ≡ b → rows_of (cond b (Some l) (find (is_at s n) ls)) ≡ []) [
    | true ↦ λ here.
        let same_slot : l.slot ≡ s = (unsigned_Decides l.slot s).0 (and_first (l.slot == s) (is_name n l.name) here) in
        let same_name : n ≡ l.name = one_name n l.name (and_second (l.slot == s) (is_name n l.name) here) in
        absurd (true≢false (sym (all.0) ∙ ap (λ t. is_some (wanted r pins t l.name)) same_slot ∙ ap (λ m. is_some (wanted r pins s m)) (sym same_name) ∙ e))
    | false ↦ λ _. no_rows ls all.1 s n e
  ] refl

  -- more pins change nothing that is reached
  pub reach_stays : (leaves : List LeafRows) → AllByRecursion Wanted leaves → reach r more leaves ≡ reach r pins leaves
  reach_stays leaves all = reach_pinned r pins more leaves (λ s n. elim (is_some (wanted r pins s n)) as (λ b. is_some (wanted r pins s n) ≡ b → (is_some (wanted r more s n) ≡ is_some (wanted r pins s n)) ⊎ (rows_at leaves s n ≡ [])) [
    | true ↦ λ e. inl (some_stays s n e ∙ sym e)
    | false ↦ λ e. inr (no_rows leaves all s n e)
  ] refl)

-- a shard is wanted of a pinned slot alone
pub pinned_within : (pins : Pins) (s : ℕ) (n : Name) → is_some (listed_digest (pin_at pins s) n) ≡ true → s < length pins
pinned_within [] s n e = absurd (true≢false (sym e))
pinned_within (p ∷ ps) zero n e = omega arith
pinned_within (p ∷ ps) (suc s) n e = let h = pinned_within ps s n e in omega arith

pub wanted_within : (r : Asking) (pins : Pins) (s : ℕ) (n : Name) → is_some (wanted r pins s n) ≡ true → s < length pins
wanted_within r pins s n e = elim (opens r.priority r pins s n) as (λ b. is_some (cond b (listed_digest (pin_at pins s) n) None) ≡ true → s < length pins) [
  | true ↦ λ e. pinned_within pins s n e
  | false ↦ λ e. absurd (true≢false (sym e))
] e
