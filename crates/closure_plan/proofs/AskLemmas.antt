-- What may be asked for may be marked.
use Rattle.std.proofs.Common.{◌≡◌, ℕ, Bool, true, false, ◌||◌, ◌&&◌, not, List, [], ◌∷◌, map, refl, sym, ap, ◌∙◌, true≢false, Option, Some, None}
use Rattle.std.specs.Prelude.{is_some}
use Rattle.std.specs.List.{list_any}
use Rattle.std.specs.Cmp.{unsigned_Decides}
use Rattle.digest_gate.specs.declared.digest.Digest.{Digest}
use Rattle.std.specs.Str.{bytes_eq}
use Rattle.shard_file.specs.Rows as shards
use Rattle.shard_index.specs.Index as indexes
use Rattle.closure_plan.specs.declared.need.Need.{Need}
use Rattle.closure_plan.specs.declared.need.Need.TheVariants as need
use Rattle.closure_plan.specs.Names.{Name}
use Rattle.closure_request.specs.Request.{Asking}
use Rattle.closure_request.specs.Slots.{slot_at}
use Rattle.closure_plan.specs.Given.{Pins, wanted}
use Rattle.closure_plan.specs.Needs.{is_key, is_digest}
use Rattle.closure_plan.specs.Plan.{Planned, IsNeed, CanMark, its_pins, its_wishes, has_given, has_need, same_need, may_ask, wish_of, name_at}
use Rattle.closure_plan.proofs.ArrivalLemmas.{and_first, and_second}
use Rattle.closure_plan.proofs.KeepLemmas.{not_one}
use Rattle.closure_plan.proofs.MarkLemmas.{same_is}

text_itself : (a : List ℕ) → bytes_eq a a ≡ true
text_itself [] = refl
text_itself (x ∷ xs) = ap (λ b. b && bytes_eq xs xs) ((unsigned_Decides x x).1 refl) ∙ text_itself xs

digest_itself : (o : Option Digest) → is_some o ≡ true → is_digest o o ≡ true
digest_itself None e = absurd (true≢false (sym e))
digest_itself (Some d) e = text_itself d.0

-- a need has its own key
key_itself : (r : Asking) (pins : Pins) (names : List Name) (m : Need) → IsNeed r pins names m → is_key r pins (wish_of names m) (wish_of names m) ≡ true
key_itself r pins names (need.Index s) i = ap (λ b. b && bytes_eq (slot_at r s).subdir (slot_at r s).subdir) (text_itself (slot_at r s).channel.base) ∙ text_itself (slot_at r s).subdir
key_itself r pins names (need.Shard s k) i = digest_itself (wanted r pins s (name_at names k)) i.1

pub marked_key : (r : Asking) (pins : Pins) (names : List Name) (m : Need) → IsNeed r pins names m → (ms : List Need) → has_need ms m ≡ true → list_any (is_key r pins (wish_of names m)) (map (wish_of names) ms) ≡ true
marked_key r pins names m i [] e = absurd (true≢false (sym e))
marked_key r pins names m i (x ∷ xs) e = elim (same_need m x) as (λ b. same_need m x ≡ b → (b || has_need xs m) ≡ true → (is_key r pins (wish_of names m) (wish_of names x) || list_any (is_key r pins (wish_of names m)) (map (wish_of names) xs)) ≡ true) [
  | true ↦ λ same e. ap (λ b. b || list_any (is_key r pins (wish_of names m)) (map (wish_of names) xs)) (ap (λ y. is_key r pins (wish_of names m) (wish_of names y)) (sym (same_is m x same)) ∙ key_itself r pins names m i)
  | false ↦ λ same e. behind (is_key r pins (wish_of names m) (wish_of names x)) _ (marked_key r pins names m i xs e)
] refl e
  where
    behind : (a b : Bool) → b ≡ true → (a || b) ≡ true
    behind true b e = refl
    behind false b e = e

module _ {P H : Type 0} (pinned : P → indexes.Contents) (held : H → shards.Contents) (seen : Planned P H) (m : Need) where
  pub can_mark : IsNeed seen.known.request (its_pins pinned held seen.known) seen.known.names m → may_ask pinned held seen (wish_of seen.known.names m) ≡ true → CanMark pinned held seen m
  can_mark i e = record {
    needed = i;
    not_given = not_one (has_given pinned held seen.known m) (and_first (not (has_given pinned held seen.known m)) (not (list_any (is_key seen.known.request (its_pins pinned held seen.known) (wish_of seen.known.names m)) (its_wishes pinned held seen))) e);
    unmarked = elim (has_need seen.marked m) as (λ b. has_need seen.marked m ≡ b → b ≡ false) [
      | true ↦ λ there. absurd (true≢false (sym (marked_key seen.known.request (its_pins pinned held seen.known) seen.known.names m i seen.marked there)
          ∙ not_one (list_any (is_key seen.known.request (its_pins pinned held seen.known) (wish_of seen.known.names m)) (its_wishes pinned held seen)) (and_second (not (has_given pinned held seen.known m)) (not (list_any (is_key seen.known.request (its_pins pinned held seen.known) (wish_of seen.known.names m)) (its_wishes pinned held seen))) e)))
      | false ↦ λ _. refl
    ] refl;
  }
