-- Pieces that are moved between a buffer and bytes that are told.
use Rattle.std.proofs.Common.{◌≡◌, ℕ, ◌+◌, ◌≤◌, Some, List, ◌++◌, length, take, drop, sym, ◌∙◌, ap, arith, length-append, take-append-drop}
use Rattle.std.proofs.lemmas.List.{length-take-le, length-drop, take_at, drop-drop, drop_all}
use Rattle.link_io.specs.Source.{Reads}

-- a piece of some bytes that stands at the front of a buffer was read from them
pub reads-copied : (all left piece rest : List ℕ) (at count : ℕ) → drop at all ≡ left → at + count ≤ length all → piece ≡ take count (drop at all) → (count ≡ 0 → length all ≤ at)
    → Reads (Some left) (Some (drop (at + count) all)) count (piece ++ rest)
reads-copied all left piece rest at count was fits copied last =
    let size : length piece ≡ count = ap length copied ∙ length-take-le count (drop at all) (omega (arith, length-drop at all)) in
    let front : take count (piece ++ rest) ≡ take count (drop at all) = take_at piece rest count size ∙ copied in
    let split : left ≡ take count (piece ++ rest) ++ drop (at + count) all =
    sym was ∙ sym (take-append-drop count (drop at all)) ∙ ap (λ (l : List ℕ). l ++ drop count (drop at all)) (sym front) ∙ ap (λ (l : List ℕ). take count (piece ++ rest) ++ l) (drop-drop count at all) in
    record {
      within = omega (arith, length-append piece rest, size);
      bytes = ap Some split;
      end = λ none. drop_all (at + count) all (omega (arith, last none));
    }
