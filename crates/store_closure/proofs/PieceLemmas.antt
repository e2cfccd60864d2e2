-- Names that are read piece by piece.
use Rattle.std.proofs.Common.{◌≡◌, sym, ap, subst, ◌∙◌, ℕ, ◌+◌, ◌<◌, ◌≤◌, arith, List, [], ◌∷◌, length}
use Rattle.std.specs.Prelude.{◌==◌, ◌-◌}
use Rattle.std.specs.List.{position_or_len, before_first, after_first}
use Rattle.std.proofs.lemmas.List.{length-drop}
use Rattle.std.proofs.lemmas.List.Splits.{slice_split_first, slice_split_none}
use Rattle.std.proofs.lemmas.List.Sums.{fails_before_first}
use Rattle.gateway_words.specs.Ascii.{comma}
use Rattle.store_closure.specs.Pieces.{pieces}

-- a text without a `,` is one piece
pub one_piece : (text : List ℕ) → position_or_len (λ b. b == comma) text ≡ length text → pieces text ≡ text ∷ []
one_piece text e = slice_split_none (λ b. b == comma) text (λ k d l. fails_before_first (λ b. b == comma) text k d (subst (λ n. k < n) (sym e) l))

-- the first piece, and those behind its `,`
pub first_piece : (text front rest : List ℕ) → front ≡ before_first (λ b. b == comma) text → rest ≡ after_first (λ b. b == comma) text
    → position_or_len (λ b. b == comma) text < length text → pieces text ≡ front ∷ pieces rest
first_piece text front rest e f l =
    slice_split_first (λ b. b == comma) text 0 l
    ∙ ap (λ (xs : List ℕ). xs ∷ pieces (after_first (λ b. b == comma) text)) (sym e) ∙ ap (λ (xs : List ℕ). front ∷ pieces xs) (sym f)

pub shorter_rest : (text rest : List ℕ) → rest ≡ after_first (λ b. b == comma) text → position_or_len (λ b. b == comma) text < length text → 1 + length rest ≤ length text
shorter_rest text rest e l =
    let size : length rest ≡ length text - (position_or_len (λ b. b == comma) text + 1) = ap length e ∙ length-drop (position_or_len (λ b. b == comma) text + 1) text in
    omega arith
