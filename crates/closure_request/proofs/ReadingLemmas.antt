-- Specs that are read piece by piece.
use Rattle.std.proofs.Common.{◌≡◌, refl, sym, ap, subst, ◌∙◌, ℕ, ◌+◌, ◌<◌, ◌≤◌, arith, List, [], ◌∷◌, ◌++◌, length, append_assoc, Ok, Err, Result, Option, Some, None, eqb}
use Rattle.std.proofs.lemmas.List.{length-append, append-nil}
use Rattle.std.specs.Prelude.{◌==◌, ◌-◌}
use Rattle.std.specs.List.{position_or_len, before_first, after_first}
use Rattle.std.proofs.lemmas.List.{length-drop}
use Rattle.std.proofs.lemmas.List.Splits.{slice_split_first, slice_split_none}
use Rattle.std.proofs.lemmas.List.Sums.{fails_before_first}
use Rattle.gateway_words.specs.Reading.{◌>>=◌}
use Rattle.match_spec.specs.Parts.{Meaning}
use Rattle.closure_request.specs.Reading.{Read, pieces, semicolon, spec_at, specs_from, with_spec}
use Rattle.closure_request.specs.declared.refusal.RequestRefusal.{RequestRefusal}

-- specs that were read, and those behind them
abbrev pub behind : List Meaning → Read (List Meaning) → Read (List Meaning)
behind front more = more >>= λ specs. Ok (front ++ specs)

pub behind_none : (more : Read (List Meaning)) → behind [] more ≡ more
behind_none (Ok specs) = refl
behind_none (Err e) = refl

pub behind_end : (front : List Meaning) → behind front (Ok []) ≡ Ok front
behind_end front = ap Ok (append-nil front)

-- a spec more
pub goes_on : (front more : List Meaning) (piece : List ℕ) (rest : List (List ℕ)) → with_spec front piece ≡ Ok more
    → behind front (specs_from (length front + 1) (piece ∷ rest)) ≡ behind more (specs_from (length more + 1) rest)
goes_on front more piece rest e = go (spec_at (length front + 1) piece) e
  where
    then : (spec : Meaning) (last : Read (List Meaning)) → behind front (last >>= λ specs. Ok (spec ∷ specs)) ≡ behind (front ++ spec ∷ []) last
    then spec (Ok specs) = ap Ok (sym (append_assoc front (spec ∷ []) specs))
    then spec (Err f) = refl

    count : (spec : Meaning) → length (front ++ spec ∷ []) ≡ length front + 1
    count spec = length-append front (spec ∷ [])

    go : (r : Read Meaning) → (r >>= λ spec. Ok (front ++ spec ∷ [])) ≡ Ok more
        → behind front (r >>= λ spec. specs_from (length front + 1 + 1) rest >>= λ specs. Ok (spec ∷ specs)) ≡ behind more (specs_from (length more + 1) rest)
    go (Ok spec) e =
        let is : front ++ spec ∷ [] ≡ more = cc in
        then spec (specs_from (length front + 1 + 1) rest)
        ∙ ap (λ (n : ℕ). behind (front ++ spec ∷ []) (specs_from (n + 1) rest)) (sym (count spec))
        ∙ ap (λ (xs : List Meaning). behind xs (specs_from (length xs + 1) rest)) is
    go (Err f) e = absurd cc

-- a piece that is no spec
pub stops : (front : List Meaning) (piece : List ℕ) (rest : List (List ℕ)) (f : RequestRefusal) → with_spec front piece ≡ Err f
    → behind front (specs_from (length front + 1) (piece ∷ rest)) ≡ Err f
stops front piece rest f e = go (spec_at (length front + 1) piece) e
  where
    go : (r : Read Meaning) → (r >>= λ spec. Ok (front ++ spec ∷ [])) ≡ Err f
        → behind front (r >>= λ spec. specs_from (length front + 1 + 1) rest >>= λ specs. Ok (spec ∷ specs)) ≡ Err f
    go (Ok spec) e = absurd cc
    go (Err g) e = cc

-- ---- cutting a text

-- a text without a `;` is one piece
pub one_piece : (text : List ℕ) → position_or_len (λ b. b == semicolon) text ≡ length text → pieces text ≡ text ∷ []
one_piece text e = slice_split_none (λ b. b == semicolon) text (λ k d l. fails_before_first (λ b. b == semicolon) text k d (subst (λ n. k < n) (sym e) l))

-- the first piece, and those behind its `;`
pub first_piece : (text front rest : List ℕ) → front ≡ before_first (λ b. b == semicolon) text → rest ≡ after_first (λ b. b == semicolon) text
    → position_or_len (λ b. b == semicolon) text < length text → pieces text ≡ front ∷ pieces rest
first_piece text front rest e f l =
    slice_split_first (λ b. b == semicolon) text 0 l
    ∙ ap (λ (xs : List ℕ). xs ∷ pieces (after_first (λ b. b == semicolon) text)) (sym e) ∙ ap (λ (xs : List ℕ). front ∷ pieces xs) (sym f)

pub shorter_rest : (text rest : List ℕ) → rest ≡ after_first (λ b. b == semicolon) text → position_or_len (λ b. b == semicolon) text < length text → 1 + length rest ≤ length text
shorter_rest text rest e l =
    let size : length rest ≡ length text - (position_or_len (λ b. b == semicolon) text + 1) = ap length e ∙ length-drop (position_or_len (λ b. b == semicolon) text + 1) text in
    omega arith
