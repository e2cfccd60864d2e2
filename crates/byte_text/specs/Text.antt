-- Texts as lists of bytes: blanks at their ends, cuts at a byte, and the signs of operators.
use Rattle.std.specs.Prelude.{ℕ, suc, ◌+◌, ◌==◌, ◌||◌, Bool, true, false, List, [], ◌∷◌, reverse, position, take, drop, Option, Some, None, if◌then◌else◌}
use Rattle.std.specs.Borrow.{Bor}
use Rattle.gateway_words.specs.Ascii.{equals_sign, exclamation_mark, greater_than_sign, less_than_sign, space, tilde}

-- whether a list has nothing in it
abbrev pub is_nil : {A : Type 0} → List A → Bool
is_nil [] = true
is_nil (x ∷ xs) = false

-- whether the first byte is this one
abbrev pub begins_at : ℕ → List ℕ → Bool
begins_at mark [] = false
begins_at mark (b ∷ rest) = b == mark

-- the text without the blanks at its front
abbrev pub skip_blanks : List ℕ → List ℕ
skip_blanks [] = []
skip_blanks (b ∷ rest) = if b == space then skip_blanks rest else b ∷ rest

-- the text without the blanks at its end
abbrev pub drop_blanks : List ℕ → List ℕ
drop_blanks text = reverse (skip_blanks (reverse text))

-- what stands before a place and behind it
abbrev pub cut_by : Option ℕ → List ℕ → Option (List ℕ × List ℕ)
cut_by None text = None
cut_by (Some at) text = Some (take at text, drop (at + 1) text)

-- what stands before the first such byte and behind it
abbrev pub cut_at : ℕ → List ℕ → Option (List ℕ × List ℕ)
cut_at mark text = cut_by (position (λ b. b == mark) text) text

-- the bytes behind a reference that may be missing
abbrev pub text_of : Option (Bor (List ℕ)) → Option (List ℕ)
text_of None = None
text_of (Some part) = Some part.now

-- the bytes behind two references that may be missing
abbrev pub pair_of : Option (Bor (List ℕ) × Bor (List ℕ)) → Option (List ℕ × List ℕ)
pair_of None = None
pair_of (Some p) = Some (p.0.now, p.1.now)

-- the bytes of a part, and none of a missing one
abbrev pub or_nil : Option (List ℕ) → List ℕ
or_nil None = []
or_nil (Some part) = part

-- what stands behind the first such byte
abbrev pub behind_first : ℕ → List ℕ → Option (List ℕ)
behind_first mark [] = None
behind_first mark (b ∷ rest) = if b == mark then Some rest else behind_first mark rest

-- a text turned round, where there is one
abbrev pub turned_round : Option (List ℕ) → Option (List ℕ)
turned_round None = None
turned_round (Some text) = Some (reverse text)

-- what stands before the last such byte
abbrev pub before_last : ℕ → List ℕ → Option (List ℕ)
before_last mark text = turned_round (behind_first mark (reverse text))

-- a byte of which operators are made
abbrev pub is_sign : ℕ → Bool
is_sign b =
    b == less_than_sign || b == equals_sign || b == greater_than_sign || b == exclamation_mark || b == tilde

-- how many signs a text begins with
abbrev pub sign_len : List ℕ → ℕ
sign_len [] = 0
sign_len (b ∷ rest) = if is_sign b then suc (sign_len rest) else 0
