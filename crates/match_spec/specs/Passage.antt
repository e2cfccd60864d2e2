-- Passages of a text: some of its bytes, and the place where they stand in it.
use Rattle.std.specs.Prelude.{ℕ, ◌+◌, ◌-◌, ◌==◌, List, length, take, drop, position, Option, Some, None}
use Rattle.byte_text.specs.Text.{drop_blanks, skip_blanks}

-- a place in the whole text, and the bytes that stand there
pub record Passage : Type 0 where
  pub at : ℕ
  pub text : List ℕ

-- the first n bytes of a passage
abbrev pub front : ℕ → Passage → Passage
front n p = record { at = p.at; text = take n p.text }

-- what stands behind the first n bytes
abbrev pub behind : ℕ → Passage → Passage
behind n p = record { at = p.at + n; text = drop n p.text }

-- the passage without the blanks at its front
abbrev pub begun : Passage → Passage
begun p = record { at = p.at + (length p.text - length (skip_blanks p.text)); text = skip_blanks p.text }

-- the passage without the blanks at its end
abbrev pub ended : Passage → Passage
ended p = record { at = p.at; text = drop_blanks p.text }

-- the passage without the blanks at its ends
abbrev pub trimmed : Passage → Passage
trimmed p = ended (begun p)

-- a passage cut at a place in it: what stands before that byte, or all of it
abbrev pub front_by : Option ℕ → Passage → Passage
front_by None p = p
front_by (Some n) p = front n p

-- a passage cut at a place in it: what stands behind that byte, if there is one
abbrev pub behind_by : Option ℕ → Passage → Option Passage
behind_by None p = None
behind_by (Some n) p = Some (behind (n + 1) p)

-- what stands before the first such byte, or all of it
abbrev pub until : ℕ → Passage → Passage
until mark p = front_by (position (λ b. b == mark) p.text) p

-- what stands behind the first such byte, if there is one
abbrev pub beyond : ℕ → Passage → Option Passage
beyond mark p = behind_by (position (λ b. b == mark) p.text) p
