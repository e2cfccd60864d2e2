-- The bracket of a spec: where it begins, and the parts that stand in it (docs/FORMATS.md, "Specs").
use Rattle.std.specs.Prelude.{ℕ, suc, zero, ◌+◌, ◌-◌, ◌==◌, Bool, true, false, List, [], ◌∷◌, length, reverse, position, Option, Some, None, Result, Ok, Err, if◌then◌else◌}
use Rattle.gateway_words.specs.Ascii.{comma, equals_sign}
use Rattle.byte_text.specs.Text.{begins_at}
use Rattle.match_spec.specs.Passage.{Passage, begun, behind, beyond, ended, front, until}
use Rattle.match_spec.specs.Signs.{is_quote, left_bracket, right_bracket}
use Rattle.match_spec.specs.declared.fault.SpecFault.{SpecFault}
use Rattle.match_spec.specs.declared.fault.SpecFault.TheVariants as fault

-- ---- the parts of a bracket

-- what stands behind the `=` of a part
pub data Value : Type 0 where
  -- a value without quotes, with the blanks behind it
  bare : Passage → Value
  -- the place of the opening quote, what stands between the quotes, and what follows up to the part's end
  quoted : ℕ → Passage → Passage → Value
  -- the place of a quote that is not closed
  unclosed : ℕ → Value

-- a part of a bracket: what stands before its `=`, or all of it, the value, and what follows the `,` behind it
pub record Entry : Type 0 where
  pub key : Passage
  pub value : Option Value
  pub rest : Option Passage

-- a part whose value is in quotes: the place of the first one, what stands behind it, and where the second one is
abbrev pub quoted_entry : Passage → ℕ → Passage → Option ℕ → Entry
quoted_entry key at body None = record { key = key; value = Some (unclosed at); rest = None }
quoted_entry key at body (Some n) = record {
  key = key;
  value = Some (quoted at (front n body) (until comma (behind (n + 1) body)));
  rest = beyond comma (behind (n + 1) body);
}

-- a part whose value is what stands here, up to the next `,`
abbrev pub bare_entry : Passage → Passage → Entry
bare_entry key here = record { key = key; value = Some (bare (until comma here)); rest = beyond comma here }

-- the quote with which a text begins, if it does
abbrev pub opening_quote : List ℕ → Option ℕ
opening_quote [] = None
opening_quote (b ∷ rest) = if is_quote b then Some b else None

-- the part with a key and the value that begins here, perhaps with a quote
abbrev pub valued_by : Passage → Passage → Option ℕ → Entry
valued_by key here None = bare_entry key here
valued_by key here (Some quote) =
    quoted_entry key here.at (behind 1 here) (position (λ b. b == quote) (behind 1 here).text)

-- the part with a key, and what stands behind its `=` and the blanks that follow it
abbrev pub valued_entry : Passage → Passage → Entry
valued_entry key here = valued_by key here (opening_quote here.text)

-- the part with which a passage begins: the first of its bytes that is a `,` or a `=` is known
abbrev pub entry_by : Passage → Option ℕ → Bool → Entry
entry_by p None at_equals = record { key = p; value = None; rest = None }
entry_by p (Some n) false = record { key = front n p; value = None; rest = Some (behind (n + 1) p) }
entry_by p (Some n) true = valued_entry (front n p) (begun (behind (n + 1) p))

-- where a key ends: at a `,` or a `=`
abbrev pub ends_key : ℕ → Bool
ends_key b = if b == comma then true else b == equals_sign

-- whether a passage has a `=` at a place
abbrev pub is_equals_at : Option ℕ → Passage → Bool
is_equals_at None p = false
is_equals_at (Some n) p = begins_at equals_sign (behind n p).text

-- the part with which a passage begins
unfoldable pub entry_of : Passage → Entry
entry_of p = entry_by p (position ends_key p.text) (is_equals_at (position ends_key p.text) p)

-- the parts of a passage, at most n of them
abbrev pub entries_within : ℕ → Option Passage → List Entry
entries_within n None = []
entries_within zero (Some p) = []
entries_within (suc n) (Some p) = entry_of p ∷ entries_within n (entry_of p).rest

-- the parts of a bracket, of which there are no more than bytes and one
abbrev pub entries : Passage → List Entry
entries p = entries_within (suc (length p.text)) (Some p)

-- ---- quotes that are not closed

-- the place of a quote that is not closed, if a value begins with one
abbrev pub open_value : Option Value → Option ℕ
open_value None = None
open_value (Some (bare p)) = None
open_value (Some (quoted at p tail)) = None
open_value (Some (unclosed at)) = Some at

-- the first place, if there is one, else the second
abbrev pub first_place : Option ℕ → Option ℕ → Option ℕ
first_place None later = later
first_place (Some at) later = Some at

-- the place of the first quote that is not closed, if there is one
abbrev pub open_quote : List Entry → Option ℕ
open_quote [] = None
open_quote (e ∷ es) = first_place (open_value e.value) (open_quote es)

-- ---- a spec cut at its bracket

-- what stands before the bracket of a spec, and what stands in it, if it has one
pub record Halves : Type 0 where
  pub outside : Passage
  pub inside : Option Passage

-- whether the last byte is a `]`
abbrev pub ends_in_bracket : List ℕ → Bool
ends_in_bracket text = begins_at right_bracket (reverse text)

-- what stands before a bracket and in it, unless a quote is not closed there
abbrev pub unless_open : Passage → Passage → Option ℕ → Result Halves SpecFault
unless_open outside inside (Some at) = Err (fault.Bracket at)
unless_open outside inside None = Ok (record { outside = outside; inside = Some inside })

-- what stands in a bracket that begins at a place of a passage and goes up to its last byte
abbrev pub inside_of : ℕ → Passage → Passage
inside_of n p = front (length p.text - (n + 1) - 1) (behind (n + 1) p)

-- a spec cut at its bracket: the place of the first `[`, and whether the last byte is a `]`
abbrev pub halves_by : Passage → Option ℕ → Bool → Result Halves SpecFault
halves_by p None false = Ok (record { outside = p; inside = None })
halves_by p None true = Err (fault.Bracket (p.at + (length p.text - 1)))
halves_by p (Some n) false = Err (fault.Bracket (p.at + n))
halves_by p (Some n) true = unless_open (ended (front n p)) (inside_of n p) (open_quote (entries (inside_of n p)))

-- a spec cut at its bracket
unfoldable pub halves_of : Passage → Result Halves SpecFault
halves_of p = halves_by p (position (λ b. b == left_bracket) p.text) (ends_in_bracket p.text)
