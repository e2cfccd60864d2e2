-- Build numbers and comparisons with them (docs/FORMATS.md, "Specs").
use Rattle.std.specs.Prelude.{ℕ, ◌^◌, ◌==◌, ◌&&◌, nat_lt, nat_le, not, Bool, List, codes, Option, Some, None, if◌then◌else◌}
use Rattle.std.specs.Char.{is_ascii_digit}
use Rattle.std.specs.List.{list_all}
use Rattle.conda_version.specs.Leaf.{behind_signs, is_text, signs}
use Rattle.byte_text.specs.Decimal.{decimal_from}
use Rattle.byte_text.specs.Text.{is_nil}
use Rattle.match_spec.specs.Comparison.{Comparison}
use Rattle.match_spec.specs.Comparison as comparison

-- a comparison with a build number
pub record NumberTest : Type 0 where
  pub comparison : Comparison
  pub number : ℕ

-- whether n stands to m as the comparison says
abbrev pub compares : Comparison → ℕ → ℕ → Bool
compares comparison.equal n m = n == m
compares comparison.not_equal n m = not (n == m)
compares comparison.less n m = nat_lt n m
compares comparison.at_most n m = nat_le n m
compares comparison.greater n m = nat_lt m n
compares comparison.at_least n m = nat_le m n

-- whether a build number passes a test
abbrev pub passes : NumberTest → ℕ → Bool
passes t n = compares t.comparison n t.number

-- the comparison that a run of signs is, if it is one; none means equal
abbrev pub comparison_of : List ℕ → Option Comparison
comparison_of run =
    if is_nil run then Some comparison.equal
    else if is_text run (codes "==") then Some comparison.equal
    else if is_text run (codes "!=") then Some comparison.not_equal
    else if is_text run (codes "<") then Some comparison.less
    else if is_text run (codes "<=") then Some comparison.at_most
    else if is_text run (codes ">") then Some comparison.greater
    else if is_text run (codes ">=") then Some comparison.at_least
    else None

-- the number that a text is: one or more digits, whose value is at most 2 ^ 64 - 1
abbrev pub number_of : List ℕ → Option ℕ
number_of text =
    if not (is_nil text) && (list_all is_ascii_digit text && nat_lt (decimal_from 0 text) (2 ^ 64))
    then Some (decimal_from 0 text)
    else None

-- a comparison with a number, if both are there
abbrev pub test_by : Option Comparison → Option ℕ → Option NumberTest
test_by None n = None
test_by (Some c) None = None
test_by (Some c) (Some n) = Some (record { comparison = c; number = n })

-- the test of build numbers that a text spells, if it is one
abbrev pub number_test : List ℕ → Option NumberTest
number_test text = test_by (comparison_of (signs text)) (number_of (behind_signs text))
