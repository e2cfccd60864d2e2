-- A leaf of a constraint: an operator, a version and a star (docs/FORMATS.md, "Constraints").
use Rattle.std.specs.Prelude.{ℕ, ◌+◌, ◌-◌, ◌==◌, ◌&&◌, not, Bool, true, false, List, [], ◌∷◌, length, reverse, take, drop, position, codes, nat_eq, Option, Some, None, Result, Ok, Err, if◌then◌else◌}
use Rattle.std.specs.Cmp.Lexicographic.{pointwise}
use Rattle.std.specs.Ordering.{is_eq, is_gt, is_lt}
use Rattle.gateway_words.specs.Ascii.{asterisk, dot}
use Rattle.byte_text.specs.Text.{before_last, begins_at, drop_blanks, is_nil, sign_len, skip_blanks}
use Rattle.conda_version.specs.Version.{Value}
use Rattle.conda_version.specs.Grammar.{version_of}
use Rattle.conda_version.specs.Order.{version_cmp, version_starts_with}
use Rattle.conda_version.specs.declared.fault.ConstraintFault.{ConstraintFault}
use Rattle.conda_version.specs.declared.fault.ConstraintFault.TheVariants as fault
use Rattle.conda_version.specs.declared.fault.VersionFault.{VersionFault}
use Rattle.conda_version.specs.Operator.{Operator}
use Rattle.conda_version.specs.Operator as operator
use Rattle.conda_version.specs.Relation.{Relation}
use Rattle.conda_version.specs.Relation as relation

-- ---- what a leaf tests

-- what a leaf tests of a version: nothing, its relation to another one, or both halves of `~=`
pub data Test : Type 0 where
  always : Test
  compare : Relation → Value → Test
  compatible : Value → Value → Test

-- whether v stands in the relation to w
abbrev pub relates : Relation → Value → Value → Bool
relates relation.equal v w = is_eq (version_cmp v w)
relates relation.not_equal v w = not (is_eq (version_cmp v w))
relates relation.starts v w = version_starts_with v w
relates relation.starts_otherwise v w = not (version_starts_with v w)
relates relation.less v w = is_lt (version_cmp v w)
relates relation.at_most v w = not (is_gt (version_cmp v w))
relates relation.greater v w = is_gt (version_cmp v w)
relates relation.at_least v w = not (is_lt (version_cmp v w))

-- whether what a version's text reads as passes a test: without a reading it passes `always` alone
abbrev pub passes : Result Value VersionFault → Test → Bool
passes version always = true
passes (Err e) test = false
passes (Ok v) (compare r w) = relates r v w
passes (Ok v) (compatible w front) = not (is_lt (version_cmp v w)) && version_starts_with v front

-- what an operator, and whether a star stands behind the version, ask for
abbrev pub relation_of : Operator → Bool → Relation
relation_of operator.bare false = relation.equal
relation_of operator.bare true = relation.starts
relation_of operator.equal star = relation.starts
relation_of operator.exact star = relation.equal
relation_of operator.not_equal false = relation.not_equal
relation_of operator.not_equal true = relation.starts_otherwise
relation_of operator.less star = relation.less
relation_of operator.at_most star = relation.at_most
relation_of operator.greater star = relation.greater
relation_of operator.at_least star = relation.at_least
relation_of operator.compatible star = relation.at_least

-- ---- the operator

-- the run of signs with which a text begins
abbrev pub signs : List ℕ → List ℕ
signs text = take (sign_len text) text

-- what stands behind that run
abbrev pub behind_signs : List ℕ → List ℕ
behind_signs text = drop (sign_len text) text

-- whether two texts are the same
abbrev pub is_text : List ℕ → List ℕ → Bool
is_text a b = pointwise nat_eq a b

-- the operator that a run of signs is, if it is one
abbrev pub operator_of : List ℕ → Option Operator
operator_of run =
    if is_nil run then Some operator.bare
    else if is_text run (codes "=") then Some operator.equal
    else if is_text run (codes "==") then Some operator.exact
    else if is_text run (codes "!=") then Some operator.not_equal
    else if is_text run (codes "<") then Some operator.less
    else if is_text run (codes "<=") then Some operator.at_most
    else if is_text run (codes ">") then Some operator.greater
    else if is_text run (codes ">=") then Some operator.at_least
    else if is_text run (codes "~=") then Some operator.compatible
    else None

-- whether `*` alone may stand behind an operator
abbrev pub takes_star : Operator → Bool
takes_star operator.bare = true
takes_star operator.equal = true
takes_star operator.exact = true
takes_star operator.not_equal = false
takes_star operator.less = false
takes_star operator.at_most = false
takes_star operator.greater = false
takes_star operator.at_least = false
takes_star operator.compatible = false

-- whether the operator is `~=`
abbrev pub is_compatible : Operator → Bool
is_compatible operator.compatible = true
is_compatible operator.bare = false
is_compatible operator.equal = false
is_compatible operator.exact = false
is_compatible operator.not_equal = false
is_compatible operator.less = false
is_compatible operator.at_most = false
is_compatible operator.greater = false
is_compatible operator.at_least = false

-- ---- the version and the star

-- the place of the first `*` behind which something stands
abbrev pub inner_star : List ℕ → Option ℕ
inner_star body = position (λ b. b == asterisk) (take (length body - 1) body)

-- the text without its first byte, where that is this one
abbrev pub strip_front : ℕ → List ℕ → List ℕ
strip_front mark [] = []
strip_front mark (b ∷ rest) = if b == mark then rest else b ∷ rest

-- the text without its last byte, where that is this one
abbrev pub strip_end : ℕ → List ℕ → List ℕ
strip_end mark text = reverse (strip_front mark (reverse text))

-- whether the last byte is a `*`
abbrev pub ends_in_star : List ℕ → Bool
ends_in_star body = begins_at asterisk (reverse body)

-- the text of the version: without a `*` or `.*` at its end, and without blanks before that
abbrev pub version_text : List ℕ → List ℕ
version_text body = if ends_in_star body then drop_blanks (strip_end dot (strip_end asterisk body)) else body

-- ---- the leaf; places are counted from its first byte

-- the test of `~=`: a version, and what is read of the text before its last `.`
abbrev pub compatible_of : ℕ → Value → Option (Result Value VersionFault) → Result Test ConstraintFault
compatible_of at v None = Err (fault.Version at)
compatible_of at v (Some (Err e)) = Err (fault.Version at)
compatible_of at v (Some (Ok front)) = Ok (compatible v front)

-- what is read of a text that may be missing
abbrev pub read_there : Option (List ℕ) → Option (Result Value VersionFault)
read_there None = None
read_there (Some text) = Some (version_of text)

-- the test of an operator, a version's text, and whether a star stands behind it
abbrev pub versioned : Operator → Bool → ℕ → List ℕ → Result Value VersionFault → Result Test ConstraintFault
versioned op star at text (Err e) = Err (fault.Version at)
versioned op star at text (Ok v) =
    if is_compatible op then compatible_of at v (read_there (before_last dot text))
    else Ok (compare (relation_of op star) v)

-- what stands behind the operator and the blanks, where each `*` stands at the end
abbrev pub body_of : Operator → ℕ → List ℕ → Result Test ConstraintFault
body_of op at body =
    if is_text body (codes "*") then (if takes_star op then Ok always else Err (fault.Star at))
    else if is_compatible op && ends_in_star body then Err (fault.Star (at + (length body - 1)))
    else versioned op (ends_in_star body) at (version_text body) (version_of (version_text body))

-- what stands behind the operator and the blanks, where the first `*` with something behind it is known
abbrev pub body_unless : Operator → ℕ → List ℕ → Option ℕ → Result Test ConstraintFault
body_unless op at body (Some star) = Err (fault.Star (at + star))
body_unless op at body None = body_of op at body

-- the test of an operator and the text behind it, which begins at this place
abbrev pub operand_of : Operator → ℕ → List ℕ → Result Test ConstraintFault
operand_of op at text = body_unless op at (drop_blanks text) (inner_star (drop_blanks text))

-- the test of a leaf whose run of signs was looked up
abbrev pub leaf_by : List ℕ → Option Operator → Result Test ConstraintFault
leaf_by text None = Err (fault.Operator 0)
leaf_by text (Some op) =
    operand_of op (length text - length (skip_blanks (behind_signs text))) (skip_blanks (behind_signs text))

-- what a leaf tests, or its fault
unfoldable pub leaf_of : List ℕ → Result Test ConstraintFault
leaf_of text = leaf_by text (operator_of (signs text))
