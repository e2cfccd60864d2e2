-- What the code's tests and tokens stand for. No public clause cites it.
use Rattle.std.specs.Prelude.{◌≡◌, ℕ, ◌+◌, ◌<◌, ◌≤◌, length, List, [], ◌∷◌, Result, Ok, Err, Option, Some, None}
use Rattle.conda_version.specs.Leaf.{Test, always, compare, compatible}
use Rattle.conda_version.specs.Operator.{Operator}
use Rattle.conda_version.specs.Operator as operator
use Rattle.conda_version.specs.Relation.{Relation}
use Rattle.conda_version.specs.Relation as relation
use Rattle.conda_version.specs.declared.operator.Operator.{Operator as Held}
use Rattle.conda_version.specs.declared.operator.Operator.TheVariants as held
use Rattle.conda_version.specs.declared.operator.Relation.{Relation as HeldRelation}
use Rattle.conda_version.specs.declared.operator.Relation.TheVariants as related
use Rattle.conda_version.specs.Token.{Placed, Token, leaf, left, right, and, or, tokens_from}
use Rattle.conda_version.specs.Meaning.{meaning}
use Rattle.conda_version.specs.declared.fault.ConstraintFault.{ConstraintFault}
use Rattle.conda_version.specs.declared.leaf.LeafTest.{LeafTest}
use Rattle.conda_version.specs.declared.leaf.LeafTest.TheVariants as «test»
use Rattle.conda_version.specs.declared.token.Piece.{Piece}
use Rattle.conda_version.specs.declared.token.Piece.TheVariants as piece
use Rattle.conda_version.specs.declared.token.Found.{Found}

-- the operator that the code holds
abbrev pub operator_in : Held → Operator
operator_in held.Bare = operator.bare
operator_in held.Equal = operator.equal
operator_in held.Exact = operator.exact
operator_in held.NotEqual = operator.not_equal
operator_in held.Less = operator.less
operator_in held.AtMost = operator.at_most
operator_in held.Greater = operator.greater
operator_in held.AtLeast = operator.at_least
operator_in held.Compatible = operator.compatible

-- the operator that was found, if one was
abbrev pub operator_seen : Option Held → Option Operator
operator_seen None = None
operator_seen (Some op) = Some (operator_in op)

-- the relation that the code holds
abbrev pub relation_in : HeldRelation → Relation
relation_in related.Equal = relation.equal
relation_in related.NotEqual = relation.not_equal
relation_in related.StartsWith = relation.starts
relation_in related.StartsOtherwise = relation.starts_otherwise
relation_in related.Less = relation.less
relation_in related.AtMost = relation.at_most
relation_in related.Greater = relation.greater
relation_in related.AtLeast = relation.at_least

-- the test that the code holds
abbrev pub test_in : LeafTest → Test
test_in «test».Always = always
test_in («test».Compare r version) = compare (relation_in r) (meaning version)
test_in («test».Compatible version front) = compatible (meaning version) (meaning front)

-- what a leaf reads as
abbrev pub test_read : Result LeafTest ConstraintFault → Result Test ConstraintFault
test_read (Ok t) = Ok (test_in t)
test_read (Err f) = Err f

-- the token that the code holds
abbrev pub token_in : Piece → Token
token_in (piece.Leaf text) = leaf text.now
token_in piece.Left = left
token_in piece.Right = right
token_in piece.And = and
token_in piece.Or = or

-- the tokens that were found, and those of what follows
abbrev pub found_tokens : Option Found → List Placed
found_tokens None = []
found_tokens (Some f) = record { at = f.at; token = token_in f.piece } ∷ tokens_from None f.behind f.rest.now

-- the sign that was found, if one was
abbrev pub piece_seen : Option Piece → Option Token
piece_seen None = None
piece_seen (Some p) = Some (token_in p)

-- how long a leaf's text is
abbrev pub token_len : Token → ℕ
token_len (leaf text) = length text
token_len left = 0
token_len right = 0
token_len and = 0
token_len or = 0

-- a token ends further on in the same text
pub record IsFollowed (at : ℕ) (text : List ℕ) (f : Found) : Type 0 where
  pub shorter : length f.rest.now < length text
  pub place : f.behind + length f.rest.now ≡ at + length text
  pub within : f.at < f.behind
  pub leaf : f.at + token_len (token_in f.piece) ≤ at + length text
