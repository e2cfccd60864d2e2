-- What stands at the front of the rest of a part: a number, and the word behind it. No public clause cites it.
use Rattle.std.specs.Prelude.{ℕ, suc, take, drop, ◌||◌, Bool, true, List, [], ◌∷◌, map, if◌then◌else◌}
use Rattle.std.specs.Option.{is_some}
use Rattle.std.specs.Char.{is_ascii_digit}
use Rattle.conda_version.specs.Token.{sign_of}
use Rattle.conda_version.specs.Version.{Run, number, word, cuts, folded}
use Rattle.byte_text.specs.Decimal.{with_digit}

-- the number at the front, from an open one on; 0 where no digit comes first
abbrev pub number_from : ℕ → List ℕ → ℕ
number_from n [] = n
number_from n (b ∷ rest) = if is_ascii_digit b then number_from (with_digit n b) rest else n

-- what stands behind the digits at the front
abbrev pub after_digits : List ℕ → List ℕ
after_digits [] = []
after_digits (b ∷ rest) = if is_ascii_digit b then after_digits rest else b ∷ rest

-- whether a word stops at this byte with this rest behind it
abbrev pub ends_word : ℕ → List ℕ → Bool
ends_word b rest = is_ascii_digit b || cuts b rest

-- how many bytes stand before a digit, the component's end or the part's
abbrev pub word_len : List ℕ → ℕ
word_len [] = 0
word_len (b ∷ rest) = if ends_word b rest then 0 else suc (word_len rest)

-- the bytes of the word at the front
abbrev pub word_at : List ℕ → List ℕ
word_at text = take (word_len text) text

-- what stands behind the word at the front
abbrev pub after_word : List ℕ → List ℕ
after_word text = drop (word_len text) text

-- the run that a word's bytes are; a missing one counts as 0
abbrev pub word_run : List ℕ → Run
word_run [] = number 0
word_run (b ∷ rest) = word (map folded (b ∷ rest))

-- whether a component ends before these bytes
abbrev pub at_end : List ℕ → Bool
at_end [] = true
at_end (b ∷ rest) = cuts b rest

-- what stands behind the byte at the front
abbrev pub behind : List ℕ → List ℕ
behind [] = []
behind (b ∷ rest) = rest

-- what stands behind the number and the word at the front
abbrev pub after_step : List ℕ → List ℕ
after_step part = after_word (after_digits part)

-- ---- what stands at the front of the rest of a constraint

-- whether a byte is one of the four signs between leaves
abbrev pub is_between : ℕ → Bool
is_between b = is_some (sign_of b)

-- how many bytes stand before the next sign, or the end
abbrev pub leaf_len : List ℕ → ℕ
leaf_len [] = 0
leaf_len (b ∷ rest) = if is_between b then 0 else suc (leaf_len rest)
