-- Bytes of a spec by name, and tests of bytes (docs/FORMATS.md, "Specs").
use Rattle.std.specs.Prelude.{ℕ, ◌==◌, ◌||◌, Bool}
use Rattle.std.specs.Char.{is_ascii_alphanumeric}
use Rattle.gateway_words.specs.Ascii.{asterisk, comma, dash, dot, equals_sign, exclamation_mark, greater_than_sign, left_parenthesis, less_than_sign, plus_sign, right_parenthesis, space, tilde, underscore, vertical_bar}

-- `"`
abbrev pub double_quote : ℕ
double_quote = 0x22

-- `'`
abbrev pub single_quote : ℕ
single_quote = 0x27

-- `/`
abbrev pub slash : ℕ
slash = 0x2f

-- `[`
abbrev pub left_bracket : ℕ
left_bracket = 0x5b

-- `]`
abbrev pub right_bracket : ℕ
right_bracket = 0x5d

-- whether a byte opens a quoted value
abbrev pub is_quote : ℕ → Bool
is_quote b = b == single_quote || b == double_quote

-- whether blanks next to a byte are dropped: `,`, `|`, `(` or `)`
abbrev pub is_mark : ℕ → Bool
is_mark b = b == comma || b == vertical_bar || b == left_parenthesis || b == right_parenthesis

-- whether a byte may follow a name: a blank, or one with which an operator begins
abbrev pub ends_name : ℕ → Bool
ends_name b =
    b == space || b == equals_sign || b == less_than_sign || b == greater_than_sign || b == exclamation_mark
    || b == tilde

-- whether a build has the byte: a letter, a digit, `_`, `-`, `.`, `+` or `*`
abbrev pub is_build_byte : ℕ → Bool
is_build_byte b =
    is_ascii_alphanumeric b || b == underscore || b == dash || b == dot || b == plus_sign || b == asterisk
