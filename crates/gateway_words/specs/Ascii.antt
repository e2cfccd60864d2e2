-- Bytes of ASCII by name.
use Rattle.std.specs.Prelude.{ℕ, List, [], ◌∷◌}

-- a newline
abbrev pub newline : ℕ
newline = 0x0a

-- a carriage return
abbrev pub carriage_return : ℕ
carriage_return = 0x0d

-- a blank
abbrev pub space : ℕ
space = 0x20

-- `!`
abbrev pub exclamation_mark : ℕ
exclamation_mark = 0x21

-- `#`
abbrev pub number_sign : ℕ
number_sign = 0x23

-- `(`
abbrev pub left_parenthesis : ℕ
left_parenthesis = 0x28

-- `)`
abbrev pub right_parenthesis : ℕ
right_parenthesis = 0x29

-- `*`
abbrev pub asterisk : ℕ
asterisk = 0x2a

-- `+`
abbrev pub plus_sign : ℕ
plus_sign = 0x2b

-- `,`
abbrev pub comma : ℕ
comma = 0x2c

-- `-`
abbrev pub dash : ℕ
dash = 0x2d

-- `.`
abbrev pub dot : ℕ
dot = 0x2e

-- `/`
abbrev pub slash : ℕ
slash = 0x2f

-- `:`
abbrev pub colon : ℕ
colon = 0x3a

-- `<`
abbrev pub less_than_sign : ℕ
less_than_sign = 0x3c

-- `=`
abbrev pub equals_sign : ℕ
equals_sign = 0x3d

-- `>`
abbrev pub greater_than_sign : ℕ
greater_than_sign = 0x3e

-- `?`
abbrev pub question_mark : ℕ
question_mark = 0x3f

-- `@`
abbrev pub commercial_at : ℕ
commercial_at = 0x40

-- `_`
abbrev pub underscore : ℕ
underscore = 0x5f

-- `|`
abbrev pub vertical_bar : ℕ
vertical_bar = 0x7c

-- `~`
abbrev pub tilde : ℕ
tilde = 0x7e

-- the end of a line of a request or a reply
abbrev pub crlf : List ℕ
crlf = carriage_return ∷ newline ∷ []
