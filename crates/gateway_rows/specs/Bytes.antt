-- Bytes that are written as hexadecimal digits with blanks between them.
use Rattle.std.specs.Prelude.{ℕ, Bool, ◌==◌, ◌||◌, not, List, Result}
use Rattle.std.specs.List.{filter}
use Rattle.hex.specs.declared.error.FromHexError.{FromHexError}
use Rattle.hex.specs.Hex.{decode_of}
use Rattle.gateway_words.specs.Ascii.{newline, space}

-- a space or a newline
abbrev pub is_blank : ℕ → Bool
is_blank byte = (byte == space) || (byte == newline)

-- a text without its blanks
abbrev pub digits_of : List ℕ → List ℕ
digits_of text = filter (λ byte. not (is_blank byte)) text

-- the bytes that the digits of a text spell, or why they spell none
abbrev pub bytes_of : List ℕ → Result (List ℕ) FromHexError
bytes_of text = decode_of (digits_of text)
