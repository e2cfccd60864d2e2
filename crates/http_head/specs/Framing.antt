-- How long a reply's body is, by the fields of its head (RFC 9112, 6.3, in this project's profile).
use Rattle.std.specs.Prelude.{ℕ, List, [], ◌∷◌, length, codes, Bool, true, not, ◌&&◌, nat_lt, Option, Some, None, if◌then◌else◌}
use Rattle.std.specs.List.{list_all, list_any}
use Rattle.std.specs.Char.{is_ascii_digit}
use Rattle.std.specs.Str.{bytes_eq, str_eq_ignore_ascii_case}
use Rattle.byte_text.specs.Decimal.{decimal_from}
use Rattle.gateway_words.specs.Limits.{most_served_bytes}
use Rattle.http_head.specs.declared.reply.Frame.TheVariants as frame
use Rattle.http_head.specs.declared.framing.Framing.{Framing}
use Rattle.http_head.specs.declared.framing.Framing.TheVariants as framing

-- a field's name and its value without the white space around it
abbrev pub Named : Type 0
Named = List ℕ × List ℕ

-- the field has this name, in any case of its letters
abbrev pub is_named : List ℕ → Named → Bool
is_named name field = str_eq_ignore_ascii_case field.0 name

-- the name of the field with the body's length
abbrev pub content_length : List ℕ
content_length = codes "content-length"

-- the name of the field by which a body comes in another form
abbrev pub transfer_encoding : List ℕ
transfer_encoding = codes "transfer-encoding"

-- the values of the fields with the body's length
abbrev pub lengths_in : List Named → List (List ℕ)
lengths_in [] = []
lengths_in (f ∷ fields) = if is_named content_length f then f.1 ∷ lengths_in fields else lengths_in fields

-- one or more digits
abbrev pub is_number : List ℕ → Bool
is_number text = nat_lt 0 (length text) && list_all is_ascii_digit text

-- a body of n bytes
abbrev pub framing_by : ℕ → Framing
framing_by n = if nat_lt most_served_bytes n then framing.TooLong else framing.Framed (frame.Length n)

-- what the values of the lengths say: each is a number, all are one text, and it isn't above the limit
abbrev pub framing_in : List (List ℕ) → Framing
framing_in [] = framing.Framed frame.ToEnd
framing_in (v ∷ values) =
    if not (list_all is_number (v ∷ values)) then framing.Bad
    else if not (list_all (bytes_eq v) values) then framing.Bad
    else framing_by (decimal_from 0 v)

-- what the fields of a head say
abbrev pub framing_of : List Named → Framing
framing_of fields = if list_any (is_named transfer_encoding) fields then framing.Bad else framing_in (lengths_in fields)

-- ---- the same field by field, behind a length that was found

-- a length that was found before is the same
abbrev pub agrees : Option (List ℕ) → List ℕ → Bool
agrees None value = true
agrees (Some found) value = bytes_eq found value

-- what the length says that was found
abbrev pub framing_found : Option (List ℕ) → Framing
framing_found None = framing.Framed frame.ToEnd
framing_found (Some value) = framing_by (decimal_from 0 value)

-- the length that is found behind one field, or none where the field is of a form that isn't accepted
abbrev pub found_behind : Option (List ℕ) → Named → Option (Option (List ℕ))
found_behind found f =
    if is_named transfer_encoding f then None
    else if is_named content_length f
    then (if is_number f.1 && agrees found f.1 then Some (Some f.1) else None)
    else Some found

-- the length that is found behind some fields
abbrev pub found_in : Option (Option (List ℕ)) → List Named → Option (Option (List ℕ))
found_in None fields = None
found_in (Some found) [] = Some found
found_in (Some found) (f ∷ fields) = found_in (found_behind found f) fields

-- what that says
abbrev pub framed : Option (Option (List ℕ)) → Framing
framed None = framing.Bad
framed (Some found) = framing_found found

-- what the fields say behind a length that was found
abbrev pub framing_from : Option (List ℕ) → List Named → Framing
framing_from found fields = framed (found_in (Some found) fields)
