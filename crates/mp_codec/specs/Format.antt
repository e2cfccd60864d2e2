-- The heads of MessagePack: what a value begins with, by its first byte (MessagePack specification, "Formats").
use Rattle.std.specs.Prelude.{ℕ, ℤ, pos, negsuc, ◌+◌, ◌-◌, ◌*◌, ◌^◌, Bool, true, false, ◌&&◌, ◌||◌, ◌==◌, nat_lt, nat_le, List, [], ◌∷◌, length, take, Option, Some, None, Result, Ok, Err, if◌then◌else◌, slice_index_or}
use Rattle.mp_codec.specs.declared.fault.FaultKind.{FaultKind}
use Rattle.mp_codec.specs.declared.fault.FaultKind.TheVariants.{Short, Reserved}
use Rattle.mp_codec.specs.declared.head.Head.{Head}
use Rattle.mp_codec.specs.declared.head.Head.TheVariants as head
use Rattle.mp_codec.specs.declared.head.Form.{Form}
use Rattle.mp_codec.specs.declared.head.Form.TheVariants.{Whole, Never, Followed}
use Rattle.mp_codec.specs.declared.head.Behind.{Behind}
use Rattle.mp_codec.specs.declared.head.Behind.TheVariants as behind

-- the number that bytes spell, the highest first
abbrev pub big_endian : List ℕ → ℕ
big_endian [] = 0
big_endian (b ∷ bs) = b * 256 ^ length bs + big_endian bs

-- the forms from 0xc0 to 0xdf
abbrev pub middle_forms : List Form
middle_forms =
    Whole head.Nil ∷ Never ∷ Whole (head.Bool false) ∷ Whole (head.Bool true)
    ∷ Followed 1 behind.Bin ∷ Followed 2 behind.Bin ∷ Followed 4 behind.Bin
    ∷ Followed 2 behind.Ext ∷ Followed 3 behind.Ext ∷ Followed 5 behind.Ext
    ∷ Followed 4 behind.Float ∷ Followed 8 behind.Float
    ∷ Followed 1 behind.Unsigned ∷ Followed 2 behind.Unsigned ∷ Followed 4 behind.Unsigned ∷ Followed 8 behind.Unsigned
    ∷ Followed 1 (behind.Signed (2 ^ 7)) ∷ Followed 2 (behind.Signed (2 ^ 15)) ∷ Followed 4 (behind.Signed (2 ^ 31)) ∷ Followed 8 (behind.Signed (2 ^ 63))
    ∷ Followed 1 (behind.Type 1) ∷ Followed 1 (behind.Type 2) ∷ Followed 1 (behind.Type 4) ∷ Followed 1 (behind.Type 8) ∷ Followed 1 (behind.Type 16)
    ∷ Followed 1 behind.Str ∷ Followed 2 behind.Str ∷ Followed 4 behind.Str
    ∷ Followed 2 behind.Array ∷ Followed 4 behind.Array ∷ Followed 2 behind.Map ∷ Followed 4 behind.Map
    ∷ []

-- the form of a head, by its first byte
unfoldable pub form : ℕ → Form
form b =
    if nat_lt b 0x80 then Whole (head.Int (pos b))
    else if nat_lt b 0x90 then Whole (head.Map (b - 0x80))
    else if nat_lt b 0xa0 then Whole (head.Array (b - 0x90))
    else if nat_lt b 0xc0 then Whole (head.Str (b - 0xa0))
    else if nat_lt b 0xe0 then slice_index_or middle_forms (b - 0xc0) Never
    else Whole (head.Int (negsuc (255 - b)))

-- the number that n stands for in two's complement, where the negative ones begin at half
abbrev pub signed : ℕ → ℕ → ℤ
signed half n = if nat_lt n half then pos n else negsuc (2 * half - 1 - n)

-- the head that the bytes behind its first byte give
abbrev pub head_behind : Behind → List ℕ → Head
head_behind behind.Str bytes = head.Str (big_endian bytes)
head_behind behind.Bin bytes = head.Bin (big_endian bytes)
head_behind behind.Array bytes = head.Array (big_endian bytes)
head_behind behind.Map bytes = head.Map (big_endian bytes)
head_behind behind.Ext bytes = head.Ext (big_endian (take (length bytes - 1) bytes))
head_behind (behind.Type n) bytes = head.Ext n
head_behind behind.Float bytes = head.Float
head_behind behind.Unsigned bytes = head.Int (pos (big_endian bytes))
head_behind (behind.Signed half) bytes = head.Int (signed half (big_endian bytes))

-- a head of this form, and how many bytes it takes, its first one counted
abbrev pub head_of_form : Form → List ℕ → Result (Head × ℕ) FaultKind
head_of_form (Whole h) rest = Ok (h, 1)
head_of_form Never rest = Err Reserved
head_of_form (Followed n behind) rest = if nat_lt (length rest) n then Err Short else Ok (head_behind behind (take n rest), n + 1)

-- the head at the front of some bytes, and how many bytes it takes
unfoldable pub head_at : List ℕ → Result (Head × ℕ) FaultKind
head_at [] = Err Short
head_at (first ∷ rest) = head_of_form (form first) rest

-- how many bytes of payload a head claims
abbrev pub payload_len : Head → ℕ
payload_len (head.Str n) = n
payload_len (head.Bin n) = n
payload_len (head.Ext n) = n
payload_len _ = 0

-- how many values a head claims
abbrev pub part_count : Head → ℕ
part_count (head.Array n) = n
part_count (head.Map n) = n + n
part_count _ = 0

-- how many bytes a head and its payload claim and how many values are in it, where a head was found
abbrev pub node_size : Result (Head × ℕ) FaultKind → Option (ℕ × ℕ)
node_size (Ok x) = Some (x.1 + payload_len x.0, part_count x.0)
node_size (Err kind) = None

-- numbers and lengths take this many bytes
abbrev pub is_width : ℕ → Bool
is_width n = n == 1 || n == 2 || n == 4 || n == 8

-- lengths and counts take this many bytes
abbrev pub is_length_width : ℕ → Bool
is_length_width n = n == 1 || n == 2 || n == 4

-- bytes of this number can be read so
abbrev pub is_readable : Behind → ℕ → Bool
is_readable behind.Str n = is_length_width n
is_readable behind.Bin n = is_length_width n
is_readable behind.Array n = is_length_width n
is_readable behind.Map n = is_length_width n
is_readable behind.Ext n = is_length_width (n - 1)
is_readable (behind.Type len) n = true
is_readable behind.Float n = true
is_readable behind.Unsigned n = is_width n
is_readable (behind.Signed half) n = is_width n && nat_le 1 half && 2 * half == 256 ^ n

-- the bytes that a form asks for can be read as it says
abbrev pub is_readable_form : Form → Bool
is_readable_form (Whole h) = true
is_readable_form Never = true
is_readable_form (Followed n behind) = is_readable behind n
