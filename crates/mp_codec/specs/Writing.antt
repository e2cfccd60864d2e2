-- The shortest spellings of heads, which the writers append (MessagePack specification, "Formats").
use Rattle.std.specs.Prelude.{◌≡◌, ◌≤◌, ℕ, pos, Bool, true, ◌+◌, ◌^◌, nat_lt, List, [], ◌∷◌, ◌++◌, length, Option, Some, None, suc, if◌then◌else◌}
use Rattle.std.specs.Int.{w16, w32, w64, to_be_bytes}
use Rattle.std.specs.List.{list_all}
use Rattle.mp_codec.specs.declared.head.Head.TheVariants as head
use Rattle.gateway_words.specs.Places.{Position, Between}
use Rattle.mp_codec.specs.declared.head.Head.{Head}
use Rattle.mp_codec.specs.Value.{Value, value, none}
use Rattle.mp_codec.specs.Spelling.{SpellsHead, HeadLies, Spells, Lies}

-- these numbers are bytes
abbrev pub are_bytes : List ℕ → Bool
are_bytes = list_all (λ b. nat_lt b 256)

-- the bytes of a number from 0 to 2^64 - 1
abbrev pub uint_bytes : ℕ → List ℕ
uint_bytes n =
    if nat_lt n (2 ^ 7) then n ∷ []
    else if nat_lt n (2 ^ 8) then 0xcc ∷ n ∷ []
    else if nat_lt n (2 ^ 16) then 0xcd ∷ to_be_bytes w16 n
    else if nat_lt n (2 ^ 32) then 0xce ∷ to_be_bytes w32 n
    else 0xcf ∷ to_be_bytes w64 n

-- the head of a str of this length
abbrev pub str_head : ℕ → List ℕ
str_head n =
    if nat_lt n 32 then (0xa0 + n) ∷ []
    else if nat_lt n (2 ^ 8) then 0xd9 ∷ n ∷ []
    else if nat_lt n (2 ^ 16) then 0xda ∷ to_be_bytes w16 n
    else 0xdb ∷ to_be_bytes w32 n

-- the head of a bin of this length
abbrev pub bin_head : ℕ → List ℕ
bin_head n =
    if nat_lt n (2 ^ 8) then 0xc4 ∷ n ∷ []
    else if nat_lt n (2 ^ 16) then 0xc5 ∷ to_be_bytes w16 n
    else 0xc6 ∷ to_be_bytes w32 n

-- the head of an array of so many elements
abbrev pub array_head : ℕ → List ℕ
array_head n =
    if nat_lt n 16 then (0x90 + n) ∷ []
    else if nat_lt n (2 ^ 16) then 0xdc ∷ to_be_bytes w16 n
    else 0xdd ∷ to_be_bytes w32 n

-- the head of a map of so many pairs
abbrev pub map_head : ℕ → List ℕ
map_head n =
    if nat_lt n 16 then (0x80 + n) ∷ []
    else if nat_lt n (2 ^ 16) then 0xde ∷ to_be_bytes w16 n
    else 0xdf ∷ to_be_bytes w32 n

-- a str with this payload
abbrev pub str_bytes : List ℕ → List ℕ
str_bytes payload = str_head (length payload) ++ payload

-- a bin with this payload
abbrev pub bin_bytes : List ℕ → List ℕ
bin_bytes payload = bin_head (length payload) ++ payload

-- ---- maps of known keys

-- a key and its value, if it has one
abbrev pub pair_bytes : List ℕ → Option (List ℕ) → List ℕ
pair_bytes name None = []
pair_bytes name (Some bytes) = str_bytes name ++ bytes

-- the pairs of those keys that have a value, in the order of the keys
abbrev pub pairs_bytes : List (List ℕ) → List (Option (List ℕ)) → List ℕ
pairs_bytes [] values = []
pairs_bytes (name ∷ names) [] = []
pairs_bytes (name ∷ names) (v ∷ values) = pair_bytes name v ++ pairs_bytes names values

-- how many keys have a value
abbrev pub value_count : List (Option (List ℕ)) → ℕ
value_count [] = 0
value_count (None ∷ values) = value_count values
value_count (Some bytes ∷ values) = suc (value_count values)

-- a map of those keys that have a value
abbrev pub known_map_bytes : List (List ℕ) → List (Option (List ℕ)) → List ℕ
known_map_bytes names values = map_head (value_count values) ++ pairs_bytes names values

-- ---- the values that are written

-- a number as a value
abbrev pub uint_value : ℕ → Value
uint_value n = value (head.Int (pos n)) [] none

-- a str with this payload as a value
abbrev pub str_value : List ℕ → Value
str_value payload = value (head.Str (length payload)) payload none

-- a bin with this payload as a value
abbrev pub bin_value : List ℕ → Value
bin_value payload = value (head.Bin (length payload)) payload none

-- ---- what holds of them

-- the value stands wherever these bytes do, whatever follows them
abbrev pub StandsAs : Value → List ℕ → Type 0
StandsAs v bytes = (here there : Position) → Between bytes here there → Lies v here there

-- the head stands wherever these bytes do, whatever follows them
abbrev pub HeadStandsAs : Head → List ℕ → Type 0
HeadStandsAs h bytes = (here there : Position) → Between bytes here there → HeadLies h here there

-- no spelling of the value has fewer bytes
abbrev pub IsShortest : Value → List ℕ → Type 0
IsShortest v written = (bytes : List ℕ) → are_bytes bytes ≡ true → Spells v bytes → length written ≤ length bytes

-- no spelling of the head has fewer bytes
abbrev pub IsShortestHead : Head → List ℕ → Type 0
IsShortestHead h written = (bytes : List ℕ) → are_bytes bytes ≡ true → SpellsHead h bytes → length written ≤ length bytes
