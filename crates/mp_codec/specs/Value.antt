-- Values of MessagePack, as trees without places (MessagePack specification, "Type system").
use Rattle.std.specs.Prelude.{ℕ, suc, pos, ◌^◌, nat_lt, List, [], ◌∷◌, Option, Some, None, if◌then◌else◌}
use Rattle.mp_codec.specs.declared.head.Head.{Head}
use Rattle.mp_codec.specs.declared.head.Head.TheVariants as head

mutual
  -- a value: its head, its payload, and the values in it, those of a map two by two
  pub data Value : Type 0 where
    value : (head : Head) (payload : List ℕ) (parts : Values) → Value

  -- some values, one behind the other
  pub data Values : Type 0 where
    none : Values
    more : Value → Values → Values

-- how many values they are
abbrev pub count : Values → ℕ
count none = 0
count (more v vs) = suc (count vs)

-- ---- what a value says

-- the length of a str
abbrev pub str_len : Head → Option ℕ
str_len (head.Str n) = Some n
str_len _ = None

-- the number of pairs of a map
abbrev pub map_len : Head → Option ℕ
map_len (head.Map n) = Some n
map_len _ = None

-- the number of elements of an array
abbrev pub array_len : Head → Option ℕ
array_len (head.Array n) = Some n
array_len _ = None

-- a whole number from 0 to 2^64 - 1
abbrev pub whole : Head → Option ℕ
whole (head.Int (pos n)) = if nat_lt n (2 ^ 64) then Some n else None
whole _ = None

-- the whole number that a value is, if it is one
abbrev pub number_of : Value → Option ℕ
number_of (value h payload parts) = whole h

-- the bytes of a value that is a str
abbrev pub str_of : Value → Option (List ℕ)
str_of (value (head.Str n) payload parts) = Some payload
str_of _ = None

-- keys and values of a map
abbrev pub Pairs : Type 0
Pairs = List (Value × Value)

-- values two by two
abbrev pub pairs_in : Values → Pairs
pairs_in none = []
pairs_in (more key none) = []
pairs_in (more key (more v vs)) = (key, v) ∷ pairs_in vs

-- the pairs of a value that is a map
abbrev pub pairs_of : Value → Pairs
pairs_of (value h payload parts) = pairs_in parts
