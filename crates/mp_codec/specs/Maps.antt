-- Reading maps and what may stand in them, pair by pair, as functions of the position.
use Rattle.std.specs.Prelude.{◌≡◌, ℕ, zero, suc, ◌&&◌, ◌==◌, Bool, true, not, nat_lt, List, [], ◌∷◌, length, take, Option, Some, None, is_some, Result, Ok, Err, if◌then◌else◌, slice_index_or, slice_set}
use Rattle.std.specs.Borrow.{Bor}
use Rattle.std.specs.Str.{bytes_eq, is_utf8}
use Rattle.std.specs.List.{list_any, list_all}
use Rattle.gateway_words.specs.Places.{Position, start_of}
use Rattle.gateway_words.specs.Reading.{◌>>=◌}
use Rattle.mp_codec.specs.declared.fault.FormatFault.{FormatFault}
use Rattle.mp_codec.specs.declared.fault.FaultKind.TheVariants as kind
use Rattle.mp_codec.specs.declared.head.Head.TheVariants as head
use Rattle.mp_codec.specs.Value.{str_len, map_len, whole}
use Rattle.mp_codec.specs.Fault.{fault_here}
use Rattle.mp_codec.specs.Keys.{has_bytes}
use Rattle.mp_codec.specs.Reading.{head_from, bytes_from, values_from}

-- a reading of Y, and the position behind it
abbrev pub Read : Type 0 → Type 0
Read Y = Result (Y × Position) FormatFault

-- the bytes that are there, if any
abbrev pub bytes_behind : Option (Bor (List ℕ)) → Option (List ℕ)
bytes_behind (Some bytes) = Some bytes.now
bytes_behind None = None

-- ---- pairs, by a state that each pair changes

-- so many pairs, each a key and the value behind it, and then the end
unfoldable pub entries_from : {S K Y : Type 0} → (S → Position → Read K) → (S → K → Position → Read S) → (S → Position → Read Y) → ℕ → S → Position → Read Y
entries_from key value end zero s here = end s here
entries_from key value end (suc n) s here = key s here >>= λ k. value s k.0 k.1 >>= λ t. entries_from key value end n t.0 t.1

-- the number of pairs of the map that must stand here, and the position behind its head
abbrev pub pairs_or_wrong : Option ℕ → Position → Position → Read ℕ
pairs_or_wrong (Some n) here there = Ok (n, there)
pairs_or_wrong None here there = Err (fault_here kind.Wrong here)

-- the map that must stand here, up to the pairs: their number, and the position behind its head
unfoldable pub map_head_from : Position → Read ℕ
map_head_from here = head_from here >>= λ h. pairs_or_wrong (map_len h.0) here h.1

-- the map that must stand here
unfoldable pub map_from : {Y : Type 0} → (ℕ → Position → Read Y) → Position → Read Y
map_from entries here = map_head_from here >>= λ n. entries n.0 n.1

-- ---- values

-- what a value that may be of any kind says, and the position behind it
abbrev pub skipped : {X : Type 0} → X → Position → Read X
skipped x here = values_from 1 here >>= λ there. Ok (x, there)

-- the text of this length that begins there, of a str whose head is here
abbrev pub text_or_wrong : Option ℕ → Position → Position → Read (List ℕ)
text_or_wrong (Some n) here there = bytes_from n there >>= λ text. if is_utf8 text.0 then Ok text else Err (fault_here kind.NotText here)
text_or_wrong None here there = Err (fault_here kind.Wrong here)

-- the text that must stand here
unfoldable pub text_from : Position → Read (List ℕ)
text_from here = head_from here >>= λ h. text_or_wrong (str_len h.0) here h.1

-- a str of these bytes stands here, and there is the position behind it
pub record IsStr (bytes : List ℕ) (here there : Position) : Type 0 where
  pub mid : Position
  pub head : head_from here ≡ Ok (head.Str (length bytes), mid)
  pub payload : bytes_from (length bytes) mid ≡ Ok (bytes, there)

-- the bytes of this length that begin there, or none of a value of another kind that stands here
abbrev pub bytes_or_skipped : Option ℕ → Position → Position → Read (Option (List ℕ))
bytes_or_skipped (Some n) here there = bytes_from n there >>= λ s. Ok (Some s.0, s.1)
bytes_or_skipped None here there = skipped None here

-- the bytes of a str, or none of a value of another kind
unfoldable pub str_from : Position → Read (Option (List ℕ))
str_from here = head_from here >>= λ h. bytes_or_skipped (str_len h.0) here h.1

-- the number that a head is, or none of a value of another kind that stands here
abbrev pub number_or_skipped : Option ℕ → Position → Position → Read (Option ℕ)
number_or_skipped (Some n) here there = Ok (Some n, there)
number_or_skipped None here there = skipped None here

-- a whole number, or none of a value of another kind
unfoldable pub number_from : Position → Read (Option ℕ)
number_from here = head_from here >>= λ h. number_or_skipped (whole h.0) here h.1

-- ---- known keys: what was read of each key, in the order of the keys

-- the place of a key among the known ones, or their number
abbrev pub place_of : List (List ℕ) → Option (List ℕ) → ℕ
place_of [] o = 0
place_of (name ∷ names) o = if has_bytes name o then 0 else suc (place_of names o)

-- no two of these names are equal
abbrev pub is_distinct : List (List ℕ) → Bool
is_distinct [] = true
is_distinct (name ∷ names) = not (list_any (λ other. bytes_eq name other) names) && is_distinct names

-- nothing was read of any key
abbrev pub unread : {D : Type 0} → List (List ℕ) → List (Option D)
unread [] = []
unread (name ∷ names) = None ∷ unread names

-- the place of the key that stands here, unless it was read before
unfoldable pub known_key_from : {D : Type 0} → List (List ℕ) → List (Option D) → Position → Read ℕ
known_key_from names s here = str_from here >>= λ k. if is_some (slice_index_or s (place_of names k.0) None) then Err (fault_here kind.Repeated here) else Ok (place_of names k.0, k.1)

-- what stands behind the key at this place, by the reader of that key
unfoldable pub known_value_from : {D : Type 0} → List (List ℕ) → (ℕ → Position → Read D) → List (Option D) → ℕ → Position → Read (List (Option D))
known_value_from names datum_from s i here = if nat_lt i (length names) then (datum_from i here >>= λ d. Ok (slice_set s i (Some d.0), d.1)) else skipped s here

-- the end of a map whose first keys are required, so many of them
unfoldable pub known_end_from : {D : Type 0} → ℕ → List (Option D) → Position → Read (List (Option D))
known_end_from required s here = if list_all is_some (take required s) then Ok (s, here) else Err (fault_here kind.Missing here)

-- a map of known keys, the first of which are required
unfoldable pub known_map_from : {D : Type 0} → List (List ℕ) → ℕ → (ℕ → Position → Read D) → Position → Read (List (Option D))
known_map_from names required datum_from here =
    map_from (λ n there. entries_from (known_key_from names) (known_value_from names datum_from) (known_end_from required) n (unread names) there) here

-- ---- all of some bytes

-- what was read, where nothing is left
abbrev pub ended : {Y : Type 0} → Y × Position → Result Y FormatFault
ended x = if length x.1.left == 0 then Ok x.0 else Err (fault_here kind.Trailing x.1)

-- what all of the bytes say, by a reading of one value
unfoldable pub all_from : {Y : Type 0} → (Position → Read Y) → List ℕ → Result Y FormatFault
all_from read bytes = read (start_of bytes) >>= ended
