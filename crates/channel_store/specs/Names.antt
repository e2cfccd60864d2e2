-- Channels, subdirs and places (docs/FORMATS.md, "Places and store names").
use Rattle.std.specs.Prelude.{ℕ, ◌==◌, ◌||◌, ◌&&◌, not, nat_le, Bool, List, ◌++◌, length, Option, Some, None, if◌then◌else◌, codes}
use Rattle.std.specs.List.{list_all, before_first, after_first}
use Rattle.std.specs.Char.{is_ascii_alphanumeric}
use Rattle.std.specs.Str.{bytes_eq}
use Rattle.gateway_words.specs.Ascii.{dash, dot, underscore}

-- `/`
abbrev pub slash : ℕ
slash = 0x2f

-- a byte of a subdir name: a letter, a digit, `_` or `-`
abbrev pub is_subdir_byte : ℕ → Bool
is_subdir_byte b = is_ascii_alphanumeric b || b == underscore || b == dash

-- a byte of a channel name: one of a subdir name, or `.`
abbrev pub is_channel_byte : ℕ → Bool
is_channel_byte b = is_subdir_byte b || b == dot

-- a name has 1 to 64 bytes
abbrev pub has_size_of_name : List ℕ → Bool
has_size_of_name name = nat_le 1 (length name) && nat_le (length name) 64

-- a subdir name: 1 to 64 letters, digits, `_` and `-`
abbrev pub is_subdir_name : List ℕ → Bool
is_subdir_name name = has_size_of_name name && list_all is_subdir_byte name

-- a channel name: 1 to 64 letters, digits, `_`, `-` and `.`, other than `.` and `..`
abbrev pub is_channel_name : List ℕ → Bool
is_channel_name name =
    has_size_of_name name && list_all is_channel_byte name && not (bytes_eq name (codes ".")) && not (bytes_eq name (codes ".."))

-- the channel of a place: what stands before its first `/`
abbrev pub channel_of : List ℕ → List ℕ
channel_of place = before_first (λ b. b == slash) place

-- the subdir of a place: what stands behind its first `/`, or nothing
abbrev pub subdir_of : List ℕ → List ℕ
subdir_of place = after_first (λ b. b == slash) place

-- a place: a channel name, `/` and a subdir name
abbrev pub is_place : List ℕ → Bool
is_place text = is_channel_name (channel_of text) && is_subdir_name (subdir_of text)

-- ---- store names: the files below a place

-- the file that is indexed
abbrev pub input_name : List ℕ → List ℕ
input_name place = place ++ codes "/repodata.json"

-- the index
abbrev pub index_name : List ℕ → List ℕ
index_name place = place ++ codes "/repodata_shards.msgpack"

-- the shard whose digest has these digits
abbrev pub shard_name : List ℕ → List ℕ → List ℕ
shard_name place digits = (place ++ codes "/shards/") ++ (digits ++ codes ".msgpack")

-- a lower-case hexadecimal digit
abbrev pub is_shard_digit : ℕ → Bool
is_shard_digit b = (nat_le 0x30 b && nat_le b 0x39) || (nat_le 0x61 b && nat_le b 0x66)

-- the digits of a shard's digest: 64 lower-case hexadecimal digits
abbrev pub are_shard_digits : List ℕ → Bool
are_shard_digits digits = length digits == 64 && list_all is_shard_digit digits

-- what stands behind the place of a name: behind its second `/`
abbrev pub file_of : List ℕ → List ℕ
file_of name = subdir_of (subdir_of name)

-- a name begins with a place and a `/`, or is a place alone
abbrev pub is_below_place : List ℕ → Bool
is_below_place name = is_channel_name (channel_of name) && is_subdir_name (channel_of (subdir_of name))

-- the file behind a place is the one that is indexed
abbrev pub is_input_file : List ℕ → Bool
is_input_file file = bytes_eq file (codes "repodata.json")

-- the file behind a place is the index
abbrev pub is_index_file : List ℕ → Bool
is_index_file file = bytes_eq file (codes "repodata_shards.msgpack")

-- digits, a dot and `msgpack`
abbrev pub is_msgpack_of_digits : List ℕ → Bool
is_msgpack_of_digits file =
    are_shard_digits (before_first (λ b. b == dot) file) && bytes_eq (after_first (λ b. b == dot) file) (codes "msgpack")

-- the file behind a place is a shard: `shards/`, the digits of its digest, and `.msgpack`
abbrev pub is_shard_file : List ℕ → Bool
is_shard_file file = bytes_eq (channel_of file) (codes "shards") && is_msgpack_of_digits (subdir_of file)

-- the name of a shard
abbrev pub is_shard_name : List ℕ → Bool
is_shard_name name = is_below_place name && is_shard_file (file_of name)

-- a name that is served: of an index or of a shard
abbrev pub is_served_name : List ℕ → Bool
is_served_name name = is_below_place name && (is_index_file (file_of name) || is_shard_file (file_of name))

-- the name that a path names: what stands behind its first `/`, where nothing stands before it and that is a name that
-- is served
abbrev pub served_path : List ℕ → Option (List ℕ)
served_path path = if length (channel_of path) == 0 && is_served_name (subdir_of path) then Some (subdir_of path) else None

-- a store name: a place with `/repodata.json`, a place with `/repodata_shards.msgpack`, or a place with `/shards/`,
-- 64 lower-case hexadecimal digits and `.msgpack`
abbrev pub is_store_name : List ℕ → Bool
is_store_name name = is_below_place name && (is_input_file (file_of name) || is_index_file (file_of name) || is_shard_file (file_of name))
