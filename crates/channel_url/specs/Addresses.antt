-- The addresses of a channel (docs/FORMATS.md, "Addresses"), over the URL Standard as `url` reads it.
use Rattle.std.specs.Prelude.{ℕ, ◌-◌, List, [], ◌∷◌, ◌++◌, length, slice_index, Bool, not, ◌||◌, ◌==◌, nat_lt, codes, None, Some, is_some, Result, Ok, Err, if◌then◌else◌}
use Rattle.std.specs.Str.{bytes_eq}
use Rattle.url.specs.Parser.{Parsed, parse_url, and_then}
use Rattle.url.specs.Parts.{Parts, serialize, has_credentials}
use Rattle.digest_gate.specs.declared.digest.Digest.{Digest}
use Rattle.digest_gate.specs.Digest.{text_of}
use Rattle.gateway_words.specs.Ascii.{slash}
use Rattle.gateway_words.specs.Reading.{◌>>=◌}
use Rattle.link_io.specs.declared.address.UrlFault.{UrlFault}
use Rattle.link_io.specs.declared.address.UrlFault.TheVariants as fault
use Rattle.link_io.specs.Address.{most_of_address, is_address_form}

-- the most bytes of a channel's base
abbrev pub most_of_channel_base : ℕ
most_of_channel_base = 1900

-- the most bytes of a base of shards
abbrev pub most_of_shards_base : ℕ
most_of_shards_base = 1976

-- the text ends in `/`
abbrev pub is_slashed : List ℕ → Bool
is_slashed text = slice_index text (length text - 1) == slash

-- the text with a `/` at its end, added where none is there
abbrev pub slashed : List ℕ → List ℕ
slashed text = if is_slashed text then text else text ++ slash ∷ []

-- ---- what is read

-- a text of at most 2,048 bytes, or TooLong
abbrev pub short_text : List ℕ → Result (List ℕ) UrlFault
short_text text = if nat_lt most_of_address (length text) then Err fault.TooLong else Ok text

-- what was parsed, or Url where nothing was
abbrev pub parts_or_fault : Parsed Parts → Result Parts UrlFault
parts_or_fault (Ok parts) = Ok parts
parts_or_fault (Err e) = Err fault.Url

-- a text, parsed by itself
abbrev pub parts_of : List ℕ → Parsed Parts
parts_of text = parse_url None text

-- a text, joined to an address
abbrev pub joined : List ℕ → List ℕ → Parsed Parts
joined address text = and_then (parse_url None address) (λ base. parse_url (Some base) text)

-- ---- bases

-- the parts have what a base may not have: a query, a fragment, a user or a password
abbrev pub has_more : Parts → Bool
has_more parts = is_some parts.query || (is_some parts.fragment || has_credentials parts)

-- a text as a base of at most so many bytes
abbrev pub base_in : ℕ → List ℕ → Result (List ℕ) UrlFault
base_in most text =
    if not (is_address_form text) then Err fault.Url
    else if nat_lt most (length text) then Err fault.TooLong
    else Ok text

-- parts as a base of at most so many bytes
abbrev pub base_by : ℕ → Parts → Result (List ℕ) UrlFault
base_by most parts =
    if not (bytes_eq parts.scheme (codes "http")) then Err fault.Scheme
    else if has_more parts then Err fault.Url
    else base_in most (slashed (serialize parts))

-- the base of a channel
abbrev pub channel_base : List ℕ → Result (List ℕ) UrlFault
channel_base text = short_text text >>= λ text. parts_or_fault (parts_of text) >>= base_by most_of_channel_base

-- the base of the shards of the index at an address
abbrev pub shards_base : List ℕ → List ℕ → Result (List ℕ) UrlFault
shards_base index text = short_text text >>= λ text. parts_or_fault (joined index text) >>= base_by most_of_shards_base

-- ---- what is made of a base

-- the address of the index of a subdir
abbrev pub index_url : List ℕ → List ℕ → List ℕ
index_url base subdir = base ++ subdir ++ codes "/repodata_shards.msgpack"

-- the address of a shard
abbrev pub shard_url : List ℕ → Digest → List ℕ
shard_url base digest = base ++ text_of digest ++ codes ".msgpack"

-- the address of a package: the file's name as it is behind the base of the packages of the index at an address
abbrev pub package_url : List ℕ → List ℕ → List ℕ → Result (List ℕ) UrlFault
package_url index text file = short_text text >>= λ text. parts_or_fault (joined index text) >>= λ parts. Ok (slashed (serialize parts) ++ file)
