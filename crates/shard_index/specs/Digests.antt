-- The digest of a shard, where a value is one: its 32 bytes, or their 64 hexadecimal digits.
use Rattle.std.specs.Prelude.{◌≡◌, ℕ, ◌==◌, Bool, false, List, Option, Some, None, Ok, Err, if◌then◌else◌}
use Rattle.std.specs.Str.{is_utf8}
use Rattle.digest_gate.specs.declared.digest.Digest.{Digest}
use Rattle.digest_gate.specs.Digest.{digest_in}
use Rattle.gateway_words.specs.Places.{Position}
use Rattle.gateway_words.specs.Reading.{◌>>=◌}
use Rattle.mp_codec.specs.declared.fault.FormatFault.{FormatFault}
use Rattle.mp_codec.specs.declared.fault.FaultKind.TheVariants as kind
use Rattle.mp_codec.specs.declared.head.Head.{Head}
use Rattle.mp_codec.specs.declared.head.Head.TheVariants as head
use Rattle.mp_codec.specs.Format.{payload_len}
use Rattle.mp_codec.specs.Value.{Value, value}
use Rattle.mp_codec.specs.Spelling.{Lies}
use Rattle.mp_codec.specs.Fault.{fault_here}
use Rattle.mp_codec.specs.Reading.{head_from, bytes_from}
use Rattle.mp_codec.specs.Maps.{Read}

-- a head that begins a digest: that of a bin of 32 bytes, or of a str of 64 bytes
abbrev pub is_digest_head : Head → Bool
is_digest_head (head.Bin n) = n == 32
is_digest_head (head.Str n) = n == 64
is_digest_head _ = false

-- the digest whose hexadecimal digits, of either case, some bytes are
abbrev pub digest_of_digits : List ℕ → Option Digest
digest_of_digits bytes = if is_utf8 bytes then digest_in bytes else None

-- the digest that a head and its payload are
abbrev pub digest_by_head : Head → List ℕ → Option Digest
digest_by_head (head.Bin n) payload = if n == 32 then Some (record { 0 = payload }) else None
digest_by_head (head.Str n) payload = digest_of_digits payload
digest_by_head _ payload = None

-- the digest that a value is, if it is one
abbrev pub digest_of : Value → Option Digest
digest_of (value h payload parts) = digest_by_head h payload

-- what may be wrong with a digest: its head begins none, or its payload is whole and no digest
pub data DigestFault : Position → FormatFault → Type 0 where
  other_head : {here there : Position} {h : Head} → head_from here ≡ Ok (h, there) → is_digest_head h ≡ false → DigestFault here (fault_here kind.Wrong here)
  no_digits : {here there : Position} {v : Value} → Lies v here there → digest_of v ≡ None → DigestFault here (fault_here kind.Wrong here)

-- ---- reading it

-- the digest that was found, or none at the head that stands here
abbrev pub digest_or_wrong : Option Digest → Position → Position → Read Digest
digest_or_wrong (Some digest) here there = Ok (digest, there)
digest_or_wrong None here there = Err (fault_here kind.Wrong here)

-- the digest whose head stands here and whose payload begins there
abbrev pub digest_behind : Head → Position → Position → Read Digest
digest_behind h here there =
    if is_digest_head h then (bytes_from (payload_len h) there >>= λ s. digest_or_wrong (digest_by_head h s.0) here s.1)
    else Err (fault_here kind.Wrong here)

-- the digest that must stand here
unfoldable pub digest_from : Position → Read Digest
digest_from here = head_from here >>= λ h. digest_behind h.0 here h.1
