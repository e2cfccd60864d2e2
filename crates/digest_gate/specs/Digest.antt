-- SHA-256 digests (FIPS 180-4) and their hexadecimal text: 64 digits, two for each of the 32 bytes, the one for
-- the high four bits first.
use Rattle.std.specs.Prelude.{◌≡◌, ℕ, List, length, Option, Some, None, Result, Ok, Err}
use Rattle.std.specs.List.{AllPass}
use Rattle.std.specs.Str.{str_to_ascii_lowercase}
use Rattle.sha2.specs.Sha256.{sha256}
use Rattle.hex.specs.Hex.{IsBytes, encode_lower, decode_sized, is_hex_digit}
use Rattle.hex.specs.declared.error.FromHexError.{FromHexError}
use Rattle.digest_gate.specs.declared.digest.Digest.{Digest}

-- a digest is 32 bytes
abbrev pub IsDigest : Digest → Type 0
IsDigest digest = (length digest.0 ≡ 32) × IsBytes digest.0

-- the digest of some bytes (6.2)
abbrev pub digest_of : List ℕ → Digest
digest_of bytes = record { 0 = sha256 bytes }

-- the text in which a digest is printed, with lower-case letters
abbrev pub text_of : Digest → List ℕ
text_of digest = encode_lower digest.0

-- the text spells the digest: in lower case it is the text in which the digest is printed
abbrev pub Spells : List ℕ → Digest → Type 0
Spells text digest = str_to_ascii_lowercase text ≡ text_of digest

-- the text is 64 hexadecimal digits, each of either case
abbrev pub IsDigestText : List ℕ → Type 0
IsDigestText text = (length text ≡ 64) × AllPass is_hex_digit text

-- the digest with the bytes that were read, if any were
abbrev pub digest_with : Result (List ℕ) FromHexError → Option Digest
digest_with (Ok bytes) = Some (record { 0 = bytes })
digest_with (Err _) = None

-- the digest that a text spells, where it has the form
abbrev pub digest_in : List ℕ → Option Digest
digest_in text = digest_with (decode_sized text 32)
