-- Bytes that have not the digest that was wanted.
use Rattle.std.specs.Prelude.{◌≡◌, ◌≢◌, ℕ, List}
use Rattle.digest_gate.specs.declared.digest.Digest.{Digest}
use Rattle.digest_gate.specs.declared.body.Mismatch.{Mismatch}
use Rattle.digest_gate.specs.Digest.{digest_of}

-- the given bytes have another digest than the one asked for, and the refusal has both digests and the bytes
pub record Differs (given : List ℕ) (asked : Digest) (refusal : Mismatch) : Type 0 where
  pub want : refusal.want ≡ asked
  pub got : refusal.got ≡ digest_of given
  pub other : digest_of given ≢ asked
  pub bytes : refusal.bytes.items ≡ given
