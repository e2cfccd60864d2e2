-- Where connections come from. An origin is plain data that contracts alone see.
use Rattle.std.specs.Prelude.{ℕ, List, [], ◌∷◌, Option, Some, None, if◌then◌else◌}
use Rattle.std.specs.Str.{bytes_eq}
use Rattle.digest_gate.specs.declared.digest.Digest.{Digest}
use Rattle.link_io.specs.declared.target.Target.{Target}

-- the replies of some servers, by address; of two with one address the first counts
abbrev pub Replies : Type 0
Replies = List (List ℕ × List ℕ)

-- the reply for an address, if there is one
abbrev pub reply_at : List ℕ → Replies → Option (List ℕ)
reply_at url [] = None
reply_at url (p ∷ replies) = if bytes_eq p.0 url then Some p.1 else reply_at url replies

-- where a cache stood when it last was made, loaded or added to
pub record Mark : Type 0 where
  pub budget : ℕ
  pub loaded : List Digest
  pub dialed : List Target
  pub below : List Target

-- a dialer round another one: with mirrors, as pairs of bases, or with a cache, as digests and bytes
pub data Layer : Type 0 where
  mirrored : List (List ℕ × List ℕ) → Layer
  cached : List (Digest × List ℕ) → Mark → Layer

-- where connections come from: the layers of a dialer, the outermost first, and the world behind them, if it is told
pub record Origin : Type 0 where
  pub layers : List Layer
  pub world : Option Replies

-- an origin without layers
abbrev pub plain : Option Replies → Origin
plain world = record { layers = []; world = world }
