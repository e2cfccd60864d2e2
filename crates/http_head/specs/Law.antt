-- Laws of replies.
use Rattle.std.specs.Prelude.{◌≡◌, ◌⊎◌, ℕ, ◌+◌, ◌≤◌, List, [], ◌++◌, length, Bool, true, false}
use Rattle.gateway_words.specs.Limits.{most_served_bytes}
use Rattle.http_head.specs.declared.reply.Frame.{Frame}
use Rattle.http_head.specs.declared.reply.Reply.{Reply}
use Rattle.http_head.specs.declared.reply.Reply.TheVariants as reply
use Rattle.http_head.specs.Head.{head_limit}
use Rattle.http_head.specs.Reply.{IsReply, HasBody, IsDecidedAs, IsUnsettled, is_settled}

-- bytes are one reply
abbrev pub OneReply : Type 0
OneReply = (received : List ℕ) (ended : Bool) (a b : Reply) → IsReply received ended a → IsReply received ended b → a ≡ b

-- a whole reply that has a body: each front of it is partial or this body
abbrev pub FrontsAreGood : Type 0
FrontsAreGood = (front rest : List ℕ) (len : ℕ) (framed : Frame) (r : Reply)
    → IsReply (front ++ rest) true (reply.Body len framed) → IsReply front false r → (r ≡ reply.Partial) ⊎ (r ≡ reply.Body len framed)

-- a front of a whole reply that has a body is never decided as anything else
abbrev pub FrontsHaveBody : Type 0
FrontsHaveBody = (front rest body : List ℕ) (r : Reply)
    → HasBody (front ++ rest) true body → IsDecidedAs front false r → HasBody front false body

-- bytes that have ended are decided
abbrev pub EndedIsDecided : Type 0
EndedIsDecided = (received : List ℕ) (r : Reply) → IsReply received true r → is_settled (length received) true r ≡ true

-- nothing is decided before the first byte
abbrev pub NothingIsUnsettled : Type 0
NothingIsUnsettled = IsUnsettled [] false

-- bytes that aren't decided are no more than the longest head and the longest body together
abbrev pub UnsettledIsShort : Type 0
UnsettledIsShort = (received : List ℕ) (ended : Bool) (r : Reply)
    → IsReply received ended r → is_settled (length received) ended r ≡ false → length received ≤ head_limit + most_served_bytes
