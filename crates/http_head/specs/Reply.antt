-- What some received bytes are as a reply, and whether that is decided.
use Rattle.std.specs.Prelude.{◌≡◌, ◌⊎◌, ℕ, ◌+◌, ◌-◌, List, length, take, drop, Bool, true, false, ◌&&◌, ◌||◌, ◌==◌, nat_lt, nat_le, Option, Some, None, if◌then◌else◌}
use Rattle.httparse.specs.Grammar.{ResponseHead}
use Rattle.gateway_words.specs.Limits.{most_served_bytes}
use Rattle.http_head.specs.declared.reply.Frame.{Frame}
use Rattle.http_head.specs.declared.reply.Frame.TheVariants as frame
use Rattle.http_head.specs.declared.reply.Reply.{Reply}
use Rattle.http_head.specs.declared.reply.Reply.TheVariants as reply
use Rattle.http_head.specs.declared.framing.Framing.{Framing}
use Rattle.http_head.specs.declared.framing.Framing.TheVariants as framing
use Rattle.http_head.specs.declared.head.Head.{Head}
use Rattle.http_head.specs.Head.{head_limit, HasHead, HasNoHead, head_of}

-- what a reply of status 200 is, with so many bytes behind its head of len bytes
abbrev pub body_by : Framing → ℕ → ℕ → Bool → Reply
body_by framing.Bad len behind ended = reply.BadReply
body_by framing.TooLong len behind ended = reply.TooLong
body_by (framing.Framed (frame.Length n)) len behind ended =
    if ended && nat_lt behind n then reply.BadReply else reply.Body len (frame.Length n)
body_by (framing.Framed frame.ToEnd) len behind ended =
    if nat_lt most_served_bytes behind then reply.TooLong else reply.Body len frame.ToEnd

-- what a reply is, by what its head's fields say of the body, its status and its head's length
abbrev pub reply_by : Framing → ℕ → ℕ → ℕ → Bool → Reply
reply_by says status len behind ended =
    if status == 404 || status == 410 then reply.Absent
    else if status == 200 then body_by says len behind ended
    else reply.Status status

-- what a reply of so many bytes is whose head is known
abbrev pub reply_after : Head → ℕ → Bool → Reply
reply_after known size ended = reply_by known.framing known.status known.len (size - known.len) ended

-- what a reply is that begins with that head
abbrev pub reply_with : ResponseHead → List ℕ → Bool → Reply
reply_with head received ended = reply_after (head_of head) (length received) ended

-- what a reply of so many bytes is whose head isn't complete
abbrev pub reply_without : ℕ → Bool → Reply
reply_without size ended =
    if nat_lt head_limit size then reply.TooLong else if ended then reply.BadReply else reply.Partial

-- what a reply of so many bytes is, by what is known of its head
abbrev pub reply_of : Option Head → ℕ → Bool → Reply
reply_of (Some known) size ended = reply_after known size ended
reply_of None size ended = reply_without size ended

-- the received bytes are that reply, by their head
pub record IsReplyWith (received : List ℕ) (ended : Bool) (answer : Reply) : Type 0 where
  pub head : ResponseHead
  pub has : HasHead received head
  pub is : answer ≡ reply_with head received ended

-- the received bytes are that reply, having no head
pub record IsReplyWithout (received : List ℕ) (ended : Bool) (answer : Reply) : Type 0 where
  pub none : HasNoHead received
  pub is : answer ≡ reply_without (length received) ended

-- the received bytes are that reply
abbrev pub IsReply : List ℕ → Bool → Reply → Type 0
IsReply received ended answer = IsReplyWith received ended answer ⊎ IsReplyWithout received ended answer

-- ---- what is decided

-- nothing that comes changes the reply any more, and its body is there
abbrev pub is_settled : ℕ → Bool → Reply → Bool
is_settled size ended reply.Partial = false
is_settled size ended (reply.Body len (frame.Length n)) = nat_le (len + n) size
is_settled size ended (reply.Body len frame.ToEnd) = ended
is_settled size ended reply.Absent = true
is_settled size ended (reply.Status status) = true
is_settled size ended reply.BadReply = true
is_settled size ended reply.TooLong = true

-- the received bytes are decided, as that reply
pub record IsDecidedAs (received : List ℕ) (ended : Bool) (answer : Reply) : Type 0 where
  pub is : IsReply received ended answer
  pub settled : is_settled (length received) ended answer ≡ true

-- the received bytes are not decided
abbrev pub IsUnsettled : List ℕ → Bool → Type 0
IsUnsettled received ended = (answer : Reply) → IsReply received ended answer → is_settled (length received) ended answer ≡ false

-- the bytes of a body
abbrev pub framed_bytes : Frame → List ℕ → List ℕ
framed_bytes (frame.Length n) behind = take n behind
framed_bytes frame.ToEnd behind = behind

-- the received bytes have that body, and it is decided
pub record HasBody (received : List ℕ) (ended : Bool) (body : List ℕ) : Type 0 where
  pub len : ℕ
  pub framed : Frame
  pub decided : IsDecidedAs received ended (reply.Body len framed)
  pub is : body ≡ framed_bytes framed (drop len received)
