-- The head with which a reply begins, and what is known of it (RFC 9112, sections 4 and 5; docs/FORMATS.md, "Replies").
use Rattle.std.specs.Prelude.{◌≡◌, ℕ, ◌≤◌, List, map, length, take, Option, Some, None}
use Rattle.httparse.specs.Grammar.{ResponseHead, ReadsResponse, print_response, status_code}
use Rattle.httparse.specs.Spans.{name_and_value}
use Rattle.http_head.specs.declared.head.Head.{Head}
use Rattle.http_head.specs.Framing.{framing_of}

-- how many of the first bytes are read as a head
abbrev pub head_limit : ℕ
head_limit = 65536

-- the most fields of a head
abbrev pub field_limit : ℕ
field_limit = 96

-- the first bytes begin with that head of the grammar, which hasn't too many fields
pub record HasHead (received : List ℕ) (head : ResponseHead) : Type 0 where
  pub rest : List ℕ
  pub reads : ReadsResponse (take head_limit received) head rest
  pub few : length head.fields ≤ field_limit

-- the first bytes begin with no such head
abbrev pub HasNoHead : List ℕ → Type 0
HasNoHead received = (head : ResponseHead) → HasHead received head → ⊥

-- some bytes begin with no head that has few enough fields
abbrev pub HasNoFewHead : List ℕ → Type 0
HasNoFewHead front = (head : ResponseHead) (rest : List ℕ) → ReadsResponse front head rest → length head.fields ≤ field_limit → ⊥

-- what is known of a head: its status, its length, and what its fields say of the body
abbrev pub head_of : ResponseHead → Head
head_of head = record {
  status = status_code head;
  len = length (print_response head);
  framing = framing_of (map name_and_value head.fields);
}

-- the received bytes begin with a head of which that is known
pub record IsHead (received : List ℕ) (known : Head) : Type 0 where
  pub head : ResponseHead
  pub has : HasHead received head
  pub is : known ≡ head_of head

-- what is known of the head of the received bytes; nothing, where they begin with none
abbrev pub IsReading : List ℕ → Option Head → Type 0
IsReading received (Some known) = IsHead received known
IsReading received None = HasNoHead received
