-- What the parser of heads answers, and the reply that follows.
use Rattle.std.proofs.Common.{◌≡◌, inl, inr, ℕ, ◌+◌, ◌≤◌, ◌<◌, Bool, List, [], ◌++◌, length, take, drop, map, Option, Some, None, refl, sym, ◌∙◌, ap, subst, arith}
use Rattle.std.proofs.lemmas.List.{length-map, append-nil, length-append, take-append-drop}
use Rattle.httparse.specs.Grammar.{ReadsResponse, HasNoResponse, print_response, status_code}
use Rattle.httparse.specs.Spans.{name_and_value, header_bytes, IsResponseOf, ResponseOverflows}
use Rattle.httparse.specs.declared.spans.HeaderSpan.{HeaderSpan}
use Rattle.httparse.specs.declared.spans.ResponseSpans.{ResponseSpans}
use Rattle.http_head.specs.declared.head.Head.{Head}
use Rattle.http_head.specs.Framing.{framing_of}
use Rattle.http_head.specs.Head.{head_limit, field_limit, HasNoHead, HasNoFewHead, IsHead, IsReading}
use Rattle.http_head.specs.Reply.{reply_after, reply_of, IsReply}

shorter : (n : ℕ) (l : List HeaderSpan) → length (take n l) ≤ length l
shorter n l =
    let both : length (take n l) + length (drop n l) ≡ length l = sym (length-append (take n l) (drop n l)) ∙ ap length (take-append-drop n l) in
    omega (arith, both)

-- what the parser found is known of the head
pub found : (received front : List ℕ) (headers : List HeaderSpan) (r : ResponseSpans) (known : Head)
    → front ≡ take head_limit received → length headers ≡ field_limit → IsResponseOf front headers r
    → known.status ≡ r.code → known.len ≡ r.len → known.framing ≡ framing_of (map (header_bytes front) (take r.headers headers)) → IsHead received known
found received front headers r known is room x status len says =
    let h = x.0 in
    let at = x.1 in
    let size : length h.fields ≡ length (take r.headers headers) =
    sym (length-map h.fields name_and_value) ∙ sym (ap length at.fields) ∙ length-map (take r.headers headers) (header_bytes front) in
    let code : known.status ≡ status_code h = status ∙ at.code in
    let long : known.len ≡ length (print_response h) = len ∙ at.len in
    let framed : known.framing ≡ framing_of (map name_and_value h.fields) = says ∙ ap framing_of at.fields in
    record {
      head = h;
      has = record {
        rest = drop r.len front;
        reads = subst (λ (l : List ℕ). ReadsResponse l h (drop r.len front)) is at.reads;
        few = omega (arith, size, shorter r.headers headers, room);
      };
      is = λ i. record { status = code i; len = long i; framing = framed i };
    }

-- no head is there
pub missing : (front : List ℕ) → HasNoResponse front → HasNoFewHead front
missing front none h rest reads few = none h rest reads

-- no head that has few enough fields
pub overflows : (front : List ℕ) → ResponseOverflows field_limit front → HasNoFewHead front
overflows front over h rest reads few =
    let here : ReadsResponse (front ++ []) h rest = subst (λ (l : List ℕ). ReadsResponse l h rest) (sym (append-nil front)) reads in
    let many : field_limit < length h.fields = over [] h rest here in
    absurd (omega (arith, many, few))

-- such a front has none of the whole
pub headless : (received front : List ℕ) → front ≡ take head_limit received → HasNoFewHead front → HasNoHead received
headless received front is none h x = none h x.rest (subst (λ (l : List ℕ). ReadsResponse l h x.rest) (sym is) x.reads) x.few

-- what is known of the head says which reply the bytes are
pub judged : (received : List ℕ) (known : Option Head) (ended : Bool) → IsReading received known → IsReply received ended (reply_of known (length received) ended)
judged received (Some known) ended x = inl (record {
  head = x.head;
  has = x.has;
  is = ap (λ (k : Head). reply_after k (length received) ended) x.is;
})
judged received None ended none = inr (record { none = none; is = refl })
