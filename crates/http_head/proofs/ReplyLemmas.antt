-- Bytes are one reply, and what a front of a whole reply is.
use Rattle.std.proofs.Common.{◌≡◌, inl, inr, ℕ, ◌+◌, ◌-◌, ◌≤◌, ◌<◌, Bool, true, false, cond, ◌||◌, ◌==◌, List, ◌++◌, length, take, drop, map, refl, sym, ◌∙◌, ap, subst, arith, length-append, nat_lt}
use Rattle.std.proofs.lemmas.List.{take_all, take-append-le, drop-append-le, length-drop, length-take-le, take-append-drop, append-nil}
use Rattle.std.proofs.Math.Seq.{take-append-add}
use Rattle.std.proofs.lemmas.Bool.{ltb-true, cases_lt}
use Rattle.std.proofs.lemmas.Bool.Decides.{nat_tests}
use Rattle.httparse.specs.Grammar.{ResponseHead, ReadsResponse, print_response, status_code}
use Rattle.httparse.specs.Spans.{name_and_value}
use Rattle.httparse.proofs.GrammarLemmas.{response_unique, ReadsResponse-append}
use Rattle.gateway_words.specs.Limits.{most_served_bytes}
use Rattle.http_head.specs.declared.reply.Frame.{Frame}
use Rattle.http_head.specs.declared.reply.Frame.TheVariants as frame
use Rattle.http_head.specs.declared.reply.Reply.{Reply}
use Rattle.http_head.specs.declared.reply.Reply.TheVariants as reply
use Rattle.http_head.specs.declared.framing.Framing.{Framing}
use Rattle.http_head.specs.declared.framing.Framing.TheVariants as framing
use Rattle.http_head.specs.declared.head.Head.{Head}
use Rattle.http_head.specs.Framing.{framing_of}
use Rattle.http_head.specs.Head.{head_limit, HasHead, HasNoHead, IsHead}
use Rattle.http_head.specs.Reply.{body_by, reply_by, reply_with, reply_without, IsReply, is_settled, framed_bytes, HasBody}
use Rattle.http_head.specs.Law.{OneReply, FrontsAreGood, FrontsHaveBody}

-- ---- one head, one reply

one-head : (received : List ℕ) (h k : ResponseHead) → HasHead received h → HasHead received k → h ≡ k
one-head received h k x y = (response_unique (take head_limit received) h k x.rest y.rest x.reads y.reads).0

pub one-reply : OneReply
one-reply received ended a b (inl x) (inl y) = x.is ∙ ap (λ (h : ResponseHead). reply_with h received ended) (one-head received x.head y.head x.has y.has) ∙ sym y.is
one-reply received ended a b (inl x) (inr y) = absurd (y.none x.head x.has)
one-reply received ended a b (inr x) (inl y) = absurd (x.none y.head y.has)
one-reply received ended a b (inr x) (inr y) = x.is ∙ sym y.is

-- ---- heads of fronts

-- the first bytes of a text are those of its front, and then more
pub take-front : (n : ℕ) (front rest : List ℕ) → take n (front ++ rest) ≡ take n front ++ take (n - length front) rest
take-front n front rest = elim (cases_lt (length front) n) [
  | inl less ↦
      let whole : take n front ≡ front = take_all n front (omega arith) in
      let more : length front + (n - length front) ≡ n = omega arith in
      ap (λ (m : ℕ). take m (front ++ rest)) (sym more) ∙ take-append-add front rest (n - length front) ∙ ap (λ (l : List ℕ). l ++ take (n - length front) rest) (sym whole)
  | inr long ↦
      let none : n - length front ≡ 0 = omega arith in
      take-append-le n front rest long ∙ sym (append-nil (take n front)) ∙ ap (λ (m : ℕ). take n front ++ take m rest) (sym none)
]

-- a head of a front is one of the whole
head-grows : (front rest : List ℕ) (h : ResponseHead) → HasHead front h → HasHead (front ++ rest) h
head-grows front rest h x = record {
  rest = x.rest ++ take (head_limit - length front) rest;
  reads = subst (λ (l : List ℕ). ReadsResponse l h (x.rest ++ take (head_limit - length front) rest)) (sym (take-front head_limit front rest))
      (ReadsResponse-append (take head_limit front) h x.rest (take (head_limit - length front) rest) x.reads);
  few = x.few;
}

-- the first bytes of more first bytes
take-less : (n m : ℕ) (l : List ℕ) → n ≤ m → take n (take m l) ≡ take n l
take-less n m l le = elim (cases_lt m (length l)) [
  | inl less ↦
      sym (take-append-le n (take m l) (drop m l) (omega (arith, length-take-le m l (omega arith)))) ∙ ap (take n) (take-append-drop m l)
  | inr long ↦ ap (take n) (take_all m l long)
]

-- where all the bytes that are read as a head hold none, more bytes hold none
pub headless-on : (before : ℕ) (received : List ℕ) → head_limit ≤ before → HasNoHead (take before received) → HasNoHead received
headless-on before received long none h x =
    none h (record {
      rest = x.rest;
      reads = subst (λ (l : List ℕ). ReadsResponse l h x.rest) (sym (take-less head_limit before received long)) x.reads;
      few = x.few;
    })

-- what a text begins with, its long enough front begins with
front-begins : (front more head rest : List ℕ) → front ++ more ≡ head ++ rest → length head ≤ length front → front ≡ head ++ drop (length head) front
front-begins front more head rest same long =
    let first : take (length head) front ≡ head =
    sym (take-append-le (length head) front more long) ∙ ap (take (length head)) same ∙ take-append-le (length head) head rest (omega arith) ∙ take_all (length head) head (omega arith) in
    sym (take-append-drop (length head) front) ∙ ap (λ (l : List ℕ). l ++ drop (length head) front) first

-- how long the first bytes of a text are
length-front : (n : ℕ) (l : List ℕ) → length (take n l) + length (drop n l) ≡ length l
length-front n l = sym (length-append (take n l) (drop n l)) ∙ ap length (take-append-drop n l)

front-short : (n : ℕ) (l : List ℕ) → (length (take n l) ≤ n) × (length (take n l) ≤ length l)
front-short n l = elim (cases_lt n (length l)) [
  | inl less ↦ (omega (arith, length-take-le n l (omega arith)), omega (arith, length-front n l))
  | inr long ↦ (omega (arith, ap length (take_all n l long)), omega (arith, length-front n l))
]

front-long : (n : ℕ) (l : List ℕ) (k : ℕ) → k ≤ n → k ≤ length l → k ≤ length (take n l)
front-long n l k a b = elim (cases_lt n (length l)) [
  | inl less ↦ omega (arith, length-take-le n l (omega arith))
  | inr long ↦ omega (arith, ap length (take_all n l long))
]

-- how many bytes a head has at most
pub head-fits : (received : List ℕ) (h : ResponseHead) → HasHead received h → (length (print_response h) ≤ head_limit) × (length (print_response h) ≤ length received)
head-fits received h x =
    let size : length (take head_limit received) ≡ length (print_response h) + length x.rest = ap length x.reads.1 ∙ length-append (print_response h) x.rest in
    let short = front-short head_limit received in
    (omega (arith, size, short.0), omega (arith, size, short.1))

-- a head of the whole is one of each front that is long enough
head-of-front : (front rest : List ℕ) (h : ResponseHead) → HasHead (front ++ rest) h → length (print_response h) ≤ length front → HasHead front h
head-of-front front rest h x long =
    let fits = head-fits (front ++ rest) h x in
    let whole : take head_limit front ++ take (head_limit - length front) rest ≡ print_response h ++ x.rest = sym (take-front head_limit front rest) ∙ x.reads.1 in
    let size : length (print_response h) ≤ length (take head_limit front) = front-long head_limit front (length (print_response h)) fits.0 long in
    record {
      rest = drop (length (print_response h)) (take head_limit front);
      reads = (x.reads.0, front-begins (take head_limit front) (take (head_limit - length front) rest) (print_response h) x.rest whole size);
      few = x.few;
    }

-- what is known of a front's head is known of the whole's
pub known-on : (before : ℕ) (received : List ℕ) (known : Head) → IsHead (take before received) known → IsHead received known
known-on before received known x =
    subst (λ (l : List ℕ). IsHead l known) (take-append-drop before received)
    (record { head = x.head; has = head-grows (take before received) (drop before received) x.head x.has; is = x.is })

-- ---- replies of fronts

-- a body that the whole has, each shorter one has that goes on
body-of-less : (f : Framing) (len behind less : ℕ) (n : ℕ) (framed : Frame) → body_by f len behind true ≡ reply.Body n framed → less ≤ behind → body_by f len less false ≡ reply.Body n framed
body-of-less framing.Bad len behind less n framed is le = absurd (cc)
body-of-less framing.TooLong len behind less n framed is le = absurd (cc)
body-of-less (framing.Framed (frame.Length m)) len behind less n framed is le = by (nat_lt behind m) is
  where
    by : (b : Bool) → cond b reply.BadReply (reply.Body len (frame.Length m)) ≡ reply.Body n framed → reply.Body len (frame.Length m) ≡ reply.Body n framed
    by true e = absurd (cc)
    by false e = e
body-of-less (framing.Framed frame.ToEnd) len behind less n framed is le = by (nat_lt most_served_bytes behind) refl is
  where
    by : (b : Bool) → nat_lt most_served_bytes behind ≡ b → cond b reply.TooLong (reply.Body len frame.ToEnd) ≡ reply.Body n framed
        → cond (nat_lt most_served_bytes less) reply.TooLong (reply.Body len frame.ToEnd) ≡ reply.Body n framed
    by true t e = absurd (cc)
    by false t e = let short : nat_lt most_served_bytes less ≡ false = grind (arith, nat_tests) in ap (λ (b : Bool). cond b reply.TooLong (reply.Body len frame.ToEnd)) short ∙ e

reply-of-less : (says : Framing) (status len behind less n : ℕ) (framed : Frame) → reply_by says status len behind true ≡ reply.Body n framed → less ≤ behind
    → reply_by says status len less false ≡ reply.Body n framed
reply-of-less says status len behind less n framed is le = by (status == 404 || status == 410) (status == 200) is
  where
    by : (absent ok : Bool) → cond absent reply.Absent (cond ok (body_by says len behind true) (reply.Status status)) ≡ reply.Body n framed
        → cond absent reply.Absent (cond ok (body_by says len less false) (reply.Status status)) ≡ reply.Body n framed
    by true ok e = absurd (cc)
    by false true e = body-of-less says len behind less n framed e le
    by false false e = absurd (cc)

-- what has no head and has ended has no body
no-head-no-body : (size : ℕ) (n : ℕ) (framed : Frame) → reply.Body n framed ≡ reply_without size true → ⊥
no-head-no-body size n framed e = by (nat_lt head_limit size) e
  where
    by : (b : Bool) → reply.Body n framed ≡ cond b reply.TooLong reply.BadReply → ⊥
    by true e = cc
    by false e = cc

pub fronts-are-good : FrontsAreGood
fronts-are-good front rest len framed r (inr w) is = absurd (no-head-no-body (length (front ++ rest)) len framed w.is)
fronts-are-good front rest len framed r (inl w) (inl f) =
    let same : f.head ≡ w.head = one-head (front ++ rest) f.head w.head (head-grows front rest f.head f.has) w.has in
    inr (f.is ∙ ap (λ (h : ResponseHead). reply_with h front false) same
    ∙ reply-of-less (framing_of (map name_and_value w.head.fields)) (status_code w.head) (length (print_response w.head)) (length (front ++ rest) - length (print_response w.head)) (length front - length (print_response w.head)) len framed
    (sym w.is) (omega (arith, length-append front rest)))
fronts-are-good front rest len framed r (inl w) (inr f) = inl (f.is ∙ short (nat_lt head_limit (length front)) refl)
  where
    short : (b : Bool) → nat_lt head_limit (length front) ≡ b → cond b reply.TooLong reply.Partial ≡ reply.Partial
    short false e = refl
    short true e =
        let fits = head-fits (front ++ rest) w.head w.has in
        let long : head_limit < length front = ltb-true head_limit (length front) e in
        absurd (f.none w.head (head-of-front front rest w.head w.has (omega arith)))

-- ---- bodies of fronts

-- a front that is decided as the whole's body has this body
settled-body : (front rest body : List ℕ) (len : ℕ) (framed : Frame) → IsReply front false (reply.Body len framed)
    → is_settled (length front) false (reply.Body len framed) ≡ true → body ≡ framed_bytes framed (drop len (front ++ rest)) → HasBody front false body
settled-body front rest body len (frame.Length n) is settled whole =
    let fits : len + n ≤ length front = grind (arith, nat_tests) in
    let parts : drop len (front ++ rest) ≡ drop len front ++ rest = drop-append-le len front rest (omega (arith, fits)) in
    let long : n ≤ length (drop len front) = omega (arith, fits, length-drop len front) in
    record {
      len = len;
      framed = frame.Length n;
      decided = record { is = is; settled = settled };
      is = whole ∙ ap (take n) parts ∙ take-append-le n (drop len front) rest long;
    }
settled-body front rest body len frame.ToEnd is settled whole = absurd (cc)

pub fronts-have-body : FrontsHaveBody
fronts-have-body front rest body r whole decided =
    elim (fronts-are-good front rest whole.len whole.framed r whole.decided.is decided.is) [
      | inl partial ↦
          let settled : is_settled (length front) false reply.Partial ≡ true = ap (is_settled (length front) false) (sym partial) ∙ decided.settled in
          absurd (cc)
      | inr same ↦
          settled-body front rest body whole.len whole.framed (subst (IsReply front false) same decided.is) (ap (is_settled (length front) false) (sym same) ∙ decided.settled) whole.is
    ]

-- ---- what has ended is decided

-- a reply of some bytes that have ended is decided
pub ended-settled : (received : List ℕ) (answer : Reply) → IsReply received true answer → is_settled (length received) true answer ≡ true
ended-settled received answer (inr w) = ap (is_settled (length received) true) w.is ∙ by (nat_lt head_limit (length received))
  where
    by : (b : Bool) → is_settled (length received) true (cond b reply.TooLong reply.BadReply) ≡ true
    by true = refl
    by false = refl
ended-settled received answer (inl w) =
    let fits = head-fits received w.head w.has in
    ap (is_settled (length received) true) w.is ∙ with-head (framing_of (map name_and_value w.head.fields)) (status_code w.head) (length (print_response w.head)) (length received) fits.1
  where
    of-framing : (f : Framing) (len size : ℕ) → len ≤ size → is_settled size true (body_by f len (size - len) true) ≡ true
    of-framing framing.Bad len size fits = refl
    of-framing framing.TooLong len size fits = refl
    of-framing (framing.Framed (frame.Length n)) len size fits = by (nat_lt (size - len) n) refl
      where
        by : (b : Bool) → nat_lt (size - len) n ≡ b → is_settled size true (cond b reply.BadReply (reply.Body len (frame.Length n))) ≡ true
        by true e = refl
        by false e = grind (arith, nat_tests)
    of-framing (framing.Framed frame.ToEnd) len size fits = by (nat_lt most_served_bytes (size - len))
      where
        by : (b : Bool) → is_settled size true (cond b reply.TooLong (reply.Body len frame.ToEnd)) ≡ true
        by true = refl
        by false = refl

    with-head : (says : Framing) (status len size : ℕ) → len ≤ size → is_settled size true (reply_by says status len (size - len) true) ≡ true
    with-head says status len size fits = by (status == 404 || status == 410) (status == 200)
      where
        by : (absent ok : Bool) → is_settled size true (cond absent reply.Absent (cond ok (body_by says len (size - len) true) (reply.Status status))) ≡ true
        by true ok = refl
        by false true = of-framing says len size fits
        by false false = refl
