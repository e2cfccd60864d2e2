-- What isn't decided, and how long it can be.
use Rattle.std.proofs.Common.{◌≡◌, inl, inr, ℕ, ◌+◌, ◌-◌, ◌≤◌, ◌<◌, Bool, true, false, cond, not, ◌&&◌, ◌||◌, ◌==◌, List, [], ◌∷◌, ◌++◌, length, map, refl, sym, ◌∙◌, ap, subst, arith, length-append, nat_lt}
use Rattle.std.specs.List.{list_all, list_any}
use Rattle.std.specs.Str.{bytes_eq}
use Rattle.std.proofs.lemmas.Bool.Decides.{nat_tests}
use Rattle.httparse.specs.Grammar.{ResponseHead, print_response, print_blank, print_version, status_code}
use Rattle.httparse.proofs.GrammarLemmas.{print_response-append}
use Rattle.httparse.specs.Spans.{name_and_value}
use Rattle.gateway_words.specs.Limits.{most_served_bytes}
use Rattle.http_head.specs.declared.reply.Frame.TheVariants as frame
use Rattle.http_head.specs.declared.reply.Reply.TheVariants as reply
use Rattle.http_head.specs.declared.framing.Framing.{Framing}
use Rattle.http_head.specs.declared.framing.Framing.TheVariants as framing
use Rattle.http_head.specs.Framing.{Named, is_named, transfer_encoding, lengths_in, is_number, framing_by, framing_in, framing_of}
use Rattle.byte_text.specs.Decimal.{decimal_from}
use Rattle.http_head.specs.Head.{head_limit}
use Rattle.http_head.specs.Reply.{body_by, reply_by, is_settled}
use Rattle.http_head.specs.Law.{NothingIsUnsettled, UnsettledIsShort}
use Rattle.http_head.proofs.ReplyLemmas.{head-fits}

-- ---- before the first byte

longer : (before some behind : List ℕ) → 0 < length some → 0 < length (before ++ (some ++ behind))
longer before some behind one = omega (arith, one, length-append before (some ++ behind), length-append some behind)

-- a head has a byte
head-some : (h : ResponseHead) (rest : List ℕ) → 0 < length (print_response h ++ rest)
head-some h rest =
    subst (λ (l : List ℕ). 0 < length l) (sym (print_response-append h rest)) (longer (print_blank h.blank) (print_version h.minor) _ (omega arith))

pub nothing-unsettled : NothingIsUnsettled
nothing-unsettled answer (inl w) = absurd (omega (arith, head-some w.head w.has.rest, ap length w.has.reads.1))
nothing-unsettled answer (inr w) = ap (is_settled 0 false) w.is

-- ---- how long

-- a length that is framed is within the limit
length-short : (m n : ℕ) → framing_by m ≡ framing.Framed (frame.Length n) → n ≤ most_served_bytes
length-short m n e = by (nat_lt most_served_bytes m) refl e
  where
    by : (b : Bool) → nat_lt most_served_bytes m ≡ b → cond b framing.TooLong (framing.Framed (frame.Length m)) ≡ framing.Framed (frame.Length n) → n ≤ most_served_bytes
    by true t e = absurd (cc)
    by false t e = let same : m ≡ n = cc in grind (arith, nat_tests)

lengths-short : (values : List (List ℕ)) (n : ℕ) → framing_in values ≡ framing.Framed (frame.Length n) → n ≤ most_served_bytes
lengths-short [] n e = absurd (cc)
lengths-short (v ∷ values) n e = by (list_all is_number (v ∷ values)) (list_all (bytes_eq v) values) e
  where
    by : (numbers same : Bool) → cond (not numbers) framing.Bad (cond (not same) framing.Bad (framing_by (decimal_from 0 v))) ≡ framing.Framed (frame.Length n) → n ≤ most_served_bytes
    by false same e = absurd (cc)
    by true false e = absurd (cc)
    by true true e = length-short (decimal_from 0 v) n e

framed-short : (fields : List Named) (n : ℕ) → framing_of fields ≡ framing.Framed (frame.Length n) → n ≤ most_served_bytes
framed-short fields n e = by (list_any (is_named transfer_encoding) fields) e
  where
    by : (coded : Bool) → cond coded framing.Bad (framing_in (lengths_in fields)) ≡ framing.Framed (frame.Length n) → n ≤ most_served_bytes
    by true e = absurd (cc)
    by false e = lengths-short (lengths_in fields) n e

-- a body that isn't there yet
body-short : (f : Framing) (len size : ℕ) (ended : Bool) → ((n : ℕ) → f ≡ framing.Framed (frame.Length n) → n ≤ most_served_bytes)
    → len ≤ head_limit → len ≤ size → is_settled size ended (body_by f len (size - len) ended) ≡ false → size ≤ head_limit + most_served_bytes
body-short framing.Bad len size ended few short fits e = absurd (cc)
body-short framing.TooLong len size ended few short fits e = absurd (cc)
body-short (framing.Framed (frame.Length n)) len size ended few short fits e = by (ended && nat_lt (size - len) n) e
  where
    by : (b : Bool) → is_settled size ended (cond b reply.BadReply (reply.Body len (frame.Length n))) ≡ false → size ≤ head_limit + most_served_bytes
    by true e = absurd (cc)
    by false e = let within : n ≤ most_served_bytes = few n refl in grind (arith, nat_tests)
body-short (framing.Framed frame.ToEnd) len size ended few short fits e = by (nat_lt most_served_bytes (size - len)) refl e
  where
    by : (b : Bool) → nat_lt most_served_bytes (size - len) ≡ b → is_settled size ended (cond b reply.TooLong (reply.Body len frame.ToEnd)) ≡ false → size ≤ head_limit + most_served_bytes
    by true t e = absurd (cc)
    by false t e = grind (arith, nat_tests)

with-head : (fields : List Named) (status len size : ℕ) (ended : Bool) → len ≤ head_limit → len ≤ size
    → is_settled size ended (reply_by (framing_of fields) status len (size - len) ended) ≡ false → size ≤ head_limit + most_served_bytes
with-head fields status len size ended short fits e = by (status == 404 || status == 410) (status == 200) e
  where
    by : (absent ok : Bool) → is_settled size ended (cond absent reply.Absent (cond ok (body_by (framing_of fields) len (size - len) ended) (reply.Status status))) ≡ false
        → size ≤ head_limit + most_served_bytes
    by true ok e = absurd (cc)
    by false true e = body-short (framing_of fields) len size ended (framed-short fields) short fits e
    by false false e = absurd (cc)

without-head : (size : ℕ) (ended b : Bool) → nat_lt head_limit size ≡ b → is_settled size ended (cond b reply.TooLong (cond ended reply.BadReply reply.Partial)) ≡ false
    → size ≤ head_limit + most_served_bytes
without-head size ended true t e = absurd (cc)
without-head size ended false t e = grind (arith, nat_tests)

pub unsettled-short : UnsettledIsShort
unsettled-short received ended r (inl w) e =
    let fits = head-fits received w.head w.has in
    with-head (map name_and_value w.head.fields) (status_code w.head) (length (print_response w.head)) (length received) ended fits.0 fits.1 (sym (ap (is_settled (length received) ended) w.is) ∙ e)
unsettled-short received ended r (inr w) e =
    without-head (length received) ended (nat_lt head_limit (length received)) refl (sym (ap (is_settled (length received) ended) w.is) ∙ e)
