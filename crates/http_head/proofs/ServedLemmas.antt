-- The reply with which a server of this project gives a file has the file as its body.
use Rattle.std.proofs.Common.{◌≡◌, inl, ℕ, ◌+◌, ◌-◌, ◌*◌, ◌^◌, ◌≤◌, ◌<◌, Bool, true, false, cond, not, ◌&&◌, List, [], ◌∷◌, ◌++◌, length, take, map, reverse, refl, sym, ◌∙◌, ap, arith, append_assoc, length-append, nat_lt, Some, codes}
use Rattle.std.specs.Prelude.{decimal}
use Rattle.std.specs.List.{list_all, AllPass}
use Rattle.std.specs.Char.{is_ascii_digit, digit_value}
use Rattle.std.specs.Str.Parse.{AllDigits, digits_value_after}
use Rattle.std.proofs.lemmas.Fmt.{decimal_is_IsNumeral, length-decimal-le}
use Rattle.std.proofs.lemmas.Bool.Decides.{nat_tests}
use Rattle.std.proofs.lemmas.List.{take_all, append-nil}
use Rattle.std.proofs.Math.Seq.{drop-append_seam}
use Rattle.std.proofs.lemmas.List.Sums.{AllPass-from_list_all}
use Rattle.std.proofs.lemmas.List.Elements.{All-cons, All-nil, All-head}
use Rattle.httparse.specs.Grammar.{ResponseHead, Field, IsField, IsResponseHead, print_response, crlf as line_end, is_value_byte, is_token_byte, is_ows, skip_ows, trim_ows}
use Rattle.httparse.specs.Spans.{name_and_value}
use Rattle.httparse.proofs.TrimLemmas.{trim_ows_space, AllPass-reverse}
use Rattle.gateway_words.specs.Limits.{most_served_bytes}
use Rattle.http_head.specs.declared.reply.Frame.TheVariants as frame
use Rattle.http_head.specs.declared.reply.Reply.{Reply}
use Rattle.http_head.specs.declared.reply.Reply.TheVariants as reply
use Rattle.http_head.specs.declared.framing.Framing.TheVariants as framing
use Rattle.http_head.specs.declared.framing.Framing.{Framing}
use Rattle.http_head.specs.Framing.{is_number, framing_by, framing_of}
use Rattle.byte_text.specs.Decimal.{decimal_from}
use Rattle.http_head.specs.Head.{head_limit}
use Rattle.http_head.specs.Reply.{body_by, reply_by, reply_with}
use Rattle.gateway_words.specs.Ascii.{crlf}
use Rattle.http_head.specs.Served.{served_head, ServedHasBody}
use Rattle.http_head.proofs.ReplyLemmas.{take-front}

-- ---- the digits of a length

digit-is : (c : ℕ) → digit_value c < 10 → is_ascii_digit c ≡ true
digit-is c d = grind (arith, nat_tests)

digit-counts : (c : ℕ) → digit_value c < 10 → digit_value c ≡ c - 48
digit-counts c d = grind (arith, nat_tests)

digit-no-blank : (c : ℕ) → is_ascii_digit c ≡ true → is_ows c ≡ false
digit-no-blank c d = grind (arith, nat_tests)

digit-in-value : (c : ℕ) → is_ascii_digit c ≡ true → is_value_byte c ≡ true
digit-in-value c d = grind (arith, nat_tests)

digits-pass : (ds : List ℕ) → AllDigits 10 ds → list_all is_ascii_digit ds ≡ true
digits-pass [] all = refl
digits-pass (c ∷ cs) all = ap (λ (b : Bool). b && list_all is_ascii_digit cs) (digit-is c all.0) ∙ digits-pass cs all.1

digits-count : (ds : List ℕ) (n : ℕ) → AllDigits 10 ds → decimal_from n ds ≡ digits_value_after 10 n ds
digits-count [] n all = refl
digits-count (c ∷ cs) n all = ap (λ (d : ℕ). decimal_from (n * 10 + d) cs) (sym (digit-counts c all.0)) ∙ digits-count cs (n * 10 + digit_value c) all.1

no-blank-first : (ds : List ℕ) → AllPass is_ascii_digit ds → skip_ows ds ≡ ds
no-blank-first [] all = refl
no-blank-first (c ∷ cs) all = ap (λ (b : Bool). cond b (skip_ows cs) (c ∷ cs)) (digit-no-blank c (All-head (λ (x : ℕ). is_ascii_digit x ≡ true) c cs all))

digits-in-value : (ds : List ℕ) → list_all is_ascii_digit ds ≡ true → list_all is_value_byte ds ≡ true
digits-in-value [] all = refl
digits-in-value (c ∷ cs) all = by (is_ascii_digit c) refl (λ rest. digits-in-value cs rest) all
  where
    by : (b : Bool) → is_ascii_digit c ≡ b → (list_all is_ascii_digit cs ≡ true → list_all is_value_byte cs ≡ true)
        → b && list_all is_ascii_digit cs ≡ true → is_value_byte c && list_all is_value_byte cs ≡ true
    by true d later rest = ap (λ (b : Bool). b && list_all is_value_byte cs) (digit-in-value c d) ∙ later rest
    by false d later rest = absurd (cc)

-- ---- the head

abbrev served_field : ℕ → Field
served_field n = record { name = codes "Content-Length"; raw = 32 ∷ decimal n; end = line_end }

abbrev response : ℕ → ResponseHead
response n = record { blank = []; minor = 1; digits = codes "200"; reason = Some (codes "OK"); line_end = line_end; fields = served_field n ∷ []; last = line_end }

printed : (n : ℕ) → print_response (response n) ≡ served_head n
unfolding print_response
printed n = by (decimal n)
  where
    by : (d : List ℕ) → codes "HTTP/1.1 200 OK" ++ crlf ++ ((codes "Content-Length" ++ 58 ∷ 32 ∷ d ++ crlf) ++ []) ++ crlf
        ≡ codes "HTTP/1.1 200 OK" ++ crlf ++ codes "Content-Length: " ++ d ++ crlf ++ crlf
    by d = simp (append_assoc, append-nil)

served-short : (n : ℕ) → n < 2 ^ 64 → length (served_head n) ≤ 100
served-short n small =
    let digits : length (decimal n) ≤ 20 = length-decimal-le 20 n (omega arith) (omega arith) small in
    let one : length (decimal n ++ crlf) ≡ length (decimal n) + 2 = length-append (decimal n) crlf in
    let two : length ((decimal n ++ crlf) ++ crlf) ≡ length (decimal n ++ crlf) + 2 = length-append (decimal n ++ crlf) crlf in
    omega (arith, digits, one, two)

is-field : (n : ℕ) → n < 2 ^ 64 → IsField (served_field n)
unfolding is_token_byte
is-field n small =
    let numeral = (decimal_is_IsNumeral n small).0 in
    record {
      name = (omega arith, AllPass-from_list_all is_token_byte (codes "Content-Length") refl);
      raw = AllPass-from_list_all is_value_byte (32 ∷ decimal n) (digits-in-value (decimal n) (digits-pass (decimal n) numeral.1));
    }

is-response : (n : ℕ) → n < 2 ^ 64 → IsResponseHead (response n)
is-response n small = record {
  minor = omega arith;
  digits = (refl, AllPass-from_list_all is_ascii_digit (codes "200") refl);
  reason = AllPass-from_list_all is_value_byte (codes "OK") refl;
  fields = All-cons IsField (served_field n) [] (is-field n small) (All-nil IsField);
}

-- ---- what the head says

trimmed : (n : ℕ) → n < 2 ^ 64 → trim_ows (32 ∷ decimal n) ≡ decimal n
trimmed n small =
    let pass : AllPass is_ascii_digit (decimal n) = AllPass-from_list_all is_ascii_digit (decimal n) (digits-pass (decimal n) (decimal_is_IsNumeral n small).0.1) in
    trim_ows_space (decimal n) (no-blank-first (decimal n) pass) (no-blank-first (reverse (decimal n)) (AllPass-reverse is_ascii_digit (decimal n) pass))

one-length : (v : List ℕ) (n : ℕ) → is_number v ≡ true → decimal_from 0 v ≡ n → nat_lt most_served_bytes n ≡ false
    → framing_of ((codes "Content-Length", v) ∷ []) ≡ framing.Framed (frame.Length n)
one-length v n number value fits =
    ap (λ (b : Bool). cond (not (b && true)) framing.Bad (framing_by (decimal_from 0 v))) number
    ∙ ap framing_by value
    ∙ ap (λ (b : Bool). cond b framing.TooLong (framing.Framed (frame.Length n))) fits

says : (n : ℕ) → n < 2 ^ 64 → nat_lt most_served_bytes n ≡ false → framing_of (map name_and_value (served_field n ∷ [])) ≡ framing.Framed (frame.Length n)
says n small fits =
    let numeral = (decimal_is_IsNumeral n small).0 in
    let some : nat_lt 0 (length (decimal n)) ≡ true = let h : 0 < length (decimal n) = numeral.0 in grind (arith, nat_tests) in
    let number : is_number (decimal n) ≡ true = ap (λ (b : Bool). b && list_all is_ascii_digit (decimal n)) some ∙ digits-pass (decimal n) numeral.1 in
    let value : decimal_from 0 (decimal n) ≡ n = digits-count (decimal n) 0 numeral.1 ∙ (decimal_is_IsNumeral n small).1 in
    ap (λ (v : List ℕ). framing_of ((codes "Content-Length", v) ∷ [])) (trimmed n small) ∙ one-length (decimal n) n number value fits

framed-reply : (f : Framing) (len n : ℕ) → f ≡ framing.Framed (frame.Length n) → body_by f len n true ≡ reply.Body len (frame.Length n)
framed-reply f len n is =
    let no : nat_lt n n ≡ false = grind (arith, nat_tests) in
    ap (λ (g : Framing). body_by g len n true) is ∙ ap (λ (b : Bool). cond b reply.BadReply (reply.Body len (frame.Length n))) no

pub served-has-body : ServedHasBody
served-has-body body fits =
    let n = length body in
    let small : n < 2 ^ 64 = omega (arith, fits) in
    let within : nat_lt most_served_bytes n ≡ false = grind (arith, nat_tests) in
    let short = served-short n small in
    let whole : length (served_head n ++ body) ≡ length (served_head n) + n = length-append (served_head n) body in
    let behind : length (served_head n ++ body) - length (served_head n) ≡ n = omega (arith, whole) in
    let answer : ◌≡◌ {A = Reply} (reply.Body (length (served_head n)) (frame.Length n)) (reply_with (response n) (served_head n ++ body) true) =
    sym (ap (λ (l : List ℕ). reply_by (framing_of (map name_and_value (served_field n ∷ []))) 200 (length l) (length (served_head n ++ body) - length l) true) (printed n)
    ∙ ap (λ (m : ℕ). reply_by (framing_of (map name_and_value (served_field n ∷ []))) 200 (length (served_head n)) m true) behind
    ∙ framed-reply (framing_of (map name_and_value (served_field n ∷ []))) (length (served_head n)) n (says n small within)) in
    record {
      len = length (served_head n);
      framed = frame.Length n;
      decided = record {
        is = inl (record {
          head = response n;
          has = record {
            rest = take (head_limit - length (served_head n)) body;
            reads = (is-response n small, take-front head_limit (served_head n) body ∙ ap (λ (l : List ℕ). l ++ take (head_limit - length (served_head n)) body) (take_all head_limit (served_head n) (omega (arith, short)) ∙ sym (printed n)));
            few = omega arith;
          };
          is = answer;
        });
        settled = grind (arith, nat_tests, whole);
      };
      is = sym (ap (take n) (drop-append_seam (served_head n) body) ∙ take_all n body (omega arith));
    }
