-- The text of a str stands in the bytes that its value lies in, just before the position behind the value.
use Rattle.std.proofs.Common.{◌≡◌, sym, ◌∙◌, ap, subst, ℕ, suc, ◌+◌, ◌-◌, ◌≤◌, Bool, true, ◌&&◌, List, [], ◌++◌, length, take, drop, replicate, arith, length-append, append_assoc, append-nil}
use Rattle.std.specs.Prelude.{Result, Ok, Err, Option, Some, None, nat_le, slice_range, if◌then◌else◌}
use Rattle.std.specs.Str.{is_utf8}
use Rattle.std.proofs.lemmas.Bool.{le-leb}
use Rattle.std.proofs.lemmas.List.{drop-drop, length-drop, length-replicate}
use Rattle.std.proofs.Math.Seq.{drop-append_seam, take-append_seam}
use Rattle.std.specs.Borrow.{Bor}
use Rattle.gateway_words.specs.Places.{Position, Between}
use Rattle.mp_codec.specs.declared.fault.FormatFault.{FormatFault}
use Rattle.mp_codec.specs.declared.head.Head.{Head}
use Rattle.mp_codec.specs.declared.head.Head.TheVariants as head
use Rattle.mp_codec.specs.Value.{Value, value, Values, none, more, count, str_of}
use Rattle.mp_codec.specs.Spelling.{HeadLies, Lies}
use Rattle.mp_codec.specs.Fault.{TextFault, ValueLies}
use Rattle.mp_codec.specs.Reading.{Steps, head_from, bytes_from}
use Rattle.mp_codec.specs.Maps.{text_from}
use Rattle.mp_codec.specs.Span.{IsIn, part_of, text_or_none, text_at, span_before, span_from}
use Rattle.mp_codec.proofs.BindLemmas.{bind_ok}
use Rattle.mp_codec.proofs.CursorLemmas.{head_found, take_found}
use Rattle.mp_codec.proofs.LeafLemmas.{IsText, text_judged}
use Rattle.mp_codec.proofs.JudgingLemmas.{Reads}
use Rattle.mp_codec.proofs.ReaderLemmas.{judged_reads}

-- a position behind one that is in some bytes is in them too
pub between_in : (bytes s : List ℕ) (here there : Position) → IsIn bytes here → Between s here there → IsIn bytes there
between_in bytes s here there i b =
    let at : there.at ≡ here.at + length s = b.at in
    let within : here.at ≤ length bytes = i.within in
    let long : length here.left ≡ length bytes - here.at = ap length i.left ∙ length-drop here.at bytes in
    let parts : length here.left ≡ length (s ++ there.left) = ap length b.left in
    record {
      within = omega (arith, length-append s there.left);
      left = sym (drop-append_seam s there.left) ∙ ap (drop (length s)) (sym b.left ∙ i.left) ∙ drop-drop (length s) here.at bytes ∙ ap (λ (k : ℕ). drop k bytes) (sym at);
    }

-- where a value lies in some bytes, the position behind it is in them too
pub lies_in : (bytes : List ℕ) (v : Value) (here there : Position) → IsIn bytes here → Lies v here there → IsIn bytes there
lies_in bytes v here there i l = between_in bytes l.bytes here there i l.between

-- the same for a head, a value that says something, and bytes that are taken
pub head_in : (bytes : List ℕ) (h : Head) (here there : Position) → IsIn bytes here → HeadLies h here there → IsIn bytes there
head_in bytes h here there i l = between_in bytes l.bytes here there i l.between

pub value_in : {X : Type 0} (bytes : List ℕ) (says : Value → Option X) (said : Option X) (here there : Position) → IsIn bytes here → ValueLies says said here there → IsIn bytes there
value_in bytes says said here there i l = lies_in bytes l.value here there i l.lies

-- after a head, or after bytes that were taken, a cursor is in its bytes
pub head_stays : (bytes : List ℕ) (old new : Position) (r : Result Head FormatFault) → Steps (λ h. h) old new r (head_from old) → IsIn bytes old → IsIn bytes new
head_stays bytes old new (Ok h) s i = head_in bytes h old new i (head_found old new (Ok h) s)
head_stays bytes old new (Err f) s i = subst (λ (p : Position). IsIn bytes p) (sym s.1) i

pub take_stays : (bytes : List ℕ) (n : ℕ) (old new : Position) (r : Result (Bor (List ℕ)) FormatFault) → Steps (λ s. s.now) old new r (bytes_from n old) → IsIn bytes old → IsIn bytes new
take_stays bytes n old new (Ok t) s i = let found = take_found n old new (Ok t) s in between_in bytes t.now old new i found.1
take_stays bytes n old new (Err f) s i = subst (λ (p : Position). IsIn bytes p) (sym s.1) i

-- these bytes stand before a position, up to it
pub record StandsBefore (bytes text : List ℕ) (there : Position) : Type 0 where
  pub fits : length text ≤ there.at
  pub within : there.at ≤ length bytes
  pub are : slice_range bytes (there.at - length text) there.at ≡ text

-- the last bytes between two positions stand before the second
between_before : (bytes front text : List ℕ) (here there : Position) → IsIn bytes here → Between (front ++ text) here there → StandsBefore bytes text there
between_before bytes front text here there i b =
    let after : IsIn bytes there = between_in bytes (front ++ text) here there i b in
    let at : there.at ≡ here.at + length (front ++ text) = b.at in
    let len : length (front ++ text) ≡ length front + length text = length-append front text in
    let start : there.at - length text ≡ here.at + length front = omega arith in
    let size : there.at - (there.at - length text) ≡ length text = omega arith in
    let rest : drop (there.at - length text) bytes ≡ text ++ there.left =
    ap (λ (k : ℕ). drop k bytes) start ∙ sym (drop-drop (length front) here.at bytes) ∙ ap (drop (length front)) (sym i.left ∙ b.left ∙ append_assoc front text there.left)
    ∙ drop-append_seam front (text ++ there.left) in
    record {
      fits = omega arith;
      within = after.within;
      are = ap (λ (k : ℕ). take k (drop (there.at - length text) bytes)) size ∙ ap (take (length text)) rest ∙ take-append_seam text there.left;
    }

-- a value with the head of a str has no parts
str_alone : (bytes text payload : List ℕ) (n : ℕ) (parts : Values) (here there : Position) → IsIn bytes here → Lies (value (head.Str n) payload parts) here there → payload ≡ text → StandsBefore bytes text there
str_alone bytes text payload n none here there i l same =
    let all : l.bytes ≡ l.spelled.0 ++ text =
    l.spelled.4 ∙ ap (λ (t : List ℕ). l.spelled.0 ++ (payload ++ t)) l.spelled.3 ∙ ap (λ (t : List ℕ). l.spelled.0 ++ t) (append-nil payload ∙ same) in
    between_before bytes l.spelled.0 text here there i (subst (λ (t : List ℕ). Between t here there) all l.between)
str_alone bytes text payload n (more v vs) here there i l same = absurd (let counted : suc (count vs) ≡ 0 = l.spelled.2.part_count in omega arith)

-- the bytes of a str stand before the position behind it
pub str_before : (bytes text : List ℕ) (v : Value) (here there : Position) → IsIn bytes here → Lies v here there → str_of v ≡ Some text → StandsBefore bytes text there
str_before bytes text (value (head.Str n) payload parts) here there i l is = str_alone bytes text payload n parts here there i l (cc)
str_before bytes text (value head.Nil payload parts) here there i l is = absurd (cc)
str_before bytes text (value (head.Bool b) payload parts) here there i l is = absurd (cc)
str_before bytes text (value (head.Int n) payload parts) here there i l is = absurd (cc)
str_before bytes text (value head.Float payload parts) here there i l is = absurd (cc)
str_before bytes text (value (head.Bin n) payload parts) here there i l is = absurd (cc)
str_before bytes text (value (head.Array n) payload parts) here there i l is = absurd (cc)
str_before bytes text (value (head.Map n) payload parts) here there i l is = absurd (cc)
str_before bytes text (value (head.Ext n) payload parts) here there i l is = absurd (cc)

-- bytes that stand before a position are at their span
pub before_at : (bytes text : List ℕ) (there : Position) → StandsBefore bytes text there → is_utf8 text ≡ true → text_at bytes (span_before (length text) there) ≡ text
unfolding text_at
before_at bytes text there s u =
    let fits : length text ≤ there.at = s.fits in
    let start : nat_le (there.at - length text) there.at ≡ true = le-leb (there.at - length text) there.at (omega arith) in
    let end : nat_le there.at (length bytes) ≡ true = le-leb there.at (length bytes) s.within in
    let part : List ℕ = slice_range bytes (there.at - length text) there.at in
    ap (λ (b : Bool). text_or_none (if b && nat_le there.at (length bytes) then Some part else None)) start
    ∙ ap (λ (b : Bool). text_or_none (if b then Some part else None)) end
    ∙ ap (λ (t : List ℕ). text_or_none (Some t)) s.are
    ∙ ap (λ (b : Bool). if b then text else []) u

-- a text that was read is at the span before the position behind it
pub text_spans : (bytes text : List ℕ) (here there : Position) → IsIn bytes here → text_from here ≡ Ok (text, there) → text_at bytes (span_before (length text) there) ≡ text
text_spans bytes text here there i e =
    let r : Reads TextFault IsText here text there = judged_reads TextFault IsText here (text_from here) (text_judged here) text there e in
    before_at bytes text there (str_before bytes text r.value here there i r.lies r.means.0) r.means.1

-- and the position is in the bytes
pub text_in : (bytes text : List ℕ) (here there : Position) → IsIn bytes here → text_from here ≡ Ok (text, there) → IsIn bytes there
text_in bytes text here there i e =
    let r : Reads TextFault IsText here text there = judged_reads TextFault IsText here (text_from here) (text_judged here) text there e in
    lies_in bytes r.value here there i r.lies

-- bytes of a str that are text are at the span before the position behind it
pub str_spans : (bytes text : List ℕ) (here there : Position) → IsIn bytes here → ValueLies str_of (Some text) here there → is_utf8 text ≡ true → text_at bytes (span_before (length text) there) ≡ text
str_spans bytes text here there i l u = before_at bytes text there (str_before bytes text l.value here there i l.lies l.is) u

-- where a text was read its span is
pub span_read : (text : List ℕ) (here there : Position) → text_from here ≡ Ok (text, there) → span_from here ≡ Ok (span_before (length text) there, there)
unfolding span_from
span_read text here there e = bind_ok (text_from here) (λ t. Ok (span_before (length t.0) t.1, t.1)) (text, there) e

-- bytes between two positions are the part of the bytes from the one place to the other
pub part_between : (bytes s : List ℕ) (here there : Position) → IsIn bytes here → Between s here there → part_of bytes (record { start = here.at; end = there.at }) ≡ Some s
part_between bytes s here there i b =
    let w : StandsBefore bytes s there = between_before bytes [] s here there i b in
    let at : there.at ≡ here.at + length s = b.at in
    let first : nat_le here.at there.at ≡ true = le-leb here.at there.at (omega arith) in
    let last : nat_le there.at (length bytes) ≡ true = le-leb there.at (length bytes) w.within in
    let start : here.at ≡ there.at - length s = omega arith in
    ap (λ (b : Bool). if b && nat_le there.at (length bytes) then Some (slice_range bytes here.at there.at) else None) first
    ∙ ap (λ (b : Bool). if b then Some (slice_range bytes here.at there.at) else None) last
    ∙ ap (λ (t : List ℕ). Some t) (ap (λ (k : ℕ). slice_range bytes k there.at) start ∙ w.are)

-- so many bytes
abbrev zeros : ℕ → List ℕ
zeros n = replicate n 0

zeros_len : (n : ℕ) → length (zeros n) ≡ n
zeros_len n = length-replicate n 0

-- some bytes in which a position is
abbrev pub padded : Position → List ℕ
padded here = zeros here.at ++ here.left

pub padded_in : (here : Position) → IsIn (padded here) here
padded_in here = record {
  within = subst (λ (k : ℕ). k ≤ length (padded here)) (zeros_len here.at) (fits (zeros here.at) here.left);
  left = sym (ap (λ (k : ℕ). drop k (padded here)) (sym (zeros_len here.at)) ∙ drop-append_seam (zeros here.at) here.left);
}
  where
    fits : (xs ys : List ℕ) → length xs ≤ length (xs ++ ys)
    fits xs ys = omega (arith, length-append xs ys)
