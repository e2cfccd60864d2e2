-- File names at their spans are text.
use Rattle.std.proofs.Common.{◌≡◌, refl, sym, ◌∙◌, ap, ℕ, zero, suc, ◌-◌, ◌≤◌, Bool, true, ◌&&◌, List, [], ◌∷◌, ◌++◌, map, length, arith}
use Rattle.std.specs.Prelude.{Ok, Some, None, nat_le, slice_range, unwrap_or, if◌then◌else◌}
use Rattle.std.specs.List.{All}
use Rattle.std.specs.List.Sorted.{IsPermutation}
use Rattle.std.specs.Cmp.{IsStrictWeakOrder}
use Rattle.std.proofs.lemmas.Bool.{le-leb}
use Rattle.std.proofs.lemmas.Cmp.{nat_list_cmp_total}
use Rattle.std.proofs.lemmas.List.Elements.{All-push}
use Rattle.std.proofs.lemmas.List.Sorted.{ranks_by, All-permutation}
use Rattle.gateway_words.specs.Places.{Position}
use Rattle.mp_codec.specs.Fault.{TextFault}
use Rattle.mp_codec.specs.Maps.{text_from}
use Rattle.mp_codec.specs.Span.{IsIn, raw_at, text_at, span_before}
use Rattle.mp_codec.proofs.JudgingLemmas.{Reads}
use Rattle.mp_codec.proofs.LeafLemmas.{IsText, text_judged}
use Rattle.mp_codec.proofs.ReaderLemmas.{judged_reads}
use Rattle.mp_codec.proofs.SpanLemmas.{StandsBefore, str_before, text_spans}
use Rattle.conda_record.specs.Places.{fields_at}
use Rattle.shard_file.specs.declared.spans.FileSpans.{FileSpans}
use Rattle.shard_file.specs.Rows.{Row, file_lt}
use Rattle.shard_file.specs.Spans.{row_at, rows_at, AreNamed}

-- a text that was read stands as bytes at the span before the position behind it
raw_spans : (bytes text : List ℕ) (here there : Position) → IsIn bytes here → text_from here ≡ Ok (text, there) → raw_at bytes (span_before (length text) there) ≡ text
raw_spans bytes text here there i e =
    let r : Reads TextFault IsText here text there = judged_reads TextFault IsText here (text_from here) (text_judged here) text there e in
    let s : StandsBefore bytes text there = str_before bytes text r.value here there i r.lies r.means.0 in
    let fits : length text ≤ there.at = s.fits in
    let start : nat_le (there.at - length text) there.at ≡ true = le-leb (there.at - length text) there.at (omega arith) in
    let end : nat_le there.at (length bytes) ≡ true = le-leb there.at (length bytes) s.within in
    let part : List ℕ = slice_range bytes (there.at - length text) there.at in
    ap (λ (b : Bool). unwrap_or (if b && nat_le there.at (length bytes) then Some part else None) []) start
    ∙ ap (λ (b : Bool). unwrap_or (if b then Some part else None) []) end
    ∙ s.are

-- a file name that was read is text at its span
pub name_text : (bytes text : List ℕ) (here there : Position) → IsIn bytes here → text_from here ≡ Ok (text, there)
    → raw_at bytes (span_before (length text) there) ≡ text_at bytes (span_before (length text) there)
name_text bytes text here there i e = raw_spans bytes text here there i e ∙ sym (text_spans bytes text here there i e)

-- the file name at this row's span is text
abbrev pub IsNameText : List ℕ → FileSpans → Type 0
IsNameText bytes r = raw_at bytes r.file ≡ text_at bytes r.file

-- one row more
pub named_more : (bytes : List ℕ) (rs : List FileSpans) (r : FileSpans) → AreNamed bytes rs → IsNameText bytes r → AreNamed bytes (rs ++ r ∷ [])
named_more bytes rs r named is = record { each = All-push (IsNameText bytes) rs r named.each is }

-- the same rows in another order
pub named_still : (bytes : List ℕ) (rs others : List FileSpans) → IsPermutation rs others → AreNamed bytes rs → AreNamed bytes others
named_still bytes rs others moved named = record { each = All-permutation (IsNameText bytes) rs others moved named.each }

-- the row whose file name is as it stands in these bytes
abbrev pub raw_row_at : List ℕ → FileSpans → Row
raw_row_at bytes r = record { file = raw_at bytes r.file; conda = r.conda; fields = fields_at bytes r.value }

-- such rows are in one order
pub raw_order : (bytes : List ℕ) → IsStrictWeakOrder (λ a b. file_lt (raw_row_at bytes a) (raw_row_at bytes b))
raw_order bytes = ranks_by nat_list_cmp_total (λ (r : FileSpans). raw_at bytes r.file)

-- where names are text, the rows are the same
pub raw_rows : (bytes : List ℕ) (rs : List FileSpans) → AreNamed bytes rs → map (raw_row_at bytes) rs ≡ rows_at bytes rs
raw_rows bytes rs named = go rs named.each
  where
    go : (rs : List FileSpans) → All (IsNameText bytes) rs → map (raw_row_at bytes) rs ≡ rows_at bytes rs
    go [] named = refl
    go (r ∷ rs) named =
        let first : ◌≡◌ {A = Row} (raw_row_at bytes r) (row_at bytes r) = λ i. record { file = named zero r (omega arith) i; conda = r.conda; fields = fields_at bytes r.value } in
        let rest : map (raw_row_at bytes) rs ≡ rows_at bytes rs = go rs (λ k d lt. named (suc k) d (omega arith)) in
        λ i. first i ∷ rest i
