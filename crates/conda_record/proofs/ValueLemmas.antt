-- Readers of a record's values by their kinds are right.
use Rattle.std.proofs.Common.{◌≡◌, refl, sym, ◌∙◌, ap, subst, ℕ, zero, suc, ◌+◌, Bool, true, false, cond, List, [], ◌∷◌, ◌++◌, length, arith, length-append, append_assoc, inl, inr}
use Rattle.std.specs.Prelude.{Result, Ok, Err, Option, Some, None}
use Rattle.std.specs.Str.{is_utf8}
use Rattle.gateway_words.specs.Places.{Position, Between}
use Rattle.gateway_words.specs.Reading.{◌>>=◌}
use Rattle.mp_codec.specs.declared.fault.FormatFault.{FormatFault}
use Rattle.mp_codec.specs.declared.head.Head.{Head}
use Rattle.mp_codec.specs.declared.head.Head.TheVariants as head
use Rattle.mp_codec.specs.Format.{payload_len, part_count}
use Rattle.mp_codec.specs.Value.{Value, value, Values, none, more, count, array_len, str_of}
use Rattle.mp_codec.specs.Spelling.{SpellsAll, Lies}
use Rattle.mp_codec.specs.Reading.{head_from, bytes_from}
use Rattle.mp_codec.specs.Fault.{no_fault, TextFault}
use Rattle.mp_codec.specs.Maps.{Read, skipped, text_from, str_from}
use Rattle.mp_codec.proofs.BindLemmas.{BoundOk, bound_ok, bind_ok}
use Rattle.mp_codec.proofs.HeadLemmas.{ok_first, ok_second}
use Rattle.mp_codec.proofs.PlaceLemmas.{position, between_join, head_breaks, TakesBytes, bytes_taken}
use Rattle.mp_codec.proofs.PassingLemmas.{LieAll, node_lies}
use Rattle.mp_codec.proofs.UniqueLemmas.{SameLie, lies_same}
use Rattle.mp_codec.proofs.JudgingLemmas.{JudgesOne, Reads, parts, lies_whole}
use Rattle.mp_codec.proofs.LeafLemmas.{head_of, head_is, refuses_break, skipped_judged, leaf_lies, payload_breaks, HasStr, str_judged, IsText, text_judged, text_clean}
use Rattle.mp_codec.proofs.MapLemmas.{mapped, head_begins, parts_lie, no_place}
use Rattle.mp_codec.proofs.ReaderLemmas.{judged_reads}
use Rattle.conda_record.specs.Texts.{text_in, text_of, texts_in, texts_if, texts_of, each_from, tried, listed_or_skipped, listed_from, texts_at, texts_from, both}
use Rattle.conda_record.specs.Digests.{digest_in, digest_of, digest_by, digest_from}
use Rattle.conda_record.specs.Reading.{optional_text_from}

-- ---- a text, or none

abbrev pub HasText : Option (List ℕ) → Value → Type 0
HasText o v = text_of v ≡ o

pub optional_text_judged : (here : Position) → JudgesOne no_fault HasText here (optional_text_from here)
unfolding optional_text_from
optional_text_judged here = mapped no_fault HasStr HasText text_in here (str_from here) (λ o v is. ap text_in is) (str_judged here)

-- ---- a digest, or none

abbrev pub HasDigest : ℕ → Option (List ℕ) → Value → Type 0
HasDigest n o v = digest_of n v ≡ o

digest_head : (n : ℕ) (v : Value) (h : Head) → head_of v ≡ h → ((payload : List ℕ) → digest_in n h payload ≡ None) → digest_of n v ≡ None
digest_head n (value g payload parts) h e lacks = ap (λ (h : Head). digest_in n h payload) e ∙ lacks payload

pub digest_judged : (n : ℕ) (here : Position) → JudgesOne no_fault (HasDigest n) here (digest_from n here)
unfolding digest_from
digest_judged n here = go (head_from here) refl
  where
    taken : (h : Head) (len : ℕ) (mid : Position) → head_from here ≡ Ok (h, mid) → payload_len h ≡ len → part_count h ≡ 0 → (r : Read (List ℕ)) → bytes_from len mid ≡ r
        → JudgesOne no_fault (HasDigest n) here (r >>= λ s. Ok (digest_in n h s.0, s.1))
    taken h len mid e is whole (Ok x) t =
        let b : TakesBytes len x.0 mid x.1 = bytes_taken len mid x.0 x.1 t in
        record { value = value h x.0 none; lies = leaf_lies h x.0 here mid x.1 e (is ∙ sym b.len) whole b.between; means = refl; none = λ g p. p }
    taken h len mid e is whole (Err f) t = refuses_break no_fault here f (payload_breaks h here mid f e (ap (λ (k : ℕ). bytes_from k mid) is ∙ t)) (λ g p. absurd p)

    other : (h : Head) (mid : Position) → head_from here ≡ Ok (h, mid) → ((payload : List ℕ) → digest_in n h payload ≡ None) → JudgesOne no_fault (HasDigest n) here (skipped None here)
    other h mid e lacks = skipped_judged None (HasDigest n) here (λ v there l. digest_head n v h (head_is v here there mid h l e) lacks)

    by_head : (h : Head) (mid : Position) → head_from here ≡ Ok (h, mid) → JudgesOne no_fault (HasDigest n) here (digest_by n h here mid)
    by_head (head.Bin m) mid e = taken (head.Bin m) m mid e refl refl (bytes_from m mid) refl
    by_head (head.Str m) mid e = taken (head.Str m) m mid e refl refl (bytes_from m mid) refl
    by_head head.Nil mid e = other head.Nil mid e (λ payload. refl)
    by_head (head.Bool b) mid e = other (head.Bool b) mid e (λ payload. refl)
    by_head (head.Int i) mid e = other (head.Int i) mid e (λ payload. refl)
    by_head head.Float mid e = other head.Float mid e (λ payload. refl)
    by_head (head.Array m) mid e = other (head.Array m) mid e (λ payload. refl)
    by_head (head.Map m) mid e = other (head.Map m) mid e (λ payload. refl)
    by_head (head.Ext m) mid e = other (head.Ext m) mid e (λ payload. refl)

    go : (r : Result (Head × Position) FormatFault) → head_from here ≡ r → JudgesOne no_fault (HasDigest n) here (r >>= λ h. digest_by n h.0 here h.1)
    go (Ok x) e = by_head x.0 x.1 e
    go (Err f) e = refuses_break no_fault here f (head_breaks 0 here f e) (λ g p. absurd p)

-- ---- a list of texts, or none

-- what a value that is this text holds
text_parts : (v : Value) (t : List ℕ) → text_of v ≡ Some t → (str_of v ≡ Some t) × (is_utf8 t ≡ true)
text_parts v t e = str (str_of v) refl e
  where
    utf8 : (bytes : List ℕ) → str_of v ≡ Some bytes → (b : Bool) → is_utf8 bytes ≡ b → cond b (Some bytes) None ≡ Some t → (str_of v ≡ Some t) × (is_utf8 t ≡ true)
    utf8 bytes e true u is = let same : bytes ≡ t = cc in (e ∙ ap (λ (t : List ℕ). Some t) same, ap is_utf8 (sym same) ∙ u)
    utf8 bytes e false u is = absurd (cc)

    str : (o : Option (List ℕ)) → str_of v ≡ o → text_in o ≡ Some t → (str_of v ≡ Some t) × (is_utf8 t ≡ true)
    str (Some bytes) e is = utf8 bytes e (is_utf8 bytes) refl is
    str None e is = absurd (cc)

-- a str that is UTF-8 is a text
parts_text : (v : Value) (t : List ℕ) → str_of v ≡ Some t → is_utf8 t ≡ true → text_of v ≡ Some t
parts_text v t s u = ap text_in s ∙ ap (λ (b : Bool). cond b (Some t) None) u

-- a value that is this text is read as it
text_read : (v : Value) (t : List ℕ) (here there : Position) → Lies v here there → text_of v ≡ Some t → text_from here ≡ Ok (t, there)
text_read v t here there l is = go (text_from here) refl (text_judged here) (text_parts v t is)
  where
    go : (r : Read (List ℕ)) → text_from here ≡ r → JudgesOne TextFault IsText here r → (str_of v ≡ Some t) × (is_utf8 t ≡ true) → text_from here ≡ Ok (t, there)
    go (Ok x) e j p =
        let same : SameLie j.value v x.1 there = lies_same j.value v here x.1 there j.lies l in
        let text : ◌≡◌ {A = Option (List ℕ)} (Some x.0) (Some t) = sym j.means.0 ∙ ap str_of same.value ∙ p.0 in
        let same_text : x.0 ≡ t = cc in
        e ∙ ap (λ (t : List ℕ). Ok (t, x.1)) same_text ∙ ap (λ (q : Position). Ok (t, q)) same.place
    go (Err f) e j p = absurd (elim j.stands [ inl q ↦ text_clean v t here there l p.0 p.1 f q | inr b ↦ lies_whole here there v f l b ])

-- the texts of a text and of others
both_some : (a : Option (List ℕ)) (b : Option (List (List ℕ))) (ts : List (List ℕ)) → both a b ≡ Some ts → (t : List ℕ) × (us : List (List ℕ)) × (a ≡ Some t) × (b ≡ Some us) × (ts ≡ t ∷ us)
both_some (Some t) (Some us) ts e = (t, us, refl, refl, (let same : t ∷ us ≡ ts = cc in sym same))
both_some (Some t) None ts e = absurd (cc)
both_some None b ts e = absurd (cc)

-- a list of values that lie there, with its first one apart
record MoreParts (v : Value) (vs : Values) (here there : Position) : Type 0 where
  mid : Position
  lies : Lies v here mid
  rest : LieAll (count vs) mid there
  same : rest.values ≡ vs

more_parts : (v : Value) (vs : Values) (here there : Position) (l : LieAll (suc (count vs)) here there) → l.values ≡ more v vs → MoreParts v vs here there
more_parts v vs here there l e = go l.bytes (subst (λ (us : Values). SpellsAll us l.bytes) e l.spelled) l.between
  where
    go : (bytes : List ℕ) → SpellsAll (more v vs) bytes → Between bytes here there → MoreParts v vs here there
    go bytes s b =
        let mid : Position = position (here.at + length s.0) (s.1 ++ there.left) in
        let at : there.at ≡ here.at + length bytes = b.at in
        let len : length bytes ≡ length (s.0 ++ s.1) = ap length s.4 in
        record {
          mid = mid;
          lies = record { bytes = s.0; spelled = s.2; between = record { left = b.left ∙ ap (λ (t : List ℕ). t ++ there.left) s.4 ∙ append_assoc s.0 s.1 there.left; at = refl } };
          rest = record { values = vs; counted = refl; bytes = s.1; spelled = s.3; between = record { left = refl; at = omega (arith, length-append s.0 s.1) } };
          same = refl;
        }

-- values that are these texts are read as them
texts_read : (vs : Values) (ts : List (List ℕ)) (here there : Position) (l : LieAll (count vs) here there) → l.values ≡ vs → texts_in vs ≡ Some ts → texts_at (count vs) here ≡ Ok (ts, there)
unfolding each_from
texts_read none ts here there l e is =
    let same : [] ≡ ts = cc in
    let place : there ≡ here = no_place here there l in
    ap (λ (q : Position). Ok ([], q)) (sym place) ∙ ap (λ (ts : List (List ℕ)). Ok (ts, there)) same
texts_read (more v vs) ts here there l e is =
    let p : MoreParts v vs here there = more_parts v vs here there l e in
    let b = both_some (text_of v) (texts_in vs) ts is in
    bind_ok (text_from here) (λ t. texts_at (count vs) t.1 >>= λ ts. Ok (t.0 ∷ ts.0, ts.1)) (b.0, p.mid) (text_read v b.0 here p.mid p.lies b.2)
    ∙ bind_ok (texts_at (count vs) p.mid) (λ ts. Ok (b.0 ∷ ts.0, ts.1)) (b.1, there) (texts_read vs b.1 p.mid there p.rest p.same b.3)
    ∙ ap (λ (ts : List (List ℕ)). Ok (ts, there)) (sym b.4)

-- texts that were read are those of the values that lie there
record TextsLie (n : ℕ) (ts : List (List ℕ)) (here there : Position) : Type 0 where
  lie : LieAll n here there
  are : texts_in lie.values ≡ Some ts

texts_lie : (n : ℕ) (here : Position) (ts : List (List ℕ)) (there : Position) → texts_at n here ≡ Ok (ts, there) → TextsLie n ts here there
unfolding each_from
texts_lie zero here ts there e =
    let empty : ◌≡◌ {A = List (List ℕ)} [] ts = ok_first e in
    let place : here ≡ there = ok_second e in
    subst (λ (q : Position). TextsLie zero ts here q) place (record {
      lie = record { values = none; counted = refl; bytes = []; spelled = refl; between = record { left = refl; at = omega arith } };
      are = ap (λ (ts : List (List ℕ)). Some ts) empty;
    })
texts_lie (suc n) here ts there e =
    let one : BoundOk (text_from here) (λ t. texts_at n t.1 >>= λ ts. Ok (t.0 ∷ ts.0, ts.1)) (ts, there) = bound_ok (text_from here) (λ t. texts_at n t.1 >>= λ ts. Ok (t.0 ∷ ts.0, ts.1)) (ts, there) e in
    let two : BoundOk (texts_at n one.value.1) (λ ts. Ok (one.value.0 ∷ ts.0, ts.1)) (ts, there) = bound_ok (texts_at n one.value.1) (λ ts. Ok (one.value.0 ∷ ts.0, ts.1)) (ts, there) one.rest in
    let first : Reads TextFault IsText here one.value.0 one.value.1 = judged_reads TextFault IsText here (text_from here) (text_judged here) one.value.0 one.value.1 one.first in
    let others : TextsLie n two.value.0 one.value.1 two.value.1 = texts_lie n one.value.1 two.value.0 two.value.1 two.first in
    let all : one.value.0 ∷ two.value.0 ≡ ts = ok_first two.rest in
    let place : two.value.1 ≡ there = ok_second two.rest in
    let text : text_of first.value ≡ Some one.value.0 = parts_text first.value one.value.0 first.means.0 first.means.1 in
    subst (λ (q : Position). TextsLie (suc n) ts here q) place (record {
      lie = record {
        values = more first.value others.lie.values;
        counted = ap suc others.lie.counted;
        bytes = first.lies.bytes ++ others.lie.bytes;
        spelled = (first.lies.bytes, others.lie.bytes, first.lies.spelled, others.lie.spelled, refl);
        between = between_join first.lies.bytes others.lie.bytes here one.value.1 two.value.1 first.lies.between others.lie.between;
      };
      are = ap (λ (o : Option (List ℕ)). both o (texts_in others.lie.values)) text ∙ ap (λ (o : Option (List (List ℕ))). both (Some one.value.0) o) others.are ∙ ap (λ (ts : List (List ℕ)). Some ts) all;
    })

-- a head that is an array's
record IsArray (h : Head) (n : ℕ) : Type 0 where
  payload : payload_len h ≡ 0
  parts : part_count h ≡ n

is_array : (h : Head) (n : ℕ) → array_len h ≡ Some n → IsArray h n
is_array (head.Array m) n e = record { payload = refl; parts = (cc) }
is_array (head.Str m) n e = absurd (cc)
is_array head.Nil n e = absurd (cc)
is_array (head.Bool b) n e = absurd (cc)
is_array (head.Int i) n e = absurd (cc)
is_array head.Float n e = absurd (cc)
is_array (head.Bin m) n e = absurd (cc)
is_array (head.Map m) n e = absurd (cc)
is_array (head.Ext m) n e = absurd (cc)

texts_head : (v : Value) (o : Option ℕ) → array_len (head_of v) ≡ o → (parts : Values) → (payload : List ℕ) → v ≡ value (head_of v) payload parts → texts_of v ≡ texts_if o parts
texts_head v o e parts payload is = ap texts_of is ∙ ap (λ (o : Option ℕ). texts_if o parts) e

abbrev pub HasTexts : Option (List (List ℕ)) → Value → Type 0
HasTexts o v = texts_of v ≡ o

-- a value that is no array is no list of texts
no_array : (v : Value) (h : Head) → head_of v ≡ h → array_len h ≡ None → texts_of v ≡ None
no_array (value g payload parts) h e lacks = ap (λ (h : Head). texts_if (array_len h) parts) e ∙ ap (λ (o : Option ℕ). texts_if o parts) lacks

-- the array with these parts that stands where its head and they do
array_lies : (h : Head) (n : ℕ) (here mid there : Position) → head_from here ≡ Ok (h, mid) → IsArray h n → (all : LieAll (part_count h) mid there) → Lies (value h [] all.values) here there
array_lies h n here mid there e is all = node_lies h [] here mid there (head_begins here mid h e is.payload) all

pub texts_judged : (here : Position) → JudgesOne no_fault HasTexts here (texts_from here)
unfolding listed_from
texts_judged here = go (head_from here) refl
  where
    -- an array whose elements were not read as texts is no list of texts
    unread : (h : Head) (mid : Position) (n : ℕ) → head_from here ≡ Ok (h, mid) → array_len h ≡ Some n → IsArray h n → (f : FormatFault) → texts_at n mid ≡ Err f
        → (v : Value) (there : Position) → Lies v here there → texts_of v ≡ None
    unread h mid n e len is f bad v there l = none_of (texts_in all.values) refl
      where
        all : LieAll (part_count h) mid there
        all = parts_lie here mid there h v e is.payload l

        whole : Lies (value h [] all.values) here there
        whole = array_lies h n here mid there e is all

        none_of : (o : Option (List (List ℕ))) → texts_in all.values ≡ o → texts_of v ≡ None
        none_of None t = ap texts_of (lies_same v (value h [] all.values) here there there l whole).value ∙ ap (λ (o : Option ℕ). texts_if o all.values) len ∙ t
        none_of (Some ts) t =
            let counts : count all.values ≡ n = all.counted ∙ is.parts in
            let read : texts_at (count all.values) mid ≡ Ok (ts, there) = texts_read all.values ts mid there (record { values = all.values; counted = refl; bytes = all.bytes; spelled = all.spelled; between = all.between }) refl t in
            let wrong : ◌≡◌ {A = Read (List (List ℕ))} (Err f) (Ok (ts, there)) = sym bad ∙ ap (λ (k : ℕ). texts_at k mid) (sym counts) ∙ read in
            absurd (cc)

    in_array : (h : Head) (mid : Position) (n : ℕ) → head_from here ≡ Ok (h, mid) → array_len h ≡ Some n → IsArray h n → (r : Read (List (List ℕ))) → texts_at n mid ≡ r
        → JudgesOne no_fault HasTexts here (tried r here)
    in_array h mid n e len is (Ok x) t =
        let lie : TextsLie n x.0 mid x.1 = texts_lie n mid x.0 x.1 t in
        let all : LieAll (part_count h) mid x.1 = subst (λ (k : ℕ). LieAll k mid x.1) (sym is.parts) lie.lie in
        record {
          value = value h [] lie.lie.values;
          lies = array_lies h n here mid x.1 e is (record { values = lie.lie.values; counted = lie.lie.counted ∙ sym is.parts; bytes = lie.lie.bytes; spelled = lie.lie.spelled; between = lie.lie.between });
          means = ap (λ (o : Option ℕ). texts_if o lie.lie.values) len ∙ lie.are;
          none = λ g p. p;
        }
    in_array h mid n e len is (Err f) t = skipped_judged None HasTexts here (unread h mid n e len is f t)

    by_len : (h : Head) (mid : Position) → head_from here ≡ Ok (h, mid) → (o : Option ℕ) → array_len h ≡ o → JudgesOne no_fault HasTexts here (listed_or_skipped text_from o here mid)
    by_len h mid e (Some n) is = in_array h mid n e is (is_array h n is) (texts_at n mid) refl
    by_len h mid e None is = skipped_judged None HasTexts here (λ v there l. no_array v h (head_is v here there mid h l e) is)

    go : (r : Result (Head × Position) FormatFault) → head_from here ≡ r → JudgesOne no_fault HasTexts here (r >>= λ h. listed_or_skipped text_from (array_len h.0) here h.1)
    go (Ok x) e = by_len x.0 x.1 e (array_len x.0) refl
    go (Err f) e = refuses_break no_fault here f (head_breaks 0 here f e) (λ g p. absurd p)
