-- What stands at the places of a record, in the bytes in which they were read, is the record.
use Rattle.std.proofs.Common.{◌≡◌, refl, sym, ◌∙◌, ap, ℕ, zero, suc, ◌+◌, ◌<◌, ◌/◌, ◌%◌, Bool, true, false, cond, nat_eq, List, [], ◌∷◌, length, map, arith}
use Rattle.std.specs.Prelude.{Result, Ok, Err, Option, Some, None, option_map, option_and_then, unwrap_or, slice_index_or, nat_le}
use Rattle.std.specs.Str.{is_utf8}
use Rattle.std.specs.Result.{result_ok}
use Rattle.std.proofs.lemmas.Bool.{eqb-true, eq-eqb}
use Rattle.std.proofs.lemmas.Option.{slice_get-map}
use Rattle.hex.specs.Hex.{decode_sized, decode_pairs}
use Rattle.hex.specs.declared.error.FromHexError.TheVariants.{OddLength, InvalidStringLength}
use Rattle.gateway_words.specs.Places.{Position}
use Rattle.gateway_words.specs.Reading.{◌>>=◌}
use Rattle.mp_codec.specs.declared.fault.FormatFault.{FormatFault}
use Rattle.mp_codec.specs.declared.head.Head.{Head}
use Rattle.mp_codec.specs.declared.head.Head.TheVariants as head
use Rattle.mp_codec.specs.declared.span.Span.{Span}
use Rattle.mp_codec.specs.Value.{array_len}
use Rattle.mp_codec.specs.Reading.{head_from, bytes_from, values_from}
use Rattle.mp_codec.specs.Maps.{Read, text_from, str_from, number_from, known_map_from}
use Rattle.mp_codec.specs.Span.{IsIn, Placed, placed_if, part_of, text_or_none as part_or_none, text_at, span_before, span_from, placed_str_from}
use Rattle.mp_codec.proofs.MappedLemmas.{turned, known_map_turned}
use Rattle.mp_codec.proofs.PlaceLemmas.{TakesBytes, bytes_taken}
use Rattle.mp_codec.proofs.PlacedLemmas.{judged_stays, turned_from, turned_key, known_map_same}
use Rattle.mp_codec.proofs.ReaderLemmas.{str_found}
use Rattle.mp_codec.proofs.SpanLemmas.{head_stays, part_between, padded, padded_in, text_spans, text_in as text_stays, str_spans}
use Rattle.conda_record.specs.Record.{Fields, record_keys, RecordFault, RecordAt}
use Rattle.conda_record.specs.Texts.{text_in, tried, each_from, listed_or_skipped, listed_from}
use Rattle.conda_record.specs.Digests.{digest_in, digest_by, digest_from, digest_in_bytes, digest_at, span_behind, digest_span_by, digest_span_from}
use Rattle.conda_record.specs.Reading.{Kind, text, number, optional_text, texts, digest, Datum, Text, Number, OptionalText, Texts, Digest, kinds, required, optional_text_from, datum_by, datum_from, text_or_none, number_in, optional_text_in, texts_in, digest_in as digest_kept, fields_from, record_from}
use Rattle.conda_record.specs.declared.spans.Field.{Field}
use Rattle.conda_record.specs.declared.spans.Field.TheVariants as field
use Rattle.conda_record.specs.Places.{Places, fields_at, span_of, text_of_field}
use Rattle.conda_record.specs.Placing.{Place, TextAt, NumberIs, OptionalTextAt, TextsAt, DigestAt, span_if_text, optional_span_from, place_by, place_from, span_or_none, number_in as number_kept, optional_span_in, spans_in, digest_span_in, places_in, places_end_from, places_from}
use Rattle.conda_record.proofs.RecordLemmas.{asked, datum, each, IsRecord, record_is, record_judged, record_found}

-- ---- texts, digests and lists at their places

module _ (bytes : List ℕ) where
  -- how many bytes a digest of this kind has
  abbrev size_of : Kind → ℕ
  size_of (digest n) = n
  size_of _ = 0

  -- what stands at the place of a value of this kind
  abbrev said_by : Kind → Place → Datum
  said_by kind (TextAt s) = Text (text_at bytes s)
  said_by kind (NumberIs n) = Number n
  said_by kind (OptionalTextAt s) = OptionalText (option_map (text_at bytes) s)
  said_by kind (TextsAt ss) = Texts (option_map (map (text_at bytes)) ss)
  said_by kind (DigestAt s) = Digest (option_and_then (digest_at (size_of kind) bytes) s)

  -- what stands at the place of the value of the known key at this place
  abbrev said_at : ℕ → Place → Datum
  said_at i = said_by (slice_index_or kinds i number)

  text_same : (here : Position) → IsIn bytes here → text_from here ≡ turned (text_at bytes) (span_from here)
  unfolding span_from
  text_same here i = go (text_from here) refl
    where
      go : (r : Read (List ℕ)) → text_from here ≡ r → r ≡ turned (text_at bytes) (r >>= λ t. Ok (span_before (length t.0) t.1, t.1))
      go (Ok t) e = ap (λ (x : List ℕ). Ok (x, t.1)) (sym (text_spans bytes t.0 here t.1 i e))
      go (Err f) e = refl

  optional_same : (here : Position) → IsIn bytes here → optional_text_from here ≡ turned (option_map (text_at bytes)) (optional_span_from here)
  unfolding optional_text_from optional_span_from placed_str_from
  optional_same here i = go (str_from here) refl
    where
      by_test : (t : List ℕ) (there : Position) → str_from here ≡ Ok (Some t, there) → (b : Bool) → is_utf8 t ≡ b
          → ◌≡◌ {A = Read (Option (List ℕ))} (Ok (cond b (Some t) None, there)) (Ok (option_map (text_at bytes) (cond b (Some (span_before (length t) there)) None), there))
      by_test t there e true u = ap (λ (x : List ℕ). Ok (Some x, there)) (sym (str_spans bytes t here there i (str_found here there (Some t) e) u))
      by_test t there e false u = refl

      test : Option (List ℕ) × Position → Read (Option (List ℕ))
      test s = Ok (text_in s.0, s.1)

      place : Option (List ℕ) × Position → Read (Option Placed)
      place s = Ok (placed_if s.0 s.1, s.1)

      place_if : Option Placed × Position → Read (Option Span)
      place_if p = Ok (span_if_text p.0, p.1)

      go : (r : Read (Option (List ℕ))) → str_from here ≡ r → (r >>= test) ≡ turned (option_map (text_at bytes)) (r >>= place >>= place_if)
      go (Ok (Some t, there)) e = by_test t there e (is_utf8 t) refl
      go (Ok (None, there)) e = refl
      go (Err f) e = refl

  -- the elements of a list
  each_same : (n : ℕ) (here : Position) → IsIn bytes here → each_from text_from n here ≡ turned (map (text_at bytes)) (each_from span_from n here)
  unfolding each_from
  each_same zero here i = refl
  each_same (suc n) here i =
      ap (λ (r : Read (List ℕ)). r >>= λ t. each_from text_from n t.1 >>= λ ts. Ok (t.0 ∷ ts.0, ts.1)) (text_same here i) ∙ go (span_from here) refl (λ there within. each_same n there within)
    where
      others : (s : Span) (r : Read (List Span)) → (turned (map (text_at bytes)) r >>= λ ts. Ok (text_at bytes s ∷ ts.0, ts.1)) ≡ turned (map (text_at bytes)) (r >>= λ ss. Ok (s ∷ ss.0, ss.1))
      others s (Ok ss) = refl
      others s (Err f) = refl

      go : (r : Read Span) → span_from here ≡ r → ((there : Position) → IsIn bytes there → each_from text_from n there ≡ turned (map (text_at bytes)) (each_from span_from n there))
          → (turned (text_at bytes) r >>= λ t. each_from text_from n t.1 >>= λ ts. Ok (t.0 ∷ ts.0, ts.1)) ≡ turned (map (text_at bytes)) (r >>= λ s. each_from span_from n s.1 >>= λ ss. Ok (s.0 ∷ ss.0, ss.1))
      go (Ok s) e rest =
          let read : text_from here ≡ Ok (text_at bytes s.0, s.1) = text_same here i ∙ ap (turned (text_at bytes)) e in
          ap (λ (r : Read (List (List ℕ))). r >>= λ ts. Ok (text_at bytes s.0 ∷ ts.0, ts.1)) (rest s.1 (text_stays bytes (text_at bytes s.0) here s.1 i read)) ∙ others s.0 (each_from span_from n s.1)
      go (Err f) e rest = refl

  listed_same : (here : Position) → IsIn bytes here → listed_from text_from here ≡ turned (option_map (map (text_at bytes))) (listed_from span_from here)
  unfolding listed_from
  listed_same here i = go (head_from here) refl
    where
      skip : (r : Result Position FormatFault) → (r >>= λ there. Ok (None, there)) ≡ turned (option_map (map (text_at bytes))) (r >>= λ there. Ok (None, there))
      skip (Ok there) = refl
      skip (Err f) = refl

      try : (r : Read (List Span)) → tried (turned (map (text_at bytes)) r) here ≡ turned (option_map (map (text_at bytes))) (tried r here)
      try (Ok ss) = refl
      try (Err f) = skip (values_from 1 here)

      by_len : (o : Option ℕ) (mid : Position) → IsIn bytes mid → listed_or_skipped text_from o here mid ≡ turned (option_map (map (text_at bytes))) (listed_or_skipped span_from o here mid)
      by_len (Some n) mid within = ap (λ (r : Read (List (List ℕ))). tried r here) (each_same n mid within) ∙ try (each_from span_from n mid)
      by_len None mid within = skip (values_from 1 here)

      go : (r : Read Head) → head_from here ≡ r → (r >>= λ h. listed_or_skipped text_from (array_len h.0) here h.1) ≡ turned (option_map (map (text_at bytes))) (r >>= λ h. listed_or_skipped span_from (array_len h.0) here h.1)
      go (Ok h) e = by_len (array_len h.0) h.1 (head_stays bytes here h.1 (Ok h.0) e i)
      go (Err f) e = refl

  -- a digest, as its bytes or as their digits
  unsized : (n : ℕ) (payload : List ℕ) → nat_eq (length payload) (n + n) ≡ false → result_ok (decode_sized payload n) ≡ None
  unsized n payload other = go (nat_eq (length payload % 2) 1) refl (nat_eq (length payload / 2) n) refl
    where
      twice : (rest : ℕ) → length payload % 2 ≡ rest → nat_eq (length payload % 2) 1 ≡ false → length payload / 2 ≡ n → length payload ≡ n + n
      twice zero is even half = omega arith
      twice (suc zero) is even half = absurd (let odd : nat_eq (length payload % 2) 1 ≡ true = eq-eqb _ _ is in let wrong : true ≡ false = sym odd ∙ even in cc)
      twice (suc (suc k)) is even half = absurd (omega arith)

      go : (odd : Bool) → nat_eq (length payload % 2) 1 ≡ odd → (half : Bool) → nat_eq (length payload / 2) n ≡ half
          → result_ok (cond odd (Err OddLength) (cond half (decode_pairs 0 payload) (Err InvalidStringLength))) ≡ None
      go true o half h = refl
      go false o false h = refl
      go false o true h =
          let same : nat_eq (length payload) (n + n) ≡ true = eq-eqb _ _ (twice (length payload % 2) refl o (eqb-true _ _ h)) in
          absurd (let wrong : true ≡ false = sym same ∙ other in cc)

  bin_same : (n m : ℕ) (payload : List ℕ) → length payload ≡ m → (b : Bool) → nat_eq m n ≡ b → cond b (Some payload) None ≡ option_and_then (digest_in_bytes n) (cond b (Some payload) None)
  bin_same n m payload len true e = ap (λ (b : Bool). cond b (Some payload) (result_ok (decode_sized payload n))) (sym (ap (λ (k : ℕ). nat_eq k n) len ∙ e))
  bin_same n m payload len false e = refl

  str_same : (n m : ℕ) (payload : List ℕ) → 0 < n → length payload ≡ m → (b : Bool) → nat_eq m (n + n) ≡ b → result_ok (decode_sized payload n) ≡ option_and_then (digest_in_bytes n) (cond b (Some payload) None)
  str_same n m payload some len true e =
      let twice : m ≡ n + n = eqb-true _ _ e in
      ap (λ (b : Bool). cond b (Some payload) (result_ok (decode_sized payload n))) (sym (unequal (nat_eq (length payload) n) refl twice))
    where
      unequal : (b : Bool) → nat_eq (length payload) n ≡ b → m ≡ n + n → nat_eq (length payload) n ≡ false
      unequal true h twice = absurd (let same : length payload ≡ n = eqb-true _ _ h in omega arith)
      unequal false h twice = h
  str_same n m payload some len false e = unsized n payload (ap (λ (k : ℕ). nat_eq k (n + n)) len ∙ e)

  digest_same : (n : ℕ) (here : Position) → 0 < n → IsIn bytes here → digest_from n here ≡ turned (option_and_then (digest_at n bytes)) (digest_span_from n here)
  unfolding digest_from digest_span_from span_behind
  digest_same n here some i = go (head_from here) refl
    where
      skip : (r : Result Position FormatFault) → (r >>= λ there. Ok (None, there)) ≡ turned (option_and_then (digest_at n bytes)) (r >>= λ there. Ok (None, there))
      skip (Ok there) = refl
      skip (Err f) = refl

      decode : Head → List ℕ × Position → Read (Option (List ℕ))
      decode h s = Ok (digest_in n h s.0, s.1)

      place : Position → List ℕ × Position → Read Span
      place mid s = Ok (record { start = mid.at; end = s.1.at }, s.1)

      place_if : Bool → Span × Position → Read (Option Span)
      place_if may s = Ok (cond may (Some s.0) None, s.1)

      -- the payload of a head, where its digest is what stands at the place of the payload
      taken : (h : Head) (m : ℕ) (may : Bool) (mid : Position) → IsIn bytes mid
          → ((payload : List ℕ) → length payload ≡ m → digest_in n h payload ≡ option_and_then (digest_in_bytes n) (cond may (Some payload) None))
          → (r : Read (List ℕ)) → bytes_from m mid ≡ r
          → (r >>= decode h) ≡ turned (option_and_then (digest_at n bytes)) (r >>= place mid >>= place_if may)
      taken h m may mid within same (Ok x) e =
          let b : TakesBytes m x.0 mid x.1 = bytes_taken m mid x.0 x.1 e in
          let part : part_of bytes (record { start = mid.at; end = x.1.at }) ≡ Some x.0 = part_between bytes x.0 mid x.1 within b.between in
          ap (λ (o : Option (List ℕ)). Ok (o, x.1)) (same x.0 b.len ∙ at_place may part)
        where
          at_place : (may : Bool) → part_of bytes (record { start = mid.at; end = x.1.at }) ≡ Some x.0
              → option_and_then (digest_in_bytes n) (cond may (Some x.0) None) ≡ option_and_then (digest_at n bytes) (cond may (Some (record { start = mid.at; end = x.1.at })) None)
          at_place true part = ap (option_and_then (digest_in_bytes n)) (sym part)
          at_place false part = refl
      taken h m may mid within same (Err f) e = refl

      by_head : (h : Head) (mid : Position) → IsIn bytes mid → digest_by n h here mid ≡ turned (option_and_then (digest_at n bytes)) (digest_span_by n h here mid)
      by_head (head.Bin m) mid within = taken (head.Bin m) m (nat_eq m n) mid within (λ payload len. bin_same n m payload len (nat_eq m n) refl) (bytes_from m mid) refl
      by_head (head.Str m) mid within = taken (head.Str m) m (nat_eq m (n + n)) mid within (λ payload len. str_same n m payload some len (nat_eq m (n + n)) refl) (bytes_from m mid) refl
      by_head head.Nil mid within = skip (values_from 1 here)
      by_head (head.Bool b) mid within = skip (values_from 1 here)
      by_head (head.Int k) mid within = skip (values_from 1 here)
      by_head head.Float mid within = skip (values_from 1 here)
      by_head (head.Array m) mid within = skip (values_from 1 here)
      by_head (head.Map m) mid within = skip (values_from 1 here)
      by_head (head.Ext m) mid within = skip (values_from 1 here)

      go : (r : Read Head) → head_from here ≡ r → (r >>= λ h. digest_by n h.0 here h.1) ≡ turned (option_and_then (digest_at n bytes)) (r >>= λ h. digest_span_by n h.0 here h.1)
      go (Ok h) e = by_head h.0 h.1 (head_stays bytes here h.1 (Ok h.0) e i)
      go (Err f) e = refl

  -- ---- the values of the known keys

  -- two turns of one reading, each with what follows it
  both_turned : {X Y : Type 0} (kind : Kind) (f : X → Y) (place : X → Place) (said : Y → Datum) → ((x : X) → said (f x) ≡ said_by kind (place x)) → (r : Read X) → turned said (turned f r) ≡ turned (said_by kind) (turned place r)
  both_turned kind f place said same (Ok x) = ap (λ (d : Datum). Ok (d, x.1)) (same x.0)
  both_turned kind f place said same (Err g) = refl

  text_value : (here : Position) → IsIn bytes here → datum_by text here ≡ turned (said_by text) (place_by text here)
  text_value here i = ap (turned Text) (text_same here i) ∙ both_turned text (text_at bytes) TextAt Text (λ s. refl) (span_from here)

  number_value : (here : Position) → datum_by number here ≡ turned (said_by number) (place_by number here)
  number_value here = go (number_from here)
    where
      go : (r : Read (Option ℕ)) → turned Number r ≡ turned (said_by number) (turned NumberIs r)
      go (Ok n) = refl
      go (Err f) = refl

  optional_value : (here : Position) → IsIn bytes here → datum_by optional_text here ≡ turned (said_by optional_text) (place_by optional_text here)
  optional_value here i = ap (turned OptionalText) (optional_same here i) ∙ both_turned optional_text (option_map (text_at bytes)) OptionalTextAt OptionalText (λ s. refl) (optional_span_from here)

  texts_value : (here : Position) → IsIn bytes here → datum_by texts here ≡ turned (said_by texts) (place_by texts here)
  texts_value here i = ap (turned Texts) (listed_same here i) ∙ both_turned texts (option_map (map (text_at bytes))) TextsAt Texts (λ ss. refl) (listed_from span_from here)

  digest_value : (n : ℕ) (here : Position) → 0 < n → IsIn bytes here → datum_by (digest n) here ≡ turned (said_by (digest n)) (place_by (digest n) here)
  digest_value n here some i = ap (turned Digest) (digest_same n here some i) ∙ both_turned (digest n) (option_and_then (digest_at n bytes)) DigestAt Digest (λ s. refl) (digest_span_from n here)

  value_same : (i : ℕ) (here : Position) → i < 13 → IsIn bytes here → datum_from i here ≡ turned (said_at i) (place_from i here)
  value_same zero here lt within = text_value here within
  value_same (suc zero) here lt within = text_value here within
  value_same (suc (suc zero)) here lt within = text_value here within
  value_same (suc (suc (suc zero))) here lt within = number_value here
  value_same (suc (suc (suc (suc zero)))) here lt within = texts_value here within
  value_same (suc (suc (suc (suc (suc zero))))) here lt within = texts_value here within
  value_same (suc (suc (suc (suc (suc (suc zero)))))) here lt within = optional_value here within
  value_same (suc (suc (suc (suc (suc (suc (suc zero))))))) here lt within = digest_value 16 here (omega arith) within
  value_same (suc (suc (suc (suc (suc (suc (suc (suc zero)))))))) here lt within = digest_value 32 here (omega arith) within
  value_same (suc (suc (suc (suc (suc (suc (suc (suc (suc zero))))))))) here lt within = number_value here
  value_same (suc (suc (suc (suc (suc (suc (suc (suc (suc (suc zero)))))))))) here lt within = number_value here
  value_same (suc (suc (suc (suc (suc (suc (suc (suc (suc (suc (suc zero))))))))))) here lt within = optional_value here within
  value_same (suc (suc (suc (suc (suc (suc (suc (suc (suc (suc (suc (suc zero)))))))))))) here lt within = optional_value here within
  value_same (suc (suc (suc (suc (suc (suc (suc (suc (suc (suc (suc (suc (suc i))))))))))))) here lt within = absurd (omega arith)

  -- ---- what was read, as fields

  no_text : text_at bytes (record { start = 0; end = 0 }) ≡ []
  unfolding text_at
  no_text = go (nat_le 0 (length bytes))
    where
      test : (b : Bool) → cond {A = List ℕ} b [] [] ≡ []
      test true = refl
      test false = refl

      go : (b : Bool) → part_or_none (cond b (Some []) None) ≡ []
      go true = test (is_utf8 [])
      go false = refl

  text_kept : (k : Kind) (o : Option Place) → text_or_none (option_map (said_by k) o) ≡ text_at bytes (span_or_none o)
  text_kept k (Some (TextAt s)) = refl
  text_kept k (Some (NumberIs n)) = sym no_text
  text_kept k (Some (OptionalTextAt s)) = sym no_text
  text_kept k (Some (TextsAt ss)) = sym no_text
  text_kept k (Some (DigestAt s)) = sym no_text
  text_kept k None = sym no_text

  number_is_kept : (k : Kind) (o : Option Place) → number_in (option_map (said_by k) o) ≡ number_kept o
  number_is_kept k (Some (TextAt s)) = refl
  number_is_kept k (Some (NumberIs n)) = refl
  number_is_kept k (Some (OptionalTextAt s)) = refl
  number_is_kept k (Some (TextsAt ss)) = refl
  number_is_kept k (Some (DigestAt s)) = refl
  number_is_kept k None = refl

  optional_kept : (k : Kind) (o : Option Place) → optional_text_in (option_map (said_by k) o) ≡ option_map (text_at bytes) (optional_span_in o)
  optional_kept k (Some (TextAt s)) = refl
  optional_kept k (Some (NumberIs n)) = refl
  optional_kept k (Some (OptionalTextAt s)) = refl
  optional_kept k (Some (TextsAt ss)) = refl
  optional_kept k (Some (DigestAt s)) = refl
  optional_kept k None = refl

  texts_kept : (k : Kind) (o : Option Place) → texts_in (option_map (said_by k) o) ≡ map (text_at bytes) (spans_in o)
  texts_kept k (Some (TextAt s)) = refl
  texts_kept k (Some (NumberIs n)) = refl
  texts_kept k (Some (OptionalTextAt s)) = refl
  texts_kept k (Some (TextsAt (Some ss))) = refl
  texts_kept k (Some (TextsAt None)) = refl
  texts_kept k (Some (DigestAt s)) = refl
  texts_kept k None = refl

  digest_is_kept : (k : Kind) (o : Option Place) → digest_kept (option_map (said_by k) o) ≡ option_and_then (digest_at (size_of k) bytes) (digest_span_in o)
  digest_is_kept k (Some (TextAt s)) = refl
  digest_is_kept k (Some (NumberIs n)) = refl
  digest_is_kept k (Some (OptionalTextAt s)) = refl
  digest_is_kept k (Some (TextsAt ss)) = refl
  digest_is_kept k (Some (DigestAt s)) = refl
  digest_is_kept k None = refl

  fields_same : (s : List (Option Place)) → fields_from (turned_from said_at 0 s) ≡ fields_at bytes (places_in s)
  unfolding fields_at
  fields_same s = λ j. record {
    name = (ap text_or_none (turned_key said_at s 0) ∙ text_kept text (slice_index_or s 0 None)) j;
    version = (ap text_or_none (turned_key said_at s 1) ∙ text_kept text (slice_index_or s 1 None)) j;
    build = (ap text_or_none (turned_key said_at s 2) ∙ text_kept text (slice_index_or s 2 None)) j;
    build_number = unwrap_or ((ap number_in (turned_key said_at s 3) ∙ number_is_kept number (slice_index_or s 3 None)) j) 0;
    depends = (ap texts_in (turned_key said_at s 4) ∙ texts_kept texts (slice_index_or s 4 None)) j;
    constrains = (ap texts_in (turned_key said_at s 5) ∙ texts_kept texts (slice_index_or s 5 None)) j;
    subdir = (ap optional_text_in (turned_key said_at s 6) ∙ optional_kept optional_text (slice_index_or s 6 None)) j;
    md5 = (ap digest_kept (turned_key said_at s 7) ∙ digest_is_kept (digest 16) (slice_index_or s 7 None)) j;
    sha256 = (ap digest_kept (turned_key said_at s 8) ∙ digest_is_kept (digest 32) (slice_index_or s 8 None)) j;
    size = (ap number_in (turned_key said_at s 9) ∙ number_is_kept number (slice_index_or s 9 None)) j;
    timestamp = (ap number_in (turned_key said_at s 10) ∙ number_is_kept number (slice_index_or s 10 None)) j;
    license = (ap optional_text_in (turned_key said_at s 11) ∙ optional_kept optional_text (slice_index_or s 11 None)) j;
    noarch = (ap optional_text_in (turned_key said_at s 12) ∙ optional_kept optional_text (slice_index_or s 12 None)) j;
  }

  -- ---- the record

  datum_stays : (i : ℕ) (here there : Position) (x : Datum) → i < 13 → IsIn bytes here → datum_from i here ≡ Ok (x, there) → IsIn bytes there
  datum_stays i here there x lt within e = judged_stays bytes (asked i) (λ d v. datum i v ≡ d) here (datum_from i here) (each i here lt) within x there e

  places_are : (here : Position) → places_from here ≡ turned places_in (known_map_from record_keys required place_from here)
  unfolding places_from places_end_from
  places_are here = known_map_turned record_keys required place_from places_in here

  -- the law: in the bytes in which the places of a record are read, what stands there is the record
  pub record_same : (here : Position) → IsIn bytes here → record_from here ≡ turned (fields_at bytes) (places_from here)
  record_same here i =
      record_is here
      ∙ ap (turned fields_from) (known_map_same bytes record_keys required place_from datum_from said_at (λ i here lt within. value_same i here lt within) datum_stays here i)
      ∙ go (known_map_from record_keys required place_from here)
      ∙ ap (turned (fields_at bytes)) (sym (places_are here))
    where
      go : (r : Read (List (Option Place))) → turned fields_from (turned (turned_from said_at 0) r) ≡ turned (fields_at bytes) (turned places_in r)
      go (Ok s) = ap (λ (f : Fields). Ok (f, s.1)) (fields_same s.0)
      go (Err g) = refl

  -- the record that stands where places were read
  pub record_at_places : (here there : Position) (p : Places) → IsIn bytes here → places_from here ≡ Ok (p, there) → record_from here ≡ Ok (fields_at bytes p, there)
  record_at_places here there p i e = record_same here i ∙ ap (turned (fields_at bytes)) e

  pub places_found : (here there : Position) (p : Places) → IsIn bytes here → places_from here ≡ Ok (p, there) → RecordAt here (fields_at bytes p) there
  places_found here there p i e = record_found here there (fields_at bytes p) (record_at_places here there p i e)

  -- the position behind it is in the bytes
  pub places_stay : (here there : Position) (p : Places) → IsIn bytes here → places_from here ≡ Ok (p, there) → IsIn bytes there
  places_stay here there p i e = judged_stays bytes RecordFault IsRecord here (record_from here) (record_judged here) i (fields_at bytes p) there (record_at_places here there p i e)

-- a fault of the places is that of the record
pub fault_at_places : (here : Position) (f : FormatFault) → places_from here ≡ Err f → record_from here ≡ Err f
fault_at_places here f e = record_same (padded here) here (padded_in here) ∙ ap (turned (fields_at (padded here))) e

-- the text at the span of a field
pub field_text : (bytes : List ℕ) (p : Places) (f : Field) → option_map (text_at bytes) (span_of f p) ≡ text_of_field f (fields_at bytes p)
unfolding fields_at
field_text bytes p field.Name = refl
field_text bytes p field.Version = refl
field_text bytes p field.Build = refl
field_text bytes p field.Subdir = refl
field_text bytes p field.License = refl
field_text bytes p field.Noarch = refl
field_text bytes p (field.Depend i) = sym (slice_get-map (text_at bytes) p.depends i)
field_text bytes p (field.Constrain i) = sym (slice_get-map (text_at bytes) p.constrains i)
