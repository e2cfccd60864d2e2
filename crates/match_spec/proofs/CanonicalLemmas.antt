-- What is spelled in canonical form is read as it.
use Rattle.std.proofs.Common.{◌≡◌, ◌∙◌, ◌<◌, ◌^◌, ◌+◌, ◌-◌, ◌==◌, ℕ, zero, suc, List, [], ◌∷◌, ◌++◌, Bool, true, false, length, take, drop, reverse, append_assoc, length-append, refl, sym, ap, arith, rules, inl, inr, subst}
use Rattle.std.specs.Prelude.{nat_lt, map, position, is_some, Option, Some, None, Result, Ok, Err, if◌then◌else◌}
use Rattle.std.specs.Char.{is_ascii_digit}
use Rattle.std.specs.Fmt.{decimal}
use Rattle.std.specs.List.{join_with_byte, list_all, list_any, position_or_len}
use Rattle.std.specs.Option.{ForSome, option_map}
use Rattle.std.specs.Result.{result_ok}
use Rattle.std.proofs.Math.Seq.{drop-append_seam, take-append_seam}
use Rattle.std.proofs.lemmas.Bool.{cases_Bool, false≢true}
use Rattle.std.proofs.lemmas.Bool.Decides.{nat_tests}
use Rattle.std.proofs.lemmas.Fmt.{decimal_nonempty, digits_decimal, digits_value-decimal}
use Rattle.std.proofs.lemmas.List.{append-nil, reverse-append, reverse-reverse}
use Rattle.std.proofs.lemmas.List.Sums.{take_while-cons}
use Rattle.std.proofs.lemmas.Str.Parse.{IsNumeralModel, numerals_by_fold}
use Rattle.hex.specs.Hex.{IsBytes, encode_lower}
use Rattle.hex.proofs.HexLemmas.{decode_sized-encode_lower}
use Rattle.gateway_words.specs.Ascii.{colon, comma, equals_sign, space}
use Rattle.gateway_words.specs.Reading.{◌>>=◌}
use Rattle.conda_name.specs.Dependency.{name_run}
use Rattle.conda_name.specs.Name.{IsName, first_wrong, is_name_byte, lower_case, name_unless}
use Rattle.conda_name.specs.declared.name.NameRefusal.{NameRefusal}
use Rattle.conda_name.proofs.NameLemmas.{AreNameBytes, right-all}
use Rattle.conda_version.specs.Constraint.{constraint_fault, unless_fault}
use Rattle.conda_version.specs.Leaf.{behind_signs, signs}
use Rattle.byte_text.specs.Text.{begins_at, drop_blanks, is_nil, is_sign, sign_len, skip_blanks, turned_round}
use Rattle.match_spec.specs.Bracket.{Entry, Halves, Value, ends_key, entries, entries_within, entry_by, entry_of, halves_by, halves_of, is_equals_at, open_quote, quoted, quoted_entry, unless_open, valued_entry}
use Rattle.match_spec.specs.Canonical.{Pair, canonical, comparison_text, has_canonical, is_unquoted, key_text, number_text, pair_of, pair_text, pairs_of}
use Rattle.match_spec.specs.Comparison.{Comparison}
use Rattle.match_spec.specs.Comparison as comparison
use Rattle.match_spec.specs.Key.{Key}
use Rattle.match_spec.specs.Key as key
use Rattle.match_spec.specs.Legal.{IsSpec}
use Rattle.byte_text.specs.Decimal.{decimal_from}
use Rattle.match_spec.specs.Number.{NumberTest, comparison_of, number_of, number_test, test_by}
use Rattle.match_spec.specs.Parts.{Meaning, Parts, no_parts, part_or, replaced}
use Rattle.match_spec.specs.Passage.{Passage, begun, behind, behind_by, beyond, front, front_by, trimmed, until}
use Rattle.match_spec.specs.Reading.{Read, behind_colons, bracket_of, build_or, constraint_or, digest_or, has, is_build, key_of, named, named_before, named_by, new_key, or_fault, outside_by, outside_of, spec_in, spec_of, text_or, unless_refused, with_bracket, with_cut_value, with_entries, with_entry, with_pair, with_rest, with_value}
use Rattle.match_spec.specs.Signs.{double_quote, left_bracket, right_bracket}
use Rattle.match_spec.specs.declared.fault.SpecFault.{SpecFault}
use Rattle.match_spec.specs.declared.fault.SpecFault.TheVariants as fault

-- ---- where a byte stands first

-- no byte passes a test
abbrev Fails : (ℕ → Bool) → List ℕ → Type 0
Fails test [] = Unit {0}
Fails test (b ∷ rest) = (test b ≡ false) × Fails test rest

-- as a test of all
any-fails : (test : ℕ → Bool) (t : List ℕ) → list_any test t ≡ false → Fails test t
any-fails test [] e = tt
any-fails test (b ∷ rest) e = elim (cases_Bool (test b)) [
  | inl yes' ↦ absurd (false≢true (sym (rw yes' at e)))
  | inr no' ↦ (no', any-fails test rest (rw no' at e))
]

-- the place of the first byte that passes, as a number
first-len : (test : ℕ → Bool) (t : List ℕ) (b : ℕ) (rest : List ℕ) → Fails test t → test b ≡ true → position_or_len test (t ++ b ∷ rest) ≡ length t
first-len test [] b rest f e = rw e refl
first-len test (x ∷ t) b rest f e = let more = first-len test t b rest f.1 e in rw f.0 (omega (arith, more))

-- the first byte that passes stands behind those that don't
first-at : (test : ℕ → Bool) (t : List ℕ) (b : ℕ) (rest : List ℕ) → Fails test t → test b ≡ true → position test (t ++ b ∷ rest) ≡ Some (length t)
first-at test t b rest f e =
    let len = first-len test t b rest f e in
    let more = length-append t (b ∷ rest) in
    let within : nat_lt (length t) (length (t ++ b ∷ rest)) ≡ true = grind (arith, nat_tests, more) in
    rw (len, within) refl

-- what stands behind a byte
drop-past : (t : List ℕ) (b : ℕ) (rest : List ℕ) → drop (length t + 1) (t ++ b ∷ rest) ≡ rest
drop-past [] b rest = refl
drop-past (x ∷ t) b rest =
    let next : length (x ∷ t) + 1 ≡ suc (length t + 1) = omega arith in
    ap (λ n. drop n (x ∷ (t ++ b ∷ rest))) next ∙ drop-past t b rest

-- ---- one part of a bracket

-- the text behind a part: nothing, or a `,` and the rest
abbrev tail_text : Option (List ℕ) → List ℕ
tail_text None = []
tail_text (Some rest) = comma ∷ rest

-- the texts of what may be left
abbrev text_there : Option Passage → Option (List ℕ)
text_there o = option_map (λ (p : Passage). p.text) o

-- a part of a bracket has a key and a value in quotes, and this behind it
record IsEntry (k : Key) (v : List ℕ) (left : Option (List ℕ)) (e : Entry) : Type 0 where
  pub quote : ℕ
  pub from : ℕ
  pub tail : Passage
  pub key_is : e.key.text ≡ key_text k
  pub value_is : e.value ≡ Some (quoted quote (record { at = from; text = v }) tail)
  pub blank : is_nil (skip_blanks tail.text) ≡ true
  pub rest_is : text_there e.rest ≡ left

-- nothing stands between a closing quote and the next part
tail-blank : (p : Passage) (left : Option (List ℕ)) → p.text ≡ tail_text left → is_nil (skip_blanks (until comma p).text) ≡ true
tail-blank p None h =
    let none : position (λ b. b == comma) p.text ≡ None = ap (position (λ b. b == comma)) h in
    (λ i. is_nil (skip_blanks (front_by (none i) p).text)) ∙ ap (λ t. is_nil (skip_blanks t)) h
tail-blank p (Some rest) h =
    let first : position (λ b. b == comma) p.text ≡ Some 0 = ap (position (λ b. b == comma)) h ∙ first-at (λ b. b == comma) [] comma rest tt refl in
    (λ i. is_nil (skip_blanks (front_by (first i) p).text))

-- the next part stands behind the `,`
tail-rest : (p : Passage) (left : Option (List ℕ)) → p.text ≡ tail_text left → text_there (beyond comma p) ≡ left
tail-rest p None h =
    let none : position (λ b. b == comma) p.text ≡ None = ap (position (λ b. b == comma)) h in
    (λ i. text_there (behind_by (none i) p))
tail-rest p (Some rest) h =
    let first : position (λ b. b == comma) p.text ≡ Some 0 = ap (position (λ b. b == comma)) h ∙ first-at (λ b. b == comma) [] comma rest tt refl in
    (λ i. text_there (behind_by (first i) p)) ∙ ap (λ t. Some (drop (0 + 1) t)) h

-- a value in quotes
quoted-is : (k : Key) (v : List ℕ) (left : Option (List ℕ)) (name : Passage) (quote from : ℕ) → Fails (λ b. b == double_quote) v → name.text ≡ key_text k
    → IsEntry k v left (quoted_entry name quote (record { at = from; text = v ++ double_quote ∷ tail_text left }) (position (λ b. b == double_quote) (v ++ double_quote ∷ tail_text left)))
quoted-is k v left name quote from f is =
    let body : Passage = record { at = from; text = v ++ double_quote ∷ tail_text left } in
    let at : position (λ b. b == double_quote) body.text ≡ Some (length v) = first-at (λ b. b == double_quote) v double_quote (tail_text left) f refl in
    let past : (behind (length v + 1) body).text ≡ tail_text left = drop-past v double_quote (tail_text left) in
    let P : Option ℕ → Type 0 = λ o. IsEntry k v left (quoted_entry name quote body o) in
    subst P (sym at) (record {
      quote = quote;
      from = from;
      tail = until comma (behind (length v + 1) body);
      key_is = is;
      value_is = (λ i. Some (quoted quote (record { at = from; text = take-append_seam v (double_quote ∷ tail_text left) i }) (until comma (behind (length v + 1) body))));
      blank = tail-blank (behind (length v + 1) body) left past;
      rest_is = tail-rest (behind (length v + 1) body) left past;
    })

-- no key has a `,` or a `=`
key-fails : (k : Key) → list_any ends_key (key_text k) ≡ false
key-fails key.version = refl
key-fails key.build = refl
key-fails key.build_number = refl
key-fails key.channel = refl
key-fails key.subdir = refl
key-fails key.md5 = refl
key-fails key.sha256 = refl
key-fails key.file = refl

-- a part at the front of a bracket
entry-is : (k : Key) (v : List ℕ) (left : Option (List ℕ)) (at : ℕ) → Fails (λ b. b == double_quote) v
    → IsEntry k v left (entry_of (record { at = at; text = key_text k ++ (equals_sign ∷ double_quote ∷ (v ++ double_quote ∷ tail_text left)) }))
unfolding entry_of
entry-is k v left at f =
    let value : List ℕ = double_quote ∷ (v ++ double_quote ∷ tail_text left) in
    let t : List ℕ = key_text k ++ equals_sign ∷ value in
    let p : Passage = record { at = at; text = t } in
    let n : ℕ = length (key_text k) in
    let first : position ends_key t ≡ Some n = first-at ends_key (key_text k) equals_sign value (any-fails ends_key (key_text k) (key-fails k)) refl in
    let equals : is_equals_at (Some n) p ≡ true = ap (begins_at equals_sign) (drop-append_seam (key_text k) (equals_sign ∷ value)) in
    let past : drop (n + 1) t ≡ value = drop-past (key_text k) equals_sign value in
    let here : IsEntry k v left (valued_entry (front n p) (begun (record { at = at + (n + 1); text = value }))) =
    quoted-is k v left (front n p) _ _ f (take-append_seam (key_text k) (equals_sign ∷ value)) in
    let P : List ℕ → Type 0 = λ x. IsEntry k v left (valued_entry (front n p) (begun (record { at = at + (n + 1); text = x }))) in
    let Q : Bool → Type 0 = λ b. IsEntry k v left (entry_by p (Some n) b) in
    let R : Option ℕ → Type 0 = λ o. IsEntry k v left (entry_by p o (is_equals_at o p)) in
    subst R (sym first) (subst Q (sym equals) (subst P (sym past) here))

-- ---- all parts of a bracket

-- the parts of a bracket, with a `,` between them
abbrev joined : List Pair → List ℕ
joined pairs = join_with_byte comma (map pair_text pairs)

-- no value has a double quote
abbrev Unquoted : List Pair → Type 0
Unquoted [] = Unit {0}
Unquoted (x ∷ xs) = Fails (λ b. b == double_quote) x.text × Unquoted xs

-- as a test of all
unquoted-all : (xs : List Pair) → list_all (λ (x : Pair). is_unquoted x.text) xs ≡ true → Unquoted xs
unquoted-all [] e = tt
unquoted-all (x ∷ xs) e = elim (cases_Bool (list_any (λ b. b == double_quote) x.text)) [
  | inl yes' ↦ absurd (false≢true (rw yes' at e))
  | inr no' ↦ (any-fails (λ b. b == double_quote) x.text no', unquoted-all xs (rw no' at e))
]

-- these are the parts of a bracket, one by one
abbrev AreEntries : List Pair → List Entry → Type 0
AreEntries [] [] = Unit {0}
AreEntries [] (e ∷ es) = ⊥
AreEntries (x ∷ xs) [] = ⊥
AreEntries (x ∷ xs) (e ∷ es) = (left : Option (List ℕ)) × IsEntry x.named x.text left e × AreEntries xs es

-- nothing is left
none-left : (o : Option Passage) → text_there o ≡ None → o ≡ None
none-left None e = refl
none-left (Some p) e = cc e

-- this text is left, at some place
some-left : (o : Option Passage) (t : List ℕ) → text_there o ≡ Some t → (at : ℕ) × (o ≡ Some (record { at = at; text = t }))
some-left None t e = cc e
some-left (Some p) t e = let same : p.text ≡ t = cc e in (p.at, λ i. Some (record { at = p.at; text = same i }))

-- the text of a part in front of what follows it
pair-front : (x : Pair) (left : Option (List ℕ)) → pair_text x ++ tail_text left ≡ key_text x.named ++ (equals_sign ∷ double_quote ∷ (x.text ++ double_quote ∷ tail_text left))
pair-front x left =
    append_assoc (key_text x.named) (equals_sign ∷ double_quote ∷ (x.text ++ double_quote ∷ [])) (tail_text left)
    ∙ ap (λ t. key_text x.named ++ (equals_sign ∷ double_quote ∷ t)) (append_assoc x.text (double_quote ∷ []) (tail_text left))

-- a part at the front of a bracket
pair-is : (x : Pair) (left : Option (List ℕ)) (at : ℕ) (t : List ℕ) → Fails (λ b. b == double_quote) x.text → t ≡ pair_text x ++ tail_text left → IsEntry x.named x.text left (entry_of (record { at = at; text = t }))
pair-is x left at t f e =
    let P : List ℕ → Type 0 = λ u. IsEntry x.named x.text left (entry_of (record { at = at; text = u })) in
    subst P (sym (e ∙ pair-front x left)) (entry-is x.named x.text left at f)

-- no parts within any number
none-within : (n : ℕ) → AreEntries [] (entries_within n None)
none-within zero = tt
none-within (suc n) = tt

-- the parts are found one after the other
entries-are : (xs : List Pair) (x : Pair) (n at : ℕ) → Unquoted (x ∷ xs) → length (joined (x ∷ xs)) < n → AreEntries (x ∷ xs) (entries_within n (Some (record { at = at; text = joined (x ∷ xs) })))
entries-are xs x zero at u h = absurd (omega (arith, h))
entries-are [] x (suc n) at u h =
    let here = pair-is x None at (pair_text x) u.0 (sym (append-nil (pair_text x))) in
    let P : Option Passage → Type 0 = λ o. AreEntries [] (entries_within n o) in
    (None, here, subst P (sym (none-left (entry_of (record { at = at; text = pair_text x })).rest here.rest_is)) (none-within n))
entries-are (y ∷ xs) x (suc n) at u h =
    let t : List ℕ = joined (x ∷ (y ∷ xs)) in
    let here = pair-is x (Some (joined (y ∷ xs))) at t u.0 refl in
    let left = some-left (entry_of (record { at = at; text = t })).rest (joined (y ∷ xs)) here.rest_is in
    let P : Option Passage → Type 0 = λ o. AreEntries (y ∷ xs) (entries_within n o) in
    let shorter : length (joined (y ∷ xs)) < n = omega (arith, h, length-append (pair_text x) (comma ∷ joined (y ∷ xs))) in
    (Some (joined (y ∷ xs)), here, subst P (sym left.1) (entries-are xs y n left.0 u.1 shorter))

-- no quote of theirs is open
entries-closed : (xs : List Pair) (es : List Entry) → AreEntries xs es → open_quote es ≡ None
entries-closed [] [] a = refl
entries-closed [] (e ∷ es) a = absurd a
entries-closed (x ∷ xs) [] a = absurd a
entries-closed (x ∷ xs) (e ∷ es) a = rw a.1.value_is (entries-closed xs es a.2)

-- ---- the parts that are read

-- each key is read as itself
key-read : (k : Key) → key_of (drop_blanks (skip_blanks (key_text k))) ≡ Some k
key-read key.version = refl
key-read key.build = refl
key-read key.build_number = refl
key-read key.channel = refl
key-read key.subdir = refl
key-read key.md5 = refl
key-read key.sha256 = refl
key-read key.file = refl

-- some keys and values, one after the other, make these parts
abbrev Make : List Pair → Parts → Parts → Type 0
Make [] parts q = parts ≡ q
Make (x ∷ xs) parts q = (mid : Parts) × (has x.named parts ≡ false) × ((at : ℕ) → ◌≡◌ {A = Read Parts} (with_value x.named (record { at = at; text = x.text }) parts) (Ok mid)) × Make xs mid q

-- one part after the other
make-both : (xs ys : List Pair) (a b c : Parts) → Make xs a b → Make ys b c → Make (xs ++ ys) a c
make-both [] ys a b c m n = let P : Parts → Type 0 = λ p. Make ys p c in subst P (sym m) n
make-both (x ∷ xs) ys a b c m n = (m.0, m.1, m.2, make-both xs ys m.0 b c m.3 n)

-- a part is read
entry-read : (k : Key) (v : List ℕ) (left : Option (List ℕ)) (e : Entry) (parts mid : Parts) → IsEntry k v left e → has k parts ≡ false
    → ((at : ℕ) → ◌≡◌ {A = Read Parts} (with_value k (record { at = at; text = v }) parts) (Ok mid)) → ◌≡◌ {A = Read Parts} (with_entry e parts) (Ok mid)
unfolding with_entry
entry-read k v left e parts mid is new reads =
    let place : SpecFault = fault.Key (trimmed e.key).at in
    let value : Value = quoted is.quote (record { at = is.from; text = v }) is.tail in
    let found : key_of (trimmed e.key).text ≡ Some k = ap (λ t. key_of (drop_blanks (skip_blanks t))) is.key_is ∙ key-read k in
    (λ i. with_pair (trimmed e.key) (is.value_is i) parts)
    ∙ (λ i. new_key place (found i) parts >>= λ f. with_cut_value f value parts)
    ∙ (λ i. (if new i then Err place else Ok k) >>= λ f. with_cut_value f value parts)
    ∙ (λ i. if is.blank i then with_value k (record { at = is.from; text = v }) parts else Err (fault.Value is.quote))
    ∙ reads is.from

-- all parts are read
entries-read : (xs : List Pair) (es : List Entry) (parts q : Parts) → AreEntries xs es → Make xs parts q → ◌≡◌ {A = Read Parts} (with_entries es parts) (Ok q)
entries-read [] [] parts q a m = ap Ok m
entries-read [] (e ∷ es) parts q a m = absurd a
entries-read (x ∷ xs) [] parts q a m = absurd a
entries-read (x ∷ xs) (e ∷ es) parts q a m =
    (λ i. entry-read x.named x.text a.0 e parts m.0 a.1 m.1 m.2 i >>= λ more. with_entries es more)
    ∙ entries-read xs es m.0 q a.2 m.3

-- a bracket has no quote that is open, and gives the parts
record IsRead (inside : Passage) (q : Parts) : Type 0 where
  pub closed : open_quote (entries inside) ≡ None
  pub gives : ◌≡◌ {A = Read Parts} (bracket_of (Some inside)) (Ok q)

-- a bracket isn't blank where it has a part
joined-some : (k : Key) (t : List ℕ) → is_nil (skip_blanks (key_text k ++ t)) ≡ false
joined-some key.version t = refl
joined-some key.build t = refl
joined-some key.build_number t = refl
joined-some key.channel t = refl
joined-some key.subdir t = refl
joined-some key.md5 t = refl
joined-some key.sha256 t = refl
joined-some key.file t = refl

-- the text of a bracket begins with a key
joined-front : (x : Pair) (xs : List Pair) → is_nil (skip_blanks (joined (x ∷ xs))) ≡ false
joined-front x [] = joined-some x.named (equals_sign ∷ double_quote ∷ (x.text ++ double_quote ∷ []))
joined-front x (y ∷ xs) =
    ap (λ t. is_nil (skip_blanks t)) (append_assoc (key_text x.named) (equals_sign ∷ double_quote ∷ (x.text ++ double_quote ∷ [])) (comma ∷ joined (y ∷ xs)))
    ∙ joined-some x.named ((equals_sign ∷ double_quote ∷ (x.text ++ double_quote ∷ [])) ++ comma ∷ joined (y ∷ xs))

-- the parts in a bracket are read
bracket-read : (xs : List Pair) (at : ℕ) (q : Parts) → Unquoted xs → Make xs no_parts q → IsRead (record { at = at; text = joined xs }) q
unfolding entry_of
bracket-read [] at q u m = record { closed = refl; gives = ap Ok m }
bracket-read (x ∷ xs) at q u m =
    let inside : Passage = record { at = at; text = joined (x ∷ xs) } in
    let are = entries-are xs x (suc (length (joined (x ∷ xs)))) at u (omega arith) in
    let some = joined-front x xs in
    record {
      closed = entries-closed (x ∷ xs) (entries inside) are;
      gives = (λ i. if some i then Ok no_parts else with_entries (entries inside) no_parts) ∙ entries-read (x ∷ xs) (entries inside) no_parts q are m;
    }

-- ---- each part of a spec is read as it is

-- a constraint without a fault
constraint-given : (f : SpecFault) (t : List ℕ) → constraint_fault t ≡ None → ◌≡◌ {A = Read (List ℕ)} (constraint_or f t) (Ok t)
unfolding constraint_or
constraint-given f t e = λ i. unless_refused f (unless_fault t (e i))

-- the digits of a number
own : IsNumeralModel (λ ds. list_all is_ascii_digit ds ≡ true) (decimal_from 0)
own = numerals_by_fold _ (search rules) decimal_from (search rules)

-- a list with a length isn't empty
some-nil : (t : List ℕ) → 0 < length t → is_nil t ≡ false
some-nil [] h = absurd (omega (arith, h))
some-nil (b ∷ t) h = refl

-- a number is read as itself
number-given : (n : ℕ) → n < 2 ^ 64 → number_of (decimal n) ≡ Some n
number-given n h =
    let some : is_nil (decimal n) ≡ false = some-nil (decimal n) (decimal_nonempty n h) in
    let digits : list_all is_ascii_digit (decimal n) ≡ true = digits_decimal own n h in
    let value : decimal_from 0 (decimal n) ≡ n = digits_value-decimal own n h in
    let fits : nat_lt n (2 ^ 64) ≡ true = grind (arith, nat_tests, h) in
    rw (some, digits, value, fits) refl

-- a digit is no sign
digits-no-sign : (t : List ℕ) → list_all is_ascii_digit t ≡ true → sign_len t ≡ 0
digits-no-sign [] e = refl
digits-no-sign (b ∷ t) e = elim (cases_Bool (is_ascii_digit b)) [
  | inl d ↦ (let no : is_sign b ≡ false = grind (arith, nat_tests) in rw no refl)
  | inr o ↦ absurd (false≢true (rw o at e))
]

-- signs in front of digits
signs-len : (run digits : List ℕ) → list_all is_sign run ≡ true → list_all is_ascii_digit digits ≡ true → sign_len (run ++ digits) ≡ length run
signs-len [] digits e d = digits-no-sign digits d
signs-len (b ∷ run) digits e d = elim (cases_Bool (is_sign b)) [
  | inl yes' ↦ rw yes' (ap suc (signs-len run digits (rw yes' at e) d))
  | inr no' ↦ absurd (false≢true (rw no' at e))
]

-- each comparison is made of signs
comparison-signs : (c : Comparison) → list_all is_sign (comparison_text c) ≡ true
comparison-signs comparison.equal = refl
comparison-signs comparison.not_equal = refl
comparison-signs comparison.less = refl
comparison-signs comparison.at_most = refl
comparison-signs comparison.greater = refl
comparison-signs comparison.at_least = refl

-- and is read as itself
comparison-read : (c : Comparison) → comparison_of (comparison_text c) ≡ Some c
comparison-read comparison.equal = refl
comparison-read comparison.not_equal = refl
comparison-read comparison.less = refl
comparison-read comparison.at_most = refl
comparison-read comparison.greater = refl
comparison-read comparison.at_least = refl

-- a test of build numbers is read as itself
test-given : (t : NumberTest) → t.number < 2 ^ 64 → number_test (number_text t) ≡ Some t
test-given t h =
    let digits : list_all is_ascii_digit (decimal t.number) ≡ true = digits_decimal own t.number h in
    let run = comparison_text t.comparison in
    let len : sign_len (number_text t) ≡ length run = signs-len run (decimal t.number) (comparison-signs t.comparison) digits in
    let before : signs (number_text t) ≡ run = ap (λ n. take n (number_text t)) len ∙ take-append_seam run (decimal t.number) in
    let after : behind_signs (number_text t) ≡ decimal t.number = ap (λ n. drop n (number_text t)) len ∙ drop-append_seam run (decimal t.number) in
    (λ i. test_by (comparison_of (before i)) (number_of (after i)))
    ∙ (λ i. test_by (comparison-read t.comparison i) (number-given t.number h i))

-- a digest is read as itself
digest-given : (n : ℕ) (f : SpecFault) (d : List ℕ) → (length d ≡ n) × IsBytes d → ◌≡◌ {A = Read (List ℕ)} (digest_or n f (encode_lower d)) (Ok d)
digest-given n f d h = ap (λ r. or_fault f (result_ok r)) (decode_sized-encode_lower d n h.0 h.1)

-- a build
build-given : (f : SpecFault) (t : List ℕ) → is_build t ≡ true → ◌≡◌ {A = Read (List ℕ)} (build_or f t) (Ok t)
build-given f t e = λ i. if e i then Ok t else Err f

-- a text with bytes
text-given : (f : SpecFault) (t : List ℕ) → is_nil t ≡ false → ◌≡◌ {A = Read (List ℕ)} (text_or f t) (Ok t)
text-given f t e = λ i. if e i then Err f else Ok t

-- ---- the parts of a spec, one after the other

-- a constraint
make-version : (a : Parts) (o : Option (List ℕ)) → ForSome o (λ c. constraint_fault c ≡ None) → a.version ≡ None → Make (pair_of key.version o) a (record a { version = o })
unfolding with_value
make-version a None h e = λ i. record a { version = e i }
make-version a (Some x) h e =
    (record a { version = Some x }, ap is_some e, (λ at. λ i. constraint-given (fault.Value at) x (h x refl) i >>= λ found. Ok (record a { version = Some found })), refl)

-- a build
make-build : (a : Parts) (o : Option (List ℕ)) → ForSome o (λ b. is_build b ≡ true) → a.build ≡ None → Make (pair_of key.build o) a (record a { build = o })
unfolding with_value
make-build a None h e = λ i. record a { build = e i }
make-build a (Some x) h e =
    (record a { build = Some x }, ap is_some e, (λ at. λ i. build-given (fault.Value at) x (h x refl) i >>= λ found. Ok (record a { build = Some found })), refl)

-- a test of build numbers
make-number : (a : Parts) (o : Option NumberTest) → ForSome o (λ (t : NumberTest). t.number < 2 ^ 64) → a.build_number ≡ None → Make (pair_of key.build_number (option_map number_text o)) a (record a { build_number = o })
unfolding with_value
make-number a None h e = λ i. record a { build_number = e i }
make-number a (Some x) h e =
    (record a { build_number = Some x }, ap is_some e, (λ at. λ i. or_fault (fault.Value at) (test-given x (h x refl) i) >>= λ found. Ok (record a { build_number = Some found })), refl)

-- a channel
make-channel : (a : Parts) (o : Option (List ℕ)) → ForSome o (λ t. is_nil t ≡ false) → a.channel ≡ None → Make (pair_of key.channel o) a (record a { channel = o })
unfolding with_value
make-channel a None h e = λ i. record a { channel = e i }
make-channel a (Some x) h e =
    (record a { channel = Some x }, ap is_some e, (λ at. λ i. text-given (fault.Value at) x (h x refl) i >>= λ found. Ok (record a { channel = Some found })), refl)

-- a subdir
make-subdir : (a : Parts) (o : Option (List ℕ)) → ForSome o (λ t. is_nil t ≡ false) → a.subdir ≡ None → Make (pair_of key.subdir o) a (record a { subdir = o })
unfolding with_value
make-subdir a None h e = λ i. record a { subdir = e i }
make-subdir a (Some x) h e =
    (record a { subdir = Some x }, ap is_some e, (λ at. λ i. text-given (fault.Value at) x (h x refl) i >>= λ found. Ok (record a { subdir = Some found })), refl)

-- a digest of 16 bytes
make-md5 : (a : Parts) (o : Option (List ℕ)) → ForSome o (λ d. (length d ≡ 16) × IsBytes d) → a.md5 ≡ None → Make (pair_of key.md5 (option_map encode_lower o)) a (record a { md5 = o })
unfolding with_value
make-md5 a None h e = λ i. record a { md5 = e i }
make-md5 a (Some x) h e =
    (record a { md5 = Some x }, ap is_some e, (λ at. λ i. digest-given 16 (fault.Value at) x (h x refl) i >>= λ found. Ok (record a { md5 = Some found })), refl)

-- a digest of 32 bytes
make-sha256 : (a : Parts) (o : Option (List ℕ)) → ForSome o (λ d. (length d ≡ 32) × IsBytes d) → a.sha256 ≡ None → Make (pair_of key.sha256 (option_map encode_lower o)) a (record a { sha256 = o })
unfolding with_value
make-sha256 a None h e = λ i. record a { sha256 = e i }
make-sha256 a (Some x) h e =
    (record a { sha256 = Some x }, ap is_some e, (λ at. λ i. digest-given 32 (fault.Value at) x (h x refl) i >>= λ found. Ok (record a { sha256 = Some found })), refl)

-- a file name
make-file : (a : Parts) (o : Option (List ℕ)) → ForSome o (λ t. is_nil t ≡ false) → a.file ≡ None → Make (pair_of key.file o) a (record a { file = o })
unfolding with_value
make-file a None h e = λ i. record a { file = e i }
make-file a (Some x) h e =
    (record a { file = Some x }, ap is_some e, (λ at. λ i. text-given (fault.Value at) x (h x refl) i >>= λ found. Ok (record a { file = Some found })), refl)

-- all of them
all-made : (spec : Meaning) → IsSpec spec → Make (pairs_of spec.parts) no_parts spec.parts
all-made spec legal =
    let p = spec.parts in
    let s1 : Parts = record no_parts { version = p.version } in
    let s2 : Parts = record s1 { build = p.build } in
    let s3 : Parts = record s2 { build_number = p.build_number } in
    let s4 : Parts = record s3 { channel = p.channel } in
    let s5 : Parts = record s4 { subdir = p.subdir } in
    let s6 : Parts = record s5 { md5 = p.md5 } in
    let s7 : Parts = record s6 { sha256 = p.sha256 } in
    make-both (pair_of key.version p.version) _ no_parts s1 p (make-version no_parts p.version legal.version refl)
    (make-both (pair_of key.build p.build) _ s1 s2 p (make-build s1 p.build legal.build refl)
    (make-both (pair_of key.build_number (option_map number_text p.build_number)) _ s2 s3 p (make-number s2 p.build_number legal.build_number refl)
    (make-both (pair_of key.channel p.channel) _ s3 s4 p (make-channel s3 p.channel legal.in_channel refl)
    (make-both (pair_of key.subdir p.subdir) _ s4 s5 p (make-subdir s4 p.subdir legal.in_subdir refl)
    (make-both (pair_of key.md5 (option_map encode_lower p.md5)) _ s5 s6 p (make-md5 s5 p.md5 legal.md5 refl)
    (make-both (pair_of key.sha256 (option_map encode_lower p.sha256)) (pair_of key.file p.file) s6 s7 p (make-sha256 s6 p.sha256 legal.sha256 refl)
    (make-file s7 p.file legal.is_file refl)))))))

-- ---- the name

-- what a name is
record IsRun (name : List ℕ) : Type 0 where
  pub bytes : AreNameBytes name
  pub lower : lower_case name ≡ name
  pub some : is_nil name ≡ false

-- the text of what was read
abbrev ok_there : Result (List ℕ) NameRefusal → List ℕ
ok_there (Ok t) = t
ok_there (Err e) = []

-- a name is so
name-run : (name : List ℕ) → IsName name → IsRun name
name-run [] e = cc e
name-run (b ∷ rest) e = by (first_wrong (b ∷ rest)) refl
  where
    by : (wrong : Option ℕ) → first_wrong (b ∷ rest) ≡ wrong → IsRun (b ∷ rest)
    by None is =
        let read : ◌≡◌ {A = Result (List ℕ) NameRefusal} (Ok (lower_case (b ∷ rest))) (Ok (b ∷ rest)) = (λ i. name_unless (b ∷ rest) (sym is i)) ∙ e in
        record { bytes = right-all (b ∷ rest) is; lower = ap ok_there read; some = refl }
    by (Some at) is = cc (rw is at e)

-- a byte of a name is no blank
byte-no-blank : (b : ℕ) → is_name_byte b ≡ true → (b == space) ≡ false
byte-no-blank b e = grind (arith, nat_tests)

-- no `:`
byte-no-colon : (b : ℕ) → is_name_byte b ≡ true → (b == colon) ≡ false
byte-no-colon b e = grind (arith, nat_tests)

-- and no `[`
byte-no-bracket : (b : ℕ) → is_name_byte b ≡ true → (b == left_bracket) ≡ false
byte-no-bracket b e = grind (arith, nat_tests)

-- no blank stands at the front of a name and what follows it
front-kept : (name t : List ℕ) → AreNameBytes name → is_nil name ≡ false → skip_blanks (name ++ t) ≡ name ++ t
front-kept [] t a some = absurd (false≢true (sym some))
front-kept (b ∷ name) t a some = rw (byte-no-blank b a.0) refl

-- none stands at the front of some bytes of a name
bytes-kept : (t : List ℕ) → AreNameBytes t → skip_blanks t ≡ t
bytes-kept [] a = refl
bytes-kept (b ∷ t) a = rw (byte-no-blank b a.0) refl

-- bytes of a name one behind the other
bytes-both : (s t : List ℕ) → AreNameBytes s → AreNameBytes t → AreNameBytes (s ++ t)
bytes-both [] t a b = b
bytes-both (x ∷ s) t a b = (a.0, bytes-both s t a.1 b)

-- and turned round
bytes-turned : (t : List ℕ) → AreNameBytes t → AreNameBytes (reverse t)
bytes-turned [] a = tt
bytes-turned (b ∷ t) a =
    let P : List ℕ → Type 0 = AreNameBytes in
    subst P (sym (reverse-append (b ∷ []) t)) (bytes-both (reverse t) (b ∷ []) (bytes-turned t a.1) (a.0, tt))

-- no blank stands at the end of a name
end-kept : (t : List ℕ) → AreNameBytes t → drop_blanks t ≡ t
end-kept t a = ap reverse (bytes-kept (reverse t) (bytes-turned t a)) ∙ reverse-reverse t

-- no `[` stands in a name
name-fails : (t : List ℕ) → AreNameBytes t → Fails (λ b. b == left_bracket) t
name-fails [] a = tt
name-fails (b ∷ t) a = (byte-no-bracket b a.0, name-fails t a.1)

-- no `::` does
no-colons : (t : List ℕ) → AreNameBytes t → behind_colons t ≡ None
no-colons [] a = refl
no-colons (b ∷ t) a = rw (byte-no-colon b a.0) (no-colons t a.1)

-- a name is the longest run of its bytes
run-whole : (t : List ℕ) → AreNameBytes t → name_run t ≡ t
run-whole [] a = refl
run-whole (b ∷ t) a = rw (take_while-cons is_name_byte b t, a.0) (ap (λ (u : List ℕ). b ∷ u) (run-whole t a.1))

-- nothing stands behind all of a text
drop-whole : (t : List ℕ) → drop (length t) t ≡ []
drop-whole [] = refl
drop-whole (b ∷ t) = drop-whole t

-- a name alone is read as it is
name-read : (name : List ℕ) (at : ℕ) → IsRun name → ◌≡◌ {A = Read Meaning} (named (record { at = at; text = name }) no_parts) (Ok (record { name = name; parts = no_parts }))
unfolding named with_rest
name-read name at run =
    let kept = bytes-kept name run.bytes in
    let x : Passage = record { at = at + (length name - length name); text = name } in
    let from : ℕ = at + (length name - length name) + length name in
    (λ i. named_by (record { at = at + (length name - length (kept i)); text = kept i }) (name_run (kept i)) no_parts)
    ∙ (λ i. named_by x (run-whole name run.bytes i) no_parts)
    ∙ (λ i. if run.some i then Err fault.NoName else named_before name (behind (length name) x) no_parts)
    ∙ (λ i. named_before name (record { at = from; text = drop-whole name i }) no_parts)
    ∙ (λ i. Ok (record { name = run.lower i; parts = no_parts }))

-- what stands outside the bracket
outside-read : (name : List ℕ) (at : ℕ) → IsRun name → ◌≡◌ {A = Read Meaning} (outside_of (record { at = at; text = name })) (Ok (record { name = name; parts = no_parts }))
unfolding outside_of
outside-read name at run =
    (λ i. outside_by (record { at = at; text = name }) (turned_round (no-colons (reverse name) (bytes-turned name run.bytes) i)))
    ∙ name-read name at run

-- ---- the whole

-- a part, and nothing outside the bracket
or-none : {A : Type 0} (o : Option A) → part_or o None ≡ o
or-none None = refl
or-none (Some x) = refl

-- parts, and none outside the bracket
replaced-none : (p : Parts) → replaced p no_parts ≡ p
replaced-none p = λ i. record {
  version = or-none p.version i;
  build = or-none p.build i;
  build_number = or-none p.build_number i;
  channel = or-none p.channel i;
  subdir = or-none p.subdir i;
  md5 = or-none p.md5 i;
  sha256 = or-none p.sha256 i;
  file = or-none p.file i;
}

-- a text that ends in a `]`, turned round
ends-turned : (t : List ℕ) → reverse (t ++ right_bracket ∷ []) ≡ right_bracket ∷ reverse t
ends-turned t = reverse-append t (right_bracket ∷ [])

-- no blank stands at its end
ends-kept : (t : List ℕ) → drop_blanks (t ++ right_bracket ∷ []) ≡ t ++ right_bracket ∷ []
ends-kept t =
    ap (λ r. reverse (skip_blanks r)) (ends-turned t)
    ∙ ap reverse (sym (ends-turned t))
    ∙ reverse-reverse (t ++ right_bracket ∷ [])

-- a text with something behind it
some-append : (s t : List ℕ) → is_nil s ≡ false → is_nil (s ++ t) ≡ false
some-append [] t e = absurd (false≢true (sym e))
some-append (b ∷ s) t e = refl

-- the two halves of a spec in canonical form
halves-read : (name inside : List ℕ) (at : ℕ) → IsRun name → open_quote (entries (record { at = at + (length name + 1); text = inside })) ≡ None
    → ◌≡◌ {A = Read Halves} (halves_of (record { at = at; text = name ++ (left_bracket ∷ (inside ++ right_bracket ∷ [])) }))
    (Ok (record { outside = record { at = at; text = name }; inside = Some (record { at = at + (length name + 1); text = inside }) }))
unfolding halves_of
halves-read name inside at run closed =
    let body : List ℕ = inside ++ right_bracket ∷ [] in
    let t : List ℕ = name ++ left_bracket ∷ body in
    let p : Passage = record { at = at; text = t } in
    let n : ℕ = length name in
    let first = first-at (λ b. b == left_bracket) name left_bracket body (name-fails name run.bytes) refl in
    let whole : t ≡ (name ++ left_bracket ∷ inside) ++ right_bracket ∷ [] = sym (append_assoc name (left_bracket ∷ inside) (right_bracket ∷ [])) in
    let ends : begins_at right_bracket (reverse t) ≡ true = ap (λ u. begins_at right_bracket (reverse u)) whole ∙ ap (begins_at right_bracket) (ends-turned (name ++ left_bracket ∷ inside)) in
    let outer : drop_blanks (take n t) ≡ name = ap drop_blanks (take-append_seam name (left_bracket ∷ body)) ∙ end-kept name run.bytes in
    let count : length t - (n + 1) - 1 ≡ length inside = omega (arith, length-append name (left_bracket ∷ body), length-append inside (right_bracket ∷ [])) in
    let inner : take (length t - (n + 1) - 1) (drop (n + 1) t) ≡ inside = (λ i. take (count i) (drop-past name left_bracket body i)) ∙ take-append_seam inside (right_bracket ∷ []) in
    (λ i. halves_by p (first i) (ends i))
    ∙ (λ i. unless_open (record { at = at; text = outer i }) (record { at = at + (n + 1); text = inner i }) (open_quote (entries (record { at = at + (n + 1); text = inner i }))))
    ∙ (λ i. unless_open (record { at = at; text = name }) (record { at = at + (n + 1); text = inside }) (closed i))

-- a spec in canonical form is read as it
pub canonical-read : (spec : Meaning) → IsSpec spec → has_canonical spec ≡ true → ◌≡◌ {A = Read Meaning} (spec_of (canonical spec)) (Ok spec)
unfolding spec_of
canonical-read spec legal unquoted =
    let run = name-run spec.name legal.name in
    let inside : List ℕ = joined (pairs_of spec.parts) in
    let body : List ℕ = inside ++ right_bracket ∷ [] in
    let t : List ℕ = canonical spec in
    let at : ℕ = 0 + (length t - length (skip_blanks t)) in
    let place : ℕ = at + (length spec.name + 1) in
    let read = bracket-read (pairs_of spec.parts) place spec.parts (unquoted-all (pairs_of spec.parts) unquoted) (all-made spec legal) in
    let whole : t ≡ (spec.name ++ left_bracket ∷ inside) ++ right_bracket ∷ [] = sym (append_assoc spec.name (left_bracket ∷ inside) (right_bracket ∷ [])) in
    let kept : drop_blanks (skip_blanks t) ≡ t =
    ap drop_blanks (front-kept spec.name (left_bracket ∷ body) run.bytes run.some ∙ whole) ∙ ends-kept (spec.name ++ left_bracket ∷ inside) ∙ sym whole in
    let some : is_nil t ≡ false = some-append spec.name (left_bracket ∷ body) run.some in
    let outer : Meaning = record { name = spec.name; parts = no_parts } in
    (λ i. spec_in (record { at = at; text = kept i }))
    ∙ (λ i. if some i then Err fault.Empty else halves_of (record { at = at; text = t }) >>= λ h. (outside_of h.outside >>= with_bracket h.inside))
    ∙ (λ i. halves-read spec.name inside at run read.closed i >>= λ (h : Halves). (outside_of h.outside >>= with_bracket h.inside))
    ∙ (λ i. outside-read spec.name at run i >>= with_bracket (Some (record { at = place; text = inside })))
    ∙ (λ i. read.gives i >>= λ inner. Ok (record outer { parts = replaced inner outer.parts }))
    ∙ (λ i. Ok (record outer { parts = replaced-none spec.parts i }))
