-- Each spec that is read is one whose parts are of their forms.
use Rattle.std.proofs.Common.{◌≡◌, ◌∙◌, ◌<◌, ◌^◌, ◌+◌, ◌==◌, ℕ, List, [], ◌∷◌, Bool, true, false, length, refl, sym, ap, arith, subst}
use Rattle.std.specs.Prelude.{not, nat_lt, position, drop, Option, Some, None, Result, Ok, Err, if◌then◌else◌}
use Rattle.std.specs.List.{list_all}
use Rattle.std.specs.Char.{is_ascii_digit}
use Rattle.std.specs.Option.{ForSome}
use Rattle.std.specs.Result.{result_ok}
use Rattle.std.proofs.lemmas.Bool.Decides.{nat_tests}
use Rattle.hex.specs.Hex.{IsBytes, decode_sized}
use Rattle.hex.specs.declared.error.FromHexError.{FromHexError}
use Rattle.hex.proofs.HexLemmas.{decode_of-ok, decode_sized-ok, decode_sized-twice}
use Rattle.gateway_words.specs.Ascii.{space}
use Rattle.gateway_words.specs.Reading.{◌>>=◌}
use Rattle.conda_name.specs.Dependency.{name_run}
use Rattle.conda_name.specs.Name.{IsName, lower_case}
use Rattle.conda_name.proofs.NameLemmas.{lower-name, run-all, all-right}
use Rattle.conda_version.specs.Constraint.{constraint_fault}
use Rattle.conda_version.specs.Leaf.{behind_signs, signs}
use Rattle.byte_text.specs.Text.{before_last, cut_at, is_nil, skip_blanks}
use Rattle.conda_version.specs.declared.fault.ConstraintFault.{ConstraintFault}
use Rattle.match_spec.specs.Bracket.{Entry, Halves, Value, bare, entries, halves_of, quoted, unclosed}
use Rattle.match_spec.specs.Comparison.{Comparison}
use Rattle.match_spec.specs.Key.{Key}
use Rattle.match_spec.specs.Key as key
use Rattle.match_spec.specs.Kept.{Placed, bytes_of, form_constraint, form_of, kept, place_of_last}
use Rattle.match_spec.specs.Legal.{IsSpec}
use Rattle.byte_text.specs.Decimal.{decimal_from}
use Rattle.match_spec.specs.Number.{NumberTest, comparison_of, number_of, number_test, test_by}
use Rattle.match_spec.specs.Parts.{Meaning, Parts, no_parts, part_or, replaced}
use Rattle.match_spec.specs.Passage.{Passage, begun, behind, ended, trimmed}
use Rattle.match_spec.specs.Reading.{Read, before_colons, bracket_of, build_or, constraint_or, digest_or, is_build, key_of, may_follow, named, named_before, new_key, or_fault, outside_by, outside_of, place_by, place_of, slot_of, spec_of, text_or, with_both, with_bracket, with_build, with_cut_value, with_entries, with_entry, with_form, with_pair, with_rest, with_two, with_value, with_version, with_words}
use Rattle.match_spec.specs.Signs.{slash}
use Rattle.match_spec.specs.declared.fault.SpecFault.{SpecFault}
use Rattle.match_spec.specs.declared.fault.SpecFault.TheVariants as fault

-- ---- readings that gave something

-- a reading behind another one
pub bind-ok : {A B : Type 0} (r : Read A) (f : A → Read B) (q : B) → (r >>= f) ≡ Ok q → (x : A) × (r ≡ Ok x) × (f x ≡ Ok q)
bind-ok (Ok x) f q e = (x, refl, e)
bind-ok (Err g) f q e = cc e

-- a reading that is refused where something is so
pub unless-so : {A : Type 0} (so : Bool) (f : SpecFault) (r : Read A) (q : A) → (if so then Err f else r) ≡ Ok q → (so ≡ false) × (r ≡ Ok q)
unless-so true f r q e = cc e
unless-so false f r q e = (refl, e)

-- a reading that is refused where something isn't so
pub where-so : {A : Type 0} (so : Bool) (f : SpecFault) (r : Read A) (q : A) → (if so then r else Err f) ≡ Ok q → (so ≡ true) × (r ≡ Ok q)
where-so true f r q e = (refl, e)
where-so false f r q e = cc e

-- what was given is the only thing
pub same-ok : {A : Type 0} (x y : A) → ◌≡◌ {A = Read A} (Ok x) (Ok y) → x ≡ y
same-ok x y e = cc e

-- ---- what each part is

-- a fact on what is there
some-so : {A : Type 0} (P : A → Type 0) (x : A) → P x → ForSome (Some x) P
some-so P x p y e = let same : x ≡ y = cc e in subst P same p

-- a fact on nothing
none-so : {A : Type 0} (P : A → Type 0) → ForSome None P
none-so P y e = cc e

-- a fact on one of two
or-so : {A : Type 0} (P : A → Type 0) (inner outer : Option A) → ForSome inner P → ForSome outer P → ForSome (part_or inner outer) P
or-so P None outer i o = o
or-so P (Some x) outer i o = i

-- the parts of a spec with some name
abbrev AreParts : Parts → Type 0
AreParts parts = (name : List ℕ) → IsName name → IsSpec (record { name = name; parts = parts })

-- no parts are parts
none-are : AreParts no_parts
none-are name n = record {
  name = n;
  version = none-so (λ constraint. constraint_fault constraint ≡ None);
  build = none-so (λ build. is_build build ≡ true);
  build_number = none-so (λ (wanted : NumberTest). wanted.number < 2 ^ 64);
  in_channel = none-so (λ wanted. is_nil wanted ≡ false);
  in_subdir = none-so (λ wanted. is_nil wanted ≡ false);
  md5 = none-so (λ digest. (length digest ≡ 16) × IsBytes digest);
  sha256 = none-so (λ digest. (length digest ≡ 32) × IsBytes digest);
  is_file = none-so (λ wanted. is_nil wanted ≡ false);
}

-- the parts of a bracket in the place of others are parts
replaced-are : (inner outer : Parts) → AreParts inner → AreParts outer → AreParts (replaced inner outer)
replaced-are inner outer i o name n =
    let a = i name n in
    let b = o name n in
    record {
      name = n;
      version = or-so (λ constraint. constraint_fault constraint ≡ None) inner.version outer.version a.version b.version;
      build = or-so (λ build. is_build build ≡ true) inner.build outer.build a.build b.build;
      build_number = or-so (λ (wanted : NumberTest). wanted.number < 2 ^ 64) inner.build_number outer.build_number a.build_number b.build_number;
      in_channel = or-so (λ wanted. is_nil wanted ≡ false) inner.channel outer.channel a.in_channel b.in_channel;
      in_subdir = or-so (λ wanted. is_nil wanted ≡ false) inner.subdir outer.subdir a.in_subdir b.in_subdir;
      md5 = or-so (λ digest. (length digest ≡ 16) × IsBytes digest) inner.md5 outer.md5 a.md5 b.md5;
      sha256 = or-so (λ digest. (length digest ≡ 32) × IsBytes digest) inner.sha256 outer.sha256 a.sha256 b.sha256;
      is_file = or-so (λ wanted. is_nil wanted ≡ false) inner.file outer.file a.is_file b.is_file;
    }

-- parts with a constraint
version-more : (parts : Parts) (c : List ℕ) → constraint_fault c ≡ None → AreParts parts → AreParts (record parts { version = Some c })
version-more parts c h p name n =
    let s = p name n in record {
      name = n;
      version = some-so (λ constraint. constraint_fault constraint ≡ None) c h;
      build = s.build;
      build_number = s.build_number;
      in_channel = s.in_channel;
      in_subdir = s.in_subdir;
      md5 = s.md5;
      sha256 = s.sha256;
      is_file = s.is_file;
    }

-- a build
build-more : (parts : Parts) (b : List ℕ) → is_build b ≡ true → AreParts parts → AreParts (record parts { build = Some b })
build-more parts b h p name n =
    let s = p name n in record {
      name = n;
      version = s.version;
      build = some-so (λ build. is_build build ≡ true) b h;
      build_number = s.build_number;
      in_channel = s.in_channel;
      in_subdir = s.in_subdir;
      md5 = s.md5;
      sha256 = s.sha256;
      is_file = s.is_file;
    }

-- a test of build numbers
number-more : (parts : Parts) (t : NumberTest) → t.number < 2 ^ 64 → AreParts parts → AreParts (record parts { build_number = Some t })
number-more parts t h p name n =
    let s = p name n in record {
      name = n;
      version = s.version;
      build = s.build;
      build_number = some-so (λ (wanted : NumberTest). wanted.number < 2 ^ 64) t h;
      in_channel = s.in_channel;
      in_subdir = s.in_subdir;
      md5 = s.md5;
      sha256 = s.sha256;
      is_file = s.is_file;
    }

-- a channel
channel-more : (parts : Parts) (t : List ℕ) → is_nil t ≡ false → AreParts parts → AreParts (record parts { channel = Some t })
channel-more parts t h p name n =
    let s = p name n in record {
      name = n;
      version = s.version;
      build = s.build;
      build_number = s.build_number;
      in_channel = some-so (λ wanted. is_nil wanted ≡ false) t h;
      in_subdir = s.in_subdir;
      md5 = s.md5;
      sha256 = s.sha256;
      is_file = s.is_file;
    }

-- a subdir
subdir-more : (parts : Parts) (t : List ℕ) → is_nil t ≡ false → AreParts parts → AreParts (record parts { subdir = Some t })
subdir-more parts t h p name n =
    let s = p name n in record {
      name = n;
      version = s.version;
      build = s.build;
      build_number = s.build_number;
      in_channel = s.in_channel;
      in_subdir = some-so (λ wanted. is_nil wanted ≡ false) t h;
      md5 = s.md5;
      sha256 = s.sha256;
      is_file = s.is_file;
    }

-- a digest of 16 bytes
md5-more : (parts : Parts) (d : List ℕ) → (length d ≡ 16) × IsBytes d → AreParts parts → AreParts (record parts { md5 = Some d })
md5-more parts d h p name n =
    let s = p name n in record {
      name = n;
      version = s.version;
      build = s.build;
      build_number = s.build_number;
      in_channel = s.in_channel;
      in_subdir = s.in_subdir;
      md5 = some-so (λ digest. (length digest ≡ 16) × IsBytes digest) d h;
      sha256 = s.sha256;
      is_file = s.is_file;
    }

-- a digest of 32 bytes
sha256-more : (parts : Parts) (d : List ℕ) → (length d ≡ 32) × IsBytes d → AreParts parts → AreParts (record parts { sha256 = Some d })
sha256-more parts d h p name n =
    let s = p name n in record {
      name = n;
      version = s.version;
      build = s.build;
      build_number = s.build_number;
      in_channel = s.in_channel;
      in_subdir = s.in_subdir;
      md5 = s.md5;
      sha256 = some-so (λ digest. (length digest ≡ 32) × IsBytes digest) d h;
      is_file = s.is_file;
    }

-- a file name
file-more : (parts : Parts) (t : List ℕ) → is_nil t ≡ false → AreParts parts → AreParts (record parts { file = Some t })
file-more parts t h p name n =
    let s = p name n in record {
      name = n;
      version = s.version;
      build = s.build;
      build_number = s.build_number;
      in_channel = s.in_channel;
      in_subdir = s.in_subdir;
      md5 = s.md5;
      sha256 = s.sha256;
      is_file = some-so (λ wanted. is_nil wanted ≡ false) t h;
    }

-- a constraint that was read has no fault
constraint-found : (f : SpecFault) (t c : List ℕ) → constraint_or f t ≡ Ok c → constraint_fault c ≡ None
unfolding constraint_or
constraint-found f t c e = by (constraint_fault t) refl
  where
    by : (found : Option ConstraintFault) → constraint_fault t ≡ found → constraint_fault c ≡ None
    by None is = (let same : t ≡ c = same-ok t c (rw is at e) in ap constraint_fault (sym same) ∙ is)
    by (Some g) is = cc (rw is at e)

-- a build that was read is one
build-found : (f : SpecFault) (t b : List ℕ) → build_or f t ≡ Ok b → is_build b ≡ true
build-found f t b e =
    let found = where-so (is_build t) f (Ok t) b e in
    ap is_build (sym (same-ok t b found.1)) ∙ found.0

-- a text that was read has bytes
text-found : (f : SpecFault) (t b : List ℕ) → text_or f t ≡ Ok b → is_nil b ≡ false
text-found f t b e =
    let found = unless-so (is_nil t) f (Ok t) b e in
    ap is_nil (sym (same-ok t b found.1)) ∙ found.0

-- a number that was read fits
number-found : (t : List ℕ) (n : ℕ) → number_of t ≡ Some n → n < 2 ^ 64
number-found t n e = by (not (is_nil t)) refl (list_all is_ascii_digit t) refl (nat_lt (decimal_from 0 t) (2 ^ 64)) refl
  where
    by : (some : Bool) → not (is_nil t) ≡ some → (digits : Bool) → list_all is_ascii_digit t ≡ digits → (fits : Bool) → nat_lt (decimal_from 0 t) (2 ^ 64) ≡ fits → n < 2 ^ 64
    by true a true b true c = (let same : decimal_from 0 t ≡ n = cc (rw (a, b, c) at e) in let low : decimal_from 0 t < 2 ^ 64 = grind (arith, nat_tests) in omega (arith, same, low))
    by true a true b false c = cc (rw (a, b, c) at e)
    by true a false b fits c = cc (rw (a, b) at e)
    by false a digits b fits c = cc (rw a at e)

-- so does that of a test
test-found : (c : Option Comparison) (n : Option ℕ) (t : NumberTest) → test_by c n ≡ Some t → ForSome n (λ m. m < 2 ^ 64) → t.number < 2 ^ 64
test-found None n t e h = cc e
test-found (Some c) None t e h = cc e
test-found (Some c) (Some m) t e h = let same : m ≡ t.number = ap number_there e in omega (arith, same, h m refl)
  where
    number_there : Option NumberTest → ℕ
    number_there None = 0
    number_there (Some t) = t.number

-- of what an option gave
option-found : {A : Type 0} (f : SpecFault) (o : Option A) (x : A) → or_fault f o ≡ Ok x → o ≡ Some x
option-found f None x e = cc e
option-found f (Some y) x e = ap Some (same-ok y x e)

-- a test of build numbers that was read
number-read : (f : SpecFault) (t : List ℕ) (n : NumberTest) → or_fault f (number_test t) ≡ Ok n → n.number < 2 ^ 64
number-read f t n e =
    test-found (comparison_of (signs t)) (number_of (behind_signs t)) n (option-found f (number_test t) n e) (number-found (behind_signs t))

-- a digest that was read has its bytes
digest-found : (n : ℕ) (f : SpecFault) (t d : List ℕ) → digest_or n f t ≡ Ok d → (length d ≡ n) × IsBytes d
digest-found n f t d e = by (decode_sized t n) refl (option-found f (result_ok (decode_sized t n)) d e)
  where
    by : (r : Result (List ℕ) FromHexError) → decode_sized t n ≡ r → result_ok r ≡ Some d → (length d ≡ n) × IsBytes d
    by (Err g) is h = cc h
    by (Ok b) is h =
        let same : b ≡ d = cc h in
        let sized = decode_sized-ok t n d (is ∙ ap Ok same) in
        let of = decode_of-ok t d (sym (decode_sized-twice t n sized) ∙ is ∙ ap Ok same) in
        (omega (arith, sized, of.2), of.3)

-- ---- the bracket

-- the parts with one more that was read
put-are : {A : Type 0} (r : Read A) (put : A → Parts) (q : Parts) → (r >>= λ found. Ok (put found)) ≡ Ok q → ((x : A) → r ≡ Ok x → AreParts (put x)) → AreParts q
put-are r put q e h =
    let found = bind-ok r (λ x. Ok (put x)) q e in
    let P : Parts → Type 0 = AreParts in
    subst P (same-ok (put found.0) q found.2) (h found.0 found.1)

-- a value
value-are : (k : Key) (v : Passage) (parts q : Parts) → with_value k v parts ≡ Ok q → AreParts parts → AreParts q
unfolding with_value
value-are key.version v parts q e p =
    put-are (constraint_or (fault.Value v.at) v.text) (λ x. record parts { version = Some x }) q e (λ x h. version-more parts x (constraint-found (fault.Value v.at) v.text x h) p)
value-are key.build v parts q e p =
    put-are (build_or (fault.Value v.at) v.text) (λ x. record parts { build = Some x }) q e (λ x h. build-more parts x (build-found (fault.Value v.at) v.text x h) p)
value-are key.build_number v parts q e p =
    put-are (or_fault (fault.Value v.at) (number_test v.text)) (λ x. record parts { build_number = Some x }) q e (λ x h. number-more parts x (number-read (fault.Value v.at) v.text x h) p)
value-are key.channel v parts q e p =
    put-are (text_or (fault.Value v.at) v.text) (λ x. record parts { channel = Some x }) q e (λ x h. channel-more parts x (text-found (fault.Value v.at) v.text x h) p)
value-are key.subdir v parts q e p =
    put-are (text_or (fault.Value v.at) v.text) (λ x. record parts { subdir = Some x }) q e (λ x h. subdir-more parts x (text-found (fault.Value v.at) v.text x h) p)
value-are key.md5 v parts q e p =
    put-are (digest_or 16 (fault.Value v.at) v.text) (λ x. record parts { md5 = Some x }) q e (λ x h. md5-more parts x (digest-found 16 (fault.Value v.at) v.text x h) p)
value-are key.sha256 v parts q e p =
    put-are (digest_or 32 (fault.Value v.at) v.text) (λ x. record parts { sha256 = Some x }) q e (λ x h. sha256-more parts x (digest-found 32 (fault.Value v.at) v.text x h) p)
value-are key.file v parts q e p =
    put-are (text_or (fault.Value v.at) v.text) (λ x. record parts { file = Some x }) q e (λ x h. file-more parts x (text-found (fault.Value v.at) v.text x h) p)

-- a value that was cut out
cut-are : (k : Key) (v : Value) (parts q : Parts) → with_cut_value k v parts ≡ Ok q → AreParts parts → AreParts q
cut-are k (bare v) parts q e p = value-are k (ended v) parts q e p
cut-are k (quoted at v tail) parts q e p =
    value-are k v parts q (where-so (is_nil (skip_blanks tail.text)) (fault.Value at) (with_value k v parts) q e).1 p
cut-are k (unclosed at) parts q e p = cc e

-- a key with its value
pair-are : (k : Passage) (v : Option Value) (parts q : Parts) → with_pair k v parts ≡ Ok q → AreParts parts → AreParts q
pair-are k None parts q e p = cc e
pair-are k (Some v) parts q e p =
    let found = bind-ok (new_key (fault.Key k.at) (key_of k.text) parts) (λ x. with_cut_value x v parts) q e in
    cut-are found.0 v parts q found.2 p

-- a part
entry-are : (x : Entry) (parts q : Parts) → with_entry x parts ≡ Ok q → AreParts parts → AreParts q
unfolding with_entry
entry-are x parts q e p = pair-are (trimmed x.key) x.value parts q e p

-- several parts
entries-are : (xs : List Entry) (parts q : Parts) → with_entries xs parts ≡ Ok q → AreParts parts → AreParts q
entries-are [] parts q e p = let P : Parts → Type 0 = AreParts in subst P (same-ok parts q e) p
entries-are (x ∷ xs) parts q e p =
    let found = bind-ok (with_entry x parts) (λ more. with_entries xs more) q e in
    entries-are xs found.0 q found.2 (entry-are x parts found.0 found.1 p)

-- a bracket
bracket-are : (inside : Option Passage) (q : Parts) → bracket_of inside ≡ Ok q → AreParts q
bracket-are None q e = let P : Parts → Type 0 = AreParts in subst P (same-ok no_parts q e) none-are
bracket-are (Some p) q e = by (is_nil (skip_blanks p.text)) refl
  where
    by : (empty : Bool) → is_nil (skip_blanks p.text) ≡ empty → AreParts q
    by true is = (let P : Parts → Type 0 = AreParts in subst P (same-ok no_parts q (rw is at e)) none-are)
    by false is = entries-are (entries p) no_parts q (rw is at e) none-are

-- ---- the version and the build behind a name

-- a constraint
version-are : (parts : Parts) (f : SpecFault) (t : List ℕ) (q : Parts) → with_version parts f t ≡ Ok q → AreParts parts → AreParts q
version-are parts f t q e p =
    put-are (constraint_or f t) (λ x. record parts { version = Some x }) q e (λ x h. version-more parts x (constraint-found f t x h) p)

-- a build
build-are : (f : SpecFault) (t : List ℕ) (parts q : Parts) → with_build f t parts ≡ Ok q → AreParts parts → AreParts q
build-are f t parts q e p =
    put-are (build_or f t) (λ x. record parts { build = Some x }) q e (λ x h. build-more parts x (build-found f t x h) p)

-- both
both-are : (parts : Parts) (vf : SpecFault) (v : List ℕ) (bf : SpecFault) (b : List ℕ) (q : Parts) → with_both parts vf v bf b ≡ Ok q → AreParts parts → AreParts q
both-are parts vf v bf b q e p =
    let found = bind-ok (with_version parts vf v) (with_build bf b) q e in
    build-are bf b found.0 q found.2 (version-are parts vf v found.0 found.1 p)

-- two texts that a blank parts
two-are : (parts : Parts) (at end : ℕ) (ps : List Placed) (v b : List ℕ) (blank : Option ℕ) (q : Parts) → with_two parts at end ps v b blank ≡ Ok q → AreParts parts → AreParts q
two-are parts at end ps v b (Some n) q e p = cc e
two-are parts at end ps v b None q e p = both-are parts (fault.Version at) v (fault.Build (at + place_of_last (length b) end ps)) b q e p

-- one text or two
words-are : (parts : Parts) (at end : ℕ) (ps : List Placed) (bytes : List ℕ) (cut : Option (List ℕ × List ℕ)) (q : Parts) → with_words parts at end ps bytes cut ≡ Ok q → AreParts parts → AreParts q
words-are parts at end ps bytes None q e p = version-are parts (fault.Version at) bytes q e p
words-are parts at end ps bytes (Some cut) q e p =
    two-are parts at end ps cut.0 (skip_blanks cut.1) (position (λ b. b == space) (skip_blanks cut.1)) q e p

-- the form, or another one
form-are : (parts : Parts) (at end : ℕ) (ps : List Placed) (bytes : List ℕ) (form : Option (List ℕ × List ℕ)) (q : Parts) → with_form parts at end ps bytes form ≡ Ok q → AreParts parts → AreParts q
form-are parts at end ps bytes (Some form) q e p =
    both-are parts (fault.Version at) (form_constraint form.0) (fault.Build (at + place_of_last (length form.1) end ps)) form.1 q e p
form-are parts at end ps bytes None q e p = words-are parts at end ps bytes (cut_at space bytes) q e p

-- what stands behind a name
rest-are : (x : Passage) (parts q : Parts) → with_rest x parts ≡ Ok q → AreParts parts → AreParts q
unfolding with_rest
rest-are x parts q e p = by (is_nil x.text) refl
  where
    by : (empty : Bool) → is_nil x.text ≡ empty → AreParts q
    by true is = (let P : Parts → Type 0 = AreParts in subst P (same-ok parts q (rw is at e)) p)
    by false is = form-are parts x.at (length x.text) (kept x.text) (bytes_of (kept x.text)) (form_of (bytes_of (kept x.text))) q (rw is at e) p

-- ---- the name and the channel

-- a run of bytes of a name that isn't empty
run-name : (t : List ℕ) → is_nil (name_run t) ≡ false → IsName (lower_case (name_run t))
run-name t some = lower-name (name_run t) (by (name_run t) some) (all-right (name_run t) (run-all t))
  where
    by : (run : List ℕ) → is_nil run ≡ false → (length run == 0) ≡ false
    by [] h = cc h
    by (b ∷ run) h = grind (arith, nat_tests)

-- a name with what follows it
before-is : (run : List ℕ) (rest : Passage) (parts : Parts) (m : Meaning) → named_before run rest parts ≡ Ok m → IsName (lower_case run) → AreParts parts → IsSpec m
before-is run rest parts m e n p =
    let go = where-so (may_follow rest.text) (fault.Name rest.at) (with_rest (trimmed rest) parts >>= λ found. Ok (record { name = lower_case run; parts = found })) m e in
    let found = bind-ok (with_rest (trimmed rest) parts) (λ x. Ok (record { name = lower_case run; parts = x })) m go.1 in
    subst IsSpec (same-ok (record { name = lower_case run; parts = found.0 }) m found.2) (rest-are (trimmed rest) parts found.0 found.1 p (lower_case run) n)

-- what stands behind the channel
named-is : (x : Passage) (parts : Parts) (m : Meaning) → named x parts ≡ Ok m → AreParts parts → IsSpec m
unfolding named
named-is x parts m e p =
    let run = name_run (begun x).text in
    let go = unless-so (is_nil run) fault.NoName (named_before run (behind (length run) (begun x)) parts) m e in
    before-is run (behind (length run) (begun x)) parts m go.1 (run-name (begun x).text go.0) p

-- a channel and a subdir
slot-are : (channel subdir : List ℕ) (q : Parts) → slot_of channel subdir ≡ Ok q → AreParts q
slot-are channel subdir q e =
    let first = unless-so (is_nil channel) fault.NoName (if is_nil subdir then Err fault.NoName else Ok (record no_parts { channel = Some channel; subdir = Some subdir })) q e in
    let second = unless-so (is_nil subdir) fault.NoName (Ok (record no_parts { channel = Some channel; subdir = Some subdir })) q first.1 in
    let P : Parts → Type 0 = AreParts in
    subst P (same-ok (record no_parts { channel = Some channel; subdir = Some subdir }) q second.1)
    (subdir-more (record no_parts { channel = Some channel }) subdir second.0 (channel-more no_parts channel first.0 none-are))

-- a channel, and perhaps a subdir
place-are : (t : List ℕ) (channel : Option (List ℕ)) (q : Parts) → place_by t channel ≡ Ok q → AreParts q
place-are t None q e =
    let go = unless-so (is_nil t) fault.NoName (Ok (record no_parts { channel = Some t })) q e in
    let P : Parts → Type 0 = AreParts in
    subst P (same-ok (record no_parts { channel = Some t }) q go.1) (channel-more no_parts t go.0 none-are)
place-are t (Some channel) q e = slot-are channel (drop (length channel + 1) t) q e

-- what stands outside the bracket
outside-is : (x : Passage) (channel : Option (List ℕ)) (m : Meaning) → outside_by x channel ≡ Ok m → IsSpec m
outside-is x None m e = named-is x no_parts m e none-are
outside-is x (Some channel) m e =
    let found = bind-ok (place_of channel) (named (behind (length channel + 2) x)) m e in
    named-is (behind (length channel + 2) x) found.0 m found.2 (place-are channel (before_last slash channel) found.0 found.1)

-- ---- the whole

-- the parts of a spec are parts
parts-of : (m : Meaning) → IsSpec m → AreParts m.parts
parts-of m s name n = record {
  name = n;
  version = s.version;
  build = s.build;
  build_number = s.build_number;
  in_channel = s.in_channel;
  in_subdir = s.in_subdir;
  md5 = s.md5;
  sha256 = s.sha256;
  is_file = s.is_file;
}

-- a bracket behind the rest
bracket-is : (inside : Option Passage) (outer m : Meaning) → with_bracket inside outer ≡ Ok m → IsSpec outer → IsSpec m
bracket-is inside outer m e s =
    let found = bind-ok (bracket_of inside) (λ inner. Ok (record outer { parts = replaced inner outer.parts })) m e in
    subst IsSpec (same-ok (record outer { parts = replaced found.0 outer.parts }) m found.2)
    (replaced-are found.0 outer.parts (bracket-are inside found.0 found.1) (parts-of outer s) outer.name s.name)

-- what a text reads as is a spec
pub spec-legal : (t : List ℕ) (m : Meaning) → spec_of t ≡ Ok m → IsSpec m
unfolding spec_of outside_of
spec-legal t m e =
    let x = trimmed (record { at = 0; text = t }) in
    let go = unless-so (is_nil x.text) fault.Empty (halves_of x >>= λ h. (outside_of h.outside >>= with_bracket h.inside)) m e in
    let cut = bind-ok (halves_of x) (λ (h : Halves). outside_of h.outside >>= with_bracket h.inside) m go.1 in
    let named = bind-ok (outside_of cut.0.outside) (with_bracket cut.0.inside) m cut.2 in
    bracket-is cut.0.inside named.0 m named.2 (outside-is cut.0.outside (before_colons cut.0.outside.text) named.0 named.1)
