-- A record that is written is read again as its fields.
use Rattle.std.proofs.Common.{◌≡◌, refl, sym, ◌∙◌, ap, subst, ℕ, suc, ◌<◌, ◌≤◌, ◌^◌, Bool, true, cond, List, [], ◌∷◌, ◌++◌, length, arith, append_assoc, append-nil, get_or}
use Rattle.std.specs.Prelude.{Ok, Option, Some, None, IfSome, codes, drop}
use Rattle.std.specs.Option.{option_map}
use Rattle.std.specs.List.{flat_map, All, AllByRecursion}
use Rattle.std.specs.Bool.{◌==◌}
use Rattle.gateway_words.specs.Places.{Position, Between, start_of}
use Rattle.gateway_words.specs.Reading.{◌>>=◌}
use Rattle.mp_codec.specs.declared.head.Head.TheVariants as head
use Rattle.mp_codec.specs.Value.{array_len}
use Rattle.mp_codec.specs.Reading.{head_from, bytes_from}
use Rattle.mp_codec.specs.Maps.{Read, str_from, text_from, number_from, known_map_from}
use Rattle.mp_codec.specs.Writing.{uint_bytes, str_bytes, bin_head, bin_bytes, array_head, map_head, pair_bytes, value_count}
use Rattle.mp_codec.proofs.BindLemmas.{bind_ok}
use Rattle.mp_codec.proofs.HeadLemmas.{ok_first}
use Rattle.mp_codec.proofs.WrittenLemmas.{Halves, halves, nothing_between, ReadAs, read_turned, head_read, array_head_stands, bin_head_stands, bytes_read, str_read_back, text_read_back, number_read_back, Written, known_map_written}
use Rattle.mp_codec.specs.Value.{Value}
use Rattle.mp_codec.specs.Spelling.{Spells}
use Rattle.mp_codec.specs.Writing.{IsShortest}
use Rattle.mp_codec.proofs.ShortestLemmas.{IsTight, tight_uint, tight_str, tight_bin, tight_array, tight_each, tight_known_map, pointwise, names_short, shortest}
use Rattle.conda_record.specs.Texts.{text_in, each_from, tried, listed_or_skipped, listed_from, texts_at, texts_from}
use Rattle.conda_record.specs.Digests.{digest_in, digest_by, digest_from}
use Rattle.conda_record.specs.Record.{Fields, record_keys}
use Rattle.conda_record.specs.Reading.{Datum, Text, Number, OptionalText, Texts, Digest, required, optional_text_from, datum_from, number_in, optional_text_in, texts_in, digest_in as digest_data, fields_from, record_from}
use Rattle.conda_record.specs.Writing.{texts_bytes, texts_if_any, values_of, record_bytes, IsShort, AreShort, IsWritable, AreText, AreFields, IsReadAgain, text_pair, number_pair, texts_pair, first_pairs, middle_pairs, last_pairs, key_count}
use Rattle.conda_record.proofs.RecordLemmas.{differ, record_is, record_found}

-- ---- lists of which something holds

all_first : {X : Type 0} (P : X → Type 0) (x : X) (xs : List X) → All P (x ∷ xs) → P x
all_first P x xs all = all 0 x (omega arith)

all_others : {X : Type 0} (P : X → Type 0) (x : X) (xs : List X) → All P (x ∷ xs) → All P xs
all_others P x xs all k d lt = all (suc k) d (omega arith)

-- ---- values

optional_text_back : (text : List ℕ) → IsShort text → AreText text → ReadAs optional_text_from (str_bytes text) (Some text)
unfolding optional_text_from
optional_text_back text short utf8 here there at =
    bind_ok (str_from here) (λ s. Ok (text_in s.0, s.1)) (Some text, there) (str_read_back text short here there at)
    ∙ ap (λ (b : Bool). Ok (cond {A = Option (List ℕ)} b (Some text) None, there)) utf8

texts_back : (texts : List (List ℕ)) → All IsShort texts → All AreText texts → ReadAs (texts_at (length texts)) (flat_map str_bytes texts) texts
unfolding each_from
texts_back [] short utf8 here there at = ap (λ (q : Position). Ok ([], q)) (nothing_between here there at)
texts_back (text ∷ texts) short utf8 here there at =
    let h : Halves (str_bytes text) (flat_map str_bytes texts) here there = halves (str_bytes text) (flat_map str_bytes texts) here there at in
    bind_ok (text_from here) (λ t. texts_at (length texts) t.1 >>= λ ts. Ok (t.0 ∷ ts.0, ts.1)) (text, h.mid) (text_read_back text (all_first IsShort text texts short) (all_first AreText text texts utf8) here h.mid h.first)
    ∙ bind_ok (texts_at (length texts) h.mid) (λ ts. Ok (text ∷ ts.0, ts.1)) (texts, there) (texts_back texts (all_others IsShort text texts short) (all_others AreText text texts utf8) h.mid there h.second)

list_back : (texts : List (List ℕ)) → AreShort texts → All AreText texts → ReadAs texts_from (texts_bytes texts) (Some texts)
unfolding listed_from
list_back texts short utf8 here there at =
    let h : Halves (array_head (length texts)) (flat_map str_bytes texts) here there = halves (array_head (length texts)) (flat_map str_bytes texts) here there at in
    bind_ok (head_from here) (λ h. listed_or_skipped text_from (array_len h.0) here h.1) (head.Array (length texts), h.mid)
    (head_read (head.Array (length texts)) (array_head (length texts)) (array_head_stands (length texts) short.many) here h.mid h.first)
    ∙ ap (λ (r : Read (List (List ℕ))). tried r here) (texts_back texts short.each utf8 h.mid there h.second)

digest_back : (n : ℕ) (digest : List ℕ) → length digest ≡ n → n < 2 ^ 32 → ReadAs (digest_from n) (bin_bytes digest) (Some digest)
unfolding digest_from
digest_back n digest len few here there at =
    let h : Halves (bin_head (length digest)) digest here there = halves (bin_head (length digest)) digest here there at in
    let short : length digest < 2 ^ 32 = omega arith in
    let same : (length digest == n) ≡ true = grind arith in
    bind_ok (head_from here) (λ h. digest_by n h.0 here h.1) (head.Bin (length digest), h.mid)
    (head_read (head.Bin (length digest)) (bin_head (length digest)) (bin_head_stands (length digest) short) here h.mid h.first)
    ∙ bind_ok (bytes_from (length digest) h.mid) (λ s. Ok (digest_in n (head.Bin (length digest)) s.0, s.1)) (digest, there) (bytes_read digest h.mid there h.second)
    ∙ ap (λ (b : Bool). Ok (cond {A = Option (List ℕ)} b (Some digest) None, there)) same

-- ---- the map

-- what is read of a list that is left out where it is empty
abbrev texts_written : List (List ℕ) → Option Datum
texts_written [] = None
texts_written (t ∷ ts) = Some (Texts (Some (t ∷ ts)))

-- what is read of each key that was written
abbrev data_written : Fields → List (Option Datum)
data_written f =
    Some (Text f.name) ∷ Some (Text f.version) ∷ Some (Text f.build) ∷ Some (Number (Some f.build_number))
    ∷ Some (Texts (Some f.depends)) ∷ texts_written f.constrains ∷ option_map (λ t. OptionalText (Some t)) f.subdir
    ∷ option_map (λ d. Digest (Some d)) f.md5 ∷ option_map (λ d. Digest (Some d)) f.sha256 ∷ option_map (λ n. Number (Some n)) f.size
    ∷ option_map (λ n. Number (Some n)) f.timestamp ∷ option_map (λ t. OptionalText (Some t)) f.license ∷ option_map (λ t. OptionalText (Some t)) f.noarch ∷ []

-- a key whose value is written where there is one
where_some : {X : Type 0} (n : ℕ) (name : List ℕ) (names : List (List ℕ)) (vs : List (Option (List ℕ))) (ds : List (Option Datum)) (bytes : X → List ℕ) (datum : X → Datum) (o : Option X)
    → IfSome o (λ x. ReadAs (datum_from n) (bytes x) (datum x)) → Written datum_from (suc n) names vs ds
    → Written datum_from n (name ∷ names) (option_map bytes o ∷ vs) (option_map datum o ∷ ds)
where_some n name names vs ds bytes datum None reads rest = rest
where_some n name names vs ds bytes datum (Some x) reads rest = (reads, rest)

-- a key whose texts are written where there are some
where_any : (n : ℕ) (name : List ℕ) (names : List (List ℕ)) (vs : List (Option (List ℕ))) (ds : List (Option Datum)) (texts : List (List ℕ))
    → ReadAs (datum_from n) (texts_bytes texts) (Texts (Some texts)) → Written datum_from (suc n) names vs ds
    → Written datum_from n (name ∷ names) (texts_if_any texts ∷ vs) (texts_written texts ∷ ds)
where_any n name names vs ds [] reads rest = rest
where_any n name names vs ds (t ∷ ts) reads rest = (reads, rest)

-- what holds of something, if there is something
if_some : {X : Type 0} (P Q : X → Type 0) (R : X → Type 0) (o : Option X) → ((x : X) → P x → Q x → R x) → IfSome o P → IfSome o Q → IfSome o R
if_some P Q R None to p q = tt
if_some P Q R (Some x) to p q = to x p q

text_datum : (text : List ℕ) → IsShort text → AreText text → ReadAs (λ here. text_from here >>= λ t. Ok (Text t.0, t.1)) (str_bytes text) (Text text)
text_datum text short utf8 = read_turned text_from Text (str_bytes text) text (text_read_back text short utf8)

optional_datum : (text : List ℕ) → IsShort text → AreText text → ReadAs (λ here. optional_text_from here >>= λ t. Ok (OptionalText t.0, t.1)) (str_bytes text) (OptionalText (Some text))
optional_datum text short utf8 = read_turned optional_text_from OptionalText (str_bytes text) (Some text) (optional_text_back text short utf8)

number_datum : (n : ℕ) → n < 2 ^ 64 → ReadAs (λ here. number_from here >>= λ n. Ok (Number n.0, n.1)) (uint_bytes n) (Number (Some n))
number_datum n lt = read_turned number_from Number (uint_bytes n) (Some n) (number_read_back n lt)

texts_datum : (texts : List (List ℕ)) → AreShort texts → All AreText texts → ReadAs (λ here. texts_from here >>= λ ts. Ok (Texts ts.0, ts.1)) (texts_bytes texts) (Texts (Some texts))
texts_datum texts short utf8 = read_turned texts_from Texts (texts_bytes texts) (Some texts) (list_back texts short utf8)

digest_datum : (n : ℕ) (digest : List ℕ) → n < 2 ^ 32 → length digest ≡ n → ReadAs (λ here. digest_from n here >>= λ d. Ok (Digest d.0, d.1)) (bin_bytes digest) (Digest (Some digest))
digest_datum n digest few len = read_turned (digest_from n) Digest (bin_bytes digest) (Some digest) (digest_back n digest len few)

data_are_written : (f : Fields) → IsWritable f → AreFields f → Written datum_from 0 record_keys (values_of f) (data_written f)
data_are_written f w a = (
  text_datum f.name w.name_short a.name_text,
  (
    text_datum f.version w.version_short a.version_text,
    (
      text_datum f.build w.build_short a.build_text,
      (
        number_datum f.build_number a.build_number_fits,
        (
          texts_datum f.depends w.depends_short a.depends_texts,
          where_any 5 (codes "constrains") (drop 6 record_keys) (drop 6 (values_of f)) (drop 6 (data_written f)) f.constrains (texts_datum f.constrains w.constrains_short a.constrains_texts)
              (where_some 6 (codes "subdir") (drop 7 record_keys) (drop 7 (values_of f)) (drop 7 (data_written f)) str_bytes (λ t. OptionalText (Some t)) f.subdir (if_some IsShort AreText (λ t. ReadAs (datum_from 6) (str_bytes t) (OptionalText (Some t))) f.subdir optional_datum w.subdir_short a.subdir_text)
              (where_some 7 (codes "md5") (drop 8 record_keys) (drop 8 (values_of f)) (drop 8 (data_written f)) bin_bytes (λ d. Digest (Some d)) f.md5 (if_some (λ d. length d ≡ 16) (λ d. length d ≡ 16) (λ d. ReadAs (datum_from 7) (bin_bytes d) (Digest (Some d))) f.md5 (λ d len same. digest_datum 16 d (omega arith) len) a.md5_length a.md5_length)
              (where_some 8 (codes "sha256") (drop 9 record_keys) (drop 9 (values_of f)) (drop 9 (data_written f)) bin_bytes (λ d. Digest (Some d)) f.sha256 (if_some (λ d. length d ≡ 32) (λ d. length d ≡ 32) (λ d. ReadAs (datum_from 8) (bin_bytes d) (Digest (Some d))) f.sha256 (λ d len same. digest_datum 32 d (omega arith) len) a.sha256_length a.sha256_length)
              (where_some 9 (codes "size") (drop 10 record_keys) (drop 10 (values_of f)) (drop 10 (data_written f)) uint_bytes (λ n. Number (Some n)) f.size (if_some (λ n. n < 2 ^ 64) (λ n. n < 2 ^ 64) (λ n. ReadAs (datum_from 9) (uint_bytes n) (Number (Some n))) f.size (λ n lt same. number_datum n lt) a.size_fits a.size_fits)
              (where_some 10 (codes "timestamp") (drop 11 record_keys) (drop 11 (values_of f)) (drop 11 (data_written f)) uint_bytes (λ n. Number (Some n)) f.timestamp (if_some (λ n. n < 2 ^ 64) (λ n. n < 2 ^ 64) (λ n. ReadAs (datum_from 10) (uint_bytes n) (Number (Some n))) f.timestamp (λ n lt same. number_datum n lt) a.timestamp_fits a.timestamp_fits)
              (where_some 11 (codes "license") (drop 12 record_keys) (drop 12 (values_of f)) (drop 12 (data_written f)) str_bytes (λ t. OptionalText (Some t)) f.license (if_some IsShort AreText (λ t. ReadAs (datum_from 11) (str_bytes t) (OptionalText (Some t))) f.license optional_datum w.license_short a.license_text)
              (where_some 12 (codes "noarch") (drop 13 record_keys) (drop 13 (values_of f)) (drop 13 (data_written f)) str_bytes (λ t. OptionalText (Some t)) f.noarch (if_some IsShort AreText (λ t. ReadAs (datum_from 12) (str_bytes t) (OptionalText (Some t))) f.noarch optional_datum w.noarch_short a.noarch_text)
              tt))))))),
        ),
      ),
    ),
  ),
)

-- ---- the fields

any_texts : (texts : List (List ℕ)) → texts_in (texts_written texts) ≡ texts
any_texts [] = refl
any_texts (t ∷ ts) = refl

some_text : (o : Option (List ℕ)) → optional_text_in (option_map (λ t. OptionalText (Some t)) o) ≡ o
some_text (Some t) = refl
some_text None = refl

some_number : (o : Option ℕ) → number_in (option_map (λ n. Number (Some n)) o) ≡ o
some_number (Some n) = refl
some_number None = refl

some_digest : (o : Option (List ℕ)) → digest_data (option_map (λ d. Digest (Some d)) o) ≡ o
some_digest (Some d) = refl
some_digest None = refl

fields_written : (f : Fields) → fields_from (data_written f) ≡ f
fields_written f = λ i. record {
  name = f.name;
  version = f.version;
  build = f.build;
  build_number = f.build_number;
  depends = f.depends;
  constrains = any_texts f.constrains i;
  subdir = some_text f.subdir i;
  md5 = some_digest f.md5 i;
  sha256 = some_digest f.sha256 i;
  size = some_number f.size i;
  timestamp = some_number f.timestamp i;
  license = some_text f.license i;
  noarch = some_text f.noarch i;
}

-- ---- the record

few_values : (f : Fields) → value_count (values_of f) < 2 ^ 32
few_values f = few (values_of f) 13 (omega arith) refl
  where
    few : (vs : List (Option (List ℕ))) (n : ℕ) → n < 2 ^ 32 → length vs ≡ n → value_count vs < 2 ^ 32
    few vs n lt len = let le = at_most vs in omega (arith, le)
      where
        at_most : (vs : List (Option (List ℕ))) → value_count vs ≤ length vs
        at_most [] = omega arith
        at_most (None ∷ vs) = let le = at_most vs in omega (arith, le)
        at_most (Some v ∷ vs) = let le = at_most vs in omega (arith, le)

record_back : (f : Fields) → IsWritable f → AreFields f → ReadAs record_from (record_bytes f) f
unfolding record_bytes
record_back f w a here there at =
    record_is here
    ∙ bind_ok (known_map_from record_keys required datum_from here) (λ x. Ok (fields_from x.0, x.1)) (data_written f, there)
    (known_map_written record_keys differ refl required datum_from (values_of f) (data_written f) (few_values f) (data_are_written f w a) refl here there at)
    ∙ ap (λ (g : Fields). Ok (g, there)) (fields_written f)

-- where the bytes of the record of these fields stand, this record stands
pub read_again : (f : Fields) → IsWritable f → AreFields f → IsReadAgain f
read_again f w a here there at = record_found here there f (record_back f w a here there at)

regrouped : (a b c d e f g h i j k l m : List ℕ)
    → (a ++ (b ++ (c ++ (d ++ e)))) ++ ((f ++ (g ++ (h ++ i))) ++ (j ++ (k ++ (l ++ m))))
    ≡ a ++ (b ++ (c ++ (d ++ (e ++ (f ++ (g ++ (h ++ (i ++ (j ++ (k ++ (l ++ (m ++ []))))))))))))
regrouped a b c d e f g h i j k l m = simp (append_assoc, append-nil)

-- the parts of a record that are written, one behind the other
pub record_parts : (f : Fields) → map_head (key_count f) ++ (first_pairs f ++ (middle_pairs f ++ last_pairs f)) ≡ record_bytes f
unfolding record_bytes key_count first_pairs middle_pairs last_pairs text_pair number_pair texts_pair
record_parts f =
    ap (λ (t : List ℕ). map_head (value_count (values_of f)) ++ t)
    (regrouped (pair_bytes (codes "name") (Some (str_bytes f.name))) (pair_bytes (codes "version") (Some (str_bytes f.version))) (pair_bytes (codes "build") (Some (str_bytes f.build)))
    (pair_bytes (codes "build_number") (Some (uint_bytes f.build_number))) (pair_bytes (codes "depends") (Some (texts_bytes f.depends)))
    (pair_bytes (codes "constrains") (texts_if_any f.constrains)) (pair_bytes (codes "subdir") (option_map str_bytes f.subdir))
    (pair_bytes (codes "md5") (option_map bin_bytes f.md5)) (pair_bytes (codes "sha256") (option_map bin_bytes f.sha256))
    (pair_bytes (codes "size") (option_map uint_bytes f.size)) (pair_bytes (codes "timestamp") (option_map uint_bytes f.timestamp))
    (pair_bytes (codes "license") (option_map str_bytes f.license)) (pair_bytes (codes "noarch") (option_map str_bytes f.noarch)))

-- records with equal bytes are equal
pub same_fields : (f g : Fields) → IsWritable f → AreFields f → IsWritable g → AreFields g → record_bytes f ≡ record_bytes g → f ≡ g
same_fields f g w a v b e =
    let here = start_of (record_bytes f) in
    let there : Position = record { at = length (record_bytes f); left = [] } in
    let between : Between (record_bytes f) here there = record { left = sym (append-nil (record_bytes f)); at = omega arith } in
    let both : ◌≡◌ {A = Read Fields} (Ok (f, there)) (Ok (g, there)) = sym (record_back f w a here there between) ∙ record_back g v b here there (subst (λ (bytes : List ℕ). Between bytes here there) e between) in
    ok_first both

-- ---- no spelling of the value that a record is has fewer bytes

where_mapped : {X : Type 0} (bytes : X → List ℕ) (o : Option X) → IfSome o (λ x. IsTight (bytes x)) → IfSome (option_map bytes o) IsTight
where_mapped bytes (Some x) t = t
where_mapped bytes None t = t

tight_texts : (texts : List (List ℕ)) → AreShort texts → IsTight (texts_bytes texts)
tight_texts texts short = tight_array (length texts) (flat_map str_bytes texts) short.many (tight_each str_bytes texts (λ k d lt. tight_str (get_or texts k d) (short.each k d lt)))

tight_any : (texts : List (List ℕ)) → AreShort texts → IfSome (texts_if_any texts) IsTight
tight_any [] short = tt
tight_any (t ∷ ts) short = tight_texts (t ∷ ts) short

tight_values : (f : Fields) → IsWritable f → AreFields f → AllByRecursion (λ (v : Option (List ℕ)). IfSome v IsTight) (values_of f)
tight_values f w a = (
  tight_str f.name w.name_short,
  (
    tight_str f.version w.version_short,
    (
      tight_str f.build w.build_short,
      (
        tight_uint f.build_number a.build_number_fits,
        (
          tight_texts f.depends w.depends_short,
          (
            tight_any f.constrains w.constrains_short,
            (
              where_mapped str_bytes f.subdir (if_some IsShort IsShort (λ t. IsTight (str_bytes t)) f.subdir (λ t short same. tight_str t short) w.subdir_short w.subdir_short),
              (
                where_mapped bin_bytes f.md5 (if_some (λ d. length d ≡ 16) (λ d. length d ≡ 16) (λ d. IsTight (bin_bytes d)) f.md5 (λ d len same. tight_bin d (omega arith)) a.md5_length a.md5_length),
                (
                  where_mapped bin_bytes f.sha256 (if_some (λ d. length d ≡ 32) (λ d. length d ≡ 32) (λ d. IsTight (bin_bytes d)) f.sha256 (λ d len same. tight_bin d (omega arith)) a.sha256_length a.sha256_length),
                  (
                    where_mapped uint_bytes f.size (if_some (λ n. n < 2 ^ 64) (λ n. n < 2 ^ 64) (λ n. IsTight (uint_bytes n)) f.size (λ n lt same. tight_uint n lt) a.size_fits a.size_fits),
                    (
                      where_mapped uint_bytes f.timestamp (if_some (λ n. n < 2 ^ 64) (λ n. n < 2 ^ 64) (λ n. IsTight (uint_bytes n)) f.timestamp (λ n lt same. tight_uint n lt) a.timestamp_fits a.timestamp_fits),
                      (
                        where_mapped str_bytes f.license (if_some IsShort IsShort (λ t. IsTight (str_bytes t)) f.license (λ t short same. tight_str t short) w.license_short w.license_short),
                        (
                          where_mapped str_bytes f.noarch (if_some IsShort IsShort (λ t. IsTight (str_bytes t)) f.noarch (λ t short same. tight_str t short) w.noarch_short w.noarch_short),
                          tt,
                        ),
                      ),
                    ),
                  ),
                ),
              ),
            ),
          ),
        ),
      ),
    ),
  ),
)

-- each head in a record that is written is the shortest
pub tight_record : (f : Fields) → IsWritable f → AreFields f → IsTight (record_bytes f)
unfolding record_bytes
tight_record f w a =
    tight_known_map record_keys (values_of f) refl (few_values f) (names_short record_keys refl) (pointwise (λ (v : Option (List ℕ)). IfSome v IsTight) (values_of f) (tight_values f w a))

pub shortest_record : (f : Fields) → IsWritable f → AreFields f → (v : Value) → Spells v (record_bytes f) → IsShortest v (record_bytes f)
shortest_record f w a = shortest (record_bytes f) (tight_record f w a)
