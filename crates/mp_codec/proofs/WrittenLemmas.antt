-- What the writers append is read again as what it was written for, whatever follows it.
use Rattle.std.proofs.Common.{◌≡◌, refl, sym, ◌∙◌, ap, subst, ℕ, suc, pos, ◌+◌, ◌<◌, ◌^◌, Bool, true, false, not, cond, ltb, ◌&&◌, ◌||◌, List, [], ◌∷◌, ◌++◌, length, take, arith, length-append, append_assoc, append-nil}
use Rattle.std.specs.Prelude.{nat_lt, Ok, Err, Option, Some, None, is_some, slice_index_or, slice_set}
use Rattle.std.specs.Str.{bytes_eq, is_utf8}
use Rattle.std.specs.List.{list_any, list_all}
use Rattle.std.proofs.lemmas.Bool.{ltb-true, ltb-false}
use Rattle.std.proofs.lemmas.Slice.Eq.{bytes_eq-Decides}
use Rattle.std.proofs.Math.Seq.{get_or-append_seam, set-append_seam}
use Rattle.gateway_words.specs.Places.{Position, Between, start_of}
use Rattle.gateway_words.specs.Reading.{◌>>=◌}
use Rattle.mp_codec.specs.declared.fault.FaultKind.TheVariants as kind
use Rattle.mp_codec.specs.declared.head.Head.{Head}
use Rattle.mp_codec.specs.declared.head.Head.TheVariants as head
use Rattle.mp_codec.specs.Fault.{fault_here}
use Rattle.mp_codec.specs.Value.{Value, value, none, str_len, map_len, whole}
use Rattle.mp_codec.specs.Reading.{head_from, bytes_from, values_from}
use Rattle.mp_codec.specs.Spelling.{Spells}
use Rattle.mp_codec.specs.Maps.{Read, skipped, ended, all_from, entries_from, pairs_or_wrong, map_head_from, map_from, text_or_wrong, text_from, bytes_or_skipped, str_from, number_or_skipped, number_from, place_of, is_distinct, unread, known_key_from, known_value_from, known_end_from, known_map_from}
use Rattle.mp_codec.specs.Writing.{uint_bytes, str_head, bin_head, array_head, map_head, str_bytes, pairs_bytes, value_count, known_map_bytes, HeadStandsAs}
use Rattle.mp_codec.proofs.BindLemmas.{bind_ok}
use Rattle.mp_codec.proofs.PlaceLemmas.{position, between_here, between_there, bytes_then, lies_head}
use Rattle.mp_codec.proofs.PassingLemmas.{lies_value}
use Rattle.mp_codec.proofs.WritingLemmas.{uint_spelled, str_head_spelled, bin_head_spelled, array_head_spelled, map_head_spelled}

-- ---- bytes between two positions, in two parts

-- what stands between two positions in two parts has a position in its middle
pub record Halves (a b : List ℕ) (here there : Position) : Type 0 where
  pub mid : Position
  pub first : Between a here mid
  pub second : Between b mid there

pub halves : (a b : List ℕ) (here there : Position) → Between (a ++ b) here there → Halves a b here there
halves a b here there p = record {
  mid = position (here.at + length a) (b ++ there.left);
  first = record { left = p.left ∙ append_assoc a b there.left; at = refl };
  second = record { left = refl; at = let at : there.at ≡ here.at + length (a ++ b) = p.at in omega (arith, length-append a b) };
}

-- between no bytes there is one position
pub nothing_between : (here there : Position) → Between [] here there → here ≡ there
nothing_between here there at =
    between_here [] here there at
    ∙ sym (between_there [] here there at ∙ ap (λ (k : ℕ). position k there.left) (let e : here.at + 0 ≡ here.at = omega arith in e))

-- ---- a reading of what stands somewhere, whatever follows it

-- where these bytes stand, this is read
abbrev pub ReadAs : {D : Type 0} → (Position → Read D) → List ℕ → D → Type 0
ReadAs read bytes d = (here there : Position) → Between bytes here there → read here ≡ Ok (d, there)

-- a reading of two parts, one behind the other
pub read_both : {X Y : Type 0} (first : Position → Read X) (rest : X → Position → Read Y) (a b : List ℕ) (x : X) (y : Y) → ReadAs first a x → ReadAs (rest x) b y
    → ReadAs (λ here. first here >>= λ t. rest t.0 t.1) (a ++ b) y
read_both first rest a b x y p q here there at =
    let h : Halves a b here there = halves a b here there at in
    bind_ok (first here) (λ t. rest t.0 t.1) (x, h.mid) (p here h.mid h.first) ∙ q h.mid there h.second

-- a reading that is turned into something else
pub read_turned : {X Y : Type 0} (first : Position → Read X) (f : X → Y) (bytes : List ℕ) (x : X) → ReadAs first bytes x
    → ReadAs (λ here. first here >>= λ t. Ok (f t.0, t.1)) bytes (f x)
read_turned first f bytes x p here there at = bind_ok (first here) (λ t. Ok (f t.0, t.1)) (x, there) (p here there at)

-- all of some bytes, where they are read as this
pub read_all : {Y : Type 0} (read : Position → Read Y) (bytes : List ℕ) (y : Y) → ReadAs read bytes y → all_from read bytes ≡ Ok y
unfolding all_from
read_all read bytes y p =
    let between : Between bytes (start_of bytes) (position (length bytes) []) = record { left = sym (append-nil bytes); at = omega arith } in
    bind_ok (read (start_of bytes)) ended (y, position (length bytes) []) (p (start_of bytes) (position (length bytes) []) between)

-- ---- heads

pub head_read : (h : Head) (bytes : List ℕ) → HeadStandsAs h bytes → ReadAs head_from bytes h
head_read h bytes stands here there at = lies_head h here there (stands here there at)

pub map_head_stands : (n : ℕ) → n < 2 ^ 32 → HeadStandsAs (head.Map n) (map_head n)
map_head_stands n lt here there at = record { bytes = map_head n; spelled = map_head_spelled n lt; between = at }

pub array_head_stands : (n : ℕ) → n < 2 ^ 32 → HeadStandsAs (head.Array n) (array_head n)
array_head_stands n lt here there at = record { bytes = array_head n; spelled = array_head_spelled n lt; between = at }

pub str_head_stands : (n : ℕ) → n < 2 ^ 32 → HeadStandsAs (head.Str n) (str_head n)
str_head_stands n lt here there at = record { bytes = str_head n; spelled = str_head_spelled n lt; between = at }

pub bin_head_stands : (n : ℕ) → n < 2 ^ 32 → HeadStandsAs (head.Bin n) (bin_head n)
bin_head_stands n lt here there at = record { bytes = bin_head n; spelled = bin_head_spelled n lt; between = at }

pub uint_stands : (n : ℕ) → n < 2 ^ 64 → HeadStandsAs (head.Int (pos n)) (uint_bytes n)
uint_stands n lt here there at = record { bytes = uint_bytes n; spelled = uint_spelled n lt; between = at }

pub bytes_read : (bytes : List ℕ) → ReadAs (bytes_from (length bytes)) bytes bytes
bytes_read bytes here there at =
    ap (bytes_from (length bytes)) (between_here bytes here there at) ∙ bytes_then here.at (length bytes) bytes there.left refl
    ∙ ap (λ (q : Position). Ok (bytes, q)) (sym (between_there bytes here there at))

-- ---- values

pub str_read_back : (payload : List ℕ) → length payload < 2 ^ 32 → ReadAs str_from (str_bytes payload) (Some payload)
unfolding str_from
str_read_back payload lt here there at =
    let h : Halves (str_head (length payload)) payload here there = halves (str_head (length payload)) payload here there at in
    bind_ok (head_from here) (λ h. bytes_or_skipped (str_len h.0) here h.1) (head.Str (length payload), h.mid)
    (head_read (head.Str (length payload)) (str_head (length payload)) (str_head_stands (length payload) lt) here h.mid h.first)
    ∙ bind_ok (bytes_from (length payload) h.mid) (λ s. Ok (Some s.0, s.1)) (payload, there) (bytes_read payload h.mid there h.second)

pub text_read_back : (payload : List ℕ) → length payload < 2 ^ 32 → is_utf8 payload ≡ true → ReadAs text_from (str_bytes payload) payload
unfolding text_from
text_read_back payload lt utf8 here there at =
    let h : Halves (str_head (length payload)) payload here there = halves (str_head (length payload)) payload here there at in
    bind_ok (head_from here) (λ h. text_or_wrong (str_len h.0) here h.1) (head.Str (length payload), h.mid)
    (head_read (head.Str (length payload)) (str_head (length payload)) (str_head_stands (length payload) lt) here h.mid h.first)
    ∙ bind_ok (bytes_from (length payload) h.mid) (λ text. cond {A = Read (List ℕ)} (is_utf8 text.0) (Ok text) (Err (fault_here kind.NotText here))) (payload, there) (bytes_read payload h.mid there h.second)
    ∙ ap (λ (b : Bool). cond {A = Read (List ℕ)} b (Ok (payload, there)) (Err (fault_here kind.NotText here))) utf8

ltb_yes : (m n : ℕ) → m < n → ltb m n ≡ true
ltb_yes m n lt = go (ltb m n) refl
  where
    go : (b : Bool) → ltb m n ≡ b → ltb m n ≡ true
    go true is = is
    go false is = absurd (let le = ltb-false m n is in omega (arith, le))

whole_is : (n : ℕ) → n < 2 ^ 64 → whole (head.Int (pos n)) ≡ Some n
whole_is n lt = ap (λ (b : Bool). cond {A = Option ℕ} b (Some n) None) (ltb_yes n (2 ^ 64) lt)

pub number_read_back : (n : ℕ) → n < 2 ^ 64 → ReadAs number_from (uint_bytes n) (Some n)
unfolding number_from
number_read_back n lt here there at =
    bind_ok (head_from here) (λ h. number_or_skipped (whole h.0) here h.1) (head.Int (pos n), there) (head_read (head.Int (pos n)) (uint_bytes n) (uint_stands n lt) here there at)
    ∙ ap (λ (o : Option ℕ). number_or_skipped o here there) (whole_is n lt)

-- a value that is skipped
pub skipped_back : {X : Type 0} (x : X) (v : Value) (bytes : List ℕ) → Spells v bytes → ReadAs (skipped x) bytes x
skipped_back x v bytes spelled here there at =
    bind_ok (values_from 1 here) (λ there. Ok (x, there)) there (lies_value v here there (record { bytes = bytes; spelled = spelled; between = at }))

-- an empty array
pub no_elements : Value
no_elements = value (head.Array 0) [] none

pub no_elements_spelled : Spells no_elements (array_head 0)
unfolding no_elements
no_elements_spelled = (array_head 0, [], record { head = array_head_spelled 0 (omega arith); payload_len = refl; part_count = refl }, refl, refl)

-- ---- maps

-- a map of so many pairs that are read as this
pub map_read_back : {Y : Type 0} (entries : ℕ → Position → Read Y) (n : ℕ) (body : List ℕ) (y : Y) → n < 2 ^ 32 → ReadAs (entries n) body y → ReadAs (map_from entries) (map_head n ++ body) y
unfolding map_from map_head_from
map_read_back entries n body y lt p here there at =
    let h : Halves (map_head n) body here there = halves (map_head n) body here there at in
    let first : map_head_from here ≡ Ok (n, h.mid) =
    bind_ok (head_from here) (λ k. pairs_or_wrong (map_len k.0) here k.1) (head.Map n, h.mid) (head_read (head.Map n) (map_head n) (map_head_stands n lt) here h.mid h.first) in
    bind_ok (map_head_from here) (λ k. entries k.0 k.1) (n, h.mid) first ∙ p h.mid there h.second

-- ---- maps of known keys

-- of each key from place n on: it is left out, or what is written behind it is read as this
abbrev pub Written : {D : Type 0} → (ℕ → Position → Read D) → ℕ → List (List ℕ) → List (Option (List ℕ)) → List (Option D) → Type 0
Written datum_from n [] [] [] = Unit {0}
Written datum_from n [] [] (d ∷ ds) = ⊥
Written datum_from n [] (v ∷ vs) ds = ⊥
Written datum_from n (name ∷ names) [] ds = ⊥
Written datum_from n (name ∷ names) (v ∷ vs) [] = ⊥
Written datum_from n (name ∷ names) (None ∷ vs) (None ∷ ds) = Written datum_from (suc n) names vs ds
Written datum_from n (name ∷ names) (None ∷ vs) (Some d ∷ ds) = ⊥
Written datum_from n (name ∷ names) (Some bytes ∷ vs) (None ∷ ds) = ⊥
Written datum_from n (name ∷ names) (Some bytes ∷ vs) (Some d ∷ ds) = ReadAs (datum_from n) bytes d × Written datum_from (suc n) names vs ds

both_true : (a b : Bool) → (a && b) ≡ true → (a ≡ true) × (b ≡ true)
both_true true b e = (refl, e)
both_true false b e = absurd (cc)

not_true : (a : Bool) → not a ≡ true → a ≡ false
not_true true e = absurd (cc)
not_true false e = refl

-- equal to none of some names is unequal to each of them
apart : (name other : List ℕ) (front rest : List (List ℕ)) → list_any (λ q. bytes_eq other q) (front ++ name ∷ rest) ≡ false → bytes_eq name other ≡ false
apart name other [] rest e = go (bytes_eq name other) refl
  where
    go : (b : Bool) → bytes_eq name other ≡ b → bytes_eq name other ≡ false
    go false is = is
    go true is =
        let same : name ≡ other = (bytes_eq-Decides name other).0 is in
        let again : bytes_eq other name ≡ true = ap (λ (q : List ℕ). bytes_eq q name) (sym same) ∙ ap (λ (q : List ℕ). bytes_eq name q) same ∙ is in
        absurd (let both : (bytes_eq other name || list_any (λ q. bytes_eq other q) rest) ≡ true = ap (λ (b : Bool). b || list_any (λ q. bytes_eq other q) rest) again in cc)
apart name other (f ∷ front) rest e = go (bytes_eq other f) (list_any (λ q. bytes_eq other q) (front ++ name ∷ rest)) e (λ less. apart name other front rest less)
  where
    go : (a b : Bool) → (a || b) ≡ false → (b ≡ false → bytes_eq name other ≡ false) → bytes_eq name other ≡ false
    go true b e rest = absurd (cc)
    go false b e rest = rest e

-- the place of a name among different ones
place_found : (name : List ℕ) (front rest : List (List ℕ)) → is_distinct (front ++ name ∷ rest) ≡ true → place_of (front ++ name ∷ rest) (Some name) ≡ length front
place_found name [] rest d = ap (λ (b : Bool). cond b 0 (suc (place_of rest (Some name)))) ((bytes_eq-Decides name name).1 refl)
place_found name (f ∷ front) rest d =
    let both = both_true (not (list_any (λ q. bytes_eq f q) (front ++ name ∷ rest))) (is_distinct (front ++ name ∷ rest)) d in
    let other : bytes_eq name f ≡ false = apart name f front rest (not_true (list_any (λ q. bytes_eq f q) (front ++ name ∷ rest)) both.0) in
    ap (λ (b : Bool). cond b 0 (suc (place_of (front ++ name ∷ rest) (Some name)))) other ∙ ap (λ (n : ℕ). suc n) (place_found name front rest both.1)

-- names whose lengths a head can say
abbrev pub are_short : List (List ℕ) → Bool
are_short = list_all (λ name. nat_lt (length name) (2 ^ 32))

short_one : (name : List ℕ) (front rest : List (List ℕ)) → are_short (front ++ name ∷ rest) ≡ true → length name < 2 ^ 32
short_one name [] rest all = ltb-true (length name) (2 ^ 32) (both_true (nat_lt (length name) (2 ^ 32)) (are_short rest) all).0
short_one name (f ∷ front) rest all = short_one name front rest (both_true (nat_lt (length f) (2 ^ 32)) (are_short (front ++ name ∷ rest)) all).1

module _ {D : Type 0} (names : List (List ℕ)) (distinct : is_distinct names ≡ true) (short : are_short names ≡ true) (required : ℕ) (datum_from : ℕ → Position → Read D) where
  -- a key that was not read yet
  key_written : (name : List ℕ) (front rest : List (List ℕ)) (done later : List (Option D)) → names ≡ front ++ name ∷ rest → length done ≡ length front
      → ReadAs (known_key_from names (done ++ None ∷ later)) (str_bytes name) (length front)
  unfolding known_key_from
  key_written name front rest done later is len here there at =
      let place : place_of names (Some name) ≡ length front = ap (λ (ns : List (List ℕ)). place_of ns (Some name)) is ∙ place_found name front rest (ap is_distinct (sym is) ∙ distinct) in
      let new : slice_index_or (done ++ None ∷ later) (place_of names (Some name)) None ≡ None = ap (λ (n : ℕ). slice_index_or (done ++ None ∷ later) n None) (place ∙ sym len) ∙ get_or-append_seam done None later None in
      bind_ok (str_from here) (λ k. cond {A = Read ℕ} (is_some (slice_index_or (done ++ None ∷ later) (place_of names k.0) None)) (Err (fault_here kind.Repeated here)) (Ok (place_of names k.0, k.1))) (Some name, there) (str_read_back name (short_one name front rest (ap are_short (sym is) ∙ short)) here there at)
      ∙ ap (λ (o : Option D). cond {A = Read ℕ} (is_some o) (Err (fault_here kind.Repeated here)) (Ok (place_of names (Some name), there))) new
      ∙ ap (λ (n : ℕ). Ok (n, there)) place

  -- the value behind it
  value_written : (n : ℕ) (bytes : List ℕ) (d : D) (done later : List (Option D)) → n < length names → length done ≡ n → ReadAs (datum_from n) bytes d
      → ReadAs (known_value_from names datum_from (done ++ None ∷ later) n) bytes (done ++ Some d ∷ later)
  unfolding known_value_from
  value_written n bytes d done later lt len reads here there at =
      ap (λ (b : Bool). cond {A = Read (List (Option D))} b (datum_from n here >>= λ d. Ok (slice_set (done ++ None ∷ later) n (Some d.0), d.1)) (skipped (done ++ None ∷ later) here)) (ltb_yes n (length names) lt)
      ∙ bind_ok (datum_from n here) (λ d. Ok (slice_set (done ++ None ∷ later) n (Some d.0), d.1)) (d, there) (reads here there at)
      ∙ ap (λ (k : ℕ). Ok (slice_set (done ++ None ∷ later) k (Some d), there)) (sym len)
      ∙ ap (λ (s : List (Option D)). Ok (s, there)) (set-append_seam done None later (Some d))

  -- what is left of a map of known keys, whose end is a map's whose required keys were read
  entries_written : (n : ℕ) (front rest : List (List ℕ)) (done ds : List (Option D)) (values : List (Option (List ℕ))) → names ≡ front ++ rest → length front ≡ n → length done ≡ n
      → Written datum_from n rest values ds → list_all is_some (take required (done ++ ds)) ≡ true
      → ReadAs (entries_from (known_key_from names) (known_value_from names datum_from) (known_end_from required) (value_count values) (done ++ unread rest)) (pairs_bytes rest values) (done ++ ds)
  unfolding entries_from known_end_from
  entries_written n front [] done [] [] is len many w all here there at =
      ap (λ (b : Bool). cond {A = Read (List (Option D))} b (Ok (done ++ [], here)) (Err (fault_here kind.Missing here))) all ∙ ap (λ (q : Position). Ok (done ++ [], q)) (nothing_between here there at)
  entries_written n front [] done (d ∷ ds) [] is len many w all here there at = absurd w
  entries_written n front [] done ds (v ∷ vs) is len many w all here there at = absurd w
  entries_written n front (name ∷ rest) done ds [] is len many w all here there at = absurd w
  entries_written n front (name ∷ rest) done [] (v ∷ vs) is len many w all here there at = absurd w
  entries_written n front (name ∷ rest) done (Some d ∷ ds) (None ∷ vs) is len many w all here there at = absurd w
  entries_written n front (name ∷ rest) done (None ∷ ds) (Some bytes ∷ vs) is len many w all here there at = absurd w
  entries_written n front (name ∷ rest) done (None ∷ ds) (None ∷ vs) is len many w all here there at =
      let seam : (done ++ None ∷ []) ++ ds ≡ done ++ None ∷ ds = append_assoc done (None ∷ []) ds in
      let more : (done ++ None ∷ []) ++ unread rest ≡ done ++ None ∷ unread rest = append_assoc done (None ∷ []) (unread rest) in
      let names_more : names ≡ (front ++ name ∷ []) ++ rest = is ∙ sym (append_assoc front (name ∷ []) rest) in
      subst (λ (s : List (Option D)). ReadAs (entries_from (known_key_from names) (known_value_from names datum_from) (known_end_from required) (value_count vs) s) (pairs_bytes rest vs) (done ++ None ∷ ds)) more
      (subst (λ (s : List (Option D)). ReadAs (entries_from (known_key_from names) (known_value_from names datum_from) (known_end_from required) (value_count vs) ((done ++ None ∷ []) ++ unread rest)) (pairs_bytes rest vs) s) seam
      (entries_written (suc n) (front ++ name ∷ []) rest (done ++ None ∷ []) ds vs names_more (omega (arith, length-append front (name ∷ []))) (omega (arith, length-append done (None ∷ []))) w (ap (λ (s : List (Option D)). list_all is_some (take required s)) seam ∙ all))) here there at
  entries_written n front (name ∷ rest) done (Some d ∷ ds) (Some bytes ∷ vs) is len many w all here there at =
      let seam : (done ++ Some d ∷ []) ++ ds ≡ done ++ Some d ∷ ds = append_assoc done (Some d ∷ []) ds in
      let more : (done ++ Some d ∷ []) ++ unread rest ≡ done ++ Some d ∷ unread rest = append_assoc done (Some d ∷ []) (unread rest) in
      let names_more : names ≡ (front ++ name ∷ []) ++ rest = is ∙ sym (append_assoc front (name ∷ []) rest) in
      let pair : Halves (str_bytes name ++ bytes) (pairs_bytes rest vs) here there = halves (str_bytes name ++ bytes) (pairs_bytes rest vs) here there at in
      let key : Halves (str_bytes name) bytes here pair.mid = halves (str_bytes name) bytes here pair.mid pair.first in
      let room : n < length names = let e : length names ≡ length front + length (name ∷ rest) = ap length is ∙ length-append front (name ∷ rest) in omega arith in
      bind_ok (known_key_from names (done ++ None ∷ unread rest) here)
      (λ k. known_value_from names datum_from (done ++ None ∷ unread rest) k.0 k.1 >>= λ t. entries_from (known_key_from names) (known_value_from names datum_from) (known_end_from required) (value_count vs) t.0 t.1) (n, key.mid)
      (key_written name front rest done (unread rest) is (many ∙ sym len) here key.mid key.first ∙ ap (λ (k : ℕ). Ok (k, key.mid)) len)
      ∙ bind_ok (known_value_from names datum_from (done ++ None ∷ unread rest) n key.mid) (λ t. entries_from (known_key_from names) (known_value_from names datum_from) (known_end_from required) (value_count vs) t.0 t.1) (done ++ Some d ∷ unread rest, pair.mid)
      (value_written n bytes d done (unread rest) room many w.0 key.mid pair.mid key.second)
      ∙ ap (λ (s : List (Option D)). entries_from (known_key_from names) (known_value_from names datum_from) (known_end_from required) (value_count vs) s pair.mid) (sym more)
      ∙ entries_written (suc n) (front ++ name ∷ []) rest (done ++ Some d ∷ []) ds vs names_more (omega (arith, length-append front (name ∷ []))) (omega (arith, length-append done (Some d ∷ []))) w.1
      (ap (λ (s : List (Option D)). list_all is_some (take required s)) seam ∙ all) pair.mid there pair.second
      ∙ ap (λ (s : List (Option D)). Ok (s, there)) seam

  -- a map of known keys is read as what was written behind each key
  pub known_map_written : (values : List (Option (List ℕ))) (ds : List (Option D)) → value_count values < 2 ^ 32 → Written datum_from 0 names values ds → list_all is_some (take required ds) ≡ true
      → ReadAs (known_map_from names required datum_from) (known_map_bytes names values) ds
  unfolding known_map_from
  known_map_written values ds few w all =
      map_read_back (λ n there. entries_from (known_key_from names) (known_value_from names datum_from) (known_end_from required) n (unread names) there) (value_count values) (pairs_bytes names values) ds few
      (entries_written 0 [] names [] ds values refl refl refl w all)
