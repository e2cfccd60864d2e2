-- What is written is a spelling, and no spelling of the same value is shorter.
use Rattle.std.proofs.Common.{◌≡◌, refl, sym, ◌∙◌, ap, subst, ℕ, pos, negsuc, zero, suc, ◌+◌, ◌-◌, ◌*◌, ◌^◌, ◌<◌, ◌≤◌, Bool, true, false, List, [], ◌∷◌, ◌++◌, length, take, arith, length-append}
use Rattle.std.specs.Prelude.{◌||◌, ◌==◌, nat_lt, Ok, slice_index_or}
use Rattle.std.specs.Int.{w16, w32, w64, to_be_bytes}
use Rattle.std.specs.List.{list_all}
use Rattle.std.proofs.lemmas.List.{take_all, append-nil}
use Rattle.std.proofs.lemmas.List.Folds.{list_all-append}
use Rattle.std.proofs.Math.Nat.{mul-le-mul_right}
use Rattle.std.proofs.lemmas.Nat.{from_be_bytes-to_be_bytes_2, from_be_bytes-to_be_bytes_4, from_be_bytes-to_be_bytes_8}
use Rattle.mp_codec.specs.declared.head.Head.{Head}
use Rattle.mp_codec.specs.declared.head.Head.TheVariants as head
use Rattle.mp_codec.specs.declared.head.Form.{Form}
use Rattle.mp_codec.specs.declared.head.Form.TheVariants.{Whole, Never, Followed}
use Rattle.mp_codec.specs.declared.head.Behind.{Behind}
use Rattle.mp_codec.specs.declared.head.Behind.TheVariants as behind
use Rattle.mp_codec.specs.Format.{big_endian, form, middle_forms, signed, head_behind, head_of_form, head_at, part_count}
use Rattle.mp_codec.proofs.HeadLemmas.{ok_first, ok_second, Follows, follows}
use Rattle.mp_codec.specs.Value.{Value, value, none}
use Rattle.mp_codec.specs.Spelling.{Spells}
use Rattle.mp_codec.specs.Writing.{are_bytes, uint_bytes, str_head, bin_head, array_head, map_head, str_bytes, bin_bytes, uint_value, str_value, bin_value, StandsAs, IsShortest, IsShortestHead}

-- ---- numbers as bytes

pub big_endian_2 : (n : ℕ) → n < 2 ^ 16 → big_endian (to_be_bytes w16 n) ≡ n
big_endian_2 n lt = let e = from_be_bytes-to_be_bytes_2 n lt in omega arith

pub big_endian_4 : (n : ℕ) → n < 2 ^ 32 → big_endian (to_be_bytes w32 n) ≡ n
big_endian_4 n lt = let e = from_be_bytes-to_be_bytes_4 n lt in omega arith

pub big_endian_8_back : (n : ℕ) → n < 2 ^ 64 → big_endian (to_be_bytes w64 n) ≡ n
big_endian_8_back n lt = let e = from_be_bytes-to_be_bytes_8 n lt in omega arith

-- ---- what is written is a spelling

pub uint_spelled : (n : ℕ) → n < 2 ^ 64 → head_at (uint_bytes n) ≡ Ok (head.Int (pos n), length (uint_bytes n))
unfolding head_at form
uint_spelled n lt = grind (arith, big_endian_2 n, big_endian_4 n, big_endian_8_back n)

pub str_head_spelled : (n : ℕ) → n < 2 ^ 32 → head_at (str_head n) ≡ Ok (head.Str n, length (str_head n))
unfolding head_at form
str_head_spelled n lt = grind (arith, big_endian_2 n, big_endian_4 n)

pub bin_head_spelled : (n : ℕ) → n < 2 ^ 32 → head_at (bin_head n) ≡ Ok (head.Bin n, length (bin_head n))
unfolding head_at form
bin_head_spelled n lt = grind (arith, big_endian_2 n, big_endian_4 n)

pub array_head_spelled : (n : ℕ) → n < 2 ^ 32 → head_at (array_head n) ≡ Ok (head.Array n, length (array_head n))
unfolding head_at form
array_head_spelled n lt = grind (arith, big_endian_2 n, big_endian_4 n)

pub map_head_spelled : (n : ℕ) → n < 2 ^ 32 → head_at (map_head n) ≡ Ok (head.Map n, length (map_head n))
unfolding head_at form
map_head_spelled n lt = grind (arith, big_endian_2 n, big_endian_4 n)

-- ---- no spelling of the same head is shorter

-- a form gives a small head whole, or has so many bytes behind it
abbrev is_narrow : Form → Bool
is_narrow (Whole (head.Int (pos n))) = nat_lt n 128
is_narrow (Whole (head.Int (negsuc n))) = true
is_narrow (Whole (head.Str n)) = nat_lt n 32
is_narrow (Whole (head.Bin n)) = false
is_narrow (Whole (head.Array n)) = nat_lt n 16
is_narrow (Whole (head.Map n)) = nat_lt n 16
is_narrow (Whole head.Nil) = true
is_narrow (Whole (head.Bool b)) = true
is_narrow (Whole head.Float) = true
is_narrow (Whole (head.Ext n)) = true
is_narrow Never = true
is_narrow (Followed n behind.Str) = n == 1 || n == 2 || n == 4
is_narrow (Followed n behind.Bin) = n == 1 || n == 2 || n == 4
is_narrow (Followed n behind.Array) = n == 2 || n == 4
is_narrow (Followed n behind.Map) = n == 2 || n == 4
is_narrow (Followed n behind.Unsigned) = n == 1 || n == 2 || n == 4 || n == 8
is_narrow (Followed n (behind.Signed half)) = n == 1 || n == 2 || n == 4 || n == 8
is_narrow (Followed n _) = true

-- an element of a list whose elements are all so, or another one that is so
all_or : (p : Form → Bool) (forms : List Form) (i : ℕ) (d : Form) → list_all p forms ≡ true → p d ≡ true → p (slice_index_or forms i d) ≡ true
all_or p [] i d all is = is
all_or p (f ∷ forms) zero d all is = grind arith
all_or p (f ∷ forms) (suc i) d all is = all_or p forms i d (grind arith) is

form_narrow : (b : ℕ) → is_narrow (form b) ≡ true
unfolding form
form_narrow b =
    let middle : is_narrow (slice_index_or middle_forms (b - 0xc0) Never) ≡ true = all_or is_narrow middle_forms (b - 0xc0) Never refl refl in
    grind arith

-- so many bytes spell a number below 256 to their power
bounded : (bs : List ℕ) → are_bytes bs ≡ true → big_endian bs < 256 ^ length bs
bounded [] all = omega arith
bounded (b ∷ bs) all =
    let small : b < 256 = grind arith in
    let others : big_endian bs < 256 ^ length bs = bounded bs (grind arith) in
    let most : suc b * 256 ^ length bs ≤ 256 * 256 ^ length bs = mul-le-mul_right (256 ^ length bs) small in
    grind (arith, others, most)

-- a head that some bytes spell is small and takes one byte, or is read of the bytes behind its first one
data HowSpelled (h : Head) (bytes : List ℕ) : Type 0 where
  whole : is_narrow (Whole h) ≡ true → length bytes ≡ 1 → HowSpelled h bytes
  followed : (n : ℕ) (b : Behind) (rest : List ℕ) → is_narrow (Followed n b) ≡ true → length bytes ≡ n + 1
      → big_endian rest < 256 ^ n → head_behind b rest ≡ h → HowSpelled h bytes

how_spelled : (h : Head) (bytes : List ℕ) → are_bytes bytes ≡ true → head_at bytes ≡ Ok (h, length bytes) → HowSpelled h bytes
unfolding head_at
how_spelled h [] all e = absurd (cc)
how_spelled h (first ∷ rest) all e = go (form first) refl e
  where
    go : (fm : Form) → form first ≡ fm → head_of_form fm rest ≡ Ok (h, length (first ∷ rest)) → HowSpelled h (first ∷ rest)
    go (Whole g) is e =
        let same : g ≡ h = ok_first e in
        let narrow : is_narrow (Whole g) ≡ true = ap is_narrow (sym is) ∙ form_narrow first in
        whole (ap (λ k. is_narrow (Whole k)) (sym same) ∙ narrow) (sym (ok_second e))
    go Never is e = absurd (cc)
    go (Followed n b) is e =
        let f : Follows n b rest h (length (first ∷ rest)) = follows n b rest h (length (first ∷ rest)) e in
        let len : length (first ∷ rest) ≡ n + 1 = f.len in
        let many : length rest ≡ n = omega arith in
        let all_of : take n rest ≡ rest = take_all n rest (omega arith) in
        let below : big_endian rest < 256 ^ length rest = bounded rest (grind arith) in
        followed n b rest (ap is_narrow (sym is) ∙ form_narrow first) len
        (subst (λ (k : ℕ). big_endian rest < 256 ^ k) many below)
        (ap (head_behind b) (sym all_of) ∙ f.head)

-- a number below such a power takes no more than so many bytes behind the first one
uint_fits : (n k : ℕ) → (k == 1 || k == 2 || k == 4 || k == 8) ≡ true → n < 256 ^ k → length (uint_bytes n) ≤ k + 1
uint_fits n k is lt = grind arith

-- a number in two's complement that is not negative is the number that the bytes spell
not_negative : (half x n : ℕ) → signed half x ≡ pos n → x ≡ n
not_negative half x n e = grind arith

pub uint_shortest : (n : ℕ) (bytes : List ℕ) → are_bytes bytes ≡ true → head_at bytes ≡ Ok (head.Int (pos n), length bytes) → length (uint_bytes n) ≤ length bytes
uint_shortest n bytes all e = go (how_spelled (head.Int (pos n)) bytes all e)
  where
    go : HowSpelled (head.Int (pos n)) bytes → length (uint_bytes n) ≤ length bytes
    go (whole narrow len) = grind arith
    go (followed k behind.Unsigned rest narrow len below is) =
        let same : big_endian rest ≡ n = cc in
        let fits : length (uint_bytes n) ≤ k + 1 = uint_fits n k narrow (subst (λ (x : ℕ). x < 256 ^ k) same below) in
        omega arith
    go (followed k (behind.Signed half) rest narrow len below is) =
        let same : big_endian rest ≡ n = not_negative half (big_endian rest) n (cc) in
        let fits : length (uint_bytes n) ≤ k + 1 = uint_fits n k narrow (subst (λ (x : ℕ). x < 256 ^ k) same below) in
        omega arith
    go (followed k behind.Str rest narrow len below is) = absurd (cc)
    go (followed k behind.Bin rest narrow len below is) = absurd (cc)
    go (followed k behind.Array rest narrow len below is) = absurd (cc)
    go (followed k behind.Map rest narrow len below is) = absurd (cc)
    go (followed k behind.Ext rest narrow len below is) = absurd (cc)
    go (followed k (behind.Type t) rest narrow len below is) = absurd (cc)
    go (followed k behind.Float rest narrow len below is) = absurd (cc)

str_fits : (n k : ℕ) → (k == 1 || k == 2 || k == 4) ≡ true → n < 256 ^ k → length (str_head n) ≤ k + 1
str_fits n k is lt = grind arith

pub str_head_shortest : (n : ℕ) (bytes : List ℕ) → are_bytes bytes ≡ true → head_at bytes ≡ Ok (head.Str n, length bytes) → length (str_head n) ≤ length bytes
str_head_shortest n bytes all e = go (how_spelled (head.Str n) bytes all e)
  where
    go : HowSpelled (head.Str n) bytes → length (str_head n) ≤ length bytes
    go (whole narrow len) = grind arith
    go (followed k behind.Str rest narrow len below is) =
        let same : big_endian rest ≡ n = cc in
        let fits : length (str_head n) ≤ k + 1 = str_fits n k narrow (subst (λ (x : ℕ). x < 256 ^ k) same below) in
        omega arith
    go (followed k behind.Bin rest narrow len below is) = absurd (cc)
    go (followed k behind.Array rest narrow len below is) = absurd (cc)
    go (followed k behind.Map rest narrow len below is) = absurd (cc)
    go (followed k behind.Ext rest narrow len below is) = absurd (cc)
    go (followed k (behind.Type t) rest narrow len below is) = absurd (cc)
    go (followed k behind.Float rest narrow len below is) = absurd (cc)
    go (followed k behind.Unsigned rest narrow len below is) = absurd (cc)
    go (followed k (behind.Signed half) rest narrow len below is) = absurd (cc)

bin_fits : (n k : ℕ) → (k == 1 || k == 2 || k == 4) ≡ true → n < 256 ^ k → length (bin_head n) ≤ k + 1
bin_fits n k is lt = grind arith

pub bin_head_shortest : (n : ℕ) (bytes : List ℕ) → are_bytes bytes ≡ true → head_at bytes ≡ Ok (head.Bin n, length bytes) → length (bin_head n) ≤ length bytes
bin_head_shortest n bytes all e = go (how_spelled (head.Bin n) bytes all e)
  where
    go : HowSpelled (head.Bin n) bytes → length (bin_head n) ≤ length bytes
    go (whole narrow len) = grind arith
    go (followed k behind.Bin rest narrow len below is) =
        let same : big_endian rest ≡ n = cc in
        let fits : length (bin_head n) ≤ k + 1 = bin_fits n k narrow (subst (λ (x : ℕ). x < 256 ^ k) same below) in
        omega arith
    go (followed k behind.Str rest narrow len below is) = absurd (cc)
    go (followed k behind.Array rest narrow len below is) = absurd (cc)
    go (followed k behind.Map rest narrow len below is) = absurd (cc)
    go (followed k behind.Ext rest narrow len below is) = absurd (cc)
    go (followed k (behind.Type t) rest narrow len below is) = absurd (cc)
    go (followed k behind.Float rest narrow len below is) = absurd (cc)
    go (followed k behind.Unsigned rest narrow len below is) = absurd (cc)
    go (followed k (behind.Signed half) rest narrow len below is) = absurd (cc)

array_fits : (n k : ℕ) → (k == 2 || k == 4) ≡ true → n < 256 ^ k → length (array_head n) ≤ k + 1
array_fits n k is lt = grind arith

pub array_head_shortest : (n : ℕ) (bytes : List ℕ) → are_bytes bytes ≡ true → head_at bytes ≡ Ok (head.Array n, length bytes) → length (array_head n) ≤ length bytes
array_head_shortest n bytes all e = go (how_spelled (head.Array n) bytes all e)
  where
    go : HowSpelled (head.Array n) bytes → length (array_head n) ≤ length bytes
    go (whole narrow len) = grind arith
    go (followed k behind.Array rest narrow len below is) =
        let same : big_endian rest ≡ n = cc in
        let fits : length (array_head n) ≤ k + 1 = array_fits n k narrow (subst (λ (x : ℕ). x < 256 ^ k) same below) in
        omega arith
    go (followed k behind.Str rest narrow len below is) = absurd (cc)
    go (followed k behind.Bin rest narrow len below is) = absurd (cc)
    go (followed k behind.Map rest narrow len below is) = absurd (cc)
    go (followed k behind.Ext rest narrow len below is) = absurd (cc)
    go (followed k (behind.Type t) rest narrow len below is) = absurd (cc)
    go (followed k behind.Float rest narrow len below is) = absurd (cc)
    go (followed k behind.Unsigned rest narrow len below is) = absurd (cc)
    go (followed k (behind.Signed half) rest narrow len below is) = absurd (cc)

map_fits : (n k : ℕ) → (k == 2 || k == 4) ≡ true → n < 256 ^ k → length (map_head n) ≤ k + 1
map_fits n k is lt = grind arith

pub map_head_shortest : (n : ℕ) (bytes : List ℕ) → are_bytes bytes ≡ true → head_at bytes ≡ Ok (head.Map n, length bytes) → length (map_head n) ≤ length bytes
map_head_shortest n bytes all e = go (how_spelled (head.Map n) bytes all e)
  where
    go : HowSpelled (head.Map n) bytes → length (map_head n) ≤ length bytes
    go (whole narrow len) = grind arith
    go (followed k behind.Map rest narrow len below is) =
        let same : big_endian rest ≡ n = cc in
        let fits : length (map_head n) ≤ k + 1 = map_fits n k narrow (subst (λ (x : ℕ). x < 256 ^ k) same below) in
        omega arith
    go (followed k behind.Str rest narrow len below is) = absurd (cc)
    go (followed k behind.Bin rest narrow len below is) = absurd (cc)
    go (followed k behind.Array rest narrow len below is) = absurd (cc)
    go (followed k behind.Ext rest narrow len below is) = absurd (cc)
    go (followed k (behind.Type t) rest narrow len below is) = absurd (cc)
    go (followed k behind.Float rest narrow len below is) = absurd (cc)
    go (followed k behind.Unsigned rest narrow len below is) = absurd (cc)
    go (followed k (behind.Signed half) rest narrow len below is) = absurd (cc)

-- ---- the values that are written

pub uint_read : (n : ℕ) → n < 2 ^ 64 → Spells (uint_value n) (uint_bytes n)
uint_read n lt = (uint_bytes n, [], record { head = uint_spelled n lt; payload_len = refl; part_count = refl }, refl, sym (append-nil (uint_bytes n)))

pub str_read : (payload : List ℕ) → length payload < 2 ^ 32 → Spells (str_value payload) (str_bytes payload)
str_read payload lt = (
  str_head (length payload),
  [],
  record { head = str_head_spelled (length payload) lt; payload_len = refl; part_count = refl },
  refl,
  ap (λ (b : List ℕ). str_head (length payload) ++ b) (sym (append-nil payload)),
)

pub bin_read : (payload : List ℕ) → length payload < 2 ^ 32 → Spells (bin_value payload) (bin_bytes payload)
bin_read payload lt = (
  bin_head (length payload),
  [],
  record { head = bin_head_spelled (length payload) lt; payload_len = refl; part_count = refl },
  refl,
  ap (λ (b : List ℕ). bin_head (length payload) ++ b) (sym (append-nil payload)),
)

pub stands : (v : Value) (bytes : List ℕ) → Spells v bytes → StandsAs v bytes
stands v bytes s here there b = record { bytes = bytes; spelled = s; between = b }

-- a value without parts is as short as its head
whole_shortest : (h : Head) (payload written : List ℕ) → part_count h ≡ 0 → IsShortestHead h written
    → IsShortest (value h payload none) (written ++ payload)
whole_shortest h payload written parts shortest bytes all s =
    let front : List ℕ = s.0 in
    let split : bytes ≡ front ++ (payload ++ s.1) = s.4 in
    let all_front : are_bytes front ≡ true = front_bytes front (payload ++ s.1) (ap are_bytes (sym split) ∙ all) in
    let short : length written ≤ length front = shortest front all_front s.2.head in
    let lengths : length bytes ≡ length front + (length payload + length s.1) = ap length split ∙ length-append front (payload ++ s.1) ∙ ap (λ (k : ℕ). length front + k) (length-append payload s.1) in
    omega (arith, length-append written payload)
  where
    front_bytes : (a b : List ℕ) → are_bytes (a ++ b) ≡ true → are_bytes a ≡ true
    front_bytes a b all = grind (arith, list_all-append (λ (x : ℕ). nat_lt x 256) a b)

pub uint_value_shortest : (n : ℕ) → IsShortest (uint_value n) (uint_bytes n)
uint_value_shortest n =
    subst (λ (b : List ℕ). IsShortest (uint_value n) b) (append-nil (uint_bytes n)) (whole_shortest (head.Int (pos n)) [] (uint_bytes n) refl (uint_shortest n))

pub str_value_shortest : (payload : List ℕ) → IsShortest (str_value payload) (str_bytes payload)
str_value_shortest payload = whole_shortest (head.Str (length payload)) payload (str_head (length payload)) refl (str_head_shortest (length payload))

pub bin_value_shortest : (payload : List ℕ) → IsShortest (bin_value payload) (bin_bytes payload)
bin_value_shortest payload = whole_shortest (head.Bin (length payload)) payload (bin_head (length payload)) refl (bin_head_shortest (length payload))
