-- Texts of which each byte is one of a name.
use Rattle.std.proofs.Common.{◌≡◌, ◌==◌, ◌+◌, ◌<◌, ◌≤◌, ℕ, zero, suc, List, [], ◌∷◌, Bool, true, false, length, refl, sym, ap, ◌∙◌, arith, inl, inr, subst}
use Rattle.std.specs.Prelude.{not, nat_lt, Option, None, Some, IfSome, Ok}
use Rattle.std.specs.Borrow.{Bor}
use Rattle.std.specs.Option.{unwrap_or}
use Rattle.byte_text.specs.Text.{text_of}
use Rattle.std.specs.Char.{to_ascii_lowercase}
use Rattle.std.specs.List.{prefix_len, take_while}
use Rattle.std.specs.Str.{IsAscii}
use Rattle.std.proofs.lemmas.Bool.{cases_Bool}
use Rattle.std.proofs.lemmas.Bool.Decides.{nat_tests}
use Rattle.std.proofs.lemmas.List.Sums.{take_while-cons}
use Rattle.std.proofs.lemmas.Str.Ascii.{lowercase-lowercase}
use Rattle.conda_name.specs.Name.{IsName, first_wrong, is_name_byte, lower_case, name_of}

-- each byte is one of a name
abbrev pub AreNameBytes : List ℕ → Type 0
AreNameBytes [] = Unit {0}
AreNameBytes (b ∷ rest) = (is_name_byte b ≡ true) × AreNameBytes rest

-- no byte is wrong where each is one of a name
all-len : (t : List ℕ) → AreNameBytes t → prefix_len (λ b. not (not (is_name_byte b))) t ≡ length t
all-len [] a = refl
all-len (b ∷ rest) a = let r = all-len rest a.1 in rw a.0 (omega (arith, r))

-- none is wrong where each is one of a name
pub all-right : (t : List ℕ) → AreNameBytes t → first_wrong t ≡ None
all-right t a =
    let e = all-len t a in
    let over : nat_lt (prefix_len (λ b. not (not (is_name_byte b))) t) (length t) ≡ false = grind (arith, nat_tests) in
    rw over refl

-- all are passed where none is wrong
len-all : (t : List ℕ) → length t ≤ prefix_len (λ b. not (not (is_name_byte b))) t → AreNameBytes t
len-all [] h = tt
len-all (b ∷ rest) h = elim (cases_Bool (is_name_byte b)) [
  | inl yes' ↦ (yes', len-all rest (let g : length (b ∷ rest) ≤ 1 + prefix_len (λ c. not (not (is_name_byte c))) rest = simp yes' at h in omega (arith, g)))
  | inr no' ↦ absurd (let g : length (b ∷ rest) ≤ 0 = simp no' at h in omega (arith, g))
]

-- each is one of a name where none is wrong
pub right-all : (t : List ℕ) → first_wrong t ≡ None → AreNameBytes t
right-all t e = len-all t (by (nat_lt (prefix_len (λ b. not (not (is_name_byte b))) t) (length t)) refl)
  where
    by : (below : Bool) → nat_lt (prefix_len (λ b. not (not (is_name_byte b))) t) (length t) ≡ below → length t ≤ prefix_len (λ b. not (not (is_name_byte b))) t
    by true is = cc (rw is at e)
    by false is = grind (arith, nat_tests)

-- lower case keeps names
lower-byte : (b : ℕ) → is_name_byte b ≡ true → is_name_byte (to_ascii_lowercase b) ≡ true
lower-byte b e = grind (arith, nat_tests)

-- so does each byte
lower-all : (t : List ℕ) → AreNameBytes t → AreNameBytes (lower_case t)
lower-all [] a = tt
lower-all (b ∷ rest) a = (lower-byte b a.0, lower-all rest a.1)

-- lower case twice is lower case
lower-lower : (t : List ℕ) → lower_case (lower_case t) ≡ lower_case t
lower-lower [] = refl
lower-lower (b ∷ rest) = (λ i. lowercase-lowercase b i ∷ lower-lower rest i)

-- what a text reads as, where each byte is one of a name
pub reads-lower : (t : List ℕ) → (length t == 0) ≡ false → AreNameBytes t → name_of t ≡ Ok (lower_case t)
reads-lower [] h a = cc h
reads-lower (b ∷ rest) h a = rw (all-right (b ∷ rest) a) refl

-- the lower case of a text without a wrong byte is a name
pub lower-name : (t : List ℕ) → (length t == 0) ≡ false → first_wrong t ≡ None → IsName (lower_case t)
lower-name [] h e = cc h
lower-name (b ∷ rest) h e =
    let some : (length (lower_case (b ∷ rest)) == 0) ≡ false = grind (arith, nat_tests) in
    reads-lower (lower_case (b ∷ rest)) some (lower-all (b ∷ rest) (right-all (b ∷ rest) e)) ∙ ap Ok (lower-lower (b ∷ rest))

-- the run of bytes of a name
pub run-all : (t : List ℕ) → AreNameBytes (take_while is_name_byte t)
run-all [] = tt
run-all (b ∷ rest) = elim (cases_Bool (is_name_byte b)) [
  | inl yes' ↦ rw (take_while-cons is_name_byte b rest, yes') (yes', run-all rest)
  | inr no' ↦ rw (take_while-cons is_name_byte b rest, no') tt
]

-- it is ASCII
name-byte-ascii : (b : ℕ) → is_name_byte b ≡ true → b < 128
name-byte-ascii b e = grind (arith, nat_tests)

-- so is each byte
pub all-ascii : (t : List ℕ) → AreNameBytes t → IsAscii t
all-ascii [] a i = omega arith
all-ascii (b ∷ rest) a zero = name-byte-ascii b a.0
all-ascii (b ∷ rest) a (suc i) = all-ascii rest a.1 i

-- a run that isn't empty is read as a name
pub run-reads : (t run : List ℕ) → run ≡ take_while is_name_byte t → (length run == 0) ≡ false → name_of run ≡ Ok (lower_case run)
run-reads t run e some = let P : List ℕ → Type 0 = AreNameBytes in reads-lower run some (subst P (sym e) (run-all t))

-- a run is ASCII
pub run-ascii : (t run : List ℕ) → run ≡ take_while is_name_byte t → IsAscii run
run-ascii t run e = let P : List ℕ → Type 0 = AreNameBytes in all-ascii run (subst P (sym e) (run-all t))

-- what was found is that run
pub found-reads : (found : Option (Bor (List ℕ))) (run : List ℕ) → text_of found ≡ Some run → name_of run ≡ Ok (lower_case run)
    → IfSome found (λ name. name_of name.now ≡ Ok (lower_case name.now))
found-reads None run e r = tt
found-reads (Some name) run e r =
    let same : run ≡ name.now = ap (λ (o : Option (List ℕ)). unwrap_or o []) (sym e) in
    let P : List ℕ → Type 0 = λ t. name_of t ≡ Ok (lower_case t) in
    subst P same r
