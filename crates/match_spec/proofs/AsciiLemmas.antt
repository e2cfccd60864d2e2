-- A constraint has bytes of ASCII alone: each other byte would stand in a leaf, and no such leaf has a reading.
use Rattle.std.proofs.Common.{◌≡◌, ◌==◌, ◌<◌, ◌≤◌, ◌+◌, ℕ, zero, suc, List, [], ◌∷◌, ◌++◌, Bool, true, false, length, map, reverse, drop, refl, sym, arith, inl, inr, subst}
use Rattle.std.specs.Prelude.{◌&&◌, not, nat_lt, codes, Option, None, Some, Result, Ok, Err}
use Rattle.std.specs.Cmp.Lexicographic.{bytes_decides}
use Rattle.std.specs.List.{prefix_len, position_or_len}
use Rattle.std.specs.Result.{IsOk}
use Rattle.std.specs.Str.{IsAscii, IsUtf8}
use Rattle.std.proofs.lemmas.Bool.{cases_Bool, false≢true}
use Rattle.std.proofs.lemmas.Bool.Decides.{nat_tests}
use Rattle.std.proofs.lemmas.List.{reverse-append, reverse-reverse}
use Rattle.std.proofs.lemmas.Str.{IsUtf8-from_ascii}
use Rattle.gateway_words.specs.Ascii.{asterisk, dot, space}
use Rattle.conda_version.specs.Constraint.{constraint_fault, unless_fault}
use Rattle.conda_version.specs.Grammar.{first_wrong, has_underscore, is_wrong, version_of, version_unless}
use Rattle.conda_version.specs.Leaf.{behind_signs, body_of, body_unless, ends_in_star, inner_star, is_compatible, is_text, leaf_by, leaf_of, operand_of, operator_of, signs, strip_end, strip_front, version_text, versioned}
use Rattle.byte_text.specs.Text.{drop_blanks, is_nil, is_sign, sign_len, skip_blanks}
use Rattle.conda_version.specs.Token.{Open, Placed, Token, closed, ended_by, longer, open_behind, sign_of, tokens_from}
use Rattle.conda_version.specs.Version.{Value}
use Rattle.conda_version.specs.declared.fault.ConstraintFault.{ConstraintFault}
use Rattle.conda_version.specs.declared.fault.VersionFault.{VersionFault}
use Rattle.conda_version.proofs.SoundLemmas.{Sound, no-fault-sound, token_of}
use Rattle.match_spec.specs.Reading.{constraint_or, unless_refused}
use Rattle.match_spec.specs.declared.fault.SpecFault.{SpecFault}

-- each byte is one of ASCII
abbrev pub AreAscii : List ℕ → Type 0
AreAscii [] = Unit {0}
AreAscii (b ∷ rest) = (b < 128) × AreAscii rest

-- so is the byte at each place
are-ascii : (t : List ℕ) → AreAscii t → IsAscii t
are-ascii [] a i = omega arith
are-ascii (b ∷ rest) a zero = a.0
are-ascii (b ∷ rest) a (suc i) = are-ascii rest a.1 i

-- ---- texts turned round and cut

both-ascii : (xs ys : List ℕ) → AreAscii xs → AreAscii ys → AreAscii (xs ++ ys)
both-ascii [] ys a b = b
both-ascii (x ∷ xs) ys a b = (a.0, both-ascii xs ys a.1 b)

parts-ascii : (xs ys : List ℕ) → AreAscii (xs ++ ys) → AreAscii xs × AreAscii ys
parts-ascii [] ys a = (tt, a)
parts-ascii (x ∷ xs) ys a = ((a.0, (parts-ascii xs ys a.1).0), (parts-ascii xs ys a.1).1)

turned-ascii : (t : List ℕ) → AreAscii t → AreAscii (reverse t)
turned-ascii [] a = tt
turned-ascii (b ∷ rest) a =
    let P : List ℕ → Type 0 = AreAscii in
    subst P (sym (reverse-append (b ∷ []) rest)) (both-ascii (reverse rest) (b ∷ []) (turned-ascii rest a.1) (a.0, tt))

back-ascii : (t : List ℕ) → AreAscii (reverse t) → AreAscii t
back-ascii t a = let P : List ℕ → Type 0 = AreAscii in subst P (reverse-reverse t) (turned-ascii (reverse t) a)

skip-ascii : (t : List ℕ) → AreAscii (skip_blanks t) → AreAscii t
skip-ascii [] a = tt
skip-ascii (b ∷ rest) a = elim (cases_Bool (b == space)) [
  | inl yes' ↦ ((let h : b ≡ space = grind (arith, nat_tests) in omega (arith, h)), skip-ascii rest (rw yes' at a))
  | inr no' ↦ rw no' at a
]

drop-ascii : (t : List ℕ) → AreAscii (drop_blanks t) → AreAscii t
drop-ascii t a = back-ascii t (skip-ascii (reverse t) (back-ascii (skip_blanks (reverse t)) a))

strip-ascii : (mark : ℕ) (t : List ℕ) → mark < 128 → AreAscii (strip_front mark t) → AreAscii t
strip-ascii mark [] m a = tt
strip-ascii mark (b ∷ rest) m a = elim (cases_Bool (b == mark)) [
  | inl yes' ↦ ((let h : b ≡ mark = grind (arith, nat_tests) in omega (arith, h, m)), rw yes' at a)
  | inr no' ↦ rw no' at a
]

strip-end-ascii : (mark : ℕ) (t : List ℕ) → mark < 128 → AreAscii (strip_end mark t) → AreAscii t
strip-end-ascii mark t m a = back-ascii t (strip-ascii mark (reverse t) m (back-ascii (strip_front mark (reverse t)) a))

-- ---- a leaf that has a reading

-- a byte that isn't refused in a version
version-byte : (b : ℕ) (u : Bool) → is_wrong u b ≡ false → b < 128
version-byte b u e = grind (arith, nat_tests)

right-ascii : (u : Bool) (t : List ℕ) → length t ≤ prefix_len (λ b. not (is_wrong u b)) t → AreAscii t
right-ascii u [] h = tt
right-ascii u (b ∷ rest) h = elim (cases_Bool (is_wrong u b)) [
  | inl yes' ↦ absurd (let g : length (b ∷ rest) ≤ 0 = simp yes' at h in omega (arith, g))
  | inr no' ↦ (version-byte b u no', right-ascii u rest (let g : length (b ∷ rest) ≤ 1 + prefix_len (λ c. not (is_wrong u c)) rest = simp no' at h in omega (arith, g)))
]

none-wrong : (t : List ℕ) → first_wrong t ≡ None → AreAscii t
none-wrong t e = by (nat_lt (position_or_len (is_wrong (has_underscore t)) t) (length t)) refl
  where
    by : (found : Bool) → nat_lt (position_or_len (is_wrong (has_underscore t)) t) (length t) ≡ found → AreAscii t
    by true is = cc (rw is at e)
    by false is = right-ascii (has_underscore t) t (grind (arith, nat_tests))

unless-ascii : (from : ℕ) (t : List ℕ) (wrong : Option ℕ) (v : Value) → first_wrong t ≡ wrong → version_unless from t wrong ≡ Ok v → AreAscii t
unless-ascii from t (Some at) v e h = cc h
unless-ascii from t None v e h = none-wrong t e

version-ascii : (t : List ℕ) (v : Value) → version_of t ≡ Ok v → AreAscii t
unfolding version_of
version-ascii t v e = skip-ascii t (drop-ascii (skip_blanks t) (by (is_nil (drop_blanks (skip_blanks t))) refl))
  where
    by : (empty : Bool) → is_nil (drop_blanks (skip_blanks t)) ≡ empty → AreAscii (drop_blanks (skip_blanks t))
    by true is = cc (rw is at e)
    by false is = unless-ascii _ (drop_blanks (skip_blanks t)) (first_wrong (drop_blanks (skip_blanks t))) v refl (rw is at e)

versioned-ascii : (op : _) (star : Bool) (at : ℕ) (t : List ℕ) (r : Result Value VersionFault) → version_of t ≡ r → IsOk (versioned op star at t r) → AreAscii t
versioned-ascii op star at t (Err f) e h = absurd (false≢true h)
versioned-ascii op star at t (Ok v) e h = version-ascii t v e

text-ascii : (body : List ℕ) → AreAscii (version_text body) → AreAscii body
text-ascii body a = by (ends_in_star body) refl
  where
    by : (star : Bool) → ends_in_star body ≡ star → AreAscii body
    by true is = strip-end-ascii asterisk body (omega arith) (strip-end-ascii dot (strip_end asterisk body) (omega arith) (drop-ascii (strip_end dot (strip_end asterisk body)) (rw is at a)))
    by false is = rw is at a

body-ascii : (op : _) (at : ℕ) (body : List ℕ) → IsOk (body_of op at body) → AreAscii body
body-ascii op at body h = by (is_text body (codes "*")) refl (is_compatible op && ends_in_star body) refl
  where
    by : (star : Bool) → is_text body (codes "*") ≡ star → (wrong : Bool) → (is_compatible op && ends_in_star body) ≡ wrong → AreAscii body
    by true is wrong w = (let P : List ℕ → Type 0 = AreAscii in subst P (sym ((bytes_decides body (codes "*")).0 is)) (omega arith, tt))
    by false is true w = absurd (false≢true (rw (is, w) at h))
    by false is false w = text-ascii body (versioned-ascii op (ends_in_star body) at (version_text body) (version_of (version_text body)) refl (rw (is, w) at h))

unless-star-ascii : (op : _) (at : ℕ) (body : List ℕ) (star : Option ℕ) → IsOk (body_unless op at body star) → AreAscii body
unless-star-ascii op at body (Some n) h = absurd (false≢true h)
unless-star-ascii op at body None h = body-ascii op at body h

operand-ascii : (op : _) (at : ℕ) (t : List ℕ) → IsOk (operand_of op at t) → AreAscii t
operand-ascii op at t h = drop-ascii t (unless-star-ascii op at (drop_blanks t) (inner_star (drop_blanks t)) h)

-- a sign is one of ASCII
sign-ascii : (b : ℕ) → is_sign b ≡ true → b < 128
sign-ascii b e = grind (arith, nat_tests)

signs-ascii : (t : List ℕ) → AreAscii (drop (sign_len t) t) → AreAscii t
signs-ascii [] a = tt
signs-ascii (b ∷ rest) a = elim (cases_Bool (is_sign b)) [
  | inl yes' ↦ (sign-ascii b yes', signs-ascii rest (rw yes' at a))
  | inr no' ↦ rw no' at a
]

by-ascii : (t : List ℕ) (op : Option _) → IsOk (leaf_by t op) → AreAscii t
by-ascii t None h = absurd (false≢true h)
by-ascii t (Some op) h = signs-ascii t (skip-ascii (behind_signs t) (operand-ascii op _ (skip_blanks (behind_signs t)) h))

leaf-ascii : (t : List ℕ) → IsOk (leaf_of t) → AreAscii t
unfolding leaf_of
leaf-ascii t h = by-ascii t (operator_of (signs t)) h

-- ---- the tokens of a constraint

-- a leaf that is open has bytes of ASCII
abbrev OpenAscii : Open → Type 0
OpenAscii None = Unit {0}
OpenAscii (Some l) = AreAscii l.1

-- some tokens may follow
abbrev FollowSound : List Placed → Type 0
FollowSound ps = (item : Bool) × (depth : ℕ) × Sound item depth (map token_of ps)

closed-ascii : (l : Open) (ps : List Placed) (item : Bool) (depth : ℕ) → Sound item depth (map token_of (closed l ++ ps)) → OpenAscii l × FollowSound ps
closed-ascii None ps item depth s = (tt, (item, depth, s))
closed-ascii (Some l) ps item depth s = (leaf-ascii l.1 s.0.1, (true, depth, s.1))

longer-ascii : (l : Open) (at b : ℕ) → OpenAscii (longer l at b) → OpenAscii l × (b < 128)
longer-ascii None at b a = elim (cases_Bool (b == space)) [
  | inl yes' ↦ (tt, (let h : b ≡ space = grind (arith, nat_tests) in omega (arith, h)))
  | inr no' ↦ (tt, (let g : OpenAscii (Some (at, b ∷ [])) = rw no' at a in g.0))
]
longer-ascii (Some l) at b a = ((parts-ascii l.1 (b ∷ []) a).0, (parts-ascii l.1 (b ∷ []) a).1.0)

-- a sign between leaves is one of ASCII
mark-ascii : (b : ℕ) (sign : Token) → sign_of b ≡ Some sign → b < 128
mark-ascii b sign e = by (nat_lt b 128) refl
  where
    by : (below : Bool) → nat_lt b 128 ≡ below → b < 128
    by true is = grind (arith, nat_tests)
    by false is =
        let left : (b == 0x28) ≡ false = grind (arith, nat_tests) in
        let right : (b == 0x29) ≡ false = grind (arith, nat_tests) in
        let and : (b == 0x2c) ≡ false = grind (arith, nat_tests) in
        let or : (b == 0x7c) ≡ false = grind (arith, nat_tests) in
        cc (rw (left, right, and, or) at e)

step-ascii : (b : ℕ) (rest : List ℕ) (l : Open) (at : ℕ) (item : Bool) (depth : ℕ) (sign : Option Token) → sign_of b ≡ sign
    → ((item : Bool) (depth : ℕ) (l : Open) → Sound item depth (map token_of (tokens_from l (suc at) rest)) → OpenAscii l × AreAscii rest)
    → Sound item depth (map token_of (ended_by l at sign (tokens_from (open_behind l at b sign) (suc at) rest))) → OpenAscii l × AreAscii (b ∷ rest)
step-ascii b rest l at item depth None e later s =
    let found = later item depth (longer l at b) s in
    let opened = longer-ascii l at b found.0 in
    (opened.0, (opened.1, found.1))
step-ascii b rest l at item depth (Some sign) e later s =
    let cut = closed-ascii l (record { at = at; token = sign } ∷ tokens_from None (suc at) rest) item depth s in
    (cut.0, (mark-ascii b sign e, (later _ _ None cut.1.2.1).1))

tokens-ascii : (t : List ℕ) (at : ℕ) (item : Bool) (depth : ℕ) (l : Open) → Sound item depth (map token_of (tokens_from l at t)) → OpenAscii l × AreAscii t
tokens-ascii [] at item depth None s = (tt, tt)
tokens-ascii [] at item depth (Some l) s = (leaf-ascii l.1 s.0.1, tt)
tokens-ascii (b ∷ rest) at item depth l s = step-ascii b rest l at item depth (sign_of b) refl (tokens-ascii rest (suc at)) s

-- a text without a fault is one of ASCII
pub constraint-ascii : (t : List ℕ) → constraint_fault t ≡ None → IsAscii t
constraint-ascii t e = are-ascii t (tokens-ascii t 0 false 0 None (no-fault-sound t e)).1

-- bytes that are no UTF-8 are no constraint
pub bytes-refused : (f : SpecFault) (t : List ℕ) → (IsUtf8 t → ⊥) → constraint_or f t ≡ Err f
unfolding constraint_or
bytes-refused f t n = by (constraint_fault t) refl
  where
    by : (found : Option ConstraintFault) → constraint_fault t ≡ found → unless_refused f (unless_fault t found) ≡ Err f
    by None e = absurd (n (IsUtf8-from_ascii t (constraint-ascii t e)))
    by (Some g) e = refl
