-- An address with more behind it.
use Rattle.std.proofs.Common.{◌≡◌, ℕ, suc, ◌+◌, ◌≤◌, ◌<◌, Bool, true, false, cond, not, ◌&&◌, ◌==◌, List, [], ◌∷◌, ◌++◌, length, take, drop, Option, None, Some, refl, sym, ◌∙◌, ap, arith, length-append, take-append-drop, nat_lt, Bor, unwrap_or}
use Rattle.std.specs.Prelude.{◌≢◌, MatchOption}
use Rattle.std.specs.List.{list_all, prefix_len, position_or_len}
use Rattle.std.specs.Str.{bytes_eq}
use Rattle.std.specs.Str.Pattern.{StripsPrefix, FindsTextPrefix}
use Rattle.std.proofs.lemmas.Bool.{ltb-true, lt-ltb}
use Rattle.std.proofs.lemmas.Bool.Decides.{nat_tests}
use Rattle.std.proofs.lemmas.List.{take-append-le, drop-append-le, length-take}
use Rattle.std.proofs.lemmas.List.Folds.{list_all-append}
use Rattle.std.proofs.lemmas.Slice.Eq.{bytes_eq-Decides}
use Rattle.gateway_words.specs.Ascii.{slash}
use Rattle.link_io.specs.declared.address.UrlFault.TheVariants as fault
use Rattle.link_io.specs.Address.{most_of_address, scheme_text, behind_scheme, before_slash, is_address_byte, is_authority, is_place, has_scheme, address_fault}

-- a run that stops in the front stops there in the whole
prefix-append : (p : ℕ → Bool) (a b : List ℕ) → prefix_len p a < length a → prefix_len p (a ++ b) ≡ prefix_len p a
prefix-append p [] b short = absurd (omega arith)
prefix-append p (c ∷ cs) b short = by (p c) (λ s. prefix-append p cs b s) short
  where
    by : (t : Bool) → (prefix_len p cs < length cs → prefix_len p (cs ++ b) ≡ prefix_len p cs) → cond t (1 + prefix_len p cs) 0 < suc (length cs)
        → cond t (1 + prefix_len p (cs ++ b)) 0 ≡ cond t (1 + prefix_len p cs) 0
    by true later s = ap (λ (n : ℕ). 1 + n) (later (omega (arith, s)))
    by false later s = refl

-- both of two tests
both : (a b : Bool) → a && b ≡ true → (a ≡ true) × (b ≡ true)
both true b e = (refl, e)
both false b e = absurd cc

and-true : (a b : Bool) → a ≡ true → b ≡ true → a && b ≡ true
and-true a b p q = ap (λ (x : Bool). x && b) p ∙ q

-- what stands before the first `/` stays, where there is one
before-grows : (rest more : List ℕ) → length (before_slash rest) < length rest → before_slash (rest ++ more) ≡ before_slash rest
before-grows rest more short =
    let n : ℕ = position_or_len (λ b. b == slash) rest in
    let within : n < length rest = omega (arith, length-take n rest, short) in
    let same : position_or_len (λ b. b == slash) (rest ++ more) ≡ n = prefix-append (λ b. not (b == slash)) rest more within in
    ap (λ (m : ℕ). take m (rest ++ more)) same ∙ take-append-le n rest more (omega (arith, within))

-- a place with more behind it is one
place-grows : (rest more : List ℕ) → is_place rest ≡ true → list_all is_address_byte more ≡ true → is_place (rest ++ more) ≡ true
place-grows rest more is good =
    let first = both (is_authority (before_slash rest)) _ is in
    let second = both (nat_lt (length (before_slash rest)) (length rest)) _ first.1 in
    let short : length (before_slash rest) < length rest = ltb-true (length (before_slash rest)) (length rest) second.0 in
    let longer : nat_lt (length (before_slash rest)) (length (rest ++ more)) ≡ true =
    lt-ltb (length (before_slash rest)) (length (rest ++ more)) (omega (arith, length-append rest more, short)) in
    let all : list_all is_address_byte (rest ++ more) ≡ true = list_all-append is_address_byte rest more ∙ and-true _ _ second.1 good in
    ap (λ (a : List ℕ). is_authority a && (nat_lt (length a) (length (rest ++ more)) && list_all is_address_byte (rest ++ more))) (before-grows rest more short)
    ∙ and-true (is_authority (before_slash rest)) _ first.0 (and-true (nat_lt (length (before_slash rest)) (length (rest ++ more))) _ longer all)

-- what is left of a text without its front is what stands behind the front
pub behind_front : (text : List ℕ) (n : ℕ) (left : Option (Bor (List ℕ))) (none : Bor (List ℕ))
    → MatchOption left ((rest : List ℕ) → drop 0 text ≢ take n text ++ rest) (λ l. StripsPrefix (FindsTextPrefix (take n text)) text l.now)
    → (unwrap_or left none).now ≡ drop (length (take n text)) text
behind_front text n None none h = absurd (h (drop n text) (sym (take-append-drop n text)))
behind_front text n (Some l) none h = h.2 ∙ ap (λ (k : ℕ). drop k text) h.1.0

-- what an address is
sound : (long scheme place : Bool) → cond long (Some fault.TooLong) (cond (not scheme) (Some fault.Scheme) (cond (not place) (Some fault.Url) None)) ≡ None
    → (long ≡ false) × (scheme ≡ true) × (place ≡ true)
sound true scheme place e = absurd cc
sound false true true e = (refl, refl, refl)
sound false true false e = absurd cc
sound false false place e = absurd cc

-- an address has its scheme
pub address_begins : (text : List ℕ) → address_fault text ≡ None → has_scheme text ≡ true
address_begins text is = (sound (nat_lt most_of_address (length text)) (has_scheme text) (is_place (behind_scheme text)) is).1

-- an address with more behind it is one, where it isn't too long
pub address_grows : (text more : List ℕ) → address_fault text ≡ None → list_all is_address_byte more ≡ true → length text + length more ≤ most_of_address → address_fault (text ++ more) ≡ None
address_grows text more is good fits =
    let parts = sound (nat_lt most_of_address (length text)) (has_scheme text) (is_place (behind_scheme text)) is in
    let begins : take 7 text ≡ scheme_text = (bytes_eq-Decides (take 7 text) scheme_text).0 parts.1 in
    let seven : 7 ≤ length text = omega (arith, ap length begins, length-take 7 text) in
    let scheme : has_scheme (text ++ more) ≡ true = ap (λ (l : List ℕ). bytes_eq l scheme_text) (take-append-le 7 text more seven) ∙ parts.1 in
    let place : is_place (behind_scheme (text ++ more)) ≡ true = ap is_place (drop-append-le 7 text more seven) ∙ place-grows (behind_scheme text) more parts.2 good in
    let short : nat_lt most_of_address (length (text ++ more)) ≡ false = let size = length-append text more in grind (arith, nat_tests) in
    ap (λ (b : Bool). cond b (Some fault.TooLong) (cond (not (has_scheme (text ++ more))) (Some fault.Scheme) (cond (not (is_place (behind_scheme (text ++ more)))) (Some fault.Url) None))) short
    ∙ ap (λ (b : Bool). cond (not b) (Some fault.Scheme) (cond (not (is_place (behind_scheme (text ++ more)))) (Some fault.Url) None)) scheme
    ∙ ap (λ (b : Bool). cond (not b) (Some fault.Url) None) place
