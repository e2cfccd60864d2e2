-- Heads at the front of some bytes: they are read alike whatever follows, and an error is one of two.
use Rattle.std.proofs.Common.{◌≡◌, refl, sym, ◌∙◌, ap, subst, ℕ, zero, suc, ◌+◌, ◌-◌, ◌<◌, ◌≤◌, ◌⊎◌, inl, inr, Bool, true, false, cond, ltb, List, [], ◌∷◌, ◌++◌, length, take, arith, length-append}
use Rattle.std.specs.Prelude.{Result, Ok, Err}
use Rattle.std.proofs.lemmas.Bool.{ltb-true, ltb-false}
use Rattle.std.proofs.lemmas.List.{take-append-le, length-take-le}
use Rattle.mp_codec.specs.declared.fault.FaultKind.{FaultKind}
use Rattle.mp_codec.specs.declared.fault.FaultKind.TheVariants.{Short, Reserved}
use Rattle.mp_codec.specs.declared.head.Head.{Head}
use Rattle.mp_codec.specs.declared.head.Form.{Form}
use Rattle.mp_codec.specs.declared.head.Form.TheVariants.{Whole, Never, Followed}
use Rattle.mp_codec.specs.declared.head.Behind.{Behind}
use Rattle.mp_codec.specs.Format.{form, head_behind, head_of_form, head_at}

-- ---- pairs

abbrev pair_or : {A B E : Type 0} → A × B → Result (A × B) E → A × B
pair_or p (Ok q) = q
pair_or p (Err e) = p

-- equal pairs that are Ok have equal parts
pub ok_first : {A B E : Type 0} {a c : A} {b d : B} → ◌≡◌ {A = Result (A × B) E} (Ok (a, b)) (Ok (c, d)) → a ≡ c
ok_first {a = a} {b = b} e = ap (λ r. (pair_or (a, b) r).0) e

pub ok_second : {A B E : Type 0} {a c : A} {b d : B} → ◌≡◌ {A = Result (A × B) E} (Ok (a, b)) (Ok (c, d)) → b ≡ d
ok_second {a = a} {b = b} e = ap (λ r. (pair_or (a, b) r).1) e

-- ---- by the form of the first byte

abbrev Answer : Type 0
Answer = Result (Head × ℕ) FaultKind

ltb_no : (m n : ℕ) → n ≤ m → ltb m n ≡ false
ltb_no m n le = go (ltb m n) refl
  where
    go : (b : Bool) → ltb m n ≡ b → ltb m n ≡ false
    go true is = absurd (let lt : m < n = ltb-true m n is in omega arith)
    go false is = is

-- the head of a form that is followed by enough bytes
followed : (n : ℕ) (b : Behind) (rest : List ℕ) → n ≤ length rest → head_of_form (Followed n b) rest ≡ Ok (head_behind b (take n rest), n + 1)
followed n b rest le = ap (λ (t : Bool). cond {A = Answer} t (Err Short) (Ok (head_behind b (take n rest), n + 1))) (ltb_no (length rest) n le)

-- a followed form that gives a head is followed by enough bytes, and this is the head
pub record Follows (n : ℕ) (b : Behind) (rest : List ℕ) (h : Head) (k : ℕ) : Type 0 where
  pub room : n ≤ length rest
  pub head : head_behind b (take n rest) ≡ h
  pub len : k ≡ n + 1

pub follows : (n : ℕ) (b : Behind) (rest : List ℕ) (h : Head) (k : ℕ) → head_of_form (Followed n b) rest ≡ Ok (h, k) → Follows n b rest h k
follows n b rest h k e = go (ltb (length rest) n) refl e
  where
    go : (t : Bool) → ltb (length rest) n ≡ t → cond {A = Answer} t (Err Short) (Ok (head_behind b (take n rest), n + 1)) ≡ Ok (h, k) → Follows n b rest h k
    go true is e = absurd (cc)
    go false is e = record { room = ltb-false _ _ is; head = ok_first e; len = sym (ok_second e) }

form_more : (fm : Form) (rest x : List ℕ) (h : Head) (k : ℕ) → head_of_form fm rest ≡ Ok (h, k) → head_of_form fm (rest ++ x) ≡ Ok (h, k)
form_more (Whole g) rest x h k e = e
form_more Never rest x h k e = e
form_more (Followed n b) rest x h k e =
    let f : Follows n b rest h k = follows n b rest h k e in
    let room : n ≤ length rest = f.room in
    let same : take n (rest ++ x) ≡ take n rest = take-append-le n rest x room in
    let head : head_behind b (take n (rest ++ x)) ≡ h = ap (head_behind b) same ∙ f.head in
    let len : k ≡ n + 1 = f.len in
    followed n b (rest ++ x) (omega (arith, length-append rest x)) ∙ (cc)

form_len : (fm : Form) (rest : List ℕ) (h : Head) (k : ℕ) → head_of_form fm rest ≡ Ok (h, k) → (1 ≤ k) × (k ≤ length rest + 1)
form_len (Whole g) rest h k e = let is : 1 ≡ k = ok_second e in (omega arith, omega arith)
form_len Never rest h k e = absurd (cc)
form_len (Followed n b) rest h k e =
    let f : Follows n b rest h k = follows n b rest h k e in
    let room : n ≤ length rest = f.room in
    let len : k ≡ n + 1 = f.len in
    (omega arith, omega arith)

form_front : (fm : Form) (rest : List ℕ) (h : Head) (k : ℕ) → head_of_form fm rest ≡ Ok (h, k) → head_of_form fm (take (k - 1) rest) ≡ Ok (h, k)
form_front (Whole g) rest h k e = e
form_front Never rest h k e = e
form_front (Followed n b) rest h k e =
    let f : Follows n b rest h k = follows n b rest h k e in
    let room : n ≤ length rest = f.room in
    let len : k ≡ n + 1 = f.len in
    let less : k - 1 ≡ n = omega arith in
    subst (λ (j : ℕ). head_of_form (Followed n b) (take j rest) ≡ Ok (h, k)) (sym less) (at_n f room len)
  where
    at_n : Follows n b rest h k → n ≤ length rest → k ≡ n + 1 → head_of_form (Followed n b) (take n rest) ≡ Ok (h, k)
    at_n f room len =
        let long : length (take n rest) ≡ n = length-take-le n rest room in
        let whole : take n (take n rest) ≡ take n rest = take_twice n rest in
        let head : head_behind b (take n (take n rest)) ≡ h = ap (head_behind b) whole ∙ f.head in
        followed n b (take n rest) (omega arith) ∙ (cc)
      where
        take_twice : (j : ℕ) (l : List ℕ) → take j (take j l) ≡ take j l
        take_twice zero l = refl
        take_twice (suc j) [] = refl
        take_twice (suc j) (x ∷ l) = ap (λ (t : List ℕ). x ∷ t) (take_twice j l)

form_kinds : (fm : Form) (rest : List ℕ) (e : FaultKind) → head_of_form fm rest ≡ Err e → (e ≡ Short) ⊎ (e ≡ Reserved)
form_kinds (Whole g) rest e is = absurd (cc)
form_kinds Never rest e is = inr (cc)
form_kinds (Followed n b) rest e is = go (ltb (length rest) n) is
  where
    go : (t : Bool) → cond {A = Answer} t (Err Short) (Ok (head_behind b (take n rest), n + 1)) ≡ Err e → (e ≡ Short) ⊎ (e ≡ Reserved)
    go true is = inl (cc)
    go false is = absurd (cc)

-- ---- at the front of some bytes

-- a head is read alike whatever follows
pub head_more : (bytes x : List ℕ) (h : Head) (k : ℕ) → head_at bytes ≡ Ok (h, k) → head_at (bytes ++ x) ≡ Ok (h, k)
unfolding head_at
head_more [] x h k e = absurd (cc)
head_more (b ∷ bytes) x h k e = form_more (form b) bytes x h k e

-- a head takes a byte, and no more than there are
pub head_len : (bytes : List ℕ) (h : Head) (k : ℕ) → head_at bytes ≡ Ok (h, k) → (1 ≤ k) × (k ≤ length bytes)
unfolding head_at
head_len [] h k e = absurd (cc)
head_len (b ∷ bytes) h k e = let l = form_len (form b) bytes h k e in (l.0, omega (arith, l.1))

-- the bytes that a head takes spell it
pub head_front : (bytes : List ℕ) (h : Head) (k : ℕ) → head_at bytes ≡ Ok (h, k) → head_at (take k bytes) ≡ Ok (h, k)
unfolding head_at
head_front [] h k e = absurd (cc)
head_front (b ∷ bytes) h zero e = absurd (let l = form_len (form b) bytes h zero e in omega (arith, l.0))
head_front (b ∷ bytes) h (suc k) e = let less : suc k - 1 ≡ k = omega arith in subst (λ (j : ℕ). head_of_form (form b) (take j bytes) ≡ Ok (h, suc k)) less (form_front (form b) bytes h (suc k) e)

-- where no head is, the bytes end or c1 stands there
pub head_kinds : (bytes : List ℕ) (e : FaultKind) → head_at bytes ≡ Err e → (e ≡ Short) ⊎ (e ≡ Reserved)
unfolding head_at
head_kinds [] e is = inl (cc)
head_kinds (b ∷ bytes) e is = form_kinds (form b) bytes e is
