-- The runs of a component are its maximal pieces.
use Rattle.std.proofs.Common.{◌≡◌, ◌∙◌, ℕ, List, [], ◌∷◌, ◌++◌, Bool, true, false, refl, sym, ap, inl, inr}
use Rattle.std.specs.Prelude.{◌&&◌, not, map}
use Rattle.std.proofs.lemmas.Bool.{cases_Bool, false≢true}
use Rattle.std.proofs.lemmas.List.{append-nil, append_assoc}
use Rattle.std.specs.Char.{is_ascii_digit}
use Rattle.std.specs.List.{concat}
use Rattle.conda_version.specs.Runs.{IsCutInto, TakeTurns, are_others, runs_of}
use Rattle.byte_text.specs.Decimal.{are_digits, decimal_from, with_digit}
use Rattle.conda_version.specs.Version.{folded, number, runs, runs_from, word}

-- both of two
both : (a b : Bool) → (a && b) ≡ true → (a ≡ true) × (b ≡ true)
both true b e = (refl, e)
both false b e = absurd (false≢true e)

-- not a digit
other : (b : ℕ) → not (is_ascii_digit b) ≡ true → is_ascii_digit b ≡ false
other b e = elim (cases_Bool (is_ascii_digit b)) [
  | inl d ↦ absurd (false≢true (rw d at e))
  | inr d ↦ d
]

-- digits go on with a number
digits-on : (n : ℕ) (digits rest : List ℕ) → are_digits digits ≡ true → runs_from (number n) (digits ++ rest) ≡ runs_from (number (decimal_from n digits)) rest
digits-on n [] rest e = refl
digits-on n (b ∷ digits) rest e =
    let cut = both (is_ascii_digit b) (are_digits digits) e in
    simp cut.0 (digits-on (with_digit n b) digits rest cut.1)

-- other bytes go on with a word
others-on : (w letters rest : List ℕ) → are_others letters ≡ true → runs_from (word w) (letters ++ rest) ≡ runs_from (word (w ++ map folded letters)) rest
others-on w [] rest e = rw append-nil refl
others-on w (b ∷ letters) rest e =
    let cut = both (not (is_ascii_digit b)) (are_others letters) e in
    simp (other b cut.0) (others-on (w ++ folded b ∷ []) letters rest cut.1 ∙ rw append_assoc refl)

mutual
  -- pieces that begin with other bytes, behind a number
  pieces-number : (n : ℕ) (ps : List (List ℕ)) → TakeTurns false ps → runs_from (number n) (concat ps) ≡ number n ∷ runs_of false ps
  pieces-number n [] t = refl
  pieces-number n ([] ∷ ps) t = absurd (false≢true (sym t.0))
  pieces-number n ((b ∷ p) ∷ ps) t =
      let cut = both (not (is_ascii_digit b)) (are_others p) t.1 in
      simp (other b cut.0) (ap (λ rs. number n ∷ rs) (others-on (folded b ∷ []) p (concat ps) cut.1 ∙ pieces-word (folded b ∷ map folded p) ps t.2))

  -- pieces that begin with digits, behind a word
  pieces-word : (w : List ℕ) (ps : List (List ℕ)) → TakeTurns true ps → runs_from (word w) (concat ps) ≡ word w ∷ runs_of true ps
  pieces-word w [] t = refl
  pieces-word w ([] ∷ ps) t = absurd (false≢true (sym t.0))
  pieces-word w ((b ∷ p) ∷ ps) t =
      let cut = both (is_ascii_digit b) (are_digits p) t.1 in
      simp cut.0 (ap (λ rs. word w ∷ rs) (digits-on (with_digit 0 b) p (concat ps) cut.1 ∙ pieces-number (decimal_from (with_digit 0 b) p) ps t.2))

-- the runs of a component are its pieces
pub cut-runs : (component digits : List ℕ) (later : List (List ℕ)) → IsCutInto component digits later → runs component ≡ number (decimal_from 0 digits) ∷ runs_of false later
cut-runs component digits later cut =
    (λ i. runs_from (number 0) (sym cut.whole i))
    ∙ digits-on 0 digits (concat later) cut.front
    ∙ pieces-number (decimal_from 0 digits) later cut.turns

-- a component with one byte more in front, which is a digit
digit-front : (b : ℕ) (rest digits : List ℕ) (later : List (List ℕ)) → is_ascii_digit b ≡ true → IsCutInto rest digits later → IsCutInto (b ∷ rest) (b ∷ digits) later
digit-front b rest digits later d cut =
    record { whole = ap (λ t. b ∷ t) cut.whole; front = rw d cut.front; turns = cut.turns }

-- or another byte
other-front : (b : ℕ) (rest digits : List ℕ) (later : List (List ℕ)) → is_ascii_digit b ≡ false → IsCutInto rest digits later
    → (pieces : List (List ℕ)) × IsCutInto (b ∷ rest) [] pieces
other-front b rest (d ∷ digits) later o cut = (
  (b ∷ []) ∷ (d ∷ digits) ∷ later,
  record { whole = ap (λ t. b ∷ t) cut.whole; front = refl; turns = (refl, rw o refl, (refl, cut.front, cut.turns)) },
)
other-front b rest [] [] o cut = (
  (b ∷ []) ∷ [],
  record { whole = ap (λ t. b ∷ t) cut.whole; front = refl; turns = (refl, rw o refl, tt) },
)
other-front b rest [] (p ∷ ps) o cut = (
  (b ∷ p) ∷ ps,
  record { whole = ap (λ t. b ∷ t) cut.whole; front = refl; turns = (refl, rw o cut.turns.1, cut.turns.2) },
)

-- each component is cut into such pieces
pub has-cut : (component : List ℕ) → (digits : List ℕ) × (later : List (List ℕ)) × IsCutInto component digits later
has-cut [] = ([], [], record { whole = refl; front = refl; turns = tt })
has-cut (b ∷ rest) =
    let cut = has-cut rest in
    elim (cases_Bool (is_ascii_digit b)) [
      | inl d ↦ (b ∷ cut.0, cut.1, digit-front b rest cut.0 cut.1 d cut.2)
      | inr o ↦ (let on = other-front b rest cut.0 cut.1 o cut.2 in ([], on.0, on.1))
    ]
