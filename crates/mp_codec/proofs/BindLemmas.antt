-- Readings one behind the other, taken apart.
use Rattle.std.proofs.Common.{◌≡◌, refl, ap, ◌⊎◌, inl, inr}
use Rattle.std.specs.Prelude.{Result, Ok, Err}
use Rattle.gateway_words.specs.Reading.{◌>>=◌}

pub bind_ok : {A B E : Type 0} (r : Result A E) (k : A → Result B E) (x : A) → r ≡ Ok x → (r >>= k) ≡ k x
bind_ok r k x e = ap (λ r. r >>= k) e

pub bind_err : {A B E : Type 0} (r : Result A E) (k : A → Result B E) (f : E) → r ≡ Err f → (r >>= k) ≡ Err f
bind_err r k f e = ap (λ r. r >>= k) e

-- a reading that is Ok had a first part that is, and what followed it
pub record BoundOk {A B E : Type 0} (r : Result A E) (k : A → Result B E) (y : B) : Type 0 where
  pub value : A
  pub first : r ≡ Ok value
  pub rest : k value ≡ Ok y

pub bound_ok : {A B E : Type 0} (r : Result A E) (k : A → Result B E) (y : B) → (r >>= k) ≡ Ok y → BoundOk r k y
bound_ok (Ok x) k y e = record { value = x; first = refl; rest = e }
bound_ok (Err f) k y e = absurd (cc)

-- a reading that is an error behind a first part that isn't
pub record BoundErr {A B E : Type 0} (r : Result A E) (k : A → Result B E) (f : E) : Type 0 where
  pub value : A
  pub first : r ≡ Ok value
  pub rest : k value ≡ Err f

pub bound_err : {A B E : Type 0} (r : Result A E) (k : A → Result B E) (f : E) → (r >>= k) ≡ Err f → (r ≡ Err f) ⊎ BoundErr r k f
bound_err (Ok x) k f e = inr (record { value = x; first = refl; rest = e })
bound_err (Err g) k f e = inl (let same : g ≡ f = cc in ap (λ g. Err g) same)
