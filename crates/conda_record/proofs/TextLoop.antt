-- The loop over the elements of a list: what is left to read, step by step.
use Rattle.std.proofs.Common.{◌≡◌, refl, sym, ◌∙◌, ap, ℕ, suc, ◌+◌, ◌-◌, ◌<◌, ◌≤◌, List, [], ◌∷◌, ◌++◌, arith, append_assoc, append-nil}
use Rattle.std.specs.Prelude.{Ok, Err}
use Rattle.gateway_words.specs.Places.{Position}
use Rattle.gateway_words.specs.Reading.{◌>>=◌}
use Rattle.mp_codec.specs.declared.fault.FormatFault.{FormatFault}
use Rattle.mp_codec.specs.Maps.{Read}
use Rattle.mp_codec.proofs.BindLemmas.{bind_ok, bind_err}
use Rattle.conda_record.specs.Texts.{each_from}

module _ {X : Type 0} (read : Position → Read X) where
  -- elements in front of those that are read
  abbrev pub in_front : List X → Read (List X) → Read (List X)
  in_front front r = r >>= λ xs. Ok (front ++ xs.0, xs.1)

  each_step : (n i : ℕ) (here : Position) → i < n → each_from read (n - i) here ≡ (read here >>= λ x. each_from read (n - (i + 1)) x.1 >>= λ xs. Ok (x.0 ∷ xs.0, xs.1))
  unfolding each_from
  each_step n i here lt = ap (λ (m : ℕ). each_from read m here) (let less : n - i ≡ suc (n - (i + 1)) = omega arith in less)

  pub each_goes_on : (n i : ℕ) (front : List X) (x : X) (here there : Position) → i < n → read here ≡ Ok (x, there)
      → in_front front (each_from read (n - i) here) ≡ in_front (front ++ x ∷ []) (each_from read (n - (i + 1)) there)
  each_goes_on n i front x here there lt e =
      ap (in_front front) (each_step n i here lt ∙ bind_ok (read here) (λ x. each_from read (n - (i + 1)) x.1 >>= λ xs. Ok (x.0 ∷ xs.0, xs.1)) (x, there) e)
      ∙ go (each_from read (n - (i + 1)) there)
    where
      go : (r : Read (List X)) → in_front front (r >>= λ xs. Ok (x ∷ xs.0, xs.1)) ≡ in_front (front ++ x ∷ []) r
      go (Ok xs) = ap (λ (all : List X). Ok (all, xs.1)) (sym (append_assoc front (x ∷ []) xs.0))
      go (Err f) = refl

  pub each_stops : (n i : ℕ) (front : List X) (f : FormatFault) (here : Position) → i < n → read here ≡ Err f → in_front front (each_from read (n - i) here) ≡ Err f
  each_stops n i front f here lt e = ap (in_front front) (each_step n i here lt ∙ bind_err (read here) (λ x. each_from read (n - (i + 1)) x.1 >>= λ xs. Ok (x.0 ∷ xs.0, xs.1)) f e)

  pub each_done : (n i : ℕ) (front : List X) (here : Position) → n ≤ i → in_front front (each_from read (n - i) here) ≡ Ok (front, here)
  unfolding each_from
  each_done n i front here le =
      ap (λ (m : ℕ). in_front front (each_from read m here)) (let nothing : n - i ≡ 0 = omega arith in nothing) ∙ ap (λ (all : List X). Ok (all, here)) (append-nil front)

  pub no_front : (r : Read (List X)) → in_front [] r ≡ r
  no_front (Ok xs) = refl
  no_front (Err f) = refl
