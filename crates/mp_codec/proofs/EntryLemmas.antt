-- A loop over the pairs of a map: what is left to read, step by step.
use Rattle.std.proofs.Common.{◌≡◌, ◌∙◌, ap, ℕ, suc, ◌+◌, ◌-◌, ◌<◌, ◌≤◌, arith}
use Rattle.std.specs.Prelude.{Ok, Err}
use Rattle.gateway_words.specs.Places.{Position}
use Rattle.gateway_words.specs.Reading.{◌>>=◌}
use Rattle.mp_codec.specs.declared.fault.FormatFault.{FormatFault}
use Rattle.mp_codec.specs.Maps.{Read, entries_from}
use Rattle.mp_codec.proofs.BindLemmas.{bind_ok, bind_err}

module _ {S K Y : Type 0} (key : S → Position → Read K) (value : S → K → Position → Read S) (end : S → Position → Read Y) where
  -- one pair less is left
  entries_step : (n i : ℕ) (s : S) (here : Position) → i < n
      → entries_from key value end (n - i) s here ≡ (key s here >>= λ k. value s k.0 k.1 >>= λ t. entries_from key value end (n - (i + 1)) t.0 t.1)
  unfolding entries_from
  entries_step n i s here lt = ap (λ (m : ℕ). entries_from key value end m s here) (let less : n - i ≡ suc (n - (i + 1)) = omega arith in less)

  pub goes_on : (n i : ℕ) (s t : S) (k : K) (here mid there : Position) → i < n → key s here ≡ Ok (k, mid) → value s k mid ≡ Ok (t, there)
      → entries_from key value end (n - i) s here ≡ entries_from key value end (n - (i + 1)) t there
  goes_on n i s t k here mid there lt at_key at_value =
      entries_step n i s here lt ∙ bind_ok (key s here) (λ k. value s k.0 k.1 >>= λ t. entries_from key value end (n - (i + 1)) t.0 t.1) (k, mid) at_key
      ∙ bind_ok (value s k mid) (λ t. entries_from key value end (n - (i + 1)) t.0 t.1) (t, there) at_value

  pub key_stops : (n i : ℕ) (s : S) (f : FormatFault) (here : Position) → i < n → key s here ≡ Err f → entries_from key value end (n - i) s here ≡ Err f
  key_stops n i s f here lt at_key = entries_step n i s here lt ∙ bind_err (key s here) (λ k. value s k.0 k.1 >>= λ t. entries_from key value end (n - (i + 1)) t.0 t.1) f at_key

  pub value_stops : (n i : ℕ) (s : S) (k : K) (f : FormatFault) (here mid : Position) → i < n → key s here ≡ Ok (k, mid) → value s k mid ≡ Err f
      → entries_from key value end (n - i) s here ≡ Err f
  value_stops n i s k f here mid lt at_key at_value =
      entries_step n i s here lt ∙ bind_ok (key s here) (λ k. value s k.0 k.1 >>= λ t. entries_from key value end (n - (i + 1)) t.0 t.1) (k, mid) at_key
      ∙ bind_err (value s k mid) (λ t. entries_from key value end (n - (i + 1)) t.0 t.1) f at_value

  pub is_done : (n i : ℕ) (s : S) (here : Position) → n ≤ i → entries_from key value end (n - i) s here ≡ end s here
  unfolding entries_from
  is_done n i s here le = ap (λ (m : ℕ). entries_from key value end m s here) (let nothing : n - i ≡ 0 = omega arith in nothing)
