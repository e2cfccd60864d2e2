-- The first of some faults is one.
use Rattle.std.proofs.Common.{◌≡◌, sym, ◌∙◌, ◌⊎◌, inl, inr, arith}
use Rattle.mp_codec.specs.declared.fault.FormatFault.{FormatFault}
use Rattle.mp_codec.specs.Fault.{Before, IsFirstFault}

-- the first of some faults is one
pub one_first : (faults : FormatFault → Type 0) (f g : FormatFault) → IsFirstFault faults f → IsFirstFault faults g → f ≡ g
one_first faults f g a b = go (a.first g b.stands) (b.first f a.stands)
  where
    go : Before f g → Before g f → f ≡ g
    go (inl lt) (inl gt) = absurd (omega arith)
    go (inl lt) (inr is) = absurd (let at : g.at ≡ f.at = is.0 in omega arith)
    go (inr is) (inl gt) = absurd (let at : f.at ≡ g.at = is.0 in omega arith)
    go (inr (at, inr e)) q = e
    go (inr p) (inr (at, inr e)) = sym e
    go (inr (at, inl m)) (inr (_, inl n)) = λ i. record { at = at i; kind = (m ∙ sym n) i }
