-- Bytes that are told, with others in front of them or behind.
use Rattle.std.proofs.Common.{◌≡◌, ℕ, ◌<◌, Option, None, Some, IfSome, List, ◌++◌, [], length, refl, sym, ◌∙◌, ap, subst, arith, append_assoc, length-append}
use Rattle.std.proofs.lemmas.List.{append-nil}
use Rattle.std.specs.Io.KnownBytes.{prepend_known, append_known, IsAtEnd}

-- two pieces in front of the told bytes are one
pub prepend-prepend : (front piece : List ℕ) (told : Option (List ℕ)) → prepend_known front (prepend_known piece told) ≡ prepend_known (front ++ piece) told
prepend-prepend front piece None = refl
prepend-prepend front piece (Some rest) = ap Some (sym (append_assoc front piece rest))

-- a piece more was read
pub reads-on : (old mid new : Option (List ℕ)) (front piece : List ℕ) → old ≡ prepend_known front mid → mid ≡ prepend_known piece new → old ≡ prepend_known (front ++ piece) new
reads-on old mid new front piece before now = before ∙ ap (λ (told : Option (List ℕ)). prepend_known front told) now ∙ prepend-prepend front piece new

-- two pieces behind the told bytes are one
pub append-append : (told : Option (List ℕ)) (front piece : List ℕ) → append_known (append_known told front) piece ≡ append_known told (front ++ piece)
append-append None front piece = refl
append-append (Some done) front piece = ap Some (append_assoc done front piece)

-- a piece more was written
pub writes-on : (old mid new : Option (List ℕ)) (front piece : List ℕ) → mid ≡ append_known old front → new ≡ append_known mid piece → new ≡ append_known old (front ++ piece)
writes-on old mid new front piece before now = now ∙ ap (λ (told : Option (List ℕ)). append_known told piece) before ∙ append-append old front piece

-- no byte behind the told bytes
pub append-none : (told : Option (List ℕ)) → append_known told [] ≡ told
append-none None = refl
append-none (Some done) = ap Some (append-nil done)

-- what was read up to the end is all that was left
pub whole-read : (old new : Option (List ℕ)) (front : List ℕ) → old ≡ prepend_known front new → IsAtEnd new → IfSome old (λ left. front ≡ left)
whole-read old None front split end = subst (λ (told : Option (List ℕ)). IfSome told (λ left. front ≡ left)) (sym split) tt
whole-read old (Some rest) front split end =
    let all : front ≡ front ++ rest = sym (ap (λ (l : List ℕ). front ++ l) end ∙ append-nil front) in
    subst (λ (told : Option (List ℕ)). IfSome told (λ left. front ≡ left)) (sym split) all

-- what was read is no longer than what was left
pub longer-left : (limit : ℕ) (old new : Option (List ℕ)) (front : List ℕ) → old ≡ prepend_known front new → limit < length front → IfSome old (λ left. limit < length left)
longer-left limit old None front split long = subst (λ (told : Option (List ℕ)). IfSome told (λ left. limit < length left)) (sym split) tt
longer-left limit old (Some rest) front split long =
    let longer : limit < length (front ++ rest) = omega (arith, length-append front rest) in
    subst (λ (told : Option (List ℕ)). IfSome told (λ left. limit < length left)) (sym split) longer
