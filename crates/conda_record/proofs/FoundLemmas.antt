-- What was read of each key of a record, as its places.
use Rattle.std.proofs.Common.{◌≡◌, refl, ap, ℕ, Bool, true, false, cond, ◌&&◌, List}
use Rattle.std.specs.Prelude.{Ok, Err, Option, Some, None, is_some}
use Rattle.gateway_words.specs.Places.{Position}
use Rattle.gateway_words.specs.Reading.{◌>>=◌}
use Rattle.mp_codec.specs.declared.fault.FaultKind.TheVariants as kind
use Rattle.mp_codec.specs.Fault.{fault_here}
use Rattle.mp_codec.specs.Maps.{Read, known_end_from}
use Rattle.mp_codec.specs.declared.span.Span.{Span}
use Rattle.conda_record.specs.declared.reading.Found.{Found}
use Rattle.conda_record.specs.Placing.{Place, TextAt, NumberIs, OptionalTextAt, DigestAt, number_in, optional_span_in, digest_span_in, places_in, places_end_from}
use Rattle.conda_record.specs.Found.{kept, met, known}

pub number_is : (o : Option ℕ) (other : Bool) → number_in (met NumberIs o other) ≡ o
number_is (Some n) other = refl
number_is None true = refl
number_is None false = refl

pub optional_text_is : (o : Option Span) (other : Bool) → optional_span_in (met OptionalTextAt o other) ≡ o
optional_text_is (Some s) other = refl
optional_text_is None true = refl
optional_text_is None false = refl

pub digest_is : (o : Option Span) (other : Bool) → digest_span_in (met DigestAt o other) ≡ o
digest_is (Some s) other = refl
digest_is None true = refl
digest_is None false = refl

-- where the required keys were read, the end of the record gives its places
pub ends : (f : Found) (here : Position) (name version build : Span) → f.name ≡ Some name → f.version ≡ Some version → f.build ≡ Some build → places_end_from (known f) here ≡ Ok (places_in (known f), here)
unfolding places_end_from known_end_from
ends f here name version build n v b =
    ap (λ (t : Bool). cond {A = Read (List (Option Place))} t (Ok (known f, here)) (Err (fault_here kind.Missing here)) >>= λ s. Ok (places_in s.0, s.1))
    (λ i. is_some (kept TextAt (n i)) && (is_some (kept TextAt (v i)) && (is_some (kept TextAt (b i)) && true)))
