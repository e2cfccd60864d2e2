-- What the readers of one value by its kind give, in terms of what lies between two positions.
use Rattle.std.proofs.Common.{◌≡◌, refl, ◌∙◌, ap, subst, ℕ, List, inl, inr}
use Rattle.std.specs.Prelude.{Ok, Err, Option, Some, None}
use Rattle.gateway_words.specs.Places.{Position}
use Rattle.mp_codec.specs.declared.fault.FormatFault.{FormatFault}
use Rattle.mp_codec.specs.declared.head.Head.{Head}
use Rattle.mp_codec.specs.declared.head.Head.TheVariants as head
use Rattle.mp_codec.specs.Value.{Value, map_len, number_of, str_of}
use Rattle.mp_codec.specs.Spelling.{HeadLies, Breaks}
use Rattle.mp_codec.specs.Reading.{head_from}
use Rattle.mp_codec.specs.Fault.{IsFirstFault, Faults, no_fault, WithBreaks, TextFault, ValueLies}
use Rattle.mp_codec.specs.Maps.{Read, map_head_from, pairs_or_wrong, text_from, str_from, number_from}
use Rattle.mp_codec.proofs.BindLemmas.{BoundOk, bound_ok}
use Rattle.mp_codec.proofs.HeadLemmas.{ok_first, ok_second}
use Rattle.mp_codec.proofs.PlaceLemmas.{head_lies}
use Rattle.mp_codec.proofs.JudgingLemmas.{Reads, Refuses, JudgesOne}
use Rattle.mp_codec.proofs.LeafLemmas.{HasStr, str_judged, HasNumber, number_judged, IsText, text_judged}

-- a judged reading that is Ok
pub judged_reads : {X : Type 0} (faults : Faults) (Means : X → Value → Type 0) (here : Position) (r : Read X) → JudgesOne faults Means here r → (x : X) (there : Position) → r ≡ Ok (x, there) → Reads faults Means here x there
judged_reads {X} faults Means here r j x there e = subst (λ (r : Read X). JudgesOne faults Means here r) e j

-- a judged reading that is an error
pub judged_refuses : {X : Type 0} (faults : Faults) (Means : X → Value → Type 0) (here : Position) (r : Read X) → JudgesOne faults Means here r → (f : FormatFault) → r ≡ Err f → Refuses faults 1 here f
judged_refuses {X} faults Means here r j f e = subst (λ (r : Read X). JudgesOne faults Means here r) e j

-- the fault of a refusal is the first one
pub refuses_first : (faults : Faults) (here : Position) (f : FormatFault) → Refuses faults 1 here f → IsFirstFault (WithBreaks faults here) f
refuses_first faults here f r = record { stands = r.stands; first = r.first }

-- where nothing but a break may be wrong, the fault is one
pub refuses_breaks : (here : Position) (f : FormatFault) → Refuses no_fault 1 here f → Breaks 1 here f
refuses_breaks here f r = elim r.stands [ inl p ↦ absurd p | inr b ↦ b ]

pub text_found : (old new : Position) (t : List ℕ) → text_from old ≡ Ok (t, new) → ValueLies str_of (Some t) old new
text_found old new t e =
    let r : Reads TextFault IsText old t new = judged_reads TextFault IsText old (text_from old) (text_judged old) t new e in
    record { value = r.value; lies = r.lies; is = r.means.0 }

pub text_fault : (old : Position) (f : FormatFault) → text_from old ≡ Err f → IsFirstFault (WithBreaks TextFault old) f
text_fault old f e = refuses_first TextFault old f (judged_refuses TextFault IsText old (text_from old) (text_judged old) f e)

pub str_found : (old new : Position) (o : Option (List ℕ)) → str_from old ≡ Ok (o, new) → ValueLies str_of o old new
str_found old new o e =
    let r : Reads no_fault HasStr old o new = judged_reads no_fault HasStr old (str_from old) (str_judged old) o new e in
    record { value = r.value; lies = r.lies; is = r.means }

pub str_fault : (old : Position) (f : FormatFault) → str_from old ≡ Err f → Breaks 1 old f
str_fault old f e = refuses_breaks old f (judged_refuses no_fault HasStr old (str_from old) (str_judged old) f e)

pub number_found : (old new : Position) (o : Option ℕ) → number_from old ≡ Ok (o, new) → ValueLies number_of o old new
number_found old new o e =
    let r : Reads no_fault HasNumber old o new = judged_reads no_fault HasNumber old (number_from old) (number_judged old) o new e in
    record { value = r.value; lies = r.lies; is = r.means }

pub number_fault : (old : Position) (f : FormatFault) → number_from old ≡ Err f → Breaks 1 old f
number_fault old f e = refuses_breaks old f (judged_refuses no_fault HasNumber old (number_from old) (number_judged old) f e)

-- a head with the number of a map's pairs is a map's
map_head : (h : Head) (n : ℕ) → map_len h ≡ Some n → h ≡ head.Map n
map_head (head.Map m) n e = (cc)
map_head (head.Str m) n e = absurd (cc)
map_head head.Nil n e = absurd (cc)
map_head (head.Bool b) n e = absurd (cc)
map_head (head.Int i) n e = absurd (cc)
map_head head.Float n e = absurd (cc)
map_head (head.Bin m) n e = absurd (cc)
map_head (head.Array m) n e = absurd (cc)
map_head (head.Ext m) n e = absurd (cc)

pub map_found : (old new : Position) (n : ℕ) → map_head_from old ≡ Ok (n, new) → HeadLies (head.Map n) old new
unfolding map_head_from
map_found old new n e =
    let b : BoundOk (head_from old) (λ h. pairs_or_wrong (map_len h.0) old h.1) (n, new) = bound_ok (head_from old) (λ h. pairs_or_wrong (map_len h.0) old h.1) (n, new) e in
    found b.value.0 b.value.1 b.first (map_len b.value.0) refl b.rest
  where
    found : (h : Head) (mid : Position) → head_from old ≡ Ok (h, mid) → (o : Option ℕ) → map_len h ≡ o → pairs_or_wrong o old mid ≡ Ok (n, new) → HeadLies (head.Map n) old new
    found h mid e (Some m) is rest =
        let count : m ≡ n = ok_first rest in
        let place : mid ≡ new = ok_second rest in
        let same : h ≡ head.Map n = map_head h m is ∙ ap (λ (k : ℕ). head.Map k) count in
        subst (λ (q : Position). HeadLies (head.Map n) old q) place (subst (λ (h : Head). HeadLies h old mid) same (head_lies old h mid e))
    found h mid e None is rest = absurd (cc)
