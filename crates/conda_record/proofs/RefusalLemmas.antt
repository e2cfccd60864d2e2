-- Refusals: a fault or want of memory.
use Rattle.std.proofs.Common.{◌≡◌, refl, sym, ◌∙◌}
use Rattle.std.specs.Prelude.{Result, Ok, Err, IfSome}
use Rattle.mp_codec.specs.declared.fault.FormatFault.{FormatFault}
use Rattle.conda_record.specs.declared.refusal.RecordRefusal.{RecordRefusal}
use Rattle.conda_record.specs.declared.refusal.RecordRefusal.TheVariants as refusal
use Rattle.conda_record.specs.Reading.{fault_of}

-- what holds of the fault of a refusal, along an implication
pub fault_along : (e : RecordRefusal) (P Q : FormatFault → Type 0) → ((f : FormatFault) → P f → Q f) → IfSome (fault_of e) P → IfSome (fault_of e) Q
fault_along (refusal.Fault f) P Q to p = to f p
fault_along refusal.Memory P Q to p = p

-- a refusal of what can be read is want of memory
pub only_memory : {Y : Type 0} (e : RecordRefusal) (r : Result Y FormatFault) (y : Y) → IfSome (fault_of e) (λ f. r ≡ Err f) → r ≡ Ok y → e ≡ refusal.Memory
only_memory {Y} (refusal.Fault f) r y p is = absurd (let both : ◌≡◌ {A = Result Y FormatFault} (Err f) (Ok y) = sym p ∙ is in cc)
only_memory refusal.Memory r y p is = refl
