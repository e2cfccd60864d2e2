-- What the outcome of reading a record's places says of the record that stands there.
use Rattle.std.proofs.Common.{◌≡◌, sym, ◌∙◌, false, List, ℕ, true≢false}
use Rattle.std.specs.Prelude.{Result, Ok, Err, IfOk, IfErr, IfSome, MatchResult, is_ok}
use Rattle.gateway_words.specs.Places.{Position}
use Rattle.gateway_words.specs.Reading.{Gives}
use Rattle.mp_codec.specs.declared.fault.FormatFault.{FormatFault}
use Rattle.mp_codec.specs.Fault.{IsFirstFault, WithBreaks}
use Rattle.mp_codec.specs.Span.{IsIn}
use Rattle.mp_codec.proofs.HeadLemmas.{ok_first, ok_second}
use Rattle.conda_record.specs.declared.refusal.RecordRefusal.{RecordRefusal}
use Rattle.conda_record.specs.declared.refusal.RecordRefusal.TheVariants as refusal
use Rattle.conda_record.specs.Record.{Fields, RecordAt, RecordFault}
use Rattle.conda_record.specs.Reading.{fault_of, record_from}
use Rattle.conda_record.specs.Places.{Places, fields_at}
use Rattle.conda_record.specs.Placing.{places_from}
use Rattle.conda_record.proofs.RecordLemmas.{record_first, record_at_read}
use Rattle.conda_record.proofs.PlacesLemmas.{places_found, record_at_places, fault_at_places}
use Rattle.conda_record.proofs.RefusalLemmas.{fault_along, only_memory}

-- the outcome is the reading of the places of the record here, up to there
abbrev pub Outcome : Position → Position → Result Places RecordRefusal → Type 0
Outcome here there r = Gives (λ (s : Places). (s, there)) fault_of r (places_from here)

module _ (here there : Position) where
  -- what is read is the record that stands here
  pub is_found : (r : Result Places RecordRefusal) → Outcome here there r
      → IfOk r (λ s. (bytes : List ℕ) → IsIn bytes here → RecordAt here (fields_at bytes s) there)
  is_found (Ok s) read = λ bytes i. places_found bytes here there s i read
  is_found (Err e) read = tt

  -- the first fault is the one that is answered
  pub is_first : (r : Result Places RecordRefusal) → Outcome here there r
      → IfErr r (λ e. IfSome (fault_of e) (IsFirstFault (WithBreaks RecordFault here)))
  is_first (Ok s) read = tt
  is_first (Err e) read =
      fault_along e _ (λ (f : FormatFault). IsFirstFault (WithBreaks RecordFault here) f)
      (λ f stands. record_first here f (fault_at_places here f stands)) read

  -- the record that stands here is read, unless memory runs out
  pub is_only : (r : Result Places RecordRefusal) → Outcome here there r
      → (bytes : List ℕ) (fields : Fields) (end : Position) → IsIn bytes here → RecordAt here fields end
      → MatchResult r (λ s. (fields_at bytes s ≡ fields) × (there ≡ end)) (λ e. e ≡ refusal.Memory)
  is_only (Ok s) read bytes fields end i stands =
      let both : ◌≡◌ {A = Result (Fields × Position) FormatFault} (Ok (fields_at bytes s, there)) (Ok (fields, end)) =
      sym (record_at_places bytes here there s i read) ∙ record_at_read here end fields stands in
      (ok_first both, ok_second both)
  is_only (Err e) read bytes fields end i stands =
      only_memory e (record_from here) (fields, end)
      (fault_along e _ (λ (f : FormatFault). record_from here ≡ Err f) (λ f is. fault_at_places here f is) read)
      (record_at_read here end fields stands)

  -- the same of an outcome that is a refusal, wherever the cursor stands
  pub is_only_refused : (r : Result Places RecordRefusal) (now : Position) → is_ok r ≡ false → Outcome here there r
      → (bytes : List ℕ) (fields : Fields) (end : Position) → IsIn bytes here → RecordAt here fields end
      → MatchResult r (λ s. (fields_at bytes s ≡ fields) × (now ≡ end)) (λ e. e ≡ refusal.Memory)
  is_only_refused (Ok s) now refused read bytes fields end i stands = absurd (true≢false refused)
  is_only_refused (Err e) now refused read bytes fields end i stands = is_only (Err e) read bytes fields end i stands
