-- What comes of a file, what a need adds, and what a line is answered with.
use Rattle.std.proofs.Common.{◌≡◌, ℕ, List, ◌++◌, Option, Some, None, IfSome, Result, Ok, Err, true, false, ap}
use Rattle.store_closure.specs.declared.stop.FileWhy.{FileWhy}
use Rattle.store_closure.specs.declared.stop.BadFile.{BadFile}
use Rattle.std.specs.Option.{option_map}
use Rattle.std.proofs.lemmas.List.{map-set}
use Rattle.channel_store.specs.Store.{Files}
use Rattle.closure_request.specs.Request.{Asking}
use Rattle.closure_request.specs.Reading.{fault_of}
use Rattle.closure_request.specs.declared.refusal.RequestRefusal.{RequestRefusal}
use Rattle.closure_request.specs.declared.refusal.RequestRefusal.TheVariants as refusal
use Rattle.closure_plan.specs.Closure.{Found}
use Rattle.closure_plan.specs.Giving.{with_pin}
use Rattle.closure_plan.specs.Plan.{Known}
use Rattle.answer_text.specs.Answers.{answer_text, refused_line}
use Rattle.store_closure.specs.declared.holders.OwnPin.{OwnPin}
use Rattle.store_closure.specs.declared.holders.OwnLeaf.{OwnLeaf}
use Rattle.store_closure.specs.Asked.{Asked, request_in}
use Rattle.store_closure.specs.Lines.{LineEnd, line_refused, line_answered, line_stopped}
use Rattle.store_closure.specs.Puts.{PutsLine, PutsRefusal}
use Rattle.store_closure.specs.Runs.{of_file, with_index, IsAnswer, StopsAt}
use Rattle.store_closure.specs.Stops.{its_index, taken}

-- what comes of a file, seen by another function
pub of_file_ok : {A B : Type 0} (name : List ℕ) (f : A → B) (file : Result A FileWhy) (x : A)
    → of_file name (λ (y : A). y) file ≡ Ok x → of_file name f file ≡ Ok (f x)
of_file_ok name f (Ok y) x is = cc
of_file_ok name f (Err why) x is = cc

pub of_file_err : {A B : Type 0} (name : List ℕ) (f : A → B) (file : Result A FileWhy) (bad : BadFile)
    → of_file name (λ (y : A). y) file ≡ Err bad → of_file name f file ≡ Err bad
of_file_err name f (Ok y) bad is = cc
of_file_err name f (Err why) bad is = cc

-- an index more is taken in
pub pinned_taken : (known : Known OwnPin OwnLeaf) (s : ℕ) (p : OwnPin) → taken (with_pin s p known) ≡ with_index (taken known) s p.0
pinned_taken known s p = ap (λ pins. record { pins = pins; leaves = (taken known).leaves }) (map-set (option_map its_index) known.pins s (Some p))

-- ---- lines

module _ (a : Asked) (number : ℕ) (line : List ℕ) where
  -- a line that stops
  pub stop_ends : (files : Option Files) (r : Asking) (bad : Option BadFile) → request_in a line ≡ Ok r
      → IfSome bad (λ b. IfSome files (λ told. StopsAt told r b)) → IfSome bad (λ b. IfSome files (λ told. LineEnd told a number line (Err b)))
  stop_ends files r None reads stops = tt
  stop_ends None r (Some b) reads stops = tt
  stop_ends (Some told) r (Some b) reads stops = line_stopped r b reads stops

  -- a line that is answered
  pub answer_puts : (files : Option Files) (r : Asking) (rows : List Found) (old new : List ℕ) → request_in a line ≡ Ok r → IfSome files (λ told. IsAnswer told r rows)
      → new ≡ old ++ answer_text number rows → IfSome files (λ told. PutsLine told a number line old new false)
  answer_puts None r rows old new reads is put = tt
  answer_puts (Some told) r rows old new reads is put = record { text = answer_text number rows; ends = line_answered r rows reads is; put = put }

  -- a line that is refused
  pub refusal_puts : (files : Option Files) (e : RequestRefusal) (old new : List ℕ) → IfSome (fault_of e) (λ f. request_in a line ≡ Err f)
      → PutsRefusal number e old new → IfSome files (λ told. PutsLine told a number line old new true)
  refusal_puts None e old new reads puts = tt
  refusal_puts (Some told) (refusal.Spec at fault) old new reads puts = record {
    text = refused_line number puts.spec puts.fault;
    ends = line_refused (refusal.Spec at fault) puts.spec puts.fault reads puts.numbers;
    put = puts.put;
  }
  refusal_puts (Some told) refusal.NotText old new reads puts = record {
    text = refused_line number puts.spec puts.fault;
    ends = line_refused refusal.NotText puts.spec puts.fault reads puts.numbers;
    put = puts.put;
  }
  refusal_puts (Some told) refusal.Memory old new reads puts = absurd (let wrong = puts.numbers in cc)
