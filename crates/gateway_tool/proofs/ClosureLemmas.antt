-- What closure answers.
use Rattle.std.proofs.Common.{◌≡◌, ℕ, List, [], ◌∷◌, Bool, true, false, Option, Some, None, IfSome, Ok, Err, refl, sym, ◌∙◌, subst, true≢false, arith}
use Rattle.channel_store.specs.Store.{Files}
use Rattle.store_closure.specs.Asked.{Asked}
use Rattle.store_closure.specs.Lines.{End, LinesEnd, input_lines}
use Rattle.store_closure.specs.declared.stop.BadFile.{BadFile}
use Rattle.store_closure.proofs.EndLemmas.{lines_have_one_end}
use Rattle.gateway_tool.specs.declared.note.Note.{Note}
use Rattle.gateway_tool.specs.declared.note.Note.TheVariants as note
use Rattle.std.specs.Io.KnownBytes.{append_known, IsAtEnd}
use Rattle.link_io.specs.Transfer.{AppendsPart}
use Rattle.gateway_tool.specs.Show.{IsWhole}
use Rattle.gateway_tool.specs.Closure.{ClosureAnswers, InputLeadsTo, EndLeadsTo, EndsSo, is_too_much, answered_status}
use Rattle.gateway_tool.specs.Outside.{Outside}
use Rattle.gateway_tool.specs.Status.{status_ok, status_not_answered, status_read_fault, status_write_fault, status_out_of_memory, status_store_fault, status_bad_file, IsOneOf}

-- a status that comes from apart is one to which any end leads
module _ (status : ℕ) (said : Note) where
  apart_leads : IsOneOf (status_read_fault ∷ status_out_of_memory ∷ status_store_fault ∷ []) status → (status ≡ status_bad_file → ⊥)
      → (asked : Asked) (files : Option Files) (input : List ℕ) → InputLeadsTo asked files input status said
  apart_leads one not_bad asked files input = record {
    too_much = λ _. grind arith;
    ends = λ _. of files;
  } where
    end_leads : (end : End) → EndLeadsTo end status said
    end_leads (Ok (text, refused)) = grind arith
    end_leads (Err bad) = (grind arith, λ is. absurd (not_bad is))

    of : (fs : Option Files) → IfSome fs (λ told. (end : End) → LinesEnd told asked 1 (input_lines input) end → EndLeadsTo end status said)
    of None = tt
    of (Some told) = λ end _. end_leads end

-- where memory ran out at its words, closure reads and writes nothing
pub nothing_is_closed : (asked : Asked) (same : Outside) → ClosureAnswers asked same same status_out_of_memory note.Nothing
nothing_is_closed asked same = record {
  answered = λ e. absurd (true≢false (sym e));
  part = λ e. absurd (omega (arith, e));
  silent = λ _ _ _. refl;
  bad_file = λ e. absurd (omega (arith, e));
  noted = λ _. refl;
  too_much = λ e. absurd (omega (arith, e));
  whole = λ e. absurd (true≢false (sym e));
  leads = of same.left;
  files = refl;
  statuses = refl;
} where
  of : (left : Option (List ℕ)) → IfSome left (λ input. InputLeadsTo asked same.files input status_out_of_memory note.Nothing)
  of None = tt
  of (Some input) = apart_leads status_out_of_memory note.Nothing refl (λ e. omega (arith, e)) asked same.files input

-- an input that isn't too much leads by the end of its lines, which is one
module _ (asked : Asked) (before now : Outside) (input : List ℕ) (whole : IsWhole before.left input) (within : is_too_much input ≡ false) (same : now.files ≡ before.files) where
  by_end : (end : End) (status : ℕ) (said : Note) → EndsSo asked before.files input end → EndLeadsTo end status said → IfSome before.left (λ all. InputLeadsTo asked before.files all status said)
  by_end end status said ends leads = over before.left whole
    where
      other_ends : (files : Option Files) → EndsSo asked files input end → IfSome files (λ told. (other : End) → LinesEnd told asked 1 (input_lines input) other → EndLeadsTo other status said)
      other_ends None e = tt
      other_ends (Some told) e = λ other lies. subst (λ (x : End). EndLeadsTo x status said) (lines_have_one_end told asked 1 (input_lines input) end other e lies) leads

      so : InputLeadsTo asked before.files input status said
      so = record { too_much = λ is. absurd (true≢false (sym is ∙ within)); ends = λ _. other_ends before.files ends }

      over : (left : Option (List ℕ)) → IsWhole left input → IfSome left (λ all. InputLeadsTo asked before.files all status said)
      over None w = tt
      over (Some all) w = subst (λ (t : List ℕ). InputLeadsTo asked before.files t status said) w so

  -- all lines were answered or refused, and all was written
  pub closed_whole : (text : List ℕ) (refused : Bool) → EndsSo asked before.files input (Ok (text, refused)) → now.written ≡ append_known before.written text → IsAtEnd now.left
      → ClosureAnswers asked before now (answered_status refused) note.Nothing
  closed_whole text true ends wrote at_end = record {
    answered = λ _. record { input = input; text = text; refused = true; whole = whole; ends = ends; written = (wrote, refl) };
    part = λ e. absurd (omega (arith, e));
    silent = λ _ no _. absurd (no refl);
    bad_file = λ e. absurd (omega (arith, e));
    noted = λ _. refl;
    too_much = λ e. absurd (omega (arith, e));
    whole = λ _. at_end;
    leads = by_end (Ok (text, true)) status_not_answered note.Nothing ends refl;
    files = same;
    statuses = refl;
  }
  closed_whole text false ends wrote at_end = record {
    answered = λ _. record { input = input; text = text; refused = false; whole = whole; ends = ends; written = (wrote, refl) };
    part = λ e. absurd (omega (arith, e));
    silent = λ no _ _. absurd (no refl);
    bad_file = λ e. absurd (omega (arith, e));
    noted = λ _. refl;
    too_much = λ e. absurd (omega (arith, e));
    whole = λ _. at_end;
    leads = by_end (Ok (text, false)) status_ok note.Nothing ends refl;
    files = same;
    statuses = refl;
  }

  -- the same, and the write failed
  pub closed_part : (text : List ℕ) (refused : Bool) → EndsSo asked before.files input (Ok (text, refused)) → AppendsPart before.written now.written text
      → ClosureAnswers asked before now status_write_fault note.Nothing
  closed_part text refused ends part = record {
    answered = λ e. absurd (true≢false (sym e));
    part = λ _. record { input = input; text = text; refused = refused; whole = whole; ends = ends; written = part };
    silent = λ _ _ no. absurd (no refl);
    bad_file = λ e. absurd (omega (arith, e));
    noted = λ _. refl;
    too_much = λ e. absurd (omega (arith, e));
    whole = λ e. absurd (true≢false (sym e));
    leads = by_end (Ok (text, refused)) status_write_fault note.Nothing ends (either refused);
    files = same;
    statuses = refl;
  } where
    either : (r : Bool) → EndLeadsTo (Ok (text, r)) status_write_fault note.Nothing
    either true = refl
    either false = refl

  -- a line needs a bad file
  pub closed_bad : (bad : BadFile) → EndsSo asked before.files input (Err bad) → now.written ≡ before.written
      → ClosureAnswers asked before now status_bad_file (note.File bad.name bad.why)
  closed_bad bad ends unwritten = record {
    answered = λ e. absurd (true≢false (sym e));
    part = λ e. absurd (omega (arith, e));
    silent = λ _ _ _. unwritten;
    bad_file = λ _. record { input = input; bad = bad; whole = whole; ends = ends; noted = refl };
    noted = λ no. absurd (no refl);
    too_much = λ e. absurd (omega (arith, e));
    whole = λ e. absurd (true≢false (sym e));
    leads = by_end (Err bad) status_bad_file (note.File bad.name bad.why) ends (refl, λ _. refl);
    files = same;
    statuses = refl;
  }
