-- What the commands over files answer: index, and show where memory ran out at the words.
use Rattle.std.proofs.Common.{◌≡◌, ◌+◌, ℕ, List, [], ◌∷◌, Bool, true, false, ◌||◌, ◌==◌, Option, Some, None, IfSome, refl, sym, ◌∙◌, subst, true≢false, arith, rules}
use Rattle.gateway_words.specs.Limits.{most_served_bytes}
use Rattle.link_io.specs.Transfer.{LosesAtMost}
use Rattle.gateway_tool.specs.declared.note.Note.{Note}
use Rattle.gateway_tool.specs.declared.note.Note.TheVariants as note
use Rattle.gateway_tool.specs.Status.{status_ok, status_write_fault, status_out_of_memory, status_store_fault, status_bad_file, IsOneOf, HasStatusCause}
use Rattle.gateway_tool.specs.Index.{IndexAnswers}
use Rattle.gateway_tool.specs.Command.{Task, Show, Index, Closure, command_of, Does, FilesAnswers}
use Rattle.gateway_tool.specs.Outside.{Outside}
use Rattle.gateway_tool.proofs.ClosureLemmas.{nothing_is_closed}
use Rattle.gateway_tool.specs.Meant.{TakesMemory}

-- where memory ran out at its words, show reads and writes nothing
pub nothing_is_done : (asked : Option Task) (same : Outside) → IfSome asked TakesMemory
    → IfSome asked (λ a. Does a same same status_out_of_memory note.Nothing)
nothing_is_done None same is = tt
nothing_is_done (Some (Show spec)) same is = search rules
nothing_is_done (Some (Index place)) same is = absurd is
nothing_is_done (Some (Closure asked)) same is = nothing_is_closed asked same

-- nothing is lost where nothing was read
loses_none : (limit : ℕ) (left : Option (List ℕ)) → LosesAtMost limit left left
loses_none limit None = record { front = []; within = omega arith; bytes = refl }
loses_none limit (Some bytes) = record { front = []; within = omega arith; bytes = refl }

-- one of five tests is one of these nine
widened : (a n b c d e f g h : Bool) → (a || (d || (e || (g || (h || false))))) ≡ true → (a || (n || (b || (c || (d || (e || (f || (g || (h || false))))))))) ≡ true
widened true n b c d e f g h one = refl
widened false true b c d e f g h one = refl
widened false false true c d e f g h one = refl
widened false false false true d e f g h one = refl
widened false false false false true e f g h one = refl
widened false false false false false true f g h one = refl
widened false false false false false false true g h one = refl
widened false false false false false false false true h one = refl
widened false false false false false false false false h one = one

module _ (words : List (List ℕ)) (place : List ℕ) (left : Option (List ℕ)) (faults : ℕ) (status : ℕ) (said : Note) where
  -- what index answers is what the words lead to that ask for it
  pub index_answers : (before now : Outside) → before.left ≡ left → now.left ≡ left → before.read_faults ≡ faults → now.read_faults ≡ faults
      → command_of words ≡ Some (Index place) → IndexAnswers place before.files now.files before.written now.written status said
      → HasStatusCause status_write_fault before.write_faults now.write_faults status
      → HasStatusCause status_store_fault before.store_faults now.store_faults status
      → FilesAnswers words before now status said
  index_answers before now was is fell stood asks answers write store =
      record {
        usage = λ e. absurd (true≢false (sym (subst (IsOneOf (status_ok ∷ status_write_fault ∷ status_out_of_memory ∷ status_store_fault ∷ status_bad_file ∷ [])) e answers.statuses)));
        wrong_words = λ none. absurd (let wrong : ◌≡◌ {A = Option Task} (Some (Index place)) None = sym asks ∙ none in cc);
        does = subst (λ (o : Option Task). IfSome o (λ asked. Does asked before now status said)) (sym asks) answers;
        noted = answers.noted;
        read_fault = record {
          later = omega (arith, fell, stood);
          failed = λ e. absurd (true≢false (sym (subst (IsOneOf (status_ok ∷ status_write_fault ∷ status_out_of_memory ∷ status_store_fault ∷ status_bad_file ∷ [])) e answers.statuses)));
        };
        write_fault = write;
        store_fault = store;
        stops = subst (λ (o : Option (List ℕ)). LosesAtMost (most_served_bytes + 1) o now.left) (is ∙ sym was) (loses_none (most_served_bytes + 1) now.left);
        statuses = widened (0 == status) (1 == status) (2 == status) (3 == status) (4 == status) (5 == status) (6 == status) (7 == status) (8 == status) answers.statuses;
      }
