-- The answers of the commands over files, where the command is closure.
use Rattle.std.proofs.Common.{◌≡◌, ◌+◌, ℕ, List, [], ◌∷◌, Bool, true, false, ◌||◌, ◌==◌, Option, Some, None, IfSome, refl, sym, ◌∙◌, subst, true≢false, arith}
use Rattle.link_io.specs.Transfer.{LosesAtMost}
use Rattle.store_closure.specs.Asked.{Asked}
use Rattle.gateway_tool.specs.declared.note.Note.{Note}
use Rattle.gateway_tool.specs.Closure.{ClosureAnswers, most_input_bytes}
use Rattle.gateway_tool.specs.Outside.{Outside}
use Rattle.gateway_tool.specs.Command.{Task, Closure, command_of, Does, FilesAnswers}
use Rattle.gateway_tool.specs.Status.{status_ok, status_not_answered, status_read_fault, status_write_fault, status_out_of_memory, status_too_much_input, status_store_fault, status_bad_file, IsOneOf, HasStatusCause}

-- one of eight tests is one of these nine
widened : (a n b c d e f g h : Bool) → (a || (n || (c || (d || (e || (f || (g || (h || false)))))))) ≡ true → (a || (n || (b || (c || (d || (e || (f || (g || (h || false))))))))) ≡ true
widened true n b c d e f g h one = refl
widened false true b c d e f g h one = refl
widened false false true c d e f g h one = refl
widened false false false c d e f g h one = one

-- what closure answers is what the words lead to that ask for it
module _ (words : List (List ℕ)) (asked : Asked) (status : ℕ) (said : Note) where
  pub closure_answers : (before now : Outside) → command_of words ≡ Some (Closure asked) → ClosureAnswers asked before now status said
      → HasStatusCause status_read_fault before.read_faults now.read_faults status
      → HasStatusCause status_write_fault before.write_faults now.write_faults status
      → HasStatusCause status_store_fault before.store_faults now.store_faults status
      → LosesAtMost (most_input_bytes + 1) before.left now.left
      → FilesAnswers words before now status said
  closure_answers before now asks answers read write store loses =
      record {
        usage = λ e. absurd (true≢false (sym (subst (IsOneOf (status_ok ∷ status_not_answered ∷ status_read_fault ∷ status_write_fault ∷ status_out_of_memory ∷ status_too_much_input ∷ status_store_fault ∷ status_bad_file ∷ [])) e answers.statuses)));
        wrong_words = λ none. absurd (let wrong : ◌≡◌ {A = Option Task} (Some (Closure asked)) None = sym asks ∙ none in cc);
        does = subst (λ (o : Option Task). IfSome o (λ task. Does task before now status said)) (sym asks) answers;
        noted = answers.noted;
        read_fault = read;
        write_fault = write;
        store_fault = store;
        stops = record { front = loses.front; within = omega (arith, loses.within); bytes = loses.bytes };
        statuses = widened (0 == status) (1 == status) (2 == status) (3 == status) (4 == status) (5 == status) (6 == status) (7 == status) (8 == status) answers.statuses;
      }
