-- How many connections were given, and how many are left of those that are wanted.
use Rattle.std.proofs.Common.{◌≡◌, ℕ, zero, suc, ◌+◌, ◌-◌, ◌≤◌, Option, None, Some, sym, ◌∙◌, ap, arith}
use Rattle.std.specs.Prelude.{◌≢◌, IfSome}
use Rattle.std.specs.Option.{option_map}
use Rattle.shard_service.specs.Serving.{raised, one_more}

-- so many connections were given, and so many are left of those that are wanted
pub record SoFar (wanted left : Option ℕ) (accepted_before accepted_now faults_before faults_now : ℕ) : Type 0 where
  pub given : ℕ
  pub counted : accepted_now ≡ raised given accepted_before
  pub within : IfSome wanted (λ most. given ≤ most)
  pub left_is : left ≡ option_map (λ most. most - given) wanted
  pub later : faults_before ≤ faults_now

-- one more was given, where one is left
pub stepped : (wanted left left' : Option ℕ) (a b c f g h : ℕ) → SoFar wanted left a b f g → left ≢ Some 0
    → c ≡ one_more b → g ≤ h → left' ≡ option_map (λ n. n - 1) left → SoFar wanted left' a c f h
stepped None left left' a b c f g h so some more later less =
    record { given = suc so.given; counted = more ∙ ap one_more so.counted; within = tt; left_is = less ∙ ap (option_map (λ n. n - 1)) so.left_is; later = omega (arith, so.later, later) }
stepped (Some most) left left' a b c f g h so some more later less = record {
  given = suc so.given;
  counted = more ∙ ap one_more so.counted;
  within = room most so.given so.within (λ e. some (so.left_is ∙ ap Some e));
  left_is = less ∙ ap (option_map (λ n. n - 1)) so.left_is ∙ ap Some (lower most so.given);
  later = omega (arith, so.later, later);
}
  where
    room : (n k : ℕ) → k ≤ n → (n - k ≡ 0 → ⊥) → suc k ≤ n
    room n k le more = omega (arith, le, more)

    lower : (n k : ℕ) → (n - k) - 1 ≡ n - suc k
    lower n k = omega arith
