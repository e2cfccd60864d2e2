-- Readings one behind the other, and what a call that reads returned.
use Rattle.std.specs.Prelude.{◌≡◌, Option, Result, Ok, Err, MatchResult, IfSome}

-- the reading of what a first reading gave, or the first one's fault
infixl 10 ◌>>=◌
abbrev pub ◌>>=◌ : {A B E : Type 0} → Result A E → (A → Result B E) → Result B E
(Ok x) >>= f = f x
(Err e) >>= f = Err e

-- what a call returned, seen by view, is the reading; a refusal that has no fault is want of memory
abbrev pub Gives : {X Y E F : Type 0} → (X → Y) → (E → Option F) → Result X E → Result Y F → Type 0
Gives view fault_of result reading =
    MatchResult result (λ x. reading ≡ Ok (view x)) (λ e. IfSome (fault_of e) (λ f. reading ≡ Err f))
