-- A step into a room behind some bytes.
use Rattle.std.proofs.Common.{◌≡◌, ℕ, ◌+◌, List, ◌++◌, length, take, drop, sym, ◌∙◌, ap, arith}
use Rattle.std.specs.Io.KnownBytes.{append_known}
use Rattle.std.proofs.Math.Seq.{take-add}
use Rattle.std.proofs.lemmas.List.{take_all, length-take-le, length-drop}
use Rattle.link_io.specs.declared.conn.Step.{Step}
use Rattle.link_io.specs.declared.conn.Step.TheVariants as stepping
use Rattle.link_io.specs.Conn.{LinkFacts, IsSameLink, Steps}
use Rattle.link_io.specs.Parcel.{count_in, Behind, StepsBehind}

module _ (old new : LinkFacts) (before whole now : List ℕ) (room : ℕ) (front : take (length before) whole ≡ before) (size : length whole ≡ length before + room) where
  unmoved : now ≡ take (length before + 0) whole → now ≡ before
  unmoved is = let none : length before + 0 ≡ length before = omega arith in is ∙ ap (λ (n : ℕ). take n whole) none ∙ front

  behind : (answer : Step) → Steps old new (drop (length before) whole) answer → now ≡ take (length before + count_in answer) whole → Behind old new before now room answer
  behind (stepping.Got n) got is =
      let spare : length (drop (length before) whole) ≡ room = omega (arith, size, length-drop (length before) whole) in
      let long : length (take n (drop (length before) whole)) ≡ n = length-take-le n (drop (length before) whole) got.within in (
        take n (drop (length before) whole),
        is ∙ take-add (length before) n whole ∙ ap (λ (l : List ℕ). l ++ take n (drop (length before) whole)) front,
        long,
        omega (arith, got.within, spare),
        record {
          some = got.some;
          within = omega (arith, long);
          given = got.given ∙ ap (append_known old.given) (sym (take_all n (take n (drop (length before) whole)) (omega (arith, long))));
          sent = got.sent;
        },
      )
  behind stepping.End x is = (unmoved is, x)
  behind stepping.NotYet x is = (unmoved is, x)
  behind stepping.Failed x is = (unmoved is, x)

  -- what a step does behind some bytes, where the room behind them is cut to what it gave
  pub steps-behind : (answer : Step) → IsSameLink old new → Steps old new (drop (length before) whole) answer → now ≡ take (length before + count_in answer) whole
      → StepsBehind room old new before now answer
  steps-behind answer same steps is = record { same = same; behind = behind answer steps is }
