use Rattle.std.proofs.Common.{◌≡◌, sym, ◌∙◌, ap, ℕ, ◌<◌, List, [], ◌∷◌, ◌++◌, length, arith}
use Rattle.std.specs.Prelude.{Some, slice_get}
use Rattle.std.specs.Option.{option_copied}
use Rattle.conda_record.specs.View.{seen}
use Rattle.conda_record.proofs.CopyLemmas.{take_there, is_there}
use Rattle.conda_record.proofs.copying.constrains.Goals.{in-Some+in_ok-copy+in_ok-push, in_default}
use Rattle.conda_record.proofs.copying.constrains.Goals as goal

pub loop-i-preserved : goal.loop-i-preserved
loop-i-preserved c = elim c.match-constrain.branch [
  | in-Some+in_ok-copy+in_ok-push w ↦
      let texts : List (List ℕ) = (seen c.args.view).constrains in
      let at : slice_get texts c.loop-i.i ≡ Some w.in-Some.text.now = sym c.constrain.ensures ∙ ap option_copied w.in-Some.is in
      ap (λ v. v.items) w.texts-is ∙ w.in_ok-push.ensures.items ∙ ap (λ (t : List ℕ). c.loop-i.texts.items ++ t ∷ []) w.in_ok-copy.ensures
      ∙ ap (λ (ts : List (List ℕ)). ts ++ w.in-Some.text.now ∷ []) c.loop-i.invariant ∙ sym (take_there texts c.loop-i.i w.in-Some.text.now at)
  | in_default w ↦ absurd (is_there (seen c.args.view).constrains c.loop-i.i (let end : c.constrains_len-i-end.result ≡ length (seen c.args.view).constrains = c.constrains_len-i-end.ensures in let below : c.loop-i.i < c.constrains_len-i-end.result = c.loop-i-test.true in omega arith) (sym c.constrain.ensures ∙ ap option_copied w.in_default.is))
]
