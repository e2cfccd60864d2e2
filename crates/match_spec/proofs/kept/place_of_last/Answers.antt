use Rattle.std.proofs.Common.{rules, ◌≡◌, ◌≤◌, ℕ, length, sym, subst}
use Rattle.match_spec.specs.Kept.{place_of_last}
use Rattle.match_spec.proofs.KeptLemmas.{place-within}
use Rattle.match_spec.proofs.kept.place_of_last.Goals as goal

pub returns-clause-within : goal.returns-clause-within
returns-clause-within c =
    let e : c.place_in.result ≡ place_of_last c.args.n (length c.args.text.now) c.args.kept.now = search rules in
    let P : ℕ → Type 0 = λ x. x ≤ length c.args.text.now in
    subst P (sym e) (place-within c.args.n c.args.text.now c.args.kept.now c.requires)
