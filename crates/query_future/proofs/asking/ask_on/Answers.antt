use Rattle.std.proofs.Common.{◌≡◌, ◌∙◌, ap, sym, subst}
use Rattle.link_io.specs.declared.target.Target.{Target}
use Rattle.query_future.proofs.WindowLemmas.{apart_next}
use Rattle.query_future.proofs.asking.ask_on.Goals as goal

pub ask-requires-clause-apart : goal.ask-requires-clause-apart
ask-requires-clause-apart g c =
    λ _ _ x t m _ e. apart_next c.args.plan c.args.track.now.pass c.args.track.now.window.items c.requires.stands.paired c.in-Some.need c.in-Some.ensures.next x t m (e ∙ ap (λ (t : Target). t.key) c.in-Ok-target_for.ensures.target)
