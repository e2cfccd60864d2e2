use Rattle.std.proofs.Common.{sym, ◌∙◌, ap}
use Rattle.match_spec.specs.StarBuild.{fits_build, some_end}
use Rattle.match_spec.proofs.StarLemmas.{cut-none, cut-some, fits-piece, fits-plain, passed_by}
use Rattle.match_spec.proofs.build.fits_build.Goals as goal

pub returns-in_default : goal.returns-in_default
returns-in_default c =
    c.eq.ensures ∙ sym (fits-plain c.args.build.now c.args.text.now (cut-none c.args.build.now (sym c.in_default.ensures)))

pub returns-in-Some-behind_start : goal.returns-in-Some-behind_start
returns-in-Some-behind_start c =
    let cut = cut-some c.args.build.now (c.in-Some.first.now, c.in-Some.rest.now) (sym c.in-Some.ensures) in
    c.fits_behind_star.ensures
    ∙ ap (passed_by (some_end (fits_build c.in-Some.rest.now))) c.in-Some-behind_start.ensures
    ∙ sym (fits-piece c.in-Some.first.now c.in-Some.rest.now c.args.text.now cut.1)
    ∙ ap (λ b. fits_build b c.args.text.now) (sym cut.0)

pub returns-in-None : goal.returns-in-None
returns-in-None c =
    let cut = cut-some c.args.build.now (c.in-Some.first.now, c.in-Some.rest.now) (sym c.in-Some.ensures) in
    ap (passed_by (some_end (fits_build c.in-Some.rest.now))) c.in-None.ensures
    ∙ sym (fits-piece c.in-Some.first.now c.in-Some.rest.now c.args.text.now cut.1)
    ∙ ap (λ b. fits_build b c.args.text.now) (sym cut.0)
