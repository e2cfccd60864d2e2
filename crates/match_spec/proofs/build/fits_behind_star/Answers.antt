use Rattle.std.proofs.Common.{sym, ◌∙◌, ap}
use Rattle.match_spec.specs.StarBuild.{fits_build, some_end}
use Rattle.match_spec.proofs.StarLemmas.{cut-none, cut-some, passed_by, some-last, some-piece}
use Rattle.match_spec.proofs.build.fits_behind_star.Goals as goal

pub returns-in_default-behind_first : goal.returns-in_default-behind_first
returns-in_default-behind_first c =
    let cut = cut-some c.stars.build.now (c.in-Some.piece.now, c.in-Some.rest.now) (sym c.in-Some.ensures) in
    ap (passed_by (some_end (fits_build c.in-Some.rest.now))) c.in_default-behind_first.ensures
    ∙ sym (some-piece c.in-Some.piece.now c.in-Some.rest.now c.stars.text.now cut.1)
    ∙ ap (λ b. some_end (fits_build b) c.stars.text.now) (sym cut.0)
    ∙ c.stars.invariant

pub stars-preserved : goal.stars-preserved
stars-preserved c =
    let cut = cut-some c.stars.build.now (c.in-Some.piece.now, c.in-Some.rest.now) (sym c.in-Some.ensures) in
    ap (passed_by (some_end (fits_build c.in-Some.rest.now))) c.in-Some-behind_first.ensures
    ∙ sym (some-piece c.in-Some.piece.now c.in-Some.rest.now c.stars.text.now cut.1)
    ∙ ap (λ b. some_end (fits_build b) c.stars.text.now) (sym cut.0)
    ∙ c.stars.invariant

pub returns : goal.returns
returns c =
    c.ends_with.ensures.value
    ∙ sym (some-last c.stars.build.now c.stars.text.now (cut-none c.stars.build.now (sym c.in_default.ensures)))
    ∙ c.stars.invariant
