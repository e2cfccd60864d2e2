use Rattle.std.proofs.Common.{◌≡◌, length}
use Rattle.match_spec.specs.StarBuild.{fits_build, some_end}
use Rattle.match_spec.proofs.build.fits_behind_star.Given as goal

abbrev pub invariant-stars : goal.invariant-stars
invariant-stars l = some_end (fits_build l.build) l.text ≡ some_end (fits_build l.fn.build) l.fn.text

abbrev pub decreases-stars : goal.decreases-stars
decreases-stars l = length l.build
