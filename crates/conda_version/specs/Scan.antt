-- The search for a constraint's first fault, with a count in place of the places that are open. No public clause cites it.
use Rattle.std.specs.Prelude.{ℕ, ◌+◌, ◌-◌, ◌==◌, nat_lt, not, Bool, List, [], ◌∷◌, ◌++◌, Option, if◌then◌else◌}
use Rattle.conda_version.specs.Constraint.{ends_item, faults_here, first_of, if_so}
use Rattle.conda_version.specs.Token.{Placed, Token, leaf, left, right, and, or}
use Rattle.conda_version.specs.declared.fault.ConstraintFault.{ConstraintFault}
use Rattle.conda_version.specs.declared.fault.ConstraintFault.TheVariants as fault
use Rattle.conda_version.specs.declared.scan.Scan.{Scan}

-- how many `(` are open behind a token
abbrev pub depth_after : ℕ → Token → ℕ
depth_after depth (leaf text) = depth
depth_after depth left = depth + 1
depth_after depth right = depth - 1
depth_after depth and = depth
depth_after depth or = depth

-- where the outermost `(` that is open stands, behind a token
abbrev pub outermost_after : ℕ → ℕ → ℕ → Token → ℕ
outermost_after depth outermost at (leaf text) = outermost
outermost_after depth outermost at left = if depth == 0 then at else outermost
outermost_after depth outermost at right = outermost
outermost_after depth outermost at and = outermost
outermost_after depth outermost at or = outermost

-- the faults of some tokens and of the end, of which the outermost `(` that is never closed is one
abbrev pub scan_faults : Bool → ℕ → ℕ → ℕ → List Placed → List ConstraintFault
scan_faults item depth outermost end [] =
    if_so (not item) (fault.Empty end) ++ if_so (nat_lt 0 depth) (fault.Paren outermost)
scan_faults item depth outermost end (p ∷ ps) =
    faults_here item depth p.at p.token
    ++ scan_faults (ends_item p.token) (depth_after depth p.token) (outermost_after depth outermost p.at p.token) end ps

-- the first fault, where these tokens are left
abbrev pub scan_first : Scan → ℕ → List Placed → Option ConstraintFault
scan_first scan end ps = first_of scan.first (scan_faults scan.item scan.depth scan.outermost end ps)
