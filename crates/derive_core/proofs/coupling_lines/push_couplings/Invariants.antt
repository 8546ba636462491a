use Rattle.std.proofs.Common.{◌≡◌, ◌++◌, take, drop, []}
use Rattle.derive_core.specs.LineSteps.{found_lines_after}
use Rattle.derive_core.proofs.coupling_lines.push_couplings.Given as goal

-- the lines so far, and then those of the directions that are left
abbrev pub invariant-loop-place : goal.invariant-loop-place
invariant-loop-place l =
    l.lines ++ found_lines_after l.told (take l.place l.directions) (drop l.place l.directions) ≡ l.initial.lines ++ found_lines_after l.told [] l.directions
