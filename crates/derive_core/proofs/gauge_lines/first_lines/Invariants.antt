use Rattle.std.proofs.Common.{◌≡◌, ◌++◌, drop, map}
use Rattle.std.specs.List.{enumerate_from}
use Rattle.derive_core.specs.Lines.{gauge_line}
use Rattle.derive_core.proofs.gauge_lines.first_lines.Given as goal

-- the lines so far, and then those of the groups that are left
abbrev pub invariant-loop-place : goal.invariant-loop-place
invariant-loop-place l =
    l.lines ++ map (gauge_line l.model) (enumerate_from l.place (drop l.place l.model.groups)) ≡ map (gauge_line l.model) (enumerate_from 0 l.model.groups)
