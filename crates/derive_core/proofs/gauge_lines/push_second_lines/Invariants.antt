use Rattle.std.proofs.Common.{◌≡◌, ◌++◌, drop, map}
use Rattle.std.specs.List.{enumerate_from}
use Rattle.derive_core.specs.Lines.{second_of}
use Rattle.derive_core.proofs.gauge_lines.push_second_lines.Given as goal

-- the lines so far, and then those of the beta functions that are left
abbrev pub invariant-loop-place : goal.invariant-loop-place
invariant-loop-place l =
    l.lines ++ map second_of (enumerate_from l.place (drop l.place l.values)) ≡ l.initial.lines ++ map second_of (enumerate_from 0 l.values)
