use Rattle.std.proofs.Common.{◌≡◌, map, take}
use Rattle.std.specs.List.{enumerate_from}
use Rattle.yukawa_one_loop.specs.Parts.{gauge_line}
use Rattle.yukawa_one_loop.proofs.gauges.gauge_lines.Given as goal

abbrev pub invariant-loop-place : goal.invariant-loop-place
invariant-loop-place l = l.lines ≡ map (gauge_line l.model) (take l.place (enumerate_from 0 l.model.groups))
