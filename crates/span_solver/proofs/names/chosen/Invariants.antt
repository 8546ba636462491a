use Rattle.std.proofs.Common.{◌≡◌, ◌++◌, drop}
use Rattle.std.specs.Prelude.{map}
use Rattle.span_solver.specs.BlockDirections.{block_directions}
use Rattle.span_solver.proofs.names.chosen.Given as goal

abbrev pub invariant-loop-direction : goal.invariant-loop-direction
invariant-loop-direction l = map (λ d. d.now) l.found.items ++ block_directions (drop l.direction-index l.directions) l.name ≡ block_directions l.directions l.name
