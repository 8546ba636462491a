use Rattle.std.proofs.Common.{◌≡◌, take}
use Rattle.std.specs.Prelude.{map}
use Rattle.span_solver.specs.BlockDirections.{numbers_of}
use Rattle.span_solver.proofs.directions.row_at.Given as goal

abbrev pub invariant-loop-direction : goal.invariant-loop-direction
invariant-loop-direction l = l.row ≡ take l.direction-index (map (λ d. numbers_of d l.key) (map (λ d. d.now) l.directions))
