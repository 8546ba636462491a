use Rattle.std.proofs.Common.{◌≡◌, [], drop}
use Rattle.std.specs.Prelude.{map}
use Rattle.span_solver.specs.ChosenDirections.{gathered_keys}
use Rattle.span_solver.proofs.directions.all_keys.Given as goal

abbrev pub invariant-loop-direction : goal.invariant-loop-direction
invariant-loop-direction l = gathered_keys l.keys.items (drop l.direction-index (map (λ d. d.now) l.directions)) ≡ gathered_keys [] (map (λ d. d.now) l.directions)
