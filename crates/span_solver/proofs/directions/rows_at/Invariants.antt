use Rattle.std.proofs.Common.{◌≡◌, take}
use Rattle.std.specs.Prelude.{map}
use Rattle.span_solver.specs.BlockDirections.{numbers_of}
use Rattle.span_solver.proofs.directions.rows_at.Given as goal

abbrev pub invariant-loop-key : goal.invariant-loop-key
invariant-loop-key l = l.rows.items ≡ take l.key-index (map (λ key. map (λ d. numbers_of d key) (map (λ d. d.now) l.directions)) l.keys)
