use Rattle.std.proofs.Common.{arith}
use Rattle.neighbour_laws.proofs.Failures.{group_is_special, neighbours_tell, neighbours_told}
use Rattle.neighbour_laws.proofs.Neighbours.{neighbours_are_enough}
use Rattle.neighbour_laws.proofs.laws.neighbours_suffice.Goals as goal

pub returns-clause-side : goal.returns-clause-side
returns-clause-side c = λ model direction side place group valid found special near i j values.
    let large = group_is_special model valid place group found special in
    neighbours_are_enough model valid direction side place group found (omega (arith, large)) near i j values.0.0 values.0.1 values.1.0.0 values.1.0.1

pub returns-clause-failures : goal.returns-clause-failures
returns-clause-failures c = λ model term direction valid. (neighbours_tell model valid term direction, neighbours_told model valid term direction)
