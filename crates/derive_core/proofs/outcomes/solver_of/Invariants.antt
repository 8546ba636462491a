use Rattle.std.proofs.Common.{take}
use Rattle.derive_core.specs.Surveys.{HasSolver}
use Rattle.derive_core.proofs.outcomes.solver_of.Given as goal

abbrev pub invariant-loop-solver : goal.invariant-loop-solver
invariant-loop-solver l = ¬ HasSolver l.name (take l.solver-index l.solvers)
