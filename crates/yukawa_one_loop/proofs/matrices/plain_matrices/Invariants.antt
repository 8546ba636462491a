use Rattle.std.proofs.Common.{take}
use Rattle.model_core.specs.Scalar.{scalar_coordinates}
use Rattle.beta_formulas.specs.YukawaBeta.{yukawa}
use Rattle.yukawa_one_loop.specs.Matrices.{AreMatrices}
use Rattle.yukawa_one_loop.proofs.matrices.plain_matrices.Given as goal

abbrev pub invariant-loop-place : goal.invariant-loop-place
invariant-loop-place l = AreMatrices l.model (yukawa l.model) (take l.place (scalar_coordinates l.model)) l.matrices
