use Rattle.yukawa_one_loop.specs.Parts.{AreBetas}
use Rattle.yukawa_one_loop.proofs.betas.beta_matrices.Given as goal

abbrev pub invariant-loop-a : goal.invariant-loop-a
invariant-loop-a l = AreBetas l.lines.model.now l.a l.matrices
