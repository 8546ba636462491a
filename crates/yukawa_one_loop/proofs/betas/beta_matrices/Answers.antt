use Rattle.std.proofs.Common.{subst, arith}
use Rattle.yukawa_one_loop.specs.Parts.{AreBetas}
use Rattle.yukawa_one_loop.proofs.AllBetas.{betas_none, betas_more}
use Rattle.yukawa_one_loop.proofs.LineMatrices.{dummy_small, coordinates_past}
use Rattle.yukawa_one_loop.proofs.betas.beta_matrices.Goals as goal

pub overflow_add-a-end : goal.overflow_add-a-end
overflow_add-a-end c = omega (arith, dummy_small c.args.lines.now c.requires.lines)

pub loop-a-init : goal.loop-a-init
loop-a-init c = betas_none c.args.lines.now.model.now c.new-matrices.result c.new-matrices.ensures

pub beta_matrix-requires-clause-a : goal.beta_matrix-requires-clause-a
beta_matrix-requires-clause-a c = omega (arith, coordinates_past c.args.lines.now c.requires.lines, c.loop-a-test.true)

pub loop-a-preserved : goal.loop-a-preserved
loop-a-preserved c =
    betas_more c.args.lines.now.model.now c.loop-a.a c.loop-a.matrices c.push.new.self c.in_ok-beta_matrix.field-0 c.loop-a.invariant c.in_ok-beta_matrix.ensures.value c.in_ok-push.ensures.ok

pub returns-clause-value : goal.returns-clause-value
returns-clause-value c =
    subst (λ n. AreBetas c.args.lines.now.model.now n c.loop-a.matrices)
    (omega (arith, coordinates_past c.args.lines.now c.requires.lines, c.loop-a-test.false, c.loop-a.auto.a-end)) c.loop-a.invariant
