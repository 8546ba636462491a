use Rattle.std.proofs.Common.{arith}
use Rattle.model_core.specs.Scalar.{scalar_coordinates}
use Rattle.beta_formulas.specs.YukawaBeta.{conjugate}
use Rattle.yukawa_one_loop.proofs.Slices.{matrices_step, matrices_end}
use Rattle.yukawa_one_loop.proofs.matrices.conjugate_matrices.Goals as goal

pub loop-place-preserved : goal.loop-place-preserved
loop-place-preserved c =
    let model = c.args.model.now in
    matrices_step model (conjugate model) (scalar_coordinates model) c.loop-place.place c.loop-place.matrices c.push.new.self c.in_ok-conjugate_at.field-0 (omega (arith, c.loop-place-test.true, c.scalar_count-place-end.ensures)) c.loop-place.invariant
    c.in_ok-conjugate_at.ensures.value c.in_ok-push.ensures.ok

pub returns-clause-value : goal.returns-clause-value
returns-clause-value c =
    let model = c.args.model.now in
    matrices_end model (conjugate model) (scalar_coordinates model) c.loop-place.place c.loop-place.matrices (omega (arith, c.loop-place-test.false, c.scalar_count-place-end.ensures)) c.loop-place.invariant
