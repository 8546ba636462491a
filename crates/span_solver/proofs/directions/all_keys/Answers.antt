use Rattle.std.proofs.Common.{ap₂, ◌∙◌}
use Rattle.std.specs.Prelude.{map}
use Rattle.span_solver.specs.MergedKeys.{merge_keys}
use Rattle.span_solver.proofs.Gathered.{image_at, gathered-more}
use Rattle.span_solver.proofs.directions.all_keys.Goals as goal

pub loop-direction-preserved : goal.loop-direction-preserved
loop-direction-preserved c =
    gathered-more (map (λ d. d.now) c.args.directions.now) c.loop-direction.direction-index c.direction-item.result.now c.loop-direction.keys.items c.in_ok-keys.keys.items _
    (image_at c.args.directions.now (λ d. d.now) c.loop-direction.direction-index c.direction-item.result c.loop-direction-test.true c.direction-item.is) c.loop-direction.invariant
    (c.in_ok-keys.ensures ∙ ap₂ merge_keys c.as_slice.ensures.value (c.as_slice-in-loop-direction.ensures.value ∙ c.in_ok-own.ensures))
