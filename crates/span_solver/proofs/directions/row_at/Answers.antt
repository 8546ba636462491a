use Rattle.std.proofs.Common.{◌≡◌, sym, ap, ◌∙◌, length, Some}
use Rattle.std.specs.Prelude.{map}
use Rattle.sparse_tensor.specs.Tensor.{rank_of}
use Rattle.span_solver.specs.BlockDirections.{numbers_of}
use Rattle.span_solver.proofs.Gathered.{each-image, image_of_image, take-next}
use Rattle.span_solver.proofs.directions.row_at.Goals as goal

pub number_at-requires-clause-rank : goal.number_at-requires-clause-rank
number_at-requires-clause-rank c =
    each-image c.args.directions.now (λ d. d.now) (λ d. rank_of d.tensor ≡ length c.args.key.now) c.loop-direction.direction-index c.direction-item.result c.requires.rank c.loop-direction-test.true c.direction-item.is

pub loop-direction-preserved : goal.loop-direction-preserved
loop-direction-preserved c =
    take-next (map (λ d. numbers_of d c.args.key.now) (map (λ d. d.now) c.args.directions.now)) c.loop-direction.direction-index c.number_at.result c.loop-direction.row c.push.new.self
    (image_of_image c.args.directions.now (λ d. d.now) (λ d. numbers_of d c.args.key.now) c.loop-direction.direction-index c.direction-item.result c.loop-direction-test.true c.direction-item.is ∙ ap Some (sym c.number_at.ensures))
    c.loop-direction.invariant c.in_ok-push.ensures.ok
