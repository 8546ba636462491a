use Rattle.std.proofs.Common.{◌≡◌, arith, ◌∙◌}
use Rattle.std.proofs.lemmas.Result.{IfOk-weaker}
use Rattle.sparse_tensor.specs.Operations.{projected_at}
use Rattle.sparse_tensor.specs.Tensor.{HasValues, rank_of, value}
use Rattle.model_core.specs.Generators.{coordinate_generator}
use Rattle.model_core.specs.Scalar.{scalar_coordinates}
use Rattle.model_core.specs.TermTensor.{coordinate_projector}
use Rattle.quartic_one_loop.specs.GaugePairs.{HasNumbers, at_partner, product_at}
use Rattle.quartic_one_loop.proofs.NumberMatrices.{after, has_after, numbers_same, projector_matrix}
use Rattle.quartic_one_loop.proofs.PairEntries.{product_is}
use Rattle.quartic_one_loop.proofs.pairs.product.Goals as goal

pub project-requires-2 : goal.project-requires-2
project-requires-2 c = let rank = c.in_ok-both.ensures.value.rank_is in let three = c.requires.rank in omega (arith, rank, three)

pub returns-clause-rank : goal.returns-clause-rank
returns-clause-rank c =
    let both = c.in_ok-both.both in
    IfOk-weaker c.project-2.result (HasValues (rank_of both) (projected_at 1 c.args.projectors.now (value both))) (λ t. rank_of t ≡ 3)
    (λ t has. has.rank_is ∙ c.in_ok-both.ensures.value.rank_is ∙ c.requires.rank) c.project-2.ensures.value

pub returns-clause-value : goal.returns-clause-value
returns-clause-value c model x z are left right =
    let both = c.in_ok-both.both in
    let first = at_partner (coordinate_generator model.groups x) in
    let second = coordinate_generator model.groups z in
    let projector = coordinate_projector model.groups in
    let product = after model first second in
    IfOk-weaker c.project-2.result (HasValues (rank_of both) (projected_at 1 c.args.projectors.now (value both))) (HasNumbers model (product_at model x z))
    (λ t has. numbers_same model (after model product projector) (product_at model x z) t (product_is model x z)
    (has_after model product projector c.args.projectors.now both t (projector_matrix model.groups (scalar_coordinates model) c.args.projectors.now are)
    (has_after model first second c.args.right.now.links c.args.left.now.at_partners both right.links left.at_partners c.in_ok-both.ensures.value) has))
    c.project-2.ensures.value
