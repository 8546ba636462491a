use Rattle.std.proofs.Common.{ap₂, subst, arith, ◌∙◌}
use Rattle.std.specs.Prelude.{OnOk}
use Rattle.std.proofs.lemmas.Result.{IfOk-at_ok}
use Rattle.beta_poly.specs.Polynomial.{mul_poly}
use Rattle.beta_formulas.specs.ScalarBeta.{opposite, pair_entry}
use Rattle.quartic_one_loop.specs.FourLegs.{AddsFour}
use Rattle.quartic_one_loop.specs.GaugePairs.{HasNumbers, share_factor}
use Rattle.quartic_one_loop.proofs.NumberMatrices.{has_outer, outer, outer_within}
use Rattle.quartic_one_loop.proofs.PairShares.{numbers_fit, share_within}
use Rattle.quartic_one_loop.proofs.gauges.push_pair.Goals as goal

pub pair_matrix-requires-clause-left : goal.pair_matrix-requires-clause-left
pair_matrix-requires-clause-left c = c.requires.left.matrix.at_partners.rank_is

pub pair_matrix-requires-clause-right : goal.pair_matrix-requires-clause-right
pair_matrix-requires-clause-right c = c.requires.right.matrix.at_partners.rank_is

pub pair_matrix-requires-2-clause-left : goal.pair_matrix-requires-2-clause-left
pair_matrix-requires-2-clause-left c = c.requires.left.opposite.at_partners.rank_is

pub pair_matrix-requires-2-clause-right : goal.pair_matrix-requires-2-clause-right
pair_matrix-requires-2-clause-right c = c.requires.right.opposite.at_partners.rank_is

pub contract-requires-clause-fits : goal.contract-requires-clause-fits
contract-requires-clause-fits c =
    let model = c.args.model.now in
    let x = c.args.left.now.generator in
    let z = c.args.right.now.generator in
    let f = pair_entry model x z in
    let g = pair_entry model (opposite x) (opposite z) in
    numbers_fit model f g c.in_ok-first.first c.in_ok-second.second
    (IfOk-at_ok (HasNumbers model f) c.in_ok-first.was (c.pair_matrix.ensures.value model x z c.requires.projectors c.requires.left.matrix c.requires.right.matrix))
    (IfOk-at_ok (HasNumbers model g) c.in_ok-second.was (c.pair_matrix-2.ensures.value model (opposite x) (opposite z) c.requires.projectors c.requires.left.opposite c.requires.right.opposite))

pub share_factor-requires-clause-left : goal.share_factor-requires-clause-left
share_factor-requires-clause-left c = c.requires.left.within

pub share_factor-requires-clause-right : goal.share_factor-requires-clause-right
share_factor-requires-clause-right c = c.requires.right.within

pub push_multiple-requires-clause-rank : goal.push_multiple-requires-clause-rank
push_multiple-requires-clause-rank c =
    let rank = c.in_ok-both.ensures.value.rank_is in
    let one = c.in_ok-first.ensures.rank in
    let two = c.in_ok-second.ensures.rank in
    omega (arith, rank, one, two)

pub push_multiple-requires-clause-factor : goal.push_multiple-requires-clause-factor
push_multiple-requires-clause-factor c =
    share_within c.args.left.now.coupling c.args.right.now.coupling c.in_ok-factor.factor c.requires.left.within c.requires.right.within c.in_ok-factor.ensures.value

pub push_multiple-requires-clause-tensor : goal.push_multiple-requires-clause-tensor
push_multiple-requires-clause-tensor c =
    let model = c.args.model.now in
    let x = c.args.left.now.generator in
    let z = c.args.right.now.generator in
    let f = pair_entry model x z in
    let g = pair_entry model (opposite x) (opposite z) in
    outer_within 4 model f g c.in_ok-both.both
    (has_outer model f g c.in_ok-first.first c.in_ok-second.second c.in_ok-both.both c.in_ok-links.links c.in_ok-links.ensures
    (IfOk-at_ok (HasNumbers model f) c.in_ok-first.was (c.pair_matrix.ensures.value model x z c.requires.projectors c.requires.left.matrix c.requires.right.matrix))
    (IfOk-at_ok (HasNumbers model g) c.in_ok-second.was (c.pair_matrix-2.ensures.value model (opposite x) (opposite z) c.requires.projectors c.requires.left.opposite c.requires.right.opposite))
    c.in_ok-both.ensures.value)

pub returns-clause-value : goal.returns-clause-value
returns-clause-value c =
    let model = c.args.model.now in
    let x = c.args.left.now.generator in
    let z = c.args.right.now.generator in
    let f = pair_entry model x z in
    let g = pair_entry model (opposite x) (opposite z) in
    subst (λ w. OnOk c.push_multiple.result (AddsFour model (λ a b e d. mul_poly w (outer f g a b e d)) c.args.values.now c.push_multiple.new.values))
    (c.in_ok-factor.ensures.value ∙ ap₂ share_factor c.requires.left.coupling c.requires.right.coupling)
    (c.push_multiple.ensures.value model (outer f g)
    (has_outer model f g c.in_ok-first.first c.in_ok-second.second c.in_ok-both.both c.in_ok-links.links c.in_ok-links.ensures
    (IfOk-at_ok (HasNumbers model f) c.in_ok-first.was (c.pair_matrix.ensures.value model x z c.requires.projectors c.requires.left.matrix c.requires.right.matrix))
    (IfOk-at_ok (HasNumbers model g) c.in_ok-second.was (c.pair_matrix-2.ensures.value model (opposite x) (opposite z) c.requires.projectors c.requires.left.opposite c.requires.right.opposite))
    c.in_ok-both.ensures.value))
