use Rattle.std.proofs.Common.{◌≡◌, get_or, ap, subst, ◌∙◌, arith}
use Rattle.std.proofs.lemmas.Result.{IfOk-at_ok, on_ok_weaker}
use Rattle.frac128.specs.Rational.{one_ℚ, neg_ℚ}
use Rattle.beta_poly.specs.Polynomial.{scale_poly}
use Rattle.beta_poly.proofs.ExponentLaws.{products_fit_within}
use Rattle.sparse_tensor.specs.Tensor.{HasValues, entries_of}
use Rattle.quartic_one_loop.specs.Boxes.{half_from_at, half_to_at, box_from}
use Rattle.quartic_one_loop.specs.FourLegs.{AddsFour}
use Rattle.quartic_one_loop.proofs.BoxHalves.{is_box}
use Rattle.quartic_one_loop.proofs.boxes.push_box.Goals as goal

pub contract-requires-clause-leg : goal.contract-requires-clause-leg
contract-requires-clause-leg c = omega (arith, c.in_ok-from.ensures.rank)

pub contract-requires-clause-other_leg : goal.contract-requires-clause-other_leg
contract-requires-clause-other_leg c = omega (arith, c.in_ok-to.ensures.rank)

pub contract-requires-clause-low : goal.contract-requires-clause-low
contract-requires-clause-low c = omega (arith, c.in_ok-from.ensures.rank)

pub contract-requires-clause-high : goal.contract-requires-clause-high
contract-requires-clause-high c = omega (arith, c.in_ok-from.ensures.rank, c.in_ok-to.ensures.rank)

pub contract-requires-clause-fits : goal.contract-requires-clause-fits
contract-requires-clause-fits c i d first j e second =
    products_fit_within 2 2 (get_or (entries_of c.in_ok-from.from) i d).1 (get_or (entries_of c.in_ok-to.to) j e).1 (omega arith) (c.in_ok-from.ensures.within i d first) (c.in_ok-to.ensures.within j e second)

pub push_scaled-requires : goal.push_scaled-requires
push_scaled-requires c = record { rank = omega (arith, c.in_ok-product.ensures.value.rank_is, c.in_ok-from.ensures.rank, c.in_ok-to.ensures.rank) }

pub returns-clause-value : goal.returns-clause-value
returns-clause-value c i there =
    let v = c.args.vertices.now in
    let model = v.model.now in
    let from = IfOk-at_ok (HasValues 3 (half_from_at model i)) c.in_ok-from.was (c.half_from.ensures.value i there) in
    let to = IfOk-at_ok (HasValues 3 (half_to_at model i)) c.in_ok-to.was (c.half_to.ensures.value i there) in
    let box = is_box model v.links c.requires.vertices.links i c.in_ok-from.from c.in_ok-to.to c.in_ok-product.product from to c.in_ok-product.ensures.value in
    let minus_one : c.negated.result ≡ neg_ℚ one_ℚ = c.negated.ensures ∙ ap neg_ℚ c.one.ensures in
    on_ok_weaker c.push_scaled.result
    (λ more. subst (λ n. AddsFour model (λ p q r s. scale_poly n (box_from model i p q r s)) c.args.values.now c.push_scaled.new.values) minus_one more)
    (c.push_scaled.ensures.value model (box_from model i) box)
