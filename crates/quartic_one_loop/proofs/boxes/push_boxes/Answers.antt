use Rattle.std.proofs.Common.{◌≡◌, ◌<◌, OnOk, Some, length, get_or, subst, arith}
use Rattle.std.specs.Prelude.{slice_get}
use Rattle.std.proofs.lemmas.Option.{slice_get-get_or}
use Rattle.frac128.specs.Rational.{one_ℚ, neg_ℚ}
use Rattle.beta_poly.specs.Polynomial.{constant}
use Rattle.model_core.specs.Component.{Component, fermion_components}
use Rattle.model_core.specs.GaugeTwoLoop.{negative}
use Rattle.yukawa_one_loop.proofs.Entrywise.{times_additive}
use Rattle.yukawa_one_loop.proofs.Pairs.{nobody}
use Rattle.quartic_one_loop.specs.Boxes.{box_from}
use Rattle.quartic_one_loop.specs.FourLegs.{AddsFour}
use Rattle.quartic_one_loop.proofs.Adding.{image_none, image_more, image_all}
use Rattle.quartic_one_loop.proofs.boxes.push_boxes.Goals as goal

pub loop-place-init : goal.loop-place-init
loop-place-init c =
    let model = c.args.model.now in
    image_none model (fermion_components model) (box_from model) negative (times_additive (constant (neg_ℚ one_ℚ))) c.args.values.now

pub loop-place-preserved : goal.loop-place-preserved
loop-place-preserved c =
    let model = c.args.model.now in
    let cs = fermion_components model in
    let n = c.loop-place.place in
    let old = c.loop-place.values in
    let new = c.push_box.new.values in
    let i = get_or cs n nobody in
    let inside : n < length cs = omega (arith, c.loop-place-test.true, c.fermion_count-place-end.ensures) in
    let there : slice_get cs n ≡ Some i = slice_get-get_or cs n nobody inside in
    let all = subst (λ m. (j : Component) → slice_get (fermion_components m) n ≡ Some j → OnOk c.push_box.result (AddsFour m (λ p q r s. negative (box_from m j p q r s)) old new)) c.in_ok-vertices.ensures.model c.push_box.ensures.value in
    let box = subst (λ r. OnOk r (AddsFour model (λ p q r s. negative (box_from model i p q r s)) old new)) c.in_ok-push_box.was (all i there) in
    image_more model cs (box_from model) negative (times_additive (constant (neg_ℚ one_ℚ))) n i c.args.values.now old new there c.loop-place.invariant box

pub returns-clause-value : goal.returns-clause-value
returns-clause-value c =
    let model = c.args.model.now in
    image_all model (fermion_components model) (box_from model) negative (times_additive (constant (neg_ℚ one_ℚ))) c.loop-place.place c.args.values.now c.loop-place.values (omega (arith, c.loop-place-test.false, c.fermion_count-place-end.ensures)) c.loop-place.invariant
