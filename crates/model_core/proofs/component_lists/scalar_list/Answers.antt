use Rattle.std.proofs.Common.{◌≡◌, length, get_or, ap, ◌∙◌, arith}
use Rattle.model_core.proofs.ScalarLaws.{scalar_generations}
use Rattle.model_core.proofs.ValidLaws.{valid_parts, parts_scalars}
use Rattle.model_core.proofs.component_lists.scalar_list.Goals as goal

pub push_copies-requires-clause-generations : goal.push_copies-requires-clause-generations
push_copies-requires-clause-generations c =
    let model = c.args.model.now in
    let place = c.loop-place.place in
    let field = c.index-scalars-place.result in
    let fields : c.as_slice-scalars.result.now ≡ model.scalars = c.as_slice-scalars.ensures in
    scalar_generations model.groups model.scalars place field field (parts_scalars model (valid_parts model c.requires)) (omega (arith, ap length fields, c.loop-place-test.true)) (c.index-scalars-place.is ∙ ap (λ fs. get_or fs place field) fields)

pub push_copies-requires-then-not-scalars-place-clause-generations : goal.push_copies-requires-then-not-scalars-place-clause-generations
push_copies-requires-then-not-scalars-place-clause-generations c =
    let model = c.args.model.now in
    let place = c.loop-place.place in
    let field = c.index-scalars-place-then-not-scalars-place.result in
    let fields : c.as_slice-scalars.result.now ≡ model.scalars = c.as_slice-scalars.ensures in
    scalar_generations model.groups model.scalars place field field (parts_scalars model (valid_parts model c.requires)) (omega (arith, ap length fields, c.loop-place-test.true)) (c.index-scalars-place-then-not-scalars-place.is ∙ ap (λ fs. get_or fs place field) fields)
