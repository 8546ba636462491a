use Rattle.std.proofs.Common.{◌≡◌, length, get_or, ap, ◌∙◌, arith}
use Rattle.model_core.proofs.CountLaws.{fermion_generations}
use Rattle.model_core.proofs.ValidLaws.{valid_parts, parts_fermions}
use Rattle.model_core.proofs.component_lists.fermion_list.Goals as goal

pub push_copies-requires-clause-generations : goal.push_copies-requires-clause-generations
push_copies-requires-clause-generations c =
    let model = c.args.model.now in
    let place = c.loop-place.place in
    let field = c.index-fermions-place.result in
    let fields : c.as_slice-fermions.result.now ≡ model.fermions = c.as_slice-fermions.ensures in
    fermion_generations model.groups model.fermions place field field (parts_fermions model (valid_parts model c.requires)) (omega (arith, ap length fields, c.loop-place-test.true)) (c.index-fermions-place.is ∙ ap (λ fs. get_or fs place field) fields)
