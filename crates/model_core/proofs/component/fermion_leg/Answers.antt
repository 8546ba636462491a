use Rattle.std.proofs.Common.{◌≡◌, ◌<◌, ◌+◌, length, map, take, get_or, Some, ap, ap₂, sym, ◌∙◌, arith}
use Rattle.std.specs.Prelude.{slice_get}
use Rattle.std.specs.List.{flat_map}
use Rattle.model_core.specs.Component.{components_of}
use Rattle.model_core.specs.Leg.{leg_of}
use Rattle.model_core.proofs.CountLaws.{image_at, fermion_generations}
use Rattle.model_core.proofs.ValidLaws.{valid_parts, parts_fermions}
use Rattle.model_core.proofs.component.fermion_leg.Goals as goal

pub field_count-count-requires-clause-generations : goal.field_count-count-requires-clause-generations
field_count-count-requires-clause-generations c =
    let model = c.args.model.now in
    let items : c.as_slice-field-items.result.now ≡ model.fermions = c.as_slice-field-items.ensures in
    fermion_generations model.groups model.fermions c.loop-field.field-index c.field-item.result c.field-item.result (parts_fermions model (valid_parts model c.requires.valid)) (omega (arith, ap length items, c.loop-field-test.true)) (c.field-item.is ∙ ap (λ fs. get_or fs c.loop-field.field-index c.field-item.result) items)

pub leg_at-requires-clause-generations : goal.leg_at-requires-clause-generations
leg_at-requires-clause-generations c =
    let model = c.args.model.now in
    let items : c.as_slice-field-items.result.now ≡ model.fermions = c.as_slice-field-items.ensures in
    fermion_generations model.groups model.fermions c.loop-field.field-index c.field-item.result c.field-item.result (parts_fermions model (valid_parts model c.requires.valid)) (omega (arith, ap length items, c.loop-field-test.true)) (c.field-item.is ∙ ap (λ fs. get_or fs c.loop-field.field-index c.field-item.result) items)

pub returns-then-rest-count : goal.returns-then-rest-count
returns-then-rest-count c =
    let model = c.args.model.now in
    let i = c.loop-field.field-index in
    let groups : c.as_slice-groups.result.now ≡ model.groups = c.as_slice-groups.ensures in
    let items : c.as_slice-field-items.result.now ≡ model.fermions = c.as_slice-field-items.ensures in
    let within : i < length model.fermions = omega (arith, ap length items, c.loop-field-test.true) in
    let field : get_or model.fermions i c.field-item.result ≡ c.field-item.result = ap (λ fs. get_or fs i c.field-item.result) (sym items) ∙ sym c.field-item.is in
    let so_far : c.args.place ≡ length (flat_map (components_of model.groups) (take i model.fermions)) + c.loop-field.rest =
    c.loop-field.invariant ∙ ap₂ (λ gs fs. length (flat_map (components_of gs) (take i fs)) + c.loop-field.rest) groups items in
    let found : slice_get (map leg_of (components_of model.groups (get_or model.fermions i c.field-item.result))) c.loop-field.rest ≡ Some c.leg_at.result =
    ap₂ (λ gs f. slice_get (map leg_of (components_of gs f)) c.loop-field.rest) (sym groups) field ∙ c.leg_at.ensures in
    image_at leg_of (components_of model.groups) model.fermions i c.loop-field.rest c.args.place c.field-item.result c.leg_at.result within so_far found
