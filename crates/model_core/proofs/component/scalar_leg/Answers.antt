use Rattle.std.proofs.Common.{◌≡◌, ◌<◌, ◌+◌, ◌∷◌, [], length, length-append, map, take, get_or, Some, ap, ap₂, sym, ◌∙◌, arith}
use Rattle.std.specs.Prelude.{slice_get}
use Rattle.std.specs.List.{flat_map}
use Rattle.std.proofs.lemmas.List.{length-map, take_all}
use Rattle.exact_algebra.specs.Blocks.{slice_get-append_left}
use Rattle.model_core.specs.declared.leg.Leg.TheVariants.{Dummy}
use Rattle.model_core.specs.Leg.{scalar_leg_of}
use Rattle.model_core.specs.Scalar.{coordinates_of, scalar_components}
use Rattle.model_core.specs.Scalar.Coordinate.{Of}
use Rattle.model_core.specs.Scalar.Coordinate.{Dummy as NoField}
use Rattle.model_core.proofs.CountLaws.{image_at}
use Rattle.model_core.proofs.ValidLaws.{valid_parts, parts_scalars}
use Rattle.model_core.proofs.ScalarLaws.{scalar_generations, dummy_at}
use Rattle.model_core.proofs.component.scalar_leg.Goals as goal

pub scalar_count_of-count-requires-clause-generations : goal.scalar_count_of-count-requires-clause-generations
scalar_count_of-count-requires-clause-generations c =
    let model = c.args.model.now in
    let items : c.as_slice-field-items.result.now ≡ model.scalars = c.as_slice-field-items.ensures in
    scalar_generations model.groups model.scalars c.loop-field.field-index c.field-item.result c.field-item.result (parts_scalars model (valid_parts model c.requires.valid)) (omega (arith, ap length items, c.loop-field-test.true)) (c.field-item.is ∙ ap (λ fs. get_or fs c.loop-field.field-index c.field-item.result) items)

pub scalar_leg_at-requires-clause-generations : goal.scalar_leg_at-requires-clause-generations
scalar_leg_at-requires-clause-generations c =
    let model = c.args.model.now in
    let items : c.as_slice-field-items.result.now ≡ model.scalars = c.as_slice-field-items.ensures in
    scalar_generations model.groups model.scalars c.loop-field.field-index c.field-item.result c.field-item.result (parts_scalars model (valid_parts model c.requires.valid)) (omega (arith, ap length items, c.loop-field-test.true)) (c.field-item.is ∙ ap (λ fs. get_or fs c.loop-field.field-index c.field-item.result) items)

pub returns-then-rest-count : goal.returns-then-rest-count
returns-then-rest-count c =
    let model = c.args.model.now in
    let i = c.loop-field.field-index in
    let groups : c.as_slice-groups.result.now ≡ model.groups = c.as_slice-groups.ensures in
    let items : c.as_slice-field-items.result.now ≡ model.scalars = c.as_slice-field-items.ensures in
    let within : i < length model.scalars = omega (arith, ap length items, c.loop-field-test.true) in
    let field : get_or model.scalars i c.field-item.result ≡ c.field-item.result = ap (λ fs. get_or fs i c.field-item.result) (sym items) ∙ sym c.field-item.is in
    let so_far : c.args.place ≡ length (flat_map (coordinates_of model.groups) (take i model.scalars)) + c.loop-field.rest =
    c.loop-field.invariant ∙ ap₂ (λ gs fs. length (flat_map (coordinates_of gs) (take i fs)) + c.loop-field.rest) groups items in
    let found : slice_get (map scalar_leg_of (coordinates_of model.groups (get_or model.scalars i c.field-item.result))) c.loop-field.rest ≡ Some c.scalar_leg_at.result =
    ap₂ (λ gs f. slice_get (map scalar_leg_of (coordinates_of gs f)) c.loop-field.rest) (sym groups) field ∙ c.scalar_leg_at.ensures in
    slice_get-append_left (map scalar_leg_of (scalar_components model)) (Dummy ∷ []) c.args.place c.scalar_leg_at.result
    (image_at scalar_leg_of (coordinates_of model.groups) model.scalars i c.loop-field.rest c.args.place c.field-item.result c.scalar_leg_at.result within so_far found)

pub returns : goal.returns
returns c =
    let model = c.args.model.now in
    let i = c.loop-field.field-index in
    let groups : c.as_slice-groups.result.now ≡ model.groups = c.as_slice-groups.ensures in
    let items : c.as_slice-field-items.result.now ≡ model.scalars = c.as_slice-field-items.ensures in
    let all : take i model.scalars ≡ model.scalars = take_all i model.scalars (omega (arith, ap length items, c.loop-field-test.false)) in
    let so_far : c.args.place ≡ length (scalar_components model) + c.loop-field.rest =
    c.loop-field.invariant ∙ ap₂ (λ gs fs. length (flat_map (coordinates_of gs) (take i fs)) + c.loop-field.rest) groups items
    ∙ ap (λ fs. length (flat_map (coordinates_of model.groups) fs) + c.loop-field.rest) all in
    let below : c.args.place < length (scalar_components model) + 1 =
    omega (arith, c.requires.place, length-append (map Of (scalar_components model)) (NoField ∷ []), length-map (scalar_components model) Of) in
    dummy_at (map scalar_leg_of (scalar_components model)) c.args.place Dummy (omega (arith, so_far, below, length-map (scalar_components model) scalar_leg_of))
