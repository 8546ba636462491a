use Rattle.std.proofs.Common.{◌≡◌, ◌<◌, ◌+◌, ◌-◌, ◌∷◌, [], length, length-append, map, take, get_or, ap, ap₂, sym, subst, ◌∙◌, arith}
use Rattle.std.specs.List.{flat_map}
use Rattle.std.proofs.lemmas.List.{length-map, take_all}
use Rattle.std.proofs.lemmas.List.Folds.{length-flat_map-take}
use Rattle.std.proofs.lemmas.Option.{slice_get_within}
use Rattle.model_core.specs.Scalar.{coordinates_of, scalar_components, IsPartner}
use Rattle.model_core.specs.Scalar.Coordinate.{Of, Dummy}
use Rattle.model_core.specs.Valid.{is_scalar}
use Rattle.model_core.proofs.ValidLaws.{valid_parts, parts_scalars, valid_scalar_count}
use Rattle.model_core.proofs.ScalarLaws.{scalar_passes, scalar_generations}
use Rattle.model_core.proofs.PartnerLaws.{partner_at, dummy_partner}
use Rattle.model_core.proofs.component.partner.Goals as goal

pub scalar_count_of-count-requires-clause-generations : goal.scalar_count_of-count-requires-clause-generations
scalar_count_of-count-requires-clause-generations c =
    let model = c.args.model.now in
    let items : c.as_slice-field-items.result.now ≡ model.scalars = c.as_slice-field-items.ensures in
    scalar_generations model.groups model.scalars c.loop-field.field-index c.field-item.result c.field-item.result (parts_scalars model (valid_parts model c.requires.valid)) (omega (arith, ap length items, c.loop-field-test.true)) (c.field-item.is ∙ ap (λ fs. get_or fs c.loop-field.field-index c.field-item.result) items)

pub partner_in-requires-clause-scalar : goal.partner_in-requires-clause-scalar
partner_in-requires-clause-scalar c =
    let model = c.args.model.now in
    let items : c.as_slice-field-items.result.now ≡ model.scalars = c.as_slice-field-items.ensures in
    ap (λ gs. is_scalar gs c.field-item.result) c.as_slice-groups.ensures
    ∙ scalar_passes model.groups model.scalars c.loop-field.field-index c.field-item.result c.field-item.result (parts_scalars model (valid_parts model c.requires.valid)) (omega (arith, ap length items, c.loop-field-test.true)) (c.field-item.is ∙ ap (λ fs. get_or fs c.loop-field.field-index c.field-item.result) items)

pub overflow_add-result : goal.overflow_add-result
overflow_add-result c =
    let model = c.args.model.now in
    let i = c.loop-field.field-index in
    let groups : c.as_slice-groups.result.now ≡ model.groups = c.as_slice-groups.ensures in
    let items : c.as_slice-field-items.result.now ≡ model.scalars = c.as_slice-field-items.ensures in
    let within : i < length model.scalars = omega (arith, ap length items, c.loop-field-test.true) in
    let field : get_or model.scalars i c.field-item.result ≡ c.field-item.result = ap (λ fs. get_or fs i c.field-item.result) (sym items) ∙ sym c.field-item.is in
    let counted : c.loop-field.before ≡ length (flat_map (coordinates_of model.groups) (take i model.scalars)) =
    c.loop-field.invariant.counted ∙ ap₂ (λ gs fs. length (flat_map (coordinates_of gs) (take i fs))) groups items in
    let piece : length (coordinates_of model.groups (get_or model.scalars i c.field-item.result)) ≡ length (coordinates_of c.as_slice-groups.result.now c.field-item.result) =
    ap₂ (λ gs f. length (coordinates_of gs f)) (sym groups) field in
    omega (
      arith,
      counted,
      piece,
      length-flat_map-take (coordinates_of model.groups) model.scalars i c.field-item.result within,
      valid_scalar_count model c.requires.valid,
      slice_get_within (coordinates_of c.as_slice-groups.result.now c.field-item.result) c.partner_in.result _ c.partner_in.ensures.second,
    )

pub returns-then-place-before : goal.returns-then-place-before
returns-then-place-before c =
    let model = c.args.model.now in
    let i = c.loop-field.field-index in
    let groups : c.as_slice-groups.result.now ≡ model.groups = c.as_slice-groups.ensures in
    let items : c.as_slice-field-items.result.now ≡ model.scalars = c.as_slice-field-items.ensures in
    let within : i < length model.scalars = omega (arith, ap length items, c.loop-field-test.true) in
    let field : get_or model.scalars i c.field-item.result ≡ c.field-item.result = ap (λ fs. get_or fs i c.field-item.result) (sym items) ∙ sym c.field-item.is in
    let counted : c.loop-field.before ≡ length (flat_map (coordinates_of model.groups) (take i model.scalars)) =
    c.loop-field.invariant.counted ∙ ap₂ (λ gs fs. length (flat_map (coordinates_of gs) (take i fs))) groups items in
    let same : coordinates_of c.as_slice-groups.result.now c.field-item.result ≡ coordinates_of model.groups (get_or model.scalars i c.field-item.result) =
    ap₂ coordinates_of groups (sym field) in
    let pair : IsPartner (coordinates_of model.groups (get_or model.scalars i c.field-item.result)) (c.args.place - c.loop-field.before) c.partner_in.result =
    subst (λ cs. IsPartner cs (c.args.place - c.loop-field.before) c.partner_in.result) same c.partner_in.ensures in
    partner_at model i c.args.place c.loop-field.before (c.args.place - c.loop-field.before) c.partner_in.result c.field-item.result within counted (omega (arith, c.loop-field.invariant.behind)) pair

pub returns : goal.returns
returns c =
    let model = c.args.model.now in
    let i = c.loop-field.field-index in
    let groups : c.as_slice-groups.result.now ≡ model.groups = c.as_slice-groups.ensures in
    let items : c.as_slice-field-items.result.now ≡ model.scalars = c.as_slice-field-items.ensures in
    let all : take i model.scalars ≡ model.scalars = take_all i model.scalars (omega (arith, ap length items, c.loop-field-test.false)) in
    let counted : c.loop-field.before ≡ length (scalar_components model) =
    c.loop-field.invariant.counted ∙ ap₂ (λ gs fs. length (flat_map (coordinates_of gs) (take i fs))) groups items ∙ ap (λ fs. length (flat_map (coordinates_of model.groups) fs)) all in
    let below : c.args.place < length (scalar_components model) + 1 =
    omega (arith, c.requires.place, length-append (map Of (scalar_components model)) (Dummy ∷ []), length-map (scalar_components model) Of) in
    dummy_partner model c.args.place (omega (arith, counted, below, c.loop-field.invariant.behind))
