use Rattle.std.proofs.Common.{◌≡◌, ℕ, ◌++◌, [], ◌∷◌, length, map, Some, sym, ap, ◌∙◌, arith}
use Rattle.std.specs.Prelude.{slice_get}
use Rattle.std.proofs.lemmas.List.{take_all}
use Rattle.std.proofs.lemmas.Option.{slice_get_read, slice_get_within, get_or_from_slice_get}
use Rattle.model_core.specs.declared.group.Group.{Group}
use Rattle.model_core.specs.declared.field.Field.{Field}
use Rattle.model_core.specs.ComponentLists.{scalar_list}
use Rattle.model_core.specs.GaugeBeta.{casimir_at}
use Rattle.model_core.specs.Scalar.{scalar_components}
use Rattle.model_core.specs.Valid.{is_field}
use Rattle.model_core.proofs.ComponentListLaws.{next_image, scalar_placed, length-scalar_list}
use Rattle.model_core.proofs.CountLaws.{passes_at}
use Rattle.model_core.proofs.ValidLaws.{valid_parts, parts_scalar_fields}
use Rattle.gauge_two_loop.specs.Casimirs.{field_casimir}
use Rattle.gauge_two_loop.proofs.CasimirSums.{casimir_of_field}
use Rattle.quartic_one_loop.proofs.ChargeSums.{casimirs_all}
use Rattle.quartic_one_loop.proofs.charges.scalar_casimirs.Goals as goal

pub item-field-requires : goal.item-field-requires
item-field-requires c =
    let model = c.args.model.now in
    let i = c.loop-component.component-index in
    let x = c.component-item.result in
    let list = c.as_slice-component-items.result.now in
    let same : list ≡ scalar_list model = c.as_slice-component-items.ensures ∙ c.in_ok-components.ensures in
    let there : slice_get (scalar_list model) i ≡ Some x =
    ap (λ xs. slice_get xs i) (sym same) ∙ slice_get_read list (length list) i x (omega arith) c.loop-component-test.true c.component-item.is in
    let placed = scalar_placed model i x there in
    slice_get_within model.scalars x.field placed.component.field placed.placed.field

pub casimir_of-requires-clause-field : goal.casimir_of-requires-clause-field
casimir_of-requires-clause-field c =
    let model = c.args.model.now in
    let place = c.component-item.result.field in
    let field = c.item-field.result.now in
    ap (λ gs. is_field gs c.item-field.result.now) c.as_slice-groups.ensures
    ∙ ap (is_field model.groups) (sym (get_or_from_slice_get model.scalars place field field c.item-field.ensures))
    ∙ passes_at (is_field model.groups) model.scalars place field (parts_scalar_fields model (valid_parts model c.requires.valid)) (slice_get_within model.scalars place field c.item-field.ensures)

same_field : (x y : Field) → Some x ≡ Some y → x ≡ y
same_field x y e = cc

pub loop-component-preserved : goal.loop-component-preserved
loop-component-preserved c =
    let model = c.args.model.now in
    let group = c.args.group.now in
    let place = c.args.place in
    let k : ℕ × Group = (place, group) in
    let i = c.loop-component.component-index in
    let x = c.component-item.result in
    let list = c.as_slice-component-items.result.now in
    let same : list ≡ scalar_list model = c.as_slice-component-items.ensures ∙ c.in_ok-components.ensures in
    let there : slice_get (scalar_list model) i ≡ Some x =
    ap (λ xs. slice_get xs i) (sym same) ∙ slice_get_read list (length list) i x (omega arith) c.loop-component-test.true c.component-item.is in
    let placed = scalar_placed model i x there in
    let field : c.item-field.result.now ≡ placed.component.field = same_field _ _ (sym c.item-field.ensures ∙ placed.placed.field) in
    let value : c.in_ok-casimir_of.field-0 ≡ casimir_at group place placed.component =
    c.in_ok-casimir_of.ensures.value ∙ ap (field_casimir k) field ∙ sym (casimir_of_field k placed.component) in
    record {
      so_far =
          next_image (casimir_at group place) [] c.loop-component.casimirs c.push.new.self (scalar_components model) i placed.component c.loop-component.invariant.so_far placed.stands
          (c.in_ok-push.ensures.ok ∙ ap (λ v. c.loop-component.casimirs ++ v ∷ []) value);
    }

pub returns-clause-value : goal.returns-clause-value
returns-clause-value c =
    let model = c.args.model.now in
    let list = c.as_slice-component-items.result.now in
    let same : list ≡ scalar_list model = c.as_slice-component-items.ensures ∙ c.in_ok-components.ensures in
    casimirs_all model (c.args.place, c.args.group.now) c.loop-component.casimirs c.push-2.new.self c.zero.result
    (c.loop-component.invariant.so_far
    ∙ ap (map (casimir_at c.args.group.now c.args.place)) (take_all c.loop-component.component-index (scalar_components model) (omega (arith, ap length same, length-scalar_list model, c.loop-component-test.false))))
    c.zero.ensures
    c.in_ok-push-2.ensures.ok
