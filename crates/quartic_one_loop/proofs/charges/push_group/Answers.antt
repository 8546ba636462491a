use Rattle.std.proofs.Common.{◌≡◌, ℕ, ◌++◌, length, sym, subst, ap, ap₂, ◌∙◌, arith}
use Rattle.std.specs.List.{All}
use Rattle.std.proofs.lemmas.List.{length-map}
use Rattle.std.proofs.lemmas.Option.{slice_get_within}
use Rattle.std.proofs.lemmas.Result.{on_ok_weaker}
use Rattle.beta_poly.specs.Exponents.{AllWithin}
use Rattle.sparse_tensor.specs.Tensor.{entries_of}
use Rattle.model_core.specs.declared.group.Group.{Group}
use Rattle.model_core.specs.Scalar.{scalar_coordinates}
use Rattle.model_core.proofs.ValidLaws.{valid_parts, parts_groups, group_limit}
use Rattle.quartic_one_loop.specs.ChargeParts.{StartsBelow, charged_values, coordinate_casimir}
use Rattle.quartic_one_loop.proofs.ChargeSums.{adds_charged, factor_within}
use Rattle.quartic_one_loop.proofs.QuarticPlaces.{quartic_inside}
use Rattle.quartic_one_loop.proofs.charges.push_group.Goals as goal

pub charge_factor-requires : goal.charge_factor-requires
charge_factor-requires c =
    let groups = c.args.model.now.groups in
    omega (arith, slice_get_within groups c.args.place c.args.group.now c.requires.group, group_limit groups (parts_groups c.args.model.now (valid_parts c.args.model.now c.requires.valid)))

pub push_charged-requires-clause-rank : goal.push_charged-requires-clause-rank
push_charged-requires-clause-rank c = c.requires.quartic.values.rank_is

pub push_charged-requires-clause-factor : goal.push_charged-requires-clause-factor
push_charged-requires-clause-factor c =
    subst (AllWithin 2) (sym c.in_ok-factor.ensures) (factor_within c.args.place)

pub push_charged-requires-clause-tensor : goal.push_charged-requires-clause-tensor
push_charged-requires-clause-tensor c = c.requires.quartic.within

pub push_charged-requires-clause-inside : goal.push_charged-requires-clause-inside
push_charged-requires-clause-inside c =
    let model = c.args.model.now in
    let g : ℕ × Group = (c.args.place, c.args.group.now) in
    let count : length c.as_slice.result.now ≡ length (scalar_coordinates model) =
    ap length (c.as_slice.ensures ∙ c.in_ok-casimirs.ensures.value) ∙ length-map (scalar_coordinates model) (coordinate_casimir g) in
    subst (λ n. All (StartsBelow n) (entries_of c.args.quartic.now)) (sym count) (quartic_inside model c.args.quartic.now c.requires.quartic.values)

pub returns-clause-value : goal.returns-clause-value
returns-clause-value c =
    let model = c.args.model.now in
    let g : ℕ × Group = (c.args.place, c.args.group.now) in
    let t = c.args.quartic.now in
    let old = c.args.values.now in
    on_ok_weaker c.push_charged.result
    (λ is. adds_charged model g t old c.push_charged.new.values c.requires.quartic.values
    (is ∙ ap₂ (λ cs f. old ++ charged_values cs f t) (c.as_slice.ensures ∙ c.in_ok-casimirs.ensures.value) c.in_ok-factor.ensures))
    c.push_charged.ensures.value
