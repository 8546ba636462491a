use Rattle.std.proofs.Common.{map, refl, ◌∙◌}
use Rattle.model_core.specs.ComponentLists.{fermion_list, scalar_list}
use Rattle.term_expand.proofs.PlacedComponents.{fermions_are_placed, scalars_are_placed}
use Rattle.gauge_check.specs.Actions.{conjugate_of}
use Rattle.gauge_check.proofs.MatrixLinks.{conjugates_are_placed, placed_as, fermion_matrix, conjugate_matrix, scalar_matrix}
use Rattle.gauge_check.proofs.action.action_of.Goals as goal

pub generator_links-requires-clause-placed : goal.generator_links-requires-clause-placed
generator_links-requires-clause-placed c =
    let model = c.args.model.now in
    placed_as c.as_slice-groups.result.now model.groups c.as_slice-fermions.result.now model.fermions c.as_slice.result.now (fermion_list model) c.as_slice-groups.ensures c.as_slice-fermions.ensures (c.as_slice.ensures ∙ c.requires.legs.fermions) (fermions_are_placed model c.requires.valid)

pub generator_links-requires-2-clause-placed : goal.generator_links-requires-2-clause-placed
generator_links-requires-2-clause-placed c =
    let model = c.args.model.now in
    placed_as c.as_slice-groups.result.now model.groups c.as_slice-fermions.result.now model.fermions c.as_slice-2.result.now (map conjugate_of (fermion_list model)) c.as_slice-groups.ensures c.as_slice-fermions.ensures (c.as_slice-2.ensures ∙ c.requires.legs.conjugates) (conjugates_are_placed model.groups model.fermions (fermion_list model) (fermions_are_placed model c.requires.valid))

pub generator_links-requires-3-clause-placed : goal.generator_links-requires-3-clause-placed
generator_links-requires-3-clause-placed c =
    let model = c.args.model.now in
    placed_as c.as_slice-groups.result.now model.groups c.as_slice-scalars.result.now model.scalars c.as_slice-3.result.now (scalar_list model) c.as_slice-groups.ensures c.as_slice-scalars.ensures (c.as_slice-3.ensures ∙ c.requires.legs.scalars) (scalars_are_placed model c.requires.valid)

pub returns : goal.returns
returns c =
    let model = c.args.model.now in
    let x = c.args.generator in
    let groups = c.as_slice-groups.result.now in
    record {
      generator_is = refl;
      fermions = fermion_matrix model x groups c.as_slice-fermions.result.now c.as_slice.result.now c.in_ok-fermion_links.fermion_links c.as_slice-groups.ensures c.in_ok-fermion_links.ensures c.as_slice-fermions.ensures (c.as_slice.ensures ∙ c.requires.legs.fermions);
      conjugates = conjugate_matrix model x groups c.as_slice-fermions.result.now c.as_slice-2.result.now c.in_ok-conjugate_links.conjugate_links c.as_slice-groups.ensures c.in_ok-conjugate_links.ensures c.as_slice-fermions.ensures (c.as_slice-2.ensures ∙ c.requires.legs.conjugates);
      scalars = scalar_matrix model x groups c.as_slice-scalars.result.now c.as_slice-3.result.now c.in_ok-scalar_links.scalar_links c.as_slice-groups.ensures c.in_ok-scalar_links.ensures c.as_slice-scalars.ensures (c.as_slice-3.ensures ∙ c.requires.legs.scalars);
    }
