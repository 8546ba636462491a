use Rattle.std.proofs.Common.{arith, ◌∙◌}
use Rattle.model_core.specs.ComponentLists.{scalar_list}
use Rattle.model_core.specs.Generators.{coordinate_generator}
use Rattle.term_expand.proofs.PlacedComponents.{scalars_are_placed}
use Rattle.gauge_check.proofs.MatrixLinks.{placed_as, scalar_matrix}
use Rattle.quartic_one_loop.proofs.NumberMatrices.{has_partners}
use Rattle.quartic_one_loop.proofs.pairs.matrix_of.Goals as goal

pub generator_links-requires-clause-placed : goal.generator_links-requires-clause-placed
generator_links-requires-clause-placed c =
    let model = c.args.model.now in
    placed_as c.as_slice-groups.result.now model.groups c.as_slice-scalars.result.now model.scalars c.as_slice.result.now (scalar_list model) c.as_slice-groups.ensures c.as_slice-scalars.ensures (c.as_slice.ensures ∙ c.requires.legs.scalars) (scalars_are_placed model c.requires.valid)

pub project-requires : goal.project-requires
project-requires c = let rank = c.requires.partners.rank_is in omega (arith, rank)

pub returns-clause-value : goal.returns-clause-value
returns-clause-value c =
    let model = c.args.model.now in
    let x = c.args.generator in
    let links = c.in_ok-links.links in
    let are = scalar_matrix model x c.as_slice-groups.result.now c.as_slice-scalars.result.now c.as_slice.result.now links c.as_slice-groups.ensures c.in_ok-links.ensures c.as_slice-scalars.ensures (c.as_slice.ensures ∙ c.requires.legs.scalars) in
    record {
      links = are;
      at_partners = has_partners model (coordinate_generator model.groups x) links c.args.partners.now are c.requires.partners c.in_ok-at_partners.at_partners c.in_ok-at_partners.ensures.value;
    }
