use Rattle.std.proofs.Common.{◌∙◌}
use Rattle.gauge_check.proofs.GeneratorSteps.{places_entry}
use Rattle.gauge_check.proofs.generators.generator_at_places.Goals as goal

pub returns : goal.returns
returns c =
    c.generator_at.ensures
    ∙ places_entry c.args.groups.now c.args.fields.now c.args.components.now c.args.generator c.args.from c.args.to c.index-components-from.result c.index-components-to.result c.requires.from c.requires.to c.index-components-from.is c.index-components-to.is
