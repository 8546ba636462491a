use Rattle.std.proofs.Common.{length, ◌∙◌}
use Rattle.term_expand.proofs.LinkRuns.{all_start}
use Rattle.gauge_check.specs.Actions.{place_generator}
use Rattle.gauge_check.proofs.links.generator_links.Goals as goal

pub loop-from-init : goal.loop-from-init
loop-from-init c =
    c.new-links.ensures ∙ all_start (place_generator c.args.groups.now c.args.fields.now c.args.components.now c.args.generator) (length c.args.components.now)
