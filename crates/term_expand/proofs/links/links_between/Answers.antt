use Rattle.std.proofs.Common.{length, ◌∙◌}
use Rattle.term_expand.specs.LinkSteps.{place_projectors}
use Rattle.term_expand.proofs.LinkRuns.{all_start}
use Rattle.term_expand.proofs.links.links_between.Goals as goal

pub loop-from-init : goal.loop-from-init
loop-from-init c =
    c.new-links.ensures ∙ all_start (place_projectors c.args.groups.now c.args.fields.now c.args.components.now) (length c.args.components.now)
