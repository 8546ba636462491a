use Rattle.std.proofs.Common.{length, ◌∙◌, sym, subst, arith}
use Rattle.sparse_tensor.specs.Operations.{IsAfter}
use Rattle.term_expand.specs.LinkSteps.{all_links}
use Rattle.term_expand.proofs.AllLinks.{next_after}
use Rattle.term_expand.proofs.LinkRuns.{row_start, row_step, row_end}
use Rattle.gauge_check.specs.Actions.{place_generator}
use Rattle.gauge_check.proofs.links.push_links_from.Goals as goal

pub loop-to-init : goal.loop-to-init
loop-to-init c =
    let at = place_generator c.args.groups.now c.args.fields.now c.args.components.now c.args.generator in
    c.requires.before ∙ row_start at (length c.args.components.now) c.args.from

pub push_link-requires-clause-after : goal.push_link-requires-clause-after
push_link-requires-clause-after c =
    let at = place_generator c.args.groups.now c.args.fields.now c.args.components.now c.args.generator in
    subst (λ links. IsAfter links (record { from = c.args.from; to = c.loop-to.to; value = c.generator_at_places-entry.result })) (sym c.loop-to.invariant) (next_after at (length c.args.components.now) c.args.from c.loop-to.to c.generator_at_places-entry.result)

pub loop-to-preserved : goal.loop-to-preserved
loop-to-preserved c =
    let at = place_generator c.args.groups.now c.args.fields.now c.args.components.now c.args.generator in
    row_step at (all_links at (length c.args.components.now) c.args.from) c.loop-to.links c.push_link.new.links c.args.from c.loop-to.to c.generator_at_places-entry.result c.loop-to.invariant c.generator_at_places-entry.ensures c.in_ok-push_link.ensures

pub returns : goal.returns
returns c =
    let at = place_generator c.args.groups.now c.args.fields.now c.args.components.now c.args.generator in
    row_end at (length c.args.components.now) c.args.from c.loop-to.to c.loop-to.links c.loop-to.invariant (omega (arith, c.loop-to-test.false, c.loop-to.auto.to-end))
