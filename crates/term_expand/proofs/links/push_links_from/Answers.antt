use Rattle.std.proofs.Common.{length, ◌∙◌, sym, subst, arith}
use Rattle.sparse_tensor.specs.Operations.{IsAfter}
use Rattle.term_expand.specs.LinkSteps.{place_projectors, all_links}
use Rattle.term_expand.proofs.AllLinks.{next_after}
use Rattle.term_expand.proofs.LinkRuns.{row_start, row_step, row_end}
use Rattle.term_expand.proofs.links.push_links_from.Goals as goal

pub loop-to-init : goal.loop-to-init
loop-to-init c =
    let at = place_projectors c.args.groups.now c.args.fields.now c.args.components.now in
    c.requires.before ∙ row_start at (length c.args.components.now) c.args.from

pub push_link-requires-clause-after : goal.push_link-requires-clause-after
push_link-requires-clause-after c =
    let at = place_projectors c.args.groups.now c.args.fields.now c.args.components.now in
    subst (λ links. IsAfter links (record { from = c.args.from; to = c.loop-to.to; value = c.in_ok-value.value })) (sym c.loop-to.invariant) (next_after at (length c.args.components.now) c.args.from c.loop-to.to c.in_ok-value.value)

pub loop-to-preserved : goal.loop-to-preserved
loop-to-preserved c =
    let at = place_projectors c.args.groups.now c.args.fields.now c.args.components.now in
    row_step at (all_links at (length c.args.components.now) c.args.from) c.loop-to.links c.push_link.new.links c.args.from c.loop-to.to c.in_ok-value.value c.loop-to.invariant c.in_ok-value.ensures.value c.in_ok-push_link.ensures

pub returns-clause-value : goal.returns-clause-value
returns-clause-value c =
    let at = place_projectors c.args.groups.now c.args.fields.now c.args.components.now in
    row_end at (length c.args.components.now) c.args.from c.loop-to.to c.loop-to.links c.loop-to.invariant (omega (arith, c.loop-to-test.false, c.loop-to.auto.to-end))
