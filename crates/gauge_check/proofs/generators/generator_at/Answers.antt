use Rattle.std.proofs.Common.{◌∙◌, sym}
use Rattle.gauge_check.proofs.GeneratorSteps.{apart_zero, copies_entry}
use Rattle.gauge_check.proofs.generators.generator_at.Goals as goal

pub returns-then-not-are_copies : goal.returns-then-not-are_copies
returns-then-not-are_copies c =
    c.zero.ensures
    ∙ apart_zero c.args.groups.now c.args.fields.now c.args.generator c.args.from.now c.args.to.now c.requires.named c.requires.from c.requires.to (sym c.are_copies.ensures ∙ c.if-not-are_copies.true)

pub returns : goal.returns
returns c =
    c.entry_between.ensures
    ∙ copies_entry c.args.groups.now c.args.fields.now c.args.generator c.args.from.now c.args.to.now c.index-fields-from.result c.requires.named c.requires.from c.requires.to (sym c.are_copies.ensures ∙ c.if-not-are_copies.false) c.index-fields-from.is
