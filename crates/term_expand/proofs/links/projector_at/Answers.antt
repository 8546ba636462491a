use Rattle.std.proofs.Common.{◌≡◌, IfOk, subst}
use Rattle.term_expand.proofs.PlacedComponents.{same_slots}
use Rattle.term_expand.proofs.LinkRuns.{projector_there}
use Rattle.term_expand.proofs.links.projector_at.Goals as goal

pub projector_of-requires-clause-to : goal.projector_of-requires-clause-to
projector_of-requires-clause-to c =
    same_slots c.args.groups.now c.args.fields.now c.args.from.now c.args.to.now c.index-fields-from.result c.index-fields-to.result c.requires.named c.requires.from c.requires.to c.index-fields-from.is c.index-fields-to.is

pub returns-clause-value : goal.returns-clause-value
returns-clause-value c =
    let there = projector_there c.args.groups.now c.args.fields.now c.args.from.now c.args.to.now c.index-fields-from.result c.index-fields-to.result c.requires.from.within c.requires.to.within c.index-fields-from.is c.index-fields-to.is in
    subst (λ at. IfOk c.projector_of.result (λ value. value ≡ at)) there c.projector_of.ensures.value
