use Rattle.std.proofs.Common.{◌≡◌, IfOk, subst}
use Rattle.term_expand.proofs.LinkRuns.{places_there}
use Rattle.term_expand.proofs.links.projector_at_places.Goals as goal

pub returns-clause-value : goal.returns-clause-value
returns-clause-value c =
    let there = places_there c.args.groups.now c.args.fields.now c.args.components.now c.args.from c.args.to c.index-components-from.result c.index-components-to.result c.requires.from c.requires.to c.index-components-from.is c.index-components-to.is in
    subst (λ at. IfOk c.projector_at.result (λ value. value ≡ at)) there c.projector_at.ensures.value
