use Rattle.std.proofs.Common.{◌∙◌}
use Rattle.derive_core.proofs.TargetLists.{terms_step, sizes_at}
use Rattle.derive_core.proofs.targets.push_terms.Goals as goal

pub push_term-requires-clause-columns : goal.push_term-requires-clause-columns
push_term-requires-clause-columns c = (sizes_at c.args.model.now c.loop-place.place c.item.result.now c.requires c.item.ensures).1

pub push_term-requires-clause-rows : goal.push_term-requires-clause-rows
push_term-requires-clause-rows c = (sizes_at c.args.model.now c.loop-place.place c.item.result.now c.requires c.item.ensures).0

pub loop-place-preserved : goal.loop-place-preserved
loop-place-preserved c =
    c.in_ok-push_term.ensures ∙ terms_step c.args.model.now.terms c.loop-place.place c.item.result.now c.args.targets.now c.loop-place.targets c.item.ensures c.loop-place.invariant
