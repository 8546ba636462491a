use Rattle.std.proofs.Common.{sym, subst, ◌∙◌}
use Rattle.std.specs.Prelude.{IfOk}
use Rattle.derive_core.specs.Works.{MayBeTold, TellsOf}
use Rattle.derive_core.proofs.Tellings.{direction_told, directions_more}
use Rattle.derive_core.proofs.outcomes.with_direction.Goals as goal

pub with_block-requires-clause-name : goal.with_block-requires-clause-name
with_block-requires-clause-name g c κs within =
    let model = c.args.accepted.now.model in
    subst (MayBeTold model) (sym (c.in_ok-name.ensures ∙ c.as_slice.ensures))
    (direction_told model c.args.accepted.now.tensors.directions c.requires.directions c.args.place c.item-direction.result.now c.item-direction.ensures c.requires.valid)

pub returns-clause-value : goal.returns-clause-value
returns-clause-value g c =
    let model = c.args.accepted.now.model in
    directions_more model c.args.accepted.now.tensors.directions c.args.place c.item-direction.result.now c.args.told c.with_block.result c.requires.directions c.item-direction.ensures c.requires.told
    (subst (λ n. IfOk c.with_block.result (TellsOf model n c.args.told)) (c.in_ok-name.ensures ∙ c.as_slice.ensures) c.with_block.ensures.value)
