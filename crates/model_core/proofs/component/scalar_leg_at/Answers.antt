use Rattle.model_core.specs.Leg.{scalar_leg_of}
use Rattle.model_core.proofs.ScalarLaws.{plain_at, conjugate_at, conjugate_within}
use Rattle.model_core.proofs.component.scalar_leg_at.Goals as goal

pub returns-then-place-count : goal.returns-then-place-count
returns-then-place-count c =
    plain_at scalar_leg_of c.args.groups.now c.args.field.now c.args.place c.scalar_copy_at.result c.scalar_copy_at.ensures

pub scalar_copy_at-requires-2-clause-place : goal.scalar_copy_at-requires-2-clause-place
scalar_copy_at-requires-2-clause-place c =
    conjugate_within c.args.groups.now c.args.field.now c.args.place c.field_count-count.result c.field_count-count.ensures.value c.if-place-count.false c.requires.place

pub returns : goal.returns
returns c =
    conjugate_at scalar_leg_of c.args.groups.now c.args.field.now c.args.place c.field_count-count.result c.scalar_copy_at-2.result c.field_count-count.ensures.value c.if-place-count.false c.requires.place c.scalar_copy_at-2.ensures
