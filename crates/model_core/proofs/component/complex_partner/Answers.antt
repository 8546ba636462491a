use Rattle.model_core.proofs.PartnerLaws.{plain_partner_at, conjugate_partner_at}
use Rattle.model_core.proofs.component.complex_partner.Goals as goal

pub returns-then-place-count : goal.returns-then-place-count
returns-then-place-count c =
    plain_partner_at c.args.groups.now c.args.field.now c.args.place c.field_count-count.result c.requires.complex c.field_count-count.ensures.value c.if-place-count.true

pub returns : goal.returns
returns c =
    conjugate_partner_at c.args.groups.now c.args.field.now c.args.place c.field_count-count.result c.requires.complex c.field_count-count.ensures.value c.if-place-count.false c.requires.place
