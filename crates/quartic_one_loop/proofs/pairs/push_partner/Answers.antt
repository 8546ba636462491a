use Rattle.quartic_one_loop.proofs.PartnerValues.{value_more}
use Rattle.quartic_one_loop.proofs.pairs.push_partner.Goals as goal

pub returns : goal.returns
returns c =
    value_more c.args.model.now c.args.place c.args.values.now c.push.new.self (record { key = c.in_ok-copied.field-0; value = c.in_ok-unit.field-0 }) c.requires.before
    (record {
      other = c.partner-other.result;
      partners = c.partner-other.ensures;
      key_is = c.in_ok-copied.ensures;
      value_is = c.in_ok-unit.ensures;
    })
    c.in_ok-push.ensures.ok
