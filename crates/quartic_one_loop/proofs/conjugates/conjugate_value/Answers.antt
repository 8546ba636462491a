use Rattle.std.proofs.Common.{rules}
use Rattle.quartic_one_loop.proofs.conjugates.conjugate_value.Goals as goal

pub returns : goal.returns
returns c =
    record {
      place = c.partner.result;
      key = search rules;
      partner_is = search rules;
      value = c.in_ok-conj.ensures;
    }
