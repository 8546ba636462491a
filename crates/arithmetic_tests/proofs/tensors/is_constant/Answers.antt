use Rattle.std.proofs.Common.{sym, ◌∙◌}
use Rattle.arithmetic_tests.proofs.ConstantLaws.{constant_of, no_powers}
use Rattle.arithmetic_tests.proofs.tensors.is_constant.Goals as goal

pub returns : goal.returns
returns c = λ h.
    constant_of c.args.value.now c.item.result.now (sym c.len.ensures ∙ c.if-len-ne1.false) c.item.ensures (sym c.len-2.ensures ∙ no_powers c.len-2.result h)
