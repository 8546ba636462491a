use Rattle.std.proofs.Common.{◌+◌, ap₂, sym, ◌∙◌}
use Rattle.model_core.proofs.FactorLaws.{slot_count-step}
use Rattle.model_core.proofs.factors.+slot_count.Goals as goal

pub returns-in-len1-up-clause-value : goal.returns-in-len1-up-clause-value
returns-in-len1-up-clause-value t c =
    ap₂ ◌+◌ c.slots.ensures c.slot_count.ensures.value ∙ sym (slot_count-step c.args.reps.now _ c.in-len1-up.len_at_least)
