use Rattle.std.proofs.Common.{◌∙◌}
use Rattle.model_reader.proofs.Verdicts.{wants_end}
use Rattle.model_reader.proofs.term_text.sum_of.Goals as goal

pub returns-in-len1-up : goal.returns-in-len1-up
returns-in-len1-up c = rw c.stuck.ensures (c.in_ok-sum.ensures.parsed.same ∙ wants_end c.in_ok-sum.rest.now c.in-len1-up.len_at_least)
