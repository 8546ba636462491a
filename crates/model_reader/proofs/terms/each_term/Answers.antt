use Rattle.std.proofs.Common.{rules, ap, ◌∙◌}
use Rattle.model_reader.specs.TermSteps.{are_small}
use Rattle.model_reader.proofs.Directions.{small_none}
use Rattle.model_reader.proofs.terms.each_term.Goals as goal

pub loop-table-init : goal.loop-table-init
loop-table-init c =
    (search rules, search rules, ap are_small c.new-blocks.ensures ∙ small_none, search rules, search rules, c.requires.distinct, search rules, search rules, search rules, search rules)
