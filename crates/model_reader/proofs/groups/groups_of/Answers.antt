use Rattle.std.proofs.Common.{rules, arith}
use Rattle.std.proofs.lemmas.Grind.{common_steps}
use Rattle.model_core.proofs.ValidParts.{list_all_push, abelian_push}
use Rattle.model_reader.proofs.groups.groups_of.Goals as goal

pub loop-table-preserved : goal.loop-table-preserved
loop-table-preserved c =
    (grind (arith, common_steps), search rules, search (rules, list_all_push), search (rules, abelian_push), grind (arith, common_steps), grind (arith, common_steps), grind (arith, common_steps))
