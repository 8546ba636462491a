use Rattle.std.proofs.Common.{rules, arith}
use Rattle.std.proofs.lemmas.Grind.{common_steps}
use Rattle.model_core.proofs.ValidParts.{list_all_push, entry_push}
use Rattle.model_reader.proofs.entries.entries_of.Goals as goal

pub loop-value-preserved : goal.loop-value-preserved
loop-value-preserved c =
    (grind (arith, common_steps), search (rules, entry_push), search (rules, list_all_push), grind (arith, common_steps), grind (arith, common_steps))
