use Rattle.std.proofs.Common.{ap, ◌∙◌}
use Rattle.std.specs.FinMap.{from_sorted}
use Rattle.register_core.specs.Register.{key_cmp}
use Rattle.register_core.proofs.Tables.{from_nothing}
use Rattle.register_core.proofs.run_table.RunTable.new.Goals as goal

pub returns : goal.returns
returns c = ap from_sorted c.new.ensures.items ∙ from_nothing key_cmp
