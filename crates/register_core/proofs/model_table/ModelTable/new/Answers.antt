use Rattle.std.proofs.Common.{ap, ◌∙◌}
use Rattle.std.specs.FinMap.{from_sorted}
use Rattle.register_core.specs.Register.{name_cmp}
use Rattle.register_core.proofs.Tables.{from_nothing}
use Rattle.register_core.proofs.model_table.ModelTable.new.Goals as goal

pub returns : goal.returns
returns c = ap from_sorted c.new.ensures.items ∙ from_nothing name_cmp
