use Rattle.std.proofs.Common.{map, sym, ap, ◌∙◌}
use Rattle.std.specs.FinMap.{keys}
use Rattle.register_core.specs.Register.{name_cmp}
use Rattle.register_core.proofs.Tables.{keys_are}
use Rattle.register_core.proofs.model_table.ModelTable.names.Goals as goal

pub returns : goal.returns
returns c =
    c.in_ok-names_of.ensures ∙ ap (map (λ e. e.0)) (c.deref.ensures.value ∙ sym (keys_are name_cmp c.self.inside.models.items c.self.invariant.0)) ∙ ap keys c.self.view_is
