use Rattle.std.proofs.Common.{◌≤◌, length, Ok, Err, sym, ap, subst, ◌∙◌}
use Rattle.std.specs.FinMap.{get}
use Rattle.std.proofs.lemmas.Cmp.{nat_list_cmp_total}
use Rattle.register_core.specs.Register.{name_cmp, most_versions}
use Rattle.register_core.specs.Table.{IsPlace}
use Rattle.register_core.proofs.Tables.{get_there, get_nowhere, short_at}
use Rattle.register_core.proofs.model_table.ModelTable.find.Goals as goal

pub returns-in-Ok-clause-value : goal.returns-in-Ok-clause-value
returns-in-Ok-clause-value c =
    let name = c.args.name.now in
    let at = subst (λ t. IsPlace name_cmp t name (Ok c.in-Ok.place)) c.deref.ensures.value c.in-Ok.ensures in
    sym (get_there nat_list_cmp_total c.self.inside.models.items name c.self.invariant.0 c.in-Ok.place at c.index.result.now c.index.ensures)
    ∙ ap (λ m. get m name) c.self.view_is

pub returns-in-Ok-clause-short : goal.returns-in-Ok-clause-short
returns-in-Ok-clause-short c =
    let at = subst (λ t. IsPlace name_cmp t c.args.name.now (Ok c.in-Ok.place)) c.deref.ensures.value c.in-Ok.ensures in
    subst (λ e. length e.1 ≤ most_versions) (sym c.index.ensures) (short_at c.self.inside.models.items c.in-Ok.place c.index.result.now c.self.invariant.1 at.0)

pub returns-in-Err-clause-value : goal.returns-in-Err-clause-value
returns-in-Err-clause-value c =
    let name = c.args.name.now in
    let at = subst (λ t. IsPlace name_cmp t name (Err c.in-Err.field-0)) c.deref.ensures.value c.in-Err.ensures in
    sym (get_nowhere nat_list_cmp_total c.self.inside.models.items name c.self.invariant.0 c.in-Err.field-0 at)
    ∙ ap (λ m. get m name) c.self.view_is
