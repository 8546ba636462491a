use Rattle.std.proofs.Common.{Some, Ok, Err, sym, ap, subst, ◌∙◌}
use Rattle.std.specs.FinMap.{get}
use Rattle.register_core.specs.Register.{key_cmp}
use Rattle.register_core.specs.Table.{IsPlace}
use Rattle.register_core.proofs.Tables.{keys_total, get_there, get_nowhere}
use Rattle.register_core.proofs.run_table.RunTable.kept_run.Goals as goal

pub returns-in_ok-copied-in-Ok : goal.returns-in_ok-copied-in-Ok
returns-in_ok-copied-in-Ok c =
    let key = c.args.key.now in
    let at = subst (λ t. IsPlace key_cmp t key (Ok c.in-Ok.place)) c.deref.ensures.value c.in-Ok.ensures in
    ap Some (c.in_ok-copied-in-Ok.ensures ∙ c.as_slice.ensures)
    ∙ sym (get_there keys_total c.self.inside.runs.items key c.self.invariant c.in-Ok.place at c.index.result.now c.index.ensures)
    ∙ ap (λ m. get m key) c.self.view_is

pub returns-in-Err : goal.returns-in-Err
returns-in-Err c =
    let key = c.args.key.now in
    let at = subst (λ t. IsPlace key_cmp t key (Err c.in-Err.field-0)) c.deref.ensures.value c.in-Err.ensures in
    sym (get_nowhere keys_total c.self.inside.runs.items key c.self.invariant c.in-Err.field-0 at)
    ∙ ap (λ m. get m key) c.self.view_is
