use Rattle.std.proofs.Common.{◌≡◌, [], get_or, is_some, if◌then◌else◌, None, Ok, Err, sym, ap, subst, ◌∙◌}
use Rattle.std.specs.List.{insert as inserted}
use Rattle.std.specs.FinMap.{get, insert, from_sorted, is_sorted}
use Rattle.std.proofs.lemmas.List.{get_or_default}
use Rattle.register_core.specs.Register.{key_cmp}
use Rattle.register_core.specs.Table.{IsPlace}
use Rattle.register_core.proofs.Tables.{keys_total, get_there, get_nowhere, inserted_there, sorted_inserted}
use Rattle.register_core.proofs.run_table.RunTable.keep_run.Goals as goal

pub returns-in-Ok-clause-ok : goal.returns-in-Ok-clause-ok
returns-in-Ok-clause-ok c =
    let es = c.self.inside.runs.items in
    let key = c.args.key.now in
    let place = c.in-Ok.field-0 in
    let s = c.args.self.now in
    let at = subst (λ t. IsPlace key_cmp t key (Ok place)) c.deref.ensures.value c.in-Ok.ensures in
    let e = get_or es place (key, []) in
    let got = ap (λ m. get m key) (sym c.self.view_is) ∙ get_there keys_total es key c.self.invariant place at e (get_or_default es place (key, []) e at.0) in
    sym (ap (λ o. if is_some o then s else insert s key c.args.bytes.now) got)

pub invariant_of-self-in-Err : goal.invariant_of-self-in-Err
invariant_of-self-in-Err c =
    let es = c.self.inside.runs.items in
    let key = c.args.key.now in
    let place = c.in-Err.place in
    let at = subst (λ t. IsPlace key_cmp t key (Err place)) c.deref.ensures.value c.in-Err.ensures in
    let v = c.in_ok-output-in-Err.output in
    let made : c.insert.new.self.items ≡ inserted es place (key, v) = c.in_ok-insert-in-Err.ensures.items ∙ ap (λ k. inserted es place (k, v)) c.copied_key.ensures in
    ap (is_sorted key_cmp) made ∙ sorted_inserted keys_total es key c.self.invariant place at v

pub returns-in_ok-insert-in-Err-clause-ok : goal.returns-in_ok-insert-in-Err-clause-ok
returns-in_ok-insert-in-Err-clause-ok c =
    let es = c.self.inside.runs.items in
    let key = c.args.key.now in
    let place = c.in-Err.place in
    let s = c.args.self.now in
    let at = subst (λ t. IsPlace key_cmp t key (Err place)) c.deref.ensures.value c.in-Err.ensures in
    let v = c.in_ok-output-in-Err.output in
    let made : c.insert.new.self.items ≡ inserted es place (key, v) = c.in_ok-insert-in-Err.ensures.items ∙ ap (λ k. inserted es place (k, v)) c.copied_key.ensures in
    let none : get s key ≡ None = ap (λ m. get m key) (sym c.self.view_is) ∙ get_nowhere keys_total es key c.self.invariant place at in
    ap from_sorted made ∙ inserted_there keys_total es key c.self.invariant place at v ∙ ap (λ m. insert m key v) c.self.view_is ∙ ap (insert s key) c.in_ok-output-in-Err.ensures
    ∙ sym (ap (λ o. if is_some o then s else insert s key c.args.bytes.now) none)
