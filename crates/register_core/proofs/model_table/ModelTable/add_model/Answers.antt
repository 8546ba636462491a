use Rattle.std.proofs.Common.{◌≡◌, ◌<◌, ◌≤◌, ℕ, List, [], ◌∷◌, ◌++◌, length, unwrap_or, Option, Some, None, Ok, Err, sym, ap, subst, ◌∙◌, arith}
use Rattle.std.specs.List.{insert as inserted}
use Rattle.std.specs.FinMap.{get, insert, from_sorted, is_sorted}
use Rattle.std.proofs.lemmas.Cmp.{nat_list_cmp_total}
use Rattle.std.proofs.lemmas.Result.{on_ok_weaker}
use Rattle.register_core.specs.Register.{name_cmp, most_versions}
use Rattle.register_core.specs.Table.{IsPlace, AllShort}
use Rattle.register_core.proofs.Tables.{get_there, set_there, sorted_set, get_nowhere, inserted_there, sorted_inserted, short_set, short_inserted, pushed_few}
use Rattle.register_core.proofs.model_table.ModelTable.add_model.Goals as goal

-- a name's versions, where it has some
known : (o : Option (List (List ℕ))) (v : List (List ℕ)) → o ≡ Some v → v ≡ unwrap_or o []
known o v is = sym (ap (λ x. unwrap_or x []) is)

pub invariant_of-self : goal.invariant_of-self
invariant_of-self c =
    let es = c.self.inside.models.items in
    let name = c.args.name.now in
    let e = c.index_mut.result.now in
    let at = subst (λ t. IsPlace name_cmp t name (Ok c.in-Ok.place)) c.deref.ensures.value c.in-Ok.ensures in
    let is = c.index_mut.ensures.value in
    let got = ap (λ m. get m name) (sym c.self.view_is) ∙ get_there nat_list_cmp_total es name c.self.invariant.0 c.in-Ok.place at e is in
    let few : length e.1 < most_versions = subst (λ v. length v < most_versions) (sym (known _ _ got)) c.requires in
    (sorted_set nat_list_cmp_total es name c.self.invariant.0 c.in-Ok.place at e is c.push.new.self, short_set es c.in-Ok.place _ c.self.invariant.1 (pushed_few c.push.result e.1 c.push.new.self c.in_ok-bytes.bytes c.push.ensures.ok c.push.ensures.err few))

pub returns-in-Ok-clause-ok : goal.returns-in-Ok-clause-ok
returns-in-Ok-clause-ok c =
    let es = c.self.inside.models.items in
    let name = c.args.name.now in
    let e = c.index_mut.result.now in
    let at = subst (λ t. IsPlace name_cmp t name (Ok c.in-Ok.place)) c.deref.ensures.value c.in-Ok.ensures in
    let is = c.index_mut.ensures.value in
    let got = ap (λ m. get m name) (sym c.self.view_is) ∙ get_there nat_list_cmp_total es name c.self.invariant.0 c.in-Ok.place at e is in
    on_ok_weaker c.push.result (λ pushed. set_there nat_list_cmp_total es name c.self.invariant.0 c.in-Ok.place at e is c.push.new.self
    ∙ ap (λ m. insert m name c.push.new.self) c.self.view_is
    ∙ ap (insert c.args.self.now name) (pushed ∙ ap (λ b. e.1 ++ b ∷ []) c.in_ok-bytes.ensures ∙ ap (λ v. v ++ c.args.bytes.now ∷ []) (known _ _ got))) c.push.ensures.ok

pub invariant_of-self-in-Err : goal.invariant_of-self-in-Err
invariant_of-self-in-Err c =
    let es = c.self.inside.models.items in
    let name = c.args.name.now in
    let place = c.in-Err.place in
    let at = subst (λ t. IsPlace name_cmp t name (Err place)) c.deref.ensures.value c.in-Err.ensures in
    let v = c.in_ok-versions-in-Err.versions in
    let made : c.insert.new.self.items ≡ inserted es place (name, v) = c.in_ok-insert-in-Err.ensures.items ∙ ap (λ k. inserted es place (k, v)) c.copy.ensures in
    let few : length v ≤ most_versions = omega (arith, ap length c.in_ok-versions-in-Err.ensures) in
    (ap (is_sorted name_cmp) made ∙ sorted_inserted nat_list_cmp_total es name c.self.invariant.0 place at v, subst AllShort (sym made) (short_inserted es place (name, v) c.self.invariant.1 few))

pub returns-in_ok-insert-in-Err-clause-ok : goal.returns-in_ok-insert-in-Err-clause-ok
returns-in_ok-insert-in-Err-clause-ok c =
    let es = c.self.inside.models.items in
    let name = c.args.name.now in
    let place = c.in-Err.place in
    let at = subst (λ t. IsPlace name_cmp t name (Err place)) c.deref.ensures.value c.in-Err.ensures in
    let v = c.in_ok-versions-in-Err.versions in
    let made : c.insert.new.self.items ≡ inserted es place (name, v) = c.in_ok-insert-in-Err.ensures.items ∙ ap (λ k. inserted es place (k, v)) c.copy.ensures in
    let none : get c.args.self.now name ≡ None = ap (λ m. get m name) (sym c.self.view_is) ∙ get_nowhere nat_list_cmp_total es name c.self.invariant.0 place at in
    let value : v ≡ unwrap_or (get c.args.self.now name) [] ++ c.args.bytes.now ∷ [] =
    c.in_ok-versions-in-Err.ensures ∙ ap (λ b. b ∷ []) c.in_ok-bytes.ensures ∙ ap (λ o. unwrap_or o [] ++ c.args.bytes.now ∷ []) (sym none) in
    ap from_sorted made ∙ inserted_there nat_list_cmp_total es name c.self.invariant.0 place at v ∙ ap (λ m. insert m name v) c.self.view_is ∙ ap (insert c.args.self.now name) value
