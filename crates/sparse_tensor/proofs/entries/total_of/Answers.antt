use Rattle.std.specs.Prelude.{IfOk}
use Rattle.std.proofs.Common.{◌≡◌, length, subst, rules}
use Rattle.std.proofs.lemmas.List.{nil_from_length}
use Rattle.sparse_tensor.proofs.Neighbours.{value_all, value_alone}
use Rattle.sparse_tensor.proofs.entries.total_of.Goals as goal

pub returns-then-is_empty-clause-value : goal.returns-then-is_empty-clause-value
returns-then-is_empty-clause-value c =
    let none : length c.args.more.items ≡ 0 = search rules in
    value_alone c.args.first c.args.more.items (nil_from_length c.args.more.items none)

pub returns-clause-value : goal.returns-clause-value
returns-clause-value c =
    subst (λ v. IfOk c.total.result (λ p. p ≡ v))
    (value_all c.args.first c.args.more.items c.push.new.self.items c.append.new.self.items (search rules) c.in_ok-append.ensures.items)
    c.total.ensures.value
