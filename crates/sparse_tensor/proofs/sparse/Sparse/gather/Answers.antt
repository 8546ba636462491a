use Rattle.std.specs.Prelude.{map}
use Rattle.std.proofs.Common.{subst, sym, ap, ◌∙◌, rules}
use Rattle.sparse_tensor.specs.Tensor.{HasRank, HasValues}
use Rattle.sparse_tensor.specs.Operations.{entry, gathered_at}
use Rattle.sparse_tensor.specs.Refusals.{IsSumRefusalOf}
use Rattle.sparse_tensor.proofs.Parts.{ranks_of_values, sum_refusal_of}
use Rattle.sparse_tensor.proofs.sparse.Sparse.gather.Goals as goal

pub of_entries-requires-clause-keys : goal.of_entries-requires-clause-keys
of_entries-requires-clause-keys c =
    subst (HasRank c.args.rank) (sym (c.in_ok-all.ensures ∙ ap (map entry) c.into_vec.ensures)) (ranks_of_values c.args.rank c.args.values c.requires.keys)

pub returns-in_err-tensor-clause-refused : goal.returns-in_err-tensor-clause-refused
returns-in_err-tensor-clause-refused c =
    let all_is = c.in_ok-all.ensures ∙ ap (map entry) c.into_vec.ensures in
    let refused : IsSumRefusalOf c.args.values c.in_err-tensor.field-0.0 = sum_refusal_of c.args.values c.in_ok-all.all.items c.in_err-tensor.field-0.0 (λ e. all_is ∙ ap (map entry) e) c.in_err-tensor.ensures.refused in
    search rules

pub returns-clause-value : goal.returns-clause-value
returns-clause-value c =
    subst (λ es. HasValues c.args.rank (gathered_at es) c.in_ok-tensor.tensor) (c.in_ok-all.ensures ∙ ap (map entry) c.into_vec.ensures) c.in_ok-tensor.ensures.value
