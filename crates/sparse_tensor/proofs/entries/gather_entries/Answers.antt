use Rattle.std.proofs.Common.{◌∙◌, rules}
use Rattle.sparse_tensor.specs.Refusals.{IsSumRefusalOf}
use Rattle.sparse_tensor.proofs.Parts.{ranks_sorted, sum_refusal_of, gathered_at-permuted, sorted_empty}
use Rattle.sparse_tensor.proofs.entries.gather_entries.Goals as goal

pub returns-in_err-gathered-clause-refused : goal.returns-in_err-gathered-clause-refused
returns-in_err-gathered-clause-refused c =
    let refused : IsSumRefusalOf c.args.entries.items c.in_err-gathered.field-0.0 = sum_refusal_of c.args.entries.items c.sort_entries.new.entries.items c.in_err-gathered.field-0.0 (λ e. sorted_empty c.args.entries.items c.sort_entries.new.entries.items c.in_ok-sort_entries.ensures.permutation e) c.in_err-gathered.ensures.refused in
    search rules

pub returns-clause-value : goal.returns-clause-value
returns-clause-value c =
    λ key. c.in_ok-gathered.ensures.value key ∙ gathered_at-permuted c.args.entries.items c.sort_entries.new.entries.items key c.in_ok-sort_entries.ensures.permutation

pub returns-clause-keys : goal.returns-clause-keys
returns-clause-keys c =
    λ rank h. c.in_ok-gathered.ensures.keys rank (ranks_sorted rank c.args.entries.items c.sort_entries.new.entries.items c.in_ok-sort_entries.ensures.permutation h)
