use Rattle.std.proofs.Common.{◌≡◌, ◌-◌, suc, arith, sym, ◌∙◌}
use Rattle.std.proofs.lemmas.List.FromFn.{length-range_with_len}
use Rattle.model_core.specs.Content.{first_column}
use Rattle.model_core.proofs.block.symbols_at.Goals as goal

pub returns-clause-value : goal.returns-clause-value
returns-clause-value c =
    let term = c.args.term.now in
    let first = first_column term c.args.row in
    let count : c.saturating_sub.result ≡ suc term.columns - first = omega (arith, c.saturating_sub.ensures, c.first_column.ensures.value, c.first_column.ensures.positive) in
    count ∙ sym (length-range_with_len first (suc term.columns - first))
