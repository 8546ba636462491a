use Rattle.std.proofs.Common.{◌≡◌, ◌≤◌, ◌+◌, ◌*◌, drop}
use Rattle.std.specs.Prelude.{sum_by}
use Rattle.model_core.specs.Content.{symbols_at, rows_of, symbol_count}
use Rattle.model_core.proofs.block.symbol_count.Given as goal

abbrev pub invariant-loop-place : goal.invariant-loop-place
invariant-loop-place l = record {
  counted : l.count + sum_by (symbols_at l.term) (drop l.place (rows_of l.term)) ≡ symbol_count l.term;
  bound : l.count ≤ 6 * l.place;
}
