use Rattle.std.proofs.Common.{◌≡◌, ◌+◌, drop}
use Rattle.register_sqlite.specs.Rows.{are_numbers}
use Rattle.register_sqlite.proofs.rows.count_in.Given as goal

abbrev pub invariant-loop-row : goal.invariant-loop-row
invariant-loop-row l = (l.count ≡ l.row-index) × (are_numbers 1 l.rows ≡ are_numbers (l.count + 1) (drop l.row-index l.rows))
