use Rattle.std.proofs.Common.{◌≡◌, ◌++◌, drop, option_map}
use Rattle.register_sqlite.specs.Rows.{names_in}
use Rattle.register_sqlite.proofs.rows.names_in.Given as goal

abbrev pub invariant-loop-row : goal.invariant-loop-row
invariant-loop-row l = names_in l.rows ≡ option_map (λ more. l.names ++ more) (names_in (drop l.row-index l.rows))
