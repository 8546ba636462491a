use Rattle.span_solver.proofs.OpenKeys.{one_open_key, no_coordinates}
use Rattle.span_solver.proofs.laws.an_open_key_is_unique.Goals as goal

pub returns-clause-unique : goal.returns-clause-unique
returns-clause-unique c = one_open_key

pub returns-clause-excludes : goal.returns-clause-excludes
returns-clause-excludes c = no_coordinates
