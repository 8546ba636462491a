use Rattle.su_reps.proofs.ProjectorLaws.{idempotent, symmetric, commutes}
use Rattle.su_reps.proofs.ActionLaws.{commutators, transpose_law, diagonal_law, trace_law, pair_trace_law, conjugate_law, conjugate_projector_law, traceless, traceless_action, projected_action}
use Rattle.su_reps.proofs.GroupNumbers.{dimension_law, casimir_law, doubled_index_law, index_law, cubic_law, conjugate_numbers}
use Rattle.su_reps.proofs.CasimirTrace.{casimir_trace_law}
use Rattle.su_reps.proofs.TripleTrace.{triple_trace_law}
use Rattle.su_reps.proofs.laws.representations_of_su_n.Goals as goal

pub returns-clause-idempotent : goal.returns-clause-idempotent
returns-clause-idempotent c = idempotent

pub returns-clause-symmetric : goal.returns-clause-symmetric
returns-clause-symmetric c = symmetric

pub returns-clause-commutes : goal.returns-clause-commutes
returns-clause-commutes c = commutes

pub returns-clause-commutators : goal.returns-clause-commutators
returns-clause-commutators c = commutators

pub returns-clause-transpose : goal.returns-clause-transpose
returns-clause-transpose c = transpose_law

pub returns-clause-diagonal : goal.returns-clause-diagonal
returns-clause-diagonal c = diagonal_law

pub returns-clause-no_trace : goal.returns-clause-no_trace
returns-clause-no_trace c = trace_law

pub returns-clause-pair_trace : goal.returns-clause-pair_trace
returns-clause-pair_trace c = pair_trace_law

pub returns-clause-dimension : goal.returns-clause-dimension
returns-clause-dimension c = dimension_law

pub returns-clause-casimir : goal.returns-clause-casimir
returns-clause-casimir c = casimir_law

pub returns-clause-doubled_index : goal.returns-clause-doubled_index
returns-clause-doubled_index c = doubled_index_law

pub returns-clause-index : goal.returns-clause-index
returns-clause-index c = index_law

pub returns-clause-casimir_trace : goal.returns-clause-casimir_trace
returns-clause-casimir_trace c = casimir_trace_law

pub returns-clause-cubic : goal.returns-clause-cubic
returns-clause-cubic c = cubic_law

pub returns-clause-triple_trace : goal.returns-clause-triple_trace
returns-clause-triple_trace c = triple_trace_law

pub returns-clause-conjugate : goal.returns-clause-conjugate
returns-clause-conjugate c = conjugate_law

pub returns-clause-conjugate_projector : goal.returns-clause-conjugate_projector
returns-clause-conjugate_projector c = conjugate_projector_law

pub returns-clause-conjugate_numbers : goal.returns-clause-conjugate_numbers
returns-clause-conjugate_numbers c = conjugate_numbers

pub returns-clause-traceless : goal.returns-clause-traceless
returns-clause-traceless c = traceless

pub returns-clause-traceless_action : goal.returns-clause-traceless_action
returns-clause-traceless_action c = traceless_action

pub returns-clause-projected_action : goal.returns-clause-projected_action
returns-clause-projected_action c = projected_action
