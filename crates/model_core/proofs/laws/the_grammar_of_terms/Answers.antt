use Rattle.model_core.proofs.TermSums.{one_sum, bad_at_first, sum_where_none_bad}
use Rattle.model_core.proofs.laws.the_grammar_of_terms.Goals as goal

pub returns-clause-one : goal.returns-clause-one
returns-clause-one c = one_sum

pub returns-clause-bad : goal.returns-clause-bad
returns-clause-bad c = bad_at_first

pub returns-clause-sum : goal.returns-clause-sum
returns-clause-sum c = sum_where_none_bad
