use Rattle.std.proofs.Common.{rules, ◌≤◌, length}
use Rattle.model_reader.proofs.FewLabels.{few_of_more}
use Rattle.model_reader.proofs.term_sum.term_sum.Goals as goal

pub returns-in-Sum-clause-few : goal.returns-in-Sum-clause-few
returns-in-Sum-clause-few c =
    let short : length c.args.text.now ≤ 4096 = search rules in
    let few = rw (c.in-Sum.is) at c.in_ok-sum.ensures.few in
    few_of_more (length c.args.text.now) 4096 c.in-Sum.sum short few
