use Rattle.std.proofs.Common.{[]}
use Rattle.model_core.specs.Directions.{entries}
use Rattle.term_expand.specs.Expansion.{yukawa_sum, scalar_sum}
use Rattle.term_expand.proofs.Expanded.{first_values}
use Rattle.term_expand.proofs.expansion.expand.Goals as goal

pub returns-clause-value : goal.returns-clause-value
returns-clause-value c =
    let model = c.args.model.now in
    let sums = c.in_ok-sums.sums in
    let adds = c.in_ok-sums.ensures.value in
    record {
      yukawa = first_values 3 (yukawa_sum model (entries model)) sums.yukawa c.in_ok-yukawa.yukawa adds.yukawa c.in_ok-yukawa.ensures.value;
      scalar = first_values 4 (scalar_sum model (entries model)) sums.scalar c.in_ok-scalar.scalar adds.scalar c.in_ok-scalar.ensures.value;
      directions = adds.directions [] tt;
    }
