use Rattle.std.proofs.Common.{subst, sym, arith}
use Rattle.gauge_check.specs.Steps.{IsFirstKey, differs_at}
use Rattle.gauge_check.proofs.Differences.{has_whole}
use Rattle.gauge_check.proofs.FirstKeys.{difference_first}
use Rattle.gauge_check.proofs.difference.difference_key.Goals as goal

pub both_sides-requires : goal.both_sides-requires
both_sides-requires c = let is = c.requires.whole.is.rank_is in omega (arith, is)

pub difference-requires-clause-numbers : goal.difference-requires-clause-numbers
difference-requires-clause-numbers c =
    let some = c.requires.whole in
    record {
      numbers = some.whole;
      has = has_whole c.args.model.now some.whole c.args.direction.now c.in_ok-whole.whole some.is (c.in_ok-whole.ensures.value 4 (sym some.is.rank_is));
    }

pub returns-clause-value : goal.returns-clause-value
returns-clause-value c f is =
    let model = c.args.model.now in
    let numbers = has_whole model f c.args.direction.now c.in_ok-whole.whole is (c.in_ok-whole.ensures.value 4 (sym is.rank_is)) in
    subst (IsFirstKey model (differs_at model f)) (sym c.in_ok-first.ensures) (difference_first f model c.in_ok-other.other (c.in_ok-other.ensures.value f numbers))
