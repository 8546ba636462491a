use Rattle.std.proofs.Common.{◌+◌, ◌^◌, sym, subst, arith}
use Rattle.std.proofs.lemmas.Result.{on_err_weaker, IfOk-weaker}
use Rattle.anomaly_check.specs.Counts.{IsCubeSum}
use Rattle.anomaly_check.proofs.CubeSums.{on_err, one_field, sum_fits, plus}
use Rattle.anomaly_check.proofs.charges.add_times.Goals as goal

pub returns-in_err-added-clause-large : goal.returns-in_err-added-clause-large
returns-in_err-added-clause-large c = on_err c.from_residual.result (λ given. c.in_err-added.ensures.large given.1)

pub returns-clause-large : goal.returns-clause-large
returns-clause-large c =
    let one = one_field c.args.count c.args.number.now c.requires in
    on_err_weaker c.sum_of.result (λ large given. large (sum_fits (2 ^ 100) (2 ^ 68) c.args.sum.now c.in_ok-added.added (omega arith) given.0 (subst (IsCubeSum (2 ^ 68)) (sym c.in_ok-added.ensures.value) (one given.1)))) c.sum_of.ensures.large

pub returns-clause-bound : goal.returns-clause-bound
returns-clause-bound c = λ bound on number.
    let one = one_field c.args.count c.args.number.now c.requires number in
    let both = plus bound (2 ^ 68) c.args.sum.now c.in_ok-added.added on (subst (IsCubeSum (2 ^ 68)) (sym c.in_ok-added.ensures.value) one) in
    IfOk-weaker c.sum_of.result _ (IsCubeSum (bound + 2 ^ 68)) (λ x is. subst (IsCubeSum (bound + 2 ^ 68)) (sym is) both) c.sum_of.ensures.value
