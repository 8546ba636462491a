use Rattle.std.proofs.Common.{◌≡◌, sym, subst, ap, arith}
use Rattle.std.proofs.lemmas.Result.{on_err_weaker}
use Rattle.frac128.specs.Rational.{◌*ℚ◌}
use Rattle.frac128.specs.Frac.{IsSmall}
use Rattle.anomaly_check.proofs.CubeSums.{on_err, square_small, cube_of, cube_sum_small}
use Rattle.anomaly_check.proofs.charges.charge_cubed.Goals as goal

pub returns-in_err-square-clause-large : goal.returns-in_err-square-clause-large
returns-in_err-square-clause-large c =
    on_err c.from_residual.result (λ plain. c.in_err-square.ensures.large (square_small c.args.field.now.charge plain))

pub returns-clause-large : goal.returns-clause-large
returns-clause-large c =
    let q = c.args.field.now.charge in
    let value : q *ℚ c.in_ok-square.square ≡ q *ℚ (q *ℚ q) = ap (λ k. q *ℚ k) c.in_ok-square.ensures.value in
    on_err_weaker c.product_of-2.result (λ large plain. large (subst IsSmall (sym value) (cube_sum_small 216000 _ (omega arith) (cube_of q plain)))) c.product_of-2.ensures.large
