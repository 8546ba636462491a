use Rattle.std.proofs.Common.{◌≡◌, ◌^◌, pos, sym, subst, ap, arith}
use Rattle.std.proofs.lemmas.Result.{on_err_weaker}
use Rattle.frac128.specs.Rational.{whole, ◌*ℚ◌}
use Rattle.frac128.specs.Frac.{IsSmall}
use Rattle.anomaly_check.proofs.CubeSums.{one_field, cube_sum_small}
use Rattle.anomaly_check.proofs.charges.times.Goals as goal

pub returns-clause-large : goal.returns-clause-large
returns-clause-large c =
    let x = c.args.number.now in
    let value : c.whole_of.result *ℚ x ≡ whole (pos c.args.count) *ℚ x = ap (λ k. k *ℚ x) c.whole_of.ensures in
    on_err_weaker c.product_of.result (λ large on. large (subst IsSmall (sym value) (cube_sum_small (2 ^ 68) _ (omega arith) (one_field c.args.count x c.requires on)))) c.product_of.ensures.large
