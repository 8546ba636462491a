use Rattle.std.proofs.Common.{◌≡◌, ◌*◌, pos, sym, subst, ap₂, arith}
use Rattle.std.proofs.lemmas.Result.{on_err_weaker}
use Rattle.frac128.specs.Rational.{whole, ◌*ℚ◌}
use Rattle.frac128.specs.Frac.{IsSmall}
use Rattle.gauge_two_loop.proofs.Squares.{on_err, square_of, square_small, times}
use Rattle.gauge_two_loop.proofs.abelian.squares.Goals as goal

pub returns-in_err-square-clause-large : goal.returns-in_err-square-clause-large
returns-in_err-square-clause-large c =
    let q = c.args.field.now.charge in
    on_err c.from_residual.result (λ plain. c.in_err-square.ensures.large (square_small 3600 (q *ℚ q) (omega arith) (square_of q plain)))

pub returns-clause-large : goal.returns-clause-large
returns-clause-large c =
    let q = c.args.field.now.charge in
    let value : c.whole_of.result *ℚ c.in_ok-square.square ≡ whole (pos c.args.count) *ℚ (q *ℚ q) = ap₂ ◌*ℚ◌ c.whole_of.ensures c.in_ok-square.ensures.value in
    on_err_weaker c.product_of-2.result (λ large plain. large (subst IsSmall (sym value) (square_small (c.args.count * 3600) (whole (pos c.args.count) *ℚ (q *ℚ q)) (omega (arith, c.requires)) (times c.args.count 3600 (q *ℚ q) (square_of q plain))))) c.product_of-2.ensures.large
