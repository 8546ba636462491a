use Rattle.std.proofs.Common.{◌+◌, ◌^◌, sym, subst, arith}
use Rattle.std.proofs.lemmas.Result.{on_err_weaker, IfOk-weaker}
use Rattle.gauge_two_loop.specs.Refused.{IsShare}
use Rattle.gauge_two_loop.proofs.Squares.{on_err}
use Rattle.gauge_two_loop.proofs.Shares.{product_share, share_small, share_plus, sum_fits}
use Rattle.gauge_two_loop.proofs.casimirs.add_product.Goals as goal

pub returns-in_err-product-clause-large : goal.returns-in_err-product-clause-large
returns-in_err-product-clause-large c =
    on_err c.from_residual.result (λ given. c.in_err-product.ensures.large (share_small 129600 (2 ^ 76) _ (omega arith) (omega arith) (omega arith) (product_share c.args.left.now c.args.right.now given.1 given.2)))

pub returns-clause-large : goal.returns-clause-large
returns-clause-large c =
    let product = c.in_ok-product.product in
    on_err_weaker c.sum_of.result (λ large given. large (sum_fits 129600 (2 ^ 100) (2 ^ 76) c.args.sum.now product (omega arith) (omega arith) (omega arith) given.0
    (subst (IsShare 129600 (2 ^ 76)) (sym c.in_ok-product.ensures.value) (product_share c.args.left.now c.args.right.now given.1 given.2)))) c.sum_of.ensures.large

pub returns-clause-bound : goal.returns-clause-bound
returns-clause-bound c = λ bound on left right.
    let product = c.in_ok-product.product in
    let share = subst (IsShare 129600 (2 ^ 76)) (sym c.in_ok-product.ensures.value) (product_share c.args.left.now c.args.right.now left right) in
    let both = share_plus 129600 bound (2 ^ 76) c.args.sum.now product (omega arith) on share in
    IfOk-weaker c.sum_of.result _ (IsShare 129600 (bound + 2 ^ 76)) (λ x is. subst (IsShare 129600 (bound + 2 ^ 76)) (sym is) both) c.sum_of.ensures.value
