use Rattle.std.proofs.Common.{◌+◌, ◌^◌, sym, subst, arith}
use Rattle.std.proofs.lemmas.Result.{on_err_weaker, IfOk-weaker}
use Rattle.gauge_two_loop.specs.Refused.{IsSquareSum}
use Rattle.gauge_two_loop.proofs.Squares.{one_field, sum_fits, plus}
use Rattle.gauge_two_loop.proofs.abelian.add_squares.Goals as goal

pub returns-clause-large : goal.returns-clause-large
returns-clause-large c =
    let q = c.args.field.now.charge in
    let one = one_field c.args.copies c.field_size.result q c.requires.copies c.field_size.ensures.bound in
    on_err_weaker c.sum_of.result (λ large given. large (sum_fits (2 ^ 60) 72559411200 c.args.sum.now c.in_ok-added.added (omega arith) given.0 (subst (IsSquareSum 72559411200) (sym c.in_ok-added.ensures.value) (one given.1)))) c.sum_of.ensures.large

pub returns-clause-bound : goal.returns-clause-bound
returns-clause-bound c = λ bound on plain.
    let q = c.args.field.now.charge in
    let one = one_field c.args.copies c.field_size.result q c.requires.copies c.field_size.ensures.bound plain in
    let both = plus bound 72559411200 c.args.sum.now c.in_ok-added.added on (subst (IsSquareSum 72559411200) (sym c.in_ok-added.ensures.value) one) in
    IfOk-weaker c.sum_of.result _ (IsSquareSum (bound + 72559411200)) (λ x is. subst (IsSquareSum (bound + 72559411200)) (sym is) both) c.sum_of.ensures.value
