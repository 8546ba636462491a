use Rattle.std.proofs.Common.{◌≡◌, ◌+◌, ◌*◌, ◌^◌, pos, sym, subst, ap, ap₂, ◌∙◌, arith}
use Rattle.std.proofs.lemmas.Result.{on_err_weaker, IfOk-weaker}
use Rattle.frac128.specs.Rational.{whole, reciprocal, ◌+ℚ◌, ◌*ℚ◌}
use Rattle.frac128.specs.RationalLaws.{one-*ℚ}
use Rattle.frac128.specs.Frac.{IsSmall}
use Rattle.gauge_two_loop.specs.Refused.{IsSquareSum}
use Rattle.gauge_two_loop.proofs.Squares.{on_err, square_small, sixth_small, sum_fits, times, plus}
use Rattle.gauge_two_loop.proofs.abelian.sixth_of.Goals as goal

pub returns-in_err-weighted-clause-large : goal.returns-in_err-weighted-clause-large
returns-in_err-weighted-clause-large c =
    let four : c.whole_of.result *ℚ c.args.fermions.now ≡ whole (pos 4) *ℚ c.args.fermions.now = ap (λ k. k *ℚ c.args.fermions.now) c.whole_of.ensures in
    on_err c.from_residual.result (λ given. c.in_err-weighted.ensures.large (subst IsSmall (sym four) (square_small (4 * 2 ^ 60) _ (omega arith) (times 4 (2 ^ 60) c.args.fermions.now given.0))))

pub returns-in_err-sixths-clause-large : goal.returns-in_err-sixths-clause-large
returns-in_err-sixths-clause-large c =
    let four : c.in_ok-weighted.weighted ≡ whole (pos 4) *ℚ c.args.fermions.now = c.in_ok-weighted.ensures.value ∙ ap (λ k. k *ℚ c.args.fermions.now) c.whole_of.ensures in
    on_err c.from_residual-in_err-sixths.result (λ given. c.in_err-sixths.ensures.large (sum_fits (4 * 2 ^ 60) (2 ^ 60) c.in_ok-weighted.weighted c.args.scalars.now (omega arith) (subst (IsSquareSum (4 * 2 ^ 60)) (sym four) (times 4 (2 ^ 60) c.args.fermions.now given.0)) given.1))

pub returns-clause-value : goal.returns-clause-value
returns-clause-value c =
    let sixth : c.one_sixth.result ≡ reciprocal (whole (pos 6)) = c.one_sixth.ensures ∙ one-*ℚ (reciprocal (whole (pos 6))) in
    let four : c.in_ok-weighted.weighted ≡ whole (pos 4) *ℚ c.args.fermions.now = c.in_ok-weighted.ensures.value ∙ ap (λ k. k *ℚ c.args.fermions.now) c.whole_of.ensures in
    let sum : c.in_ok-sixths.sixths ≡ whole (pos 4) *ℚ c.args.fermions.now +ℚ c.args.scalars.now = c.in_ok-sixths.ensures.value ∙ ap (λ k. k +ℚ c.args.scalars.now) four in
    IfOk-weaker c.product_of-2.result _ _ (λ x is. is ∙ ap₂ ◌*ℚ◌ sum sixth) c.product_of-2.ensures.value

pub returns-clause-large : goal.returns-clause-large
returns-clause-large c =
    let sixth : c.one_sixth.result ≡ reciprocal (whole (pos 6)) = c.one_sixth.ensures ∙ one-*ℚ (reciprocal (whole (pos 6))) in
    let four : c.in_ok-weighted.weighted ≡ whole (pos 4) *ℚ c.args.fermions.now = c.in_ok-weighted.ensures.value ∙ ap (λ k. k *ℚ c.args.fermions.now) c.whole_of.ensures in
    let sum : c.in_ok-sixths.sixths ≡ whole (pos 4) *ℚ c.args.fermions.now +ℚ c.args.scalars.now = c.in_ok-sixths.ensures.value ∙ ap (λ k. k +ℚ c.args.scalars.now) four in
    on_err_weaker c.product_of-2.result (λ large given. large (subst IsSmall (sym (ap₂ ◌*ℚ◌ sum sixth))
    (sixth_small (4 * 2 ^ 60 + 2 ^ 60) _ (omega arith) (plus (4 * 2 ^ 60) (2 ^ 60) _ c.args.scalars.now (times 4 (2 ^ 60) c.args.fermions.now given.0) given.1)))) c.product_of-2.ensures.large
