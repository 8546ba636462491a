use Rattle.std.proofs.Common.{◌≡◌, ◌++◌, sym, ap, ◌∙◌, arith, refl, true≢false}
use Rattle.std.proofs.lemmas.Result.{err_from_is_err_and}
use Rattle.std.proofs.lemmas.Cmp.{tied_itself}
use Rattle.frac128.specs.Rational.{◌*ℚ◌}
use Rattle.frac128.specs.RationalLaws.{ring_ℚ}
use Rattle.frac128.specs.Frac.{IsSmall}
use Rattle.beta_poly.specs.Monomial.{monomial_keys}
use Rattle.beta_poly.specs.Polynomial.{zero_test, kept}
use Rattle.beta_poly.proofs.Steps.{at_place, scale_step, scale_end}
use Rattle.beta_poly.proofs.Views.{kept_is}
use Rattle.beta_poly.proofs.Refused.{checked_equal}
use Rattle.beta_poly.proofs.Refusing.{multiples_fit, first_refused_multiple}
use Rattle.beta_poly.proofs.terms.scale_terms.Goals as goal

pub returns-in_err-value-clause-refused : goal.returns-in_err-value-clause-refused
returns-in_err-value-clause-refused c =
    let da = at_place c.args.terms.now c.loop-term.term-index c.term-item.result (omega arith) c.term-item.is in
    let first = first_refused_multiple c.args.terms.now c.args.by c.loop-term.term-index c.term-item.result da c.requires c.loop-term.invariant.checked (λ f. true≢false (sym (c.in_err-value.ensures.fits.1 f))) in
    let given = err_from_is_err_and c.from_residual.result c.from_residual.ensures.1 in
    rw (given.1, given.2, c.in_err-value.ensures.operands) first

pub loop-term-preserved : goal.loop-term-preserved
loop-term-preserved c =
    let da = at_place c.args.terms.now c.loop-term.term-index c.term-item.result (omega arith) c.term-item.is in
    let pushed : c.push_kept.new.out.items ≡ c.loop-term.out.items ++ kept c.term-item.result.0 (c.term-item.result.1 *ℚ c.args.by) = c.in_ok-push_kept.ensures ∙ ap (λ s. c.loop-term.out.items ++ kept c.term-item.result.0 s) c.in_ok-value.ensures.value in
    record {
      multiplied = rw pushed (rw (kept_is c.term-item.result.0 (c.term-item.result.1 *ℚ c.args.by)) (scale_step monomial_keys ring_ℚ.semiring zero_test c.args.terms.now c.loop-term.out.items _ c.args.by c.loop-term.term-index c.term-item.result da c.loop-term.invariant.multiplied));
      checked = checked_equal monomial_keys ring_ℚ.semiring zero_test (λ x y. IsSmall (x *ℚ c.args.by)) c.args.terms.now c.args.terms.now c.loop-term.term-index c.loop-term.term-index c.term-item.result c.term-item.result da da c.requires c.requires (tied_itself monomial_keys.total c.term-item.result.0) (c.in_ok-value.ensures.fits.0 refl) c.loop-term.invariant.checked;
    }

pub returns-clause-value : goal.returns-clause-value
returns-clause-value c =
    scale_end monomial_keys ring_ℚ.semiring zero_test c.args.terms.now c.loop-term.out.items _ c.args.by c.loop-term.term-index (omega arith) c.loop-term.invariant.multiplied

pub returns-clause-fits : goal.returns-clause-fits
returns-clause-fits c =
    λ _. multiples_fit c.args.terms.now c.args.by c.loop-term.term-index c.requires (omega arith) c.loop-term.invariant.checked
