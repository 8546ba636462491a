use Rattle.std.proofs.Common.{◌≡◌, get_or, sym, ap, ◌∙◌, rules, Equal}
use Rattle.std.proofs.lemmas.Fn.{always_returns_same}
use Rattle.exact_algebra.specs.Formal.{coefficient}
use Rattle.frac128.specs.Rational.{ℚ, zero_ℚ}
use Rattle.frac128.specs.RationalLaws.{ring_ℚ}
use Rattle.beta_poly.specs.Monomial.{monomial_keys, monomial_cmp}
use Rattle.beta_poly.specs.Polynomial.{zero_test}
use Rattle.beta_poly.proofs.Steps.{at_number, coefficient_at}
use Rattle.beta_poly.proofs.Views.{coefficients_are}
use Rattle.beta_poly.proofs.Lookup.{none_equal, outcomes_rise, coefficient_absent}
use Rattle.beta_poly.proofs.terms.coefficient_in.Goals as goal

pub returns-in-Ok : goal.returns-in-Ok
returns-in-Ok c =
    let terms = c.args.terms.now in
    let mono = c.args.mono.now in
    let e = get_or terms c.in-Ok.place c.index-terms-place.result in
    let same : monomial_cmp e.0 mono ≡ Equal = c.in-Ok.ensures.position (λ t. monomial_cmp t.0 mono) (always_returns_same _ _ _ (λ a r g called. (search rules, search rules))) c.index-terms-place.result in
    sym (coefficient_at monomial_keys ring_ℚ.semiring zero_test terms c.in-Ok.place e (at_number terms c.in-Ok.place c.index-terms-place.result c.in-Ok.ensures.bound) c.requires)
    ∙ ap (coefficient monomial_keys ring_ℚ.semiring terms) (monomial_keys.equal e.0 mono same)
    ∙ sym (coefficients_are terms mono c.requires)

pub returns-in-Err : goal.returns-in-Err
returns-in-Err c =
    let terms = c.args.terms.now in
    let mono = c.args.mono.now in
    let point = c.in-Err.ensures.position (λ t. monomial_cmp t.0 mono) (always_returns_same _ _ _ (λ a r g called. (search rules, search rules))) (outcomes_rise monomial_keys ℚ mono terms c.requires.ascending) in
    c.zero.ensures
    ∙ sym (coefficient_absent monomial_keys ring_ℚ.semiring zero_test mono terms (mono, zero_ℚ) (none_equal (λ t. monomial_cmp t.0 mono) terms c.in-Err.field-0 point (mono, zero_ℚ)))
    ∙ sym (coefficients_are terms mono c.requires)
