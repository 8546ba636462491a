use Rattle.std.proofs.Common.{◌≡◌, ◌≤◌, ◌⊎◌, ◌++◌, inl, inr, length, sym, ap, ap₂, ◌∙◌, arith, refl, true≢false}
use Rattle.std.proofs.lemmas.Result.{err_from_is_err_and}
use Rattle.frac128.specs.RationalLaws.{ring_ℚ}
use Rattle.frac128.specs.Frac.{SumFits}
use Rattle.beta_poly.specs.Monomial.{monomial_keys}
use Rattle.beta_poly.specs.Polynomial.{zero_test, kept}
use Rattle.beta_poly.proofs.Steps.{at_place, step_less, step_greater, step_sum, step_end, rest_is}
use Rattle.beta_poly.proofs.Views.{kept_is}
use Rattle.beta_poly.proofs.Refused.{checked_less, checked_greater, checked_equal}
use Rattle.beta_poly.proofs.Refusing.{sums_fit, first_refused_sum}
use Rattle.beta_poly.proofs.terms.add_terms.Goals as goal
use Rattle.beta_poly.proofs.terms.add_terms.Goals.{then-loop-i-test+else-j-b, else-loop-i-test}

pub loop-i-preserved-in-Less : goal.loop-i-preserved-in-Less
loop-i-preserved-in-Less c =
    let da = at_place c.args.a.now c.loop-i.i c.index-a-i.result (omega arith) c.index-a-i.is in
    let db = at_place c.args.b.now c.loop-i.j c.index-b-j.result (omega arith) c.index-b-j.is in
    record {
      in_a = omega arith;
      in_b = omega arith;
      merged = rw c.in_ok-push_copy-in-Less.ensures (step_less monomial_keys ring_ℚ.semiring zero_test c.args.a.now c.args.b.now c.loop-i.out.items _ c.loop-i.i c.loop-i.j c.index-a-i.result c.index-b-j.result da db c.loop-i.invariant.merged (sym c.in-Less.ensures));
      checked = checked_less monomial_keys ring_ℚ.semiring zero_test SumFits c.args.a.now c.args.b.now c.loop-i.i c.loop-i.j c.index-a-i.result c.index-b-j.result da db c.requires.a_polynomial c.requires.b_polynomial (sym c.in-Less.ensures) c.loop-i.invariant.checked;
    }

pub loop-i-preserved-in-Greater : goal.loop-i-preserved-in-Greater
loop-i-preserved-in-Greater c =
    let da = at_place c.args.a.now c.loop-i.i c.index-a-i.result (omega arith) c.index-a-i.is in
    let db = at_place c.args.b.now c.loop-i.j c.index-b-j.result (omega arith) c.index-b-j.is in
    record {
      in_a = omega arith;
      in_b = omega arith;
      merged = rw c.in_ok-push_copy-in-Greater.ensures (step_greater monomial_keys ring_ℚ.semiring zero_test c.args.a.now c.args.b.now c.loop-i.out.items _ c.loop-i.i c.loop-i.j c.index-a-i.result c.index-b-j.result da db c.loop-i.invariant.merged (sym c.in-Greater.ensures));
      checked = checked_greater monomial_keys ring_ℚ.semiring zero_test SumFits c.args.a.now c.args.b.now c.loop-i.i c.loop-i.j c.index-a-i.result c.index-b-j.result da db c.requires.a_polynomial c.requires.b_polynomial (sym c.in-Greater.ensures) c.loop-i.invariant.checked;
    }

pub returns-in_err-sum-in-Equal-clause-refused : goal.returns-in_err-sum-in-Equal-clause-refused
returns-in_err-sum-in-Equal-clause-refused c =
    let da = at_place c.args.a.now c.loop-i.i c.index-a-i.result (omega arith) c.index-a-i.is in
    let db = at_place c.args.b.now c.loop-i.j c.index-b-j.result (omega arith) c.index-b-j.is in
    let first = first_refused_sum c.args.a.now c.args.b.now c.loop-i.i c.loop-i.j c.index-a-i.result c.index-b-j.result da db c.requires.a_polynomial c.requires.b_polynomial (sym c.in-Equal.ensures) c.loop-i.invariant.checked (λ f. true≢false (sym (c.in_err-sum-in-Equal.ensures.fits.1 f))) in
    let given = err_from_is_err_and c.from_residual-in_err-sum-in-Equal.result c.from_residual-in_err-sum-in-Equal.ensures.1 in
    rw (given.1, given.2, c.in_err-sum-in-Equal.ensures.operands) first

pub loop-i-preserved : goal.loop-i-preserved
loop-i-preserved c =
    let da = at_place c.args.a.now c.loop-i.i c.index-a-i.result (omega arith) c.index-a-i.is in
    let db = at_place c.args.b.now c.loop-i.j c.index-b-j.result (omega arith) c.index-b-j.is in
    let pushed : c.push_kept.new.out.items ≡ c.loop-i.out.items ++ kept c.index-a-i.result.0 (ring_ℚ.semiring.add c.index-a-i.result.1 c.index-b-j.result.1) = c.in_ok-push_kept-in-Equal.ensures ∙ ap (λ s. c.loop-i.out.items ++ kept c.index-a-i.result.0 s) c.in_ok-sum-in-Equal.ensures.value in
    record {
      in_a = omega arith;
      in_b = omega arith;
      merged = rw pushed (rw (kept_is c.index-a-i.result.0 (ring_ℚ.semiring.add c.index-a-i.result.1 c.index-b-j.result.1)) (step_sum monomial_keys ring_ℚ.semiring zero_test c.args.a.now c.args.b.now c.loop-i.out.items _ c.loop-i.i c.loop-i.j c.index-a-i.result c.index-b-j.result da db c.loop-i.invariant.merged (sym c.in-Equal.ensures)));
      checked = checked_equal monomial_keys ring_ℚ.semiring zero_test SumFits c.args.a.now c.args.b.now c.loop-i.i c.loop-i.j c.index-a-i.result c.index-b-j.result da db c.requires.a_polynomial c.requires.b_polynomial (sym c.in-Equal.ensures) (c.in_ok-sum-in-Equal.ensures.fits.0 refl) c.loop-i.invariant.checked;
    }

pub returns-clause-value : goal.returns-clause-value
returns-clause-value c =
    let used : (length c.args.a.now ≤ c.loop-i.i) ⊎ (length c.args.b.now ≤ c.loop-i.j) = elim c.loop-i-test.branch [ then-loop-i-test+else-j-b w ↦ inr (omega arith) | else-loop-i-test w ↦ inl (omega arith) ] in
    c.in_ok-push_copies-2.ensures ∙ ap₂ (λ r s. r ++ s) (c.in_ok-push_copies.ensures ∙ ap (λ r. c.loop-i.out.items ++ r) (rest_is c.args.a.now c.loop-i.i)) (rest_is c.args.b.now c.loop-i.j) ∙ step_end monomial_keys ring_ℚ.semiring zero_test c.args.a.now c.args.b.now c.loop-i.out.items _ c.loop-i.i c.loop-i.j used c.loop-i.invariant.merged

pub returns-clause-fits : goal.returns-clause-fits
returns-clause-fits c =
    let used : (length c.args.a.now ≤ c.loop-i.i) ⊎ (length c.args.b.now ≤ c.loop-i.j) = elim c.loop-i-test.branch [ then-loop-i-test+else-j-b w ↦ inr (omega arith) | else-loop-i-test w ↦ inl (omega arith) ] in
    λ _. sums_fit c.args.a.now c.args.b.now c.loop-i.i c.loop-i.j c.requires.a_polynomial c.requires.b_polynomial used c.loop-i.invariant.checked
