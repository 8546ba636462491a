use Rattle.std.proofs.Math.Facts.{Fits-below}
use Rattle.std.proofs.Common.{◌≡◌, ◌++◌, ap₂, ◌+◌, ◌≤◌, ◌⊎◌, inl, inr, length, sym, subst, ap, ◌∙◌, arith, get_or}
use Rattle.exact_algebra.specs.Naturals.{nat_semiring, nat_zero}
use Rattle.exact_algebra.specs.Formal.{coefficient}
use Rattle.beta_poly.specs.Symbol.{symbol_keys}
use Rattle.beta_poly.proofs.Steps.{at_number, step_less, step_greater, step_both, step_end, nonzero_at, coefficient_at, rest_is}
use Rattle.beta_poly.proofs.Views.{no_power, sum_nonzero, exponents_fit}
use Rattle.beta_poly.proofs.monomial.times_powers.Goals as goal
use Rattle.beta_poly.proofs.monomial.times_powers.Goals.{then-loop-i-test+else-j-b, else-loop-i-test}

pub loop-i-preserved-in-Less : goal.loop-i-preserved-in-Less
loop-i-preserved-in-Less c = record {
  in_a = omega arith;
  in_b = omega arith;
  merged = rw c.in_ok-push-in-Less.ensures.ok (step_less symbol_keys nat_semiring nat_zero c.args.a.now c.args.b.now c.loop-i.out.items _ c.loop-i.i c.loop-i.j _ _ (at_number c.args.a.now c.loop-i.i no_power (omega arith)) (at_number c.args.b.now c.loop-i.j no_power (omega arith)) c.loop-i.invariant.merged (sym c.in-Less.ensures));
}

pub loop-i-preserved-in-Greater : goal.loop-i-preserved-in-Greater
loop-i-preserved-in-Greater c = record {
  in_a = omega arith;
  in_b = omega arith;
  merged = rw c.in_ok-push-in-Greater.ensures.ok (step_greater symbol_keys nat_semiring nat_zero c.args.a.now c.args.b.now c.loop-i.out.items _ c.loop-i.i c.loop-i.j _ _ (at_number c.args.a.now c.loop-i.i no_power (omega arith)) (at_number c.args.b.now c.loop-i.j no_power (omega arith)) c.loop-i.invariant.merged (sym c.in-Greater.ensures));
}

pub overflow_add-exponent : goal.overflow_add-exponent
overflow_add-exponent c =
    let d = get_or c.args.a.now c.loop-i.i no_power in
    let e = get_or c.args.b.now c.loop-i.j no_power in
    let d_is : coefficient symbol_keys nat_semiring c.args.a.now d.0 ≡ d.1 = coefficient_at symbol_keys nat_semiring nat_zero c.args.a.now c.loop-i.i d (at_number c.args.a.now c.loop-i.i no_power (omega arith)) c.requires.a_monomial in
    let e_is : coefficient symbol_keys nat_semiring c.args.b.now d.0 ≡ e.1 = ap (coefficient symbol_keys nat_semiring c.args.b.now) (symbol_keys.equal d.0 e.0 (sym c.in-Equal.ensures)) ∙ coefficient_at symbol_keys nat_semiring nat_zero c.args.b.now c.loop-i.j e (at_number c.args.b.now c.loop-i.j no_power (omega arith)) c.requires.b_monomial in
    let small = exponents_fit c.args.a.now c.args.b.now d.0 c.requires.a_monomial c.requires.b_monomial c.requires.fits in
    Fits-below {n = 1000} tt (subst (λ n. n ≤ 1000) (ap₂ ◌+◌ d_is e_is) small)

pub loop-i-preserved : goal.loop-i-preserved
loop-i-preserved c =
    let there = at_number c.args.a.now c.loop-i.i no_power (omega arith) in
    record {
      in_a = omega arith;
      in_b = omega arith;
      merged = rw c.in_ok-push-in-Equal.ensures.ok (step_both symbol_keys nat_semiring nat_zero c.args.a.now c.args.b.now c.loop-i.out.items _ c.loop-i.i c.loop-i.j _ _ there (at_number c.args.b.now c.loop-i.j no_power (omega arith)) c.loop-i.invariant.merged (sym c.in-Equal.ensures) (sum_nonzero _ _ (nonzero_at symbol_keys nat_semiring nat_zero c.args.a.now c.loop-i.i _ there c.requires.a_monomial)));
    }

pub returns : goal.returns
returns c =
    let used : (length c.args.a.now ≤ c.loop-i.i) ⊎ (length c.args.b.now ≤ c.loop-i.j) = elim c.loop-i-test.branch [ then-loop-i-test+else-j-b w ↦ inr (omega arith) | else-loop-i-test w ↦ inl (omega arith) ] in
    c.in_ok-extend_from_slice-2.ensures.ok ∙ ap₂ (λ r s. r ++ s) (c.in_ok-extend_from_slice.ensures.ok ∙ ap (λ r. c.loop-i.out.items ++ r) (rest_is c.args.a.now c.loop-i.i)) (rest_is c.args.b.now c.loop-i.j) ∙ step_end symbol_keys nat_semiring nat_zero c.args.a.now c.args.b.now c.loop-i.out.items _ c.loop-i.i c.loop-i.j used c.loop-i.invariant.merged
