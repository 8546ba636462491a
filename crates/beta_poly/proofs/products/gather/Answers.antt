use Rattle.std.specs.Vec.Iter.{into_iter_items, into_iter_len}
use Rattle.std.proofs.Common.{◌≡◌, ◌++◌, length, sym, subst, ap, ◌∙◌, rules}
use Rattle.frac128.specs.Rational.{ℚ}
use Rattle.frac128.specs.RationalLaws.{ring_ℚ}
use Rattle.beta_poly.specs.Monomial.{monomial_keys}
use Rattle.beta_poly.specs.Polynomial.{IsPolynomial, zero_test, polynomial}
use Rattle.beta_poly.proofs.Views.{kept_is}
use Rattle.beta_poly.proofs.Gathered.{gathered, of-gathered, canonical_gathered, rising}
use Rattle.beta_poly.proofs.Neighbours.{counted_none, counted_step, run_start, run_same, run_next, run_end}
use Rattle.beta_poly.proofs.products.gather.Goals as goal

pub loop-next-init : goal.loop-next-init
loop-next-init c =
    let whole : into_iter_len c.into_iter-rest.result ≡ length c.args.terms.items = search rules in
    record { counted = counted_step c.args.terms.items (into_iter_items c.next.new.self) c.in-Some.first (into_iter_len c.into_iter-rest.result) (into_iter_len c.next.new.self) whole (sym c.into_iter-rest.ensures.rest ∙ c.in-Some.ensures.items) c.in-Some.ensures.len; collected = run_start monomial_keys ring_ℚ.semiring zero_test c.args.terms.items (into_iter_items c.next.new.self) c.new-out.result.items c.in-Some.first (sym c.into_iter-rest.ensures.rest ∙ c.in-Some.ensures.items) c.new-out.ensures.items }

pub loop-next-preserved-in_ok-value-in-Equal : goal.loop-next-preserved-in_ok-value-in-Equal
loop-next-preserved-in_ok-value-in-Equal c =
    record { counted = counted_step (into_iter_items c.loop-next.rest) (into_iter_items c.next-in-loop-next.new.self) c.in-Some-next.next (into_iter_len c.loop-next.rest) (into_iter_len c.next-in-loop-next.new.self) c.loop-next.invariant.counted c.in-Some-next.ensures.items c.in-Some-next.ensures.len; collected = run_same monomial_keys ring_ℚ.semiring zero_test c.loop-next.out.items (into_iter_items c.loop-next.rest) (into_iter_items c.next-in-loop-next.new.self) _ (c.loop-next.mono, c.loop-next.value) c.in-Some-next.next c.in_ok-value-in-Equal.value c.in-Some-next.ensures.items (sym c.in-Equal.ensures) c.in_ok-value-in-Equal.ensures.value c.loop-next.invariant.collected }

pub loop-next-preserved-in_ok-value-in-Equal-2 : goal.loop-next-preserved-in_ok-value-in-Equal-2
loop-next-preserved-in_ok-value-in-Equal-2 c =
    record { counted = counted_step (into_iter_items c.loop-next.rest) (into_iter_items c.next-in-loop-next.new.self) c.in-Some-next.next (into_iter_len c.loop-next.rest) (into_iter_len c.next-in-loop-next.new.self) c.loop-next.invariant.counted c.in-Some-next.ensures.items c.in-Some-next.ensures.len; collected = run_same monomial_keys ring_ℚ.semiring zero_test c.loop-next.out.items (into_iter_items c.loop-next.rest) (into_iter_items c.next-in-loop-next.new.self) _ (c.loop-next.mono, c.loop-next.value) c.in-Some-next.next c.in_ok-value-in-Equal.value c.in-Some-next.ensures.items (sym c.in-Equal.ensures) c.in_ok-value-in-Equal.ensures.value c.loop-next.invariant.collected }

pub loop-next-preserved : goal.loop-next-preserved
loop-next-preserved c =
    record { counted = counted_step (into_iter_items c.loop-next.rest) (into_iter_items c.next-in-loop-next.new.self) c.in-Some-next.next (into_iter_len c.loop-next.rest) (into_iter_len c.next-in-loop-next.new.self) c.loop-next.invariant.counted c.in-Some-next.ensures.items c.in-Some-next.ensures.len; collected = run_next monomial_keys ring_ℚ.semiring zero_test c.loop-next.out.items c.push_term.new.out.items (into_iter_items c.loop-next.rest) (into_iter_items c.next-in-loop-next.new.self) _ (c.loop-next.mono, c.loop-next.value) c.in-Some-next.next c.in-Some-next.ensures.items (λ e. c.in_default-cmp.not-Equal (c.cmp.ensures ∙ e)) (c.in_ok-push_term-in_default-cmp.ensures ∙ ap (λ r. c.loop-next.out.items ++ r) (kept_is c.loop-next.mono c.loop-next.value)) c.loop-next.invariant.collected }

out_is : (c : goal.After-drop-rest-2) → c.push_term-2.new.out.items ≡ gathered monomial_keys ring_ℚ.semiring zero_test c.args.terms.items
out_is c =
    let zero : into_iter_len c.loop-next.rest ≡ 0 = search rules in
    let none = counted_none (into_iter_items c.loop-next.rest) (into_iter_len c.loop-next.rest) c.loop-next.invariant.counted zero in
    run_end monomial_keys ring_ℚ.semiring zero_test c.loop-next.out.items c.push_term-2.new.out.items (into_iter_items c.loop-next.rest) _ (c.loop-next.mono, c.loop-next.value) none (c.in_ok-push_term.ensures ∙ ap (λ r. c.loop-next.out.items ++ r) (kept_is c.loop-next.mono c.loop-next.value)) c.loop-next.invariant.collected

pub returns-clause-value : goal.returns-clause-value
unfolding polynomial
returns-clause-value c =
    ap polynomial (out_is c) ∙ of-gathered monomial_keys ring_ℚ.semiring zero_test c.args.terms.items

pub returns-clause-canonical : goal.returns-clause-canonical
returns-clause-canonical c =
    subst IsPolynomial (sym (out_is c)) (canonical_gathered monomial_keys ring_ℚ.semiring zero_test c.args.terms.items (rising monomial_keys ℚ c.args.terms.items c.requires))
