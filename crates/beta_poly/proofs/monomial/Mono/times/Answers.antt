use Rattle.std.proofs.Common.{◌≡◌, subst, ap, ap₂, sym, ◌∙◌}
use Rattle.exact_algebra.specs.Naturals.{nat_semiring, nat_zero}
use Rattle.exact_algebra.specs.Merge.{IsCanonical-merge}
use Rattle.beta_poly.specs.Symbol.{symbol_keys}
use Rattle.beta_poly.specs.Monomial.{IsMonomial, monomial, times_monomial}
use Rattle.beta_poly.proofs.Steps.{of-merge}
use Rattle.beta_poly.proofs.monomial.Mono.times.Goals as goal

pub invariant_of-result : goal.invariant_of-result
invariant_of-result c =
    let a_ok : IsMonomial c.as_slice.result.now = subst IsMonomial (sym c.as_slice.ensures) c.self.invariant in
    let b_ok : IsMonomial c.as_slice-2.result.now = subst IsMonomial (sym c.as_slice-2.ensures) c.other.invariant in
    rw c.in_ok-powers.ensures (IsCanonical-merge symbol_keys nat_semiring nat_zero c.as_slice.result.now c.as_slice-2.result.now a_ok b_ok)

pub returns : goal.returns
unfolding monomial
returns c =
    let a_is : monomial c.as_slice.result.now ≡ c.args.self.now = ap monomial c.as_slice.ensures ∙ c.self.view_is in
    let b_is : monomial c.as_slice-2.result.now ≡ c.args.other.now = ap monomial c.as_slice-2.ensures ∙ c.other.view_is in
    ap monomial c.in_ok-powers.ensures ∙ of-merge symbol_keys nat_semiring nat_zero c.as_slice.result.now c.as_slice-2.result.now ∙ ap₂ times_monomial a_is b_is
