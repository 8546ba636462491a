use Rattle.std.proofs.Common.{ℕ, subst, ap, sym, ◌∙◌}
use Rattle.std.specs.Prelude.{map, IsPermutation}
use Rattle.exact_algebra.specs.Naturals.{nat_semiring, nat_zero}
use Rattle.beta_poly.specs.Symbol.{symbol_keys, conj_symbol, conj_symbol-conj_symbol}
use Rattle.beta_poly.specs.Monomial.{IsMonomial, monomial, conj_monomial}
use Rattle.exact_algebra.specs.Maps.{of-permuted}
use Rattle.beta_poly.proofs.Gathered.{rising}
use Rattle.beta_poly.proofs.Distinct.{canonical_renamed}
use Rattle.beta_poly.proofs.Views.{powers_are}
use Rattle.beta_poly.proofs.monomial.Mono.conjugate.Goals as goal

pub invariant_of-result : goal.invariant_of-result
invariant_of-result c =
    let ok : IsMonomial c.as_slice.result.now = subst IsMonomial (sym c.as_slice.ensures) c.self.invariant in
    let moved = subst (λ l. IsPermutation l c.sort_powers.new.powers.items) c.in_ok-powers.ensures c.in_ok-sort_powers.ensures.permutation in
    canonical_renamed symbol_keys nat_semiring nat_zero conj_symbol conj_symbol-conj_symbol c.as_slice.result.now c.sort_powers.new.powers.items ok moved (rising symbol_keys ℕ c.sort_powers.new.powers.items c.in_ok-sort_powers.ensures.sorted)

pub returns : goal.returns
unfolding monomial conj_monomial
returns c =
    let same = c.as_slice.ensures ∙ powers_are c.self.inside.powers.items c.args.self.now c.self.invariant c.self.view_is in
    of-permuted symbol_keys nat_semiring nat_zero c.in_ok-powers.powers.items c.sort_powers.new.powers.items c.in_ok-sort_powers.ensures.permutation ∙ ap monomial (c.in_ok-powers.ensures ∙ ap (map (λ p. (conj_symbol p.0, p.1))) same)
