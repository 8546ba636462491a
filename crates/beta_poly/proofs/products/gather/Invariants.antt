use Rattle.std.proofs.Common.{◌≡◌, ◌++◌, length}
use Rattle.std.specs.Vec.Iter.{into_iter_items, into_iter_len}
use Rattle.frac128.specs.RationalLaws.{ring_ℚ}
use Rattle.beta_poly.specs.Monomial.{monomial_keys}
use Rattle.beta_poly.specs.Polynomial.{zero_test}
use Rattle.beta_poly.proofs.Gathered.{run, gathered}
use Rattle.beta_poly.proofs.products.gather.Given as goal

abbrev pub invariant-loop-next : goal.invariant-loop-next
invariant-loop-next l = record {
  counted : into_iter_len l.rest ≡ length (into_iter_items l.rest);
  collected : l.out.items ++ run monomial_keys ring_ℚ.semiring zero_test (l.mono, l.value) (into_iter_items l.rest) ≡ gathered monomial_keys ring_ℚ.semiring zero_test l.fn.terms.items;
}

abbrev pub decreases-loop-next : goal.decreases-loop-next
decreases-loop-next l = length (into_iter_items l.rest)
