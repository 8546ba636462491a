use Rattle.std.proofs.Common.{◌≡◌, length}
use Rattle.std.specs.Vec.Iter.{into_iter_items, into_iter_len}
use Rattle.exact_algebra.specs.Sums.{sum}
use Rattle.beta_poly.specs.Polynomial.{polynomial, poly_ring, add_poly}
use Rattle.beta_poly.proofs.polynomial.collected.Given as goal

abbrev pub invariant-loop-polynomial : goal.invariant-loop-polynomial
invariant-loop-polynomial l = record {
  counted : into_iter_len l.rest ≡ length (into_iter_items l.rest);
  collected : add_poly (polynomial l.out.items) (sum poly_ring.semiring (into_iter_items l.rest) (λ q. q)) ≡ sum poly_ring.semiring l.fn.polynomials.items (λ q. q);
}

abbrev pub decreases-loop-polynomial : goal.decreases-loop-polynomial
decreases-loop-polynomial l = length (into_iter_items l.rest)
