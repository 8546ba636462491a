-- A contraction along links is the sum over all pairs of places.
use Rattle.std.specs.Prelude.{◌≡◌, ℕ, zero, suc, List, [], ◌∷◌}
use Rattle.std.specs.List.{All, AllByRecursion, insert}
use Rattle.std.specs.Ordering.{nat_cmp}
use Rattle.std.proofs.Common.{sym, ap, ◌∙◌, arith}
use mathlib.Core.Path.{fun_ext}
use Rattle.exact_algebra.specs.Sums.{sum, sum-mul_right, sum-same_on, below, below-sum, below-at, where_equal}
use Rattle.exact_algebra.specs.Kronecker.{where_mul, below-where}
use Rattle.beta_poly.specs.Polynomial.{Polynomial, poly_ring, mul_poly, scale_poly, constant}
use Rattle.sparse_tensor.specs.declared.links.Link.{Link}
use Rattle.sparse_tensor.specs.Operations.{Values, joined}
use Rattle.sparse_tensor.specs.Laws.{IsBetween, link_value}

each_between : (n m : ℕ) (links : List Link) → All (IsBetween n m) links → AllByRecursion (IsBetween n m) links
each_between n m [] h = tt
each_between n m (l ∷ links) h = (h zero l (omega arith), each_between n m links (λ i d k. h (suc i) d (omega arith)))

module _ (n m : ℕ) (links : List Link) (T : ℕ → ℕ → Polynomial) where
  -- what a link gives at a pair of places
  abbrev term : ℕ → ℕ → Link → Polynomial
  term x y l =
      where_equal poly_ring.semiring (nat_cmp x l.from) (where_equal poly_ring.semiring (nat_cmp y l.to) (scale_poly l.value (T x y)))

  pair : (x y : ℕ) → mul_poly (link_value links x y) (T x y) ≡ sum poly_ring.semiring links (term x y)
  unfolding link_value
  pair x y =
      sym (sum-mul_right poly_ring.semiring (T x y) links (λ l. where_equal poly_ring.semiring (nat_cmp x l.from) (where_equal poly_ring.semiring (nat_cmp y l.to) (constant l.value))))
      ∙ ap (sum poly_ring.semiring links) (fun_ext (λ l. where_mul poly_ring.semiring (nat_cmp x l.from) (where_equal poly_ring.semiring (nat_cmp y l.to) (constant l.value)) (T x y) ∙ ap (where_equal poly_ring.semiring (nat_cmp x l.from)) (where_mul poly_ring.semiring (nat_cmp y l.to) (constant l.value) (T x y))))

  -- of the pairs of places only that of the link counts
  only_pair : (l : Link) → IsBetween n m l → below poly_ring.semiring n (λ x. below poly_ring.semiring m (λ y. term x y l)) ≡ scale_poly l.value (T l.from l.to)
  only_pair l h =
      ap (below poly_ring.semiring n) (fun_ext (λ x. below-where poly_ring.semiring m (nat_cmp x l.from) (λ y. where_equal poly_ring.semiring (nat_cmp y l.to) (scale_poly l.value (T x y))) ∙ ap (where_equal poly_ring.semiring (nat_cmp x l.from)) (below-at poly_ring.semiring m l.to (λ y. scale_poly l.value (T x y)) h.1)))
      ∙ below-at poly_ring.semiring n l.from (λ x. scale_poly l.value (T x l.to)) h.0

  over_pairs : All (IsBetween n m) links → sum poly_ring.semiring links (λ l. scale_poly l.value (T l.from l.to)) ≡ below poly_ring.semiring n (λ x. below poly_ring.semiring m (λ y. mul_poly (link_value links x y) (T x y)))
  over_pairs inside =
      sym
      (ap (below poly_ring.semiring n) (fun_ext (λ x. ap (below poly_ring.semiring m) (fun_ext (pair x)) ∙ below-sum poly_ring.semiring m links (term x)))
      ∙ below-sum poly_ring.semiring n links (λ x l. below poly_ring.semiring m (λ y. term x y l))
      ∙ sum-same_on poly_ring.semiring (IsBetween n m) links (λ l. below poly_ring.semiring n (λ x. below poly_ring.semiring m (λ y. term x y l))) (λ l. scale_poly l.value (T l.from l.to)) (each_between n m links inside) only_pair)

pub joined-dense : (p q n m : ℕ) (links : List Link) (f g : Values) (ks ls : List ℕ) → All (IsBetween n m) links → joined p q links f g ks ls ≡ below poly_ring.semiring n (λ x. below poly_ring.semiring m (λ y. mul_poly (link_value links x y) (mul_poly (f (insert ks p x)) (g (insert ls q y)))))
unfolding joined
joined-dense p q n m links f g ks ls inside =
    over_pairs n m links (λ x y. mul_poly (f (insert ks p x)) (g (insert ls q y))) inside
