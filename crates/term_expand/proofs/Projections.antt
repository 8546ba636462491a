-- Projections and symmetrisations of tensors of numbers.
use Rattle.std.specs.Prelude.{◌≡◌, ℕ, zero, suc, List, [], ◌∷◌, length, get_or, set}
use Rattle.std.specs.List.{All, AllByRecursion}
use Rattle.std.specs.Ordering.{nat_cmp}
use Rattle.std.proofs.Common.{sym, ap, ap₂, ◌∙◌, arith}
use mathlib.Core.Path.{fun_ext}
use Rattle.exact_algebra.specs.Ring.{IsSemiringMap}
use Rattle.exact_algebra.specs.Sums.{sum, sum-mul_right, sum-same_on, below, below-sum, below-at, where_equal, nat_equal, at_below, at_sum}
use Rattle.exact_algebra.specs.Kronecker.{where_mul, where_same}
use Rattle.exact_algebra.specs.Orders.{orders, sum_orders}
use Rattle.exact_algebra.specs.Maps.{const-IsSemiringMap}
use Rattle.frac128.specs.Rational.{ℚ, ◌*ℚ◌}
use Rattle.frac128.specs.RationalLaws.{ring_ℚ}
use Rattle.beta_poly.specs.Monomial.{monomials}
use Rattle.beta_poly.specs.Polynomial.{Polynomial, poly_ring, zero_test, mul_poly, scale_poly, constant}
use Rattle.sparse_tensor.specs.declared.links.Link.{Link}
use Rattle.sparse_tensor.specs.Tensor.{Tensor, HasValues, value, rank_of}
use Rattle.sparse_tensor.specs.Operations.{Values, projected_at, symmetrised_at, places_at, put_back}
use Rattle.sparse_tensor.specs.Laws.{IsBetween, link_value}
use Rattle.sparse_tensor.proofs.Deltas.{place_same}
use Rattle.std.proofs.lemmas.List.{length-set}
use Rattle.sparse_tensor.proofs.Parts.{other_values}
use Rattle.sparse_tensor.proofs.PutBack.{length_put_back}
use Rattle.model_core.specs.declared.group.Group.{Group}
use Rattle.model_core.specs.Scalar.{Coordinate}
use Rattle.term_expand.specs.Projectors.{AreProjectors, place_projector}

-- numbers as polynomials respect sums and products
pub constants : IsSemiringMap ring_ℚ.semiring poly_ring.semiring constant
constants = const-IsSemiringMap monomials ring_ℚ.semiring zero_test

each_between : (n m : ℕ) (links : List Link) → All (IsBetween n m) links → AllByRecursion (IsBetween n m) links
each_between n m [] h = tt
each_between n m (l ∷ links) h = (h zero l (omega arith), each_between n m links (λ i d k. h (suc i) d (omega arith)))

other_way : (x y : ℕ) (c : Polynomial) → where_equal poly_ring.semiring (nat_cmp x y) c ≡ where_equal poly_ring.semiring (nat_cmp y x) c
other_way x y c =
    where_same poly_ring.semiring (nat_cmp x y) (nat_cmp y x) c (λ h. place_same y x (sym (nat_equal x y h))) (λ h. place_same x y (sym (nat_equal y x h)))

module _ (n m : ℕ) (links : List Link) (T : ℕ → Polynomial) (y : ℕ) where
  -- what a link gives at a place
  abbrev term : ℕ → Link → Polynomial
  term x l = where_equal poly_ring.semiring (nat_cmp x l.from) (where_equal poly_ring.semiring (nat_cmp y l.to) (scale_poly l.value (T x)))

  at_place : (x : ℕ) → mul_poly (link_value links x y) (T x) ≡ sum poly_ring.semiring links (term x)
  unfolding link_value
  at_place x =
      sym (sum-mul_right poly_ring.semiring (T x) links (λ l. where_equal poly_ring.semiring (nat_cmp x l.from) (where_equal poly_ring.semiring (nat_cmp y l.to) (constant l.value))))
      ∙ ap (sum poly_ring.semiring links) (fun_ext (λ l. where_mul poly_ring.semiring (nat_cmp x l.from) (where_equal poly_ring.semiring (nat_cmp y l.to) (constant l.value)) (T x) ∙ ap (where_equal poly_ring.semiring (nat_cmp x l.from)) (where_mul poly_ring.semiring (nat_cmp y l.to) (constant l.value) (T x))))

  only_place : (l : Link) → IsBetween n m l → below poly_ring.semiring n (λ x. term x l) ≡ where_equal poly_ring.semiring (nat_cmp l.to y) (scale_poly l.value (T l.from))
  only_place l h =
      below-at poly_ring.semiring n l.from (λ x. where_equal poly_ring.semiring (nat_cmp y l.to) (scale_poly l.value (T x))) h.0
      ∙ other_way y l.to (scale_poly l.value (T l.from))

  over_places : All (IsBetween n m) links → sum poly_ring.semiring links (λ l. where_equal poly_ring.semiring (nat_cmp l.to y) (scale_poly l.value (T l.from))) ≡ below poly_ring.semiring n (λ x. mul_poly (link_value links x y) (T x))
  over_places inside =
      sym
      (ap (below poly_ring.semiring n) (fun_ext at_place) ∙ below-sum poly_ring.semiring n links term
      ∙ sum-same_on poly_ring.semiring (IsBetween n m) links (λ l. below poly_ring.semiring n (λ x. term x l)) (λ l. where_equal poly_ring.semiring (nat_cmp l.to y) (scale_poly l.value (T l.from))) (each_between n m links inside) only_place)

-- a projection along links is the sum over all places that they come from
pub projected_at-dense : (p n m : ℕ) (links : List Link) (f : Values) (key : List ℕ) → All (IsBetween n m) links → projected_at p links f key ≡ below poly_ring.semiring n (λ x. mul_poly (link_value links x (get_or key p 0)) (f (set key p x)))
unfolding projected_at
projected_at-dense p n m links f key inside = over_places n m links (λ x. f (set key p x)) (get_or key p 0) inside

-- numbers at places, projected on a leg
abbrev pub projected_leg : List Group → List Coordinate → ℕ → (List ℕ → ℚ) → List ℕ → ℚ
projected_leg groups leg p g key =
    below ring_ℚ.semiring (length leg) (λ x. place_projector groups leg x (get_or key p 0) *ℚ g (set key p x))

-- a projection of a function that is known at keys of so many places
pub projected_numbers : (groups : List Group) (leg : List Coordinate) (links : List Link) (p n : ℕ) (f : Values) (g : List ℕ → ℚ) → AreProjectors groups leg links → ((key : List ℕ) → length key ≡ n → f key ≡ constant (g key)) → (key : List ℕ) → length key ≡ n → projected_at p links f key ≡ constant (projected_leg groups leg p g key)
projected_numbers groups leg links p n f g h same key l =
    projected_at-dense p (length leg) (length leg) links f key h.between
    ∙ ap (below poly_ring.semiring (length leg)) (fun_ext (λ x. ap₂ mul_poly (h.value x (get_or key p 0)) (same (set key p x) (length-set key p x ∙ l)) ∙ sym (constants.at_mul (place_projector groups leg x (get_or key p 0)) (g (set key p x)))))
    ∙ sym (at_below ring_ℚ.semiring poly_ring.semiring constant constants (length leg) (λ x. place_projector groups leg x (get_or key p 0) *ℚ g (set key p x)))

-- numbers at places, symmetrised over legs
abbrev pub symmetrised_numbers : List ℕ → (List ℕ → ℚ) → List ℕ → ℚ
symmetrised_numbers legs g key = sum_orders ring_ℚ.semiring (places_at legs key) (λ ps. g (put_back key legs ps))

-- a symmetrisation of a function that is known at keys of so many places
pub symmetrised_at_numbers : (legs : List ℕ) (n : ℕ) (f : Values) (g : List ℕ → ℚ) → ((key : List ℕ) → length key ≡ n → f key ≡ constant (g key)) → (key : List ℕ) → length key ≡ n → symmetrised_at legs f key ≡ constant (symmetrised_numbers legs g key)
unfolding symmetrised_at
symmetrised_at_numbers legs n f g same key l =
    ap (sum poly_ring.semiring (orders (places_at legs key))) (fun_ext (λ ps. same (put_back key legs ps) (length_put_back key legs ps ∙ l)))
    ∙ sym (at_sum ring_ℚ.semiring poly_ring.semiring constant constants (orders (places_at legs key)) (λ ps. g (put_back key legs ps)))

-- a projection sees the values at keys of as many places alone
pub projected_at-same : (p n : ℕ) (links : List Link) (f g : Values) → ((key : List ℕ) → length key ≡ n → f key ≡ g key) → (key : List ℕ) → length key ≡ n → projected_at p links f key ≡ projected_at p links g key
unfolding projected_at
projected_at-same p n links f g same key l =
    ap (sum poly_ring.semiring links) (fun_ext (λ link. ap (λ v. where_equal poly_ring.semiring (nat_cmp link.to (get_or key p 0)) (scale_poly link.value v)) (same (set key p link.from) (length-set key p link.from ∙ l))))

-- a projection of a tensor with the values of f
pub projected_tensor : (p n : ℕ) (links : List Link) (f : Values) (s t : Tensor) → HasValues n f s → HasValues (rank_of s) (projected_at p links (value s)) t → HasValues n (projected_at p links f) t
projected_tensor p n links f s t hs ht =
    other_values (rank_of s) n (projected_at p links (value s)) (projected_at p links f) t hs.rank_is (projected_at-same p n links (value s) f hs.value_is) ht
