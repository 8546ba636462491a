-- The laws of tensors, and of contractions, projections and symmetrisations of functions of keys.
use Rattle.std.specs.Prelude.{◌≡◌, ◌≢◌, ◌<◌, ◌≤◌, ℕ, zero, suc, List, length, IsPermutation}
use Rattle.std.specs.List.{All, AllPairs, insert}
use Rattle.std.specs.Ordering.{nat_cmp}
use Rattle.exact_algebra.specs.Sums.{sum, below, where_equal}
use Rattle.beta_poly.specs.Polynomial.{Polynomial, poly_ring, add_poly, mul_poly, zero_poly, constant}
use Rattle.sparse_tensor.specs.declared.links.Link.{Link}
use Rattle.sparse_tensor.specs.Tensor.{Tensor, HasValues, rank_of, value}
use Rattle.sparse_tensor.specs.Operations.{Values, joined, projected_at, symmetrised_at, places_at, put_back}

-- the sum of two functions, key by key
abbrev pub added : Values → Values → Values
added f g key = add_poly (f key) (g key)

-- a polynomial times a function, key by key
abbrev pub scaled : Polynomial → Values → Values
scaled c f key = mul_poly c (f key)

-- leg r of the others, as a leg of a tensor that has leg p besides
unfoldable pub beside : ℕ → ℕ → ℕ
beside zero r = suc r
beside (suc p) zero = zero
beside (suc p) (suc r) = suc (beside p r)

-- the link comes from one of n places, 0 to n - 1, and goes to one of m
abbrev pub IsBetween : ℕ → ℕ → Link → Type 0
IsBetween n m l = (l.from < n) × (l.to < m)

-- links as a matrix: the value at row x and column y is the sum of those of the links from x to y, 0 where there is none
unfoldable pub link_value : List Link → ℕ → ℕ → Polynomial
link_value links x y =
    sum poly_ring.semiring links (λ l. where_equal poly_ring.semiring (nat_cmp x l.from) (where_equal poly_ring.semiring (nat_cmp y l.to) (constant l.value)))

-- a tensor is known by its rank and its values at the keys of so many places; its value at other keys is 0
pub record TensorLaws : Type 0 where
  pub same : (s t : Tensor) → rank_of s ≡ rank_of t → ((key : List ℕ) → length key ≡ rank_of t → value s key ≡ value t key) → s ≡ t
  pub only_one : (rank : ℕ) (F : Values) (s t : Tensor) → HasValues rank F s → HasValues rank F t → s ≡ t
  pub elsewhere : (t : Tensor) (key : List ℕ) → length key ≢ rank_of t → value t key ≡ zero_poly

-- contractions of functions: linear in each of the two, free to come before or after projections on other legs, and the
-- same as sums over all pairs of places
pub record ContractionLaws : Type 0 where
  -- a sum in place of the first gives the sum of the contractions
  pub add_first : (p q : ℕ) (links : List Link) (f g h : Values) (ks ls : List ℕ) → joined p q links (added f g) h ks ls ≡ add_poly (joined p q links f h ks ls) (joined p q links g h ks ls)
  -- a sum in place of the second does too
  pub add_second : (p q : ℕ) (links : List Link) (f g h : Values) (ks ls : List ℕ) → joined p q links f (added g h) ks ls ≡ add_poly (joined p q links f g ks ls) (joined p q links f h ks ls)
  -- a polynomial may be taken out of the first
  pub scale_first : (p q : ℕ) (links : List Link) (c : Polynomial) (f g : Values) (ks ls : List ℕ) → joined p q links (scaled c f) g ks ls ≡ mul_poly c (joined p q links f g ks ls)
  -- a polynomial may be taken out of the second
  pub scale_second : (p q : ℕ) (links : List Link) (c : Polynomial) (f g : Values) (ks ls : List ℕ) → joined p q links f (scaled c g) ks ls ≡ mul_poly c (joined p q links f g ks ls)
  -- a projection on another leg of the first may come before the contraction or after it
  pub project_first : (p q r : ℕ) (links along : List Link) (f g : Values) (ks ls : List ℕ) → p ≤ length ks → r < length ks → joined p q links (projected_at (beside p r) along f) g ks ls ≡ projected_at r along (λ js. joined p q links f g js ls) ks
  -- a projection on another leg of the second may come before the contraction or after it
  pub project_second : (p q r : ℕ) (links along : List Link) (f g : Values) (ks ls : List ℕ) → q ≤ length ls → r < length ls → joined p q links f (projected_at (beside q r) along g) ks ls ≡ projected_at r along (λ js. joined p q links f g ks js) ls
  -- a contraction along links is the sum over all places x of the first and y of the second, with the matrix of the links
  pub dense : (p q n m : ℕ) (links : List Link) (f g : Values) (ks ls : List ℕ) → All (IsBetween n m) links → joined p q links f g ks ls ≡ below poly_ring.semiring n (λ x. below poly_ring.semiring m (λ y. mul_poly (link_value links x y) (mul_poly (f (insert ks p x)) (g (insert ls q y)))))

-- projections are linear
pub record ProjectionLaws : Type 0 where
  -- a sum is projected to the sum of the projections
  pub add : (leg : ℕ) (links : List Link) (f g : Values) (key : List ℕ) → projected_at leg links (added f g) key ≡ add_poly (projected_at leg links f key) (projected_at leg links g key)
  -- a polynomial may be taken out of a projection
  pub scale : (leg : ℕ) (links : List Link) (c : Polynomial) (f : Values) (key : List ℕ) → projected_at leg links (scaled c f) key ≡ mul_poly c (projected_at leg links f key)

-- symmetrisations are linear, and what they give is symmetric
pub record SymmetryLaws : Type 0 where
  -- a symmetrised function does not change where the places at the legs are permuted
  pub permuted : (legs : List ℕ) (f : Values) (key ps : List ℕ) → All (λ leg. leg < length key) legs → AllPairs (λ i j. i ≢ j) legs → IsPermutation (places_at legs key) ps → symmetrised_at legs f (put_back key legs ps) ≡ symmetrised_at legs f key
  -- a sum is symmetrised to the sum of the symmetrised functions
  pub add : (legs : List ℕ) (f g : Values) (key : List ℕ) → symmetrised_at legs (added f g) key ≡ add_poly (symmetrised_at legs f key) (symmetrised_at legs g key)
  -- a polynomial may be taken out of a symmetrisation
  pub scale : (legs : List ℕ) (c : Polynomial) (f : Values) (key : List ℕ) → symmetrised_at legs (scaled c f) key ≡ mul_poly c (symmetrised_at legs f key)
