-- Products and traces of matrices as sums over places.
use Rattle.std.specs.Prelude.{◌≡◌, ◌+◌, ◌-◌, ℕ, suc, List, [], ◌∷◌, length, get_or, slice_get, Option, Some, None}
use Rattle.std.specs.List.{range_with_len, insert}
use Rattle.std.proofs.Common.{refl, sym, ap, ap₂, ◌∙◌, arith}
use Rattle.std.proofs.lemmas.Option.{slice_get-get_or}
use mathlib.Core.Path.{fun_ext}
use Rattle.exact_algebra.specs.Ranges.{sum-range}
use Rattle.exact_algebra.specs.Ring.{zero_mul}
use Rattle.exact_algebra.specs.Sums.{sum-map, sum-by_place, below, below-zero, below-suc, below-same, below-none}
use Rattle.frac128.specs.Rational.{one_ℚ}
use Rattle.beta_poly.specs.Polynomial.{Polynomial, poly_ring, zero_poly, add_poly, mul_poly, scale_poly}
use Rattle.beta_poly.proofs.Multiples.{scale_one}
use Rattle.sparse_tensor.specs.declared.links.Link.{Link}
use Rattle.sparse_tensor.specs.Tensor.{Tensor, HasValues, rank_of, value}
use Rattle.sparse_tensor.specs.Operations.{Values, joined, contracted_at}
use Rattle.model_core.specs.declared.model.Model.{Model}
use Rattle.model_core.specs.Component.{Component, fermion_components}
use Rattle.beta_formulas.specs.YukawaBeta.{Matrix, times, trace}
use Rattle.yukawa_one_loop.specs.Matrices.{matrix_at, IsMatrix, identity_links}
use Rattle.yukawa_one_loop.proofs.Pairs.{of_two, nobody, pair_at, no_row, no_column, matrix_pair}

-- ---- links from each place to itself

from_zero : (i : ℕ) → 0 + i ≡ i
from_zero i = omega arith

abbrev link_at : ℕ → Link
link_at i = record { from = i; to = i; value = one_ℚ }

identity_joined : (n : ℕ) (f g : Values) (j k : ℕ) → contracted_at 1 1 0 (identity_links n) f g (j ∷ k ∷ []) ≡ below poly_ring.semiring n (λ i. mul_poly (f (j ∷ i ∷ [])) (g (i ∷ k ∷ [])))
unfolding joined
identity_joined n f g j k =
    let R = poly_ring.semiring in
    let at = λ (i : ℕ). scale_poly one_ℚ (mul_poly (f (j ∷ i ∷ [])) (g (i ∷ k ∷ []))) in
    sum-map R link_at (range_with_len 0 n) (λ l. scale_poly l.value (mul_poly (f (insert (j ∷ []) 1 l.from)) (g (insert (k ∷ []) 0 l.to))))
    ∙ sum-range R 0 n at
    ∙ ap (below R n) (fun_ext (λ i. ap at (from_zero i) ∙ scale_one (mul_poly (f (j ∷ i ∷ [])) (g (i ∷ k ∷ [])))))

-- ---- products

module _ (model : Model) (a b : Matrix) where
  product_at : (j k : Option Component)
      → below poly_ring.semiring (length (fermion_components model)) (λ i. mul_poly (pair_at a j (slice_get (fermion_components model) i)) (pair_at b (slice_get (fermion_components model) i) k)) ≡ pair_at (times model a b) j k
  product_at None k =
      let R = poly_ring.semiring in
      let cs = fermion_components model in
      below-none R (length cs) _ (λ i _. ap (λ p. mul_poly p (pair_at b (slice_get cs i) k)) (no_row a (slice_get cs i)) ∙ zero_mul R (pair_at b (slice_get cs i) k))
      ∙ sym (no_row (times model a b) k)
  product_at (Some j) None =
      let R = poly_ring.semiring in
      let cs = fermion_components model in
      below-none R (length cs) _ (λ i _. ap (mul_poly (pair_at a (Some j) (slice_get cs i))) (no_column b (slice_get cs i)) ∙ R.mul_zero (pair_at a (Some j) (slice_get cs i)))
  product_at (Some j) (Some k) =
      let R = poly_ring.semiring in
      let cs = fermion_components model in
      below-same R (length cs) _ (λ i. mul_poly (a j (get_or cs i nobody)) (b (get_or cs i nobody) k)) (λ i h. ap (λ o. mul_poly (pair_at a (Some j) o) (pair_at b o (Some k))) (slice_get-get_or cs i nobody h))
      ∙ sym (sum-by_place R nobody cs (λ c. mul_poly (a j c) (b c k)))

-- a contraction along these links is the product
pub product_is : (model : Model) (a b : Matrix) (s t u : Tensor) (links : List Link) → links ≡ identity_links (length (fermion_components model)) → IsMatrix model a s → IsMatrix model b t
    → HasValues (rank_of s + rank_of t - 2) (contracted_at (rank_of s - 1) 1 0 links (value s) (value t)) u → IsMatrix model (times model a b) u
product_is model a b s t u links is first second has =
    let R = poly_ring.semiring in
    let cs = fermion_components model in
    let one = first.rank_is in
    let two = second.rank_is in
    let rank : rank_of s + rank_of t - 2 ≡ 2 = omega (arith, one, two) in
    record {
      rank_is = has.rank_is ∙ rank;
      value_is =
          of_two (λ key. value u key ≡ matrix_at model (times model a b) key) (λ j k.
          has.value_is (j ∷ k ∷ []) (sym rank)
          ∙ ap₂ (λ n ls. contracted_at (n - 1) 1 0 ls (value s) (value t) (j ∷ k ∷ [])) one is
          ∙ identity_joined (length cs) (value s) (value t) j k
          ∙ ap (below R (length cs)) (fun_ext (λ i. ap₂ mul_poly (first.value_is (j ∷ i ∷ []) refl ∙ matrix_pair model a j i) (second.value_is (i ∷ k ∷ []) refl ∙ matrix_pair model b i k)))
          ∙ product_at model a b (slice_get cs j) (slice_get cs k)
          ∙ sym (matrix_pair model (times model a b) j k));
    }

-- ---- traces

-- the sum of the values on the diagonal at the first places
abbrev pub diagonal_sum : Tensor → ℕ → Polynomial
diagonal_sum t n = below poly_ring.semiring n (λ i. value t (i ∷ i ∷ []))

pub diagonal_none : (t : Tensor) → zero_poly ≡ diagonal_sum t 0
diagonal_none t = sym (below-zero poly_ring.semiring (λ i. value t (i ∷ i ∷ [])))

pub diagonal_more : (t : Tensor) (i : ℕ) → diagonal_sum t (i + 1) ≡ add_poly (diagonal_sum t i) (value t (i ∷ i ∷ []))
diagonal_more t i =
    let next : i + 1 ≡ suc i = omega arith in
    ap (diagonal_sum t) next ∙ below-suc poly_ring.semiring i (λ i. value t (i ∷ i ∷ []))

pub diagonal_trace : (model : Model) (a : Matrix) (t : Tensor) (count : ℕ) → count ≡ length (fermion_components model) → IsMatrix model a t → diagonal_sum t count ≡ trace model a
diagonal_trace model a t count is has =
    let R = poly_ring.semiring in
    let cs = fermion_components model in
    ap (diagonal_sum t) is
    ∙ below-same R (length cs) _ (λ i. a (get_or cs i nobody) (get_or cs i nobody)) (λ i h. has.value_is (i ∷ i ∷ []) refl ∙ matrix_pair model a i i ∙ ap (λ o. pair_at a o o) (slice_get-get_or cs i nobody h))
    ∙ sym (sum-by_place R nobody cs (λ c. a c c))
