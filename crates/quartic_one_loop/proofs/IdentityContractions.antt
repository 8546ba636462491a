-- Contractions along the links from each fermion component to itself.
use Rattle.std.specs.Prelude.{◌≡◌, ◌+◌, ℕ, List, length, get_or, slice_get, Option, Some, None}
use Rattle.std.specs.List.{insert, range_with_len}
use Rattle.std.proofs.Common.{sym, subst, ap, ◌∙◌, arith}
use Rattle.std.proofs.lemmas.Option.{slice_get-get_or}
use mathlib.Core.Path.{fun_ext}
use Rattle.exact_algebra.specs.Ranges.{sum-range}
use Rattle.exact_algebra.specs.Ring.{zero_mul}
use Rattle.exact_algebra.specs.Sums.{sum-map, sum-by_place, below, below-same, below-none}
use Rattle.frac128.specs.Rational.{one_ℚ}
use Rattle.beta_poly.specs.Exponents.{AllWithin}
use Rattle.beta_poly.specs.Polynomial.{poly_ring, mul_poly, scale_poly}
use Rattle.beta_poly.proofs.Multiples.{scale_one}
use Rattle.beta_poly.proofs.ExponentLaws.{AllWithin-mul, AllWithin-scale}
use Rattle.sparse_tensor.specs.declared.links.Link.{Link}
use Rattle.sparse_tensor.specs.Tensor.{Tensor, HasValues, value}
use Rattle.sparse_tensor.specs.Operations.{Values, joined, contracted_at}
use Rattle.model_core.specs.declared.model.Model.{Model}
use Rattle.model_core.specs.Component.{Component, fermion_components}
use Rattle.gauge_two_loop.proofs.YukawaValues.{AllWithin-sum}
use Rattle.beta_formulas.specs.YukawaBeta.{Matrix, times}
use Rattle.yukawa_one_loop.specs.Matrices.{identity_links}
use Rattle.yukawa_one_loop.proofs.Bounds.{value_within, within_values}
use Rattle.yukawa_one_loop.proofs.Pairs.{nobody, pair_at, no_row, no_column}
use Rattle.quartic_one_loop.specs.FourLegs.{AreWithin}

-- ---- sums over places

from_zero : (i : ℕ) → 0 + i ≡ i
from_zero i = omega arith

abbrev link_at : ℕ → Link
link_at i = record { from = i; to = i; value = one_ℚ }

-- the contraction is the sum over the places of the components
pub joined_identity : (p q n : ℕ) (f g : Values) (ks ls : List ℕ) → joined p q (identity_links n) f g ks ls ≡ below poly_ring.semiring n (λ i. mul_poly (f (insert ks p i)) (g (insert ls q i)))
unfolding joined
joined_identity p q n f g ks ls =
    let R = poly_ring.semiring in
    let at = λ (i : ℕ). scale_poly one_ℚ (mul_poly (f (insert ks p i)) (g (insert ls q i))) in
    sum-map R link_at (range_with_len 0 n) (λ l. scale_poly l.value (mul_poly (f (insert ks p l.from)) (g (insert ls q l.to))))
    ∙ sum-range R 0 n at
    ∙ ap (below R n) (fun_ext (λ i. ap at (from_zero i) ∙ scale_one (mul_poly (f (insert ks p i)) (g (insert ls q i)))))

-- at components, the sum over the places is a product of matrices
pub product_at : (model : Model) (a b : Matrix) (j k : Option Component)
    → below poly_ring.semiring (length (fermion_components model)) (λ i. mul_poly (pair_at a j (slice_get (fermion_components model) i)) (pair_at b (slice_get (fermion_components model) i) k)) ≡ pair_at (times model a b) j k
product_at model a b None k =
    let R = poly_ring.semiring in
    let cs = fermion_components model in
    below-none R (length cs) _ (λ i _. ap (λ p. mul_poly p (pair_at b (slice_get cs i) k)) (no_row a (slice_get cs i)) ∙ zero_mul R (pair_at b (slice_get cs i) k))
    ∙ sym (no_row (times model a b) k)
product_at model a b (Some j) None =
    let R = poly_ring.semiring in
    let cs = fermion_components model in
    below-none R (length cs) _ (λ i _. ap (mul_poly (pair_at a (Some j) (slice_get cs i))) (no_column b (slice_get cs i)) ∙ R.mul_zero (pair_at a (Some j) (slice_get cs i)))
product_at model a b (Some j) (Some k) =
    let R = poly_ring.semiring in
    let cs = fermion_components model in
    below-same R (length cs) _ (λ i. mul_poly (a j (get_or cs i nobody)) (b (get_or cs i nobody) k)) (λ i h. ap (λ o. mul_poly (pair_at a (Some j) o) (pair_at b o (Some k))) (slice_get-get_or cs i nobody h))
    ∙ sym (sum-by_place R nobody cs (λ c. mul_poly (a j c) (b c k)))

-- ---- exponents

-- the exponents of a contraction along any links are at most those of both tensors together
pub contraction_within : (a b m p q rank : ℕ) (s t u : Tensor) (links : List Link) → AreWithin a s → AreWithin b t → HasValues rank (contracted_at m p q links (value s) (value t)) u → AreWithin (a + b) u
unfolding joined
contraction_within a b m p q rank s t u links first second has =
    within_values (a + b) u (λ key l.
    subst (AllWithin (a + b)) (sym (has.value_is key (l ∙ has.rank_is)))
    (AllWithin-sum (a + b) links _ (λ k. AllWithin-scale (a + b) k.value _ (AllWithin-mul a b _ _ (value_within a s first _) (value_within b t second _)))))
