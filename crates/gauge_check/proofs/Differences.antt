-- A tensor of numbers of scalars less its conjugate, and its first key.
use Rattle.std.specs.Prelude.{◌≡◌, ℕ, List, [], ◌∷◌, ◌++◌, map, Option, Some, None}
use Rattle.std.specs.List.{All, AllByRecursion}
use Rattle.std.proofs.Common.{refl, sym, ap, ap₂, subst, ◌∙◌}
use Rattle.std.proofs.lemmas.List.Elements.{All-append, All-from_recursion}
use mathlib.Core.Path.{fun_ext}
use Rattle.exact_algebra.specs.Sums.{sum, sum-map, sum-mul, where_equal}
use Rattle.exact_algebra.specs.Kronecker.{mul_where}
use Rattle.exact_algebra.specs.TensorContraction.{places_cmp}
use Rattle.exact_algebra.specs.Solver.{identity, var, ◌⊕◌, ◌⊗◌, opposite, single}
use Rattle.frac128.specs.Rational.{ℚ, zero_ℚ, one_ℚ, ◌*ℚ◌, neg_ℚ, ◌-ℚ◌}
use Rattle.frac128.specs.RationalLaws.{ring_ℚ}
use Rattle.beta_poly.specs.Polynomial.{poly_ring, add_poly, scale_poly, constant}
use Rattle.sparse_tensor.specs.declared.values.Value.{Value}
use Rattle.sparse_tensor.specs.Tensor.{Tensor, Entries, HasRank, HasValues, rank_of, entries_of, value}
use Rattle.sparse_tensor.specs.Operations.{entry, gathered_at}
use Rattle.sparse_tensor.proofs.Parts.{other_values, value_gathered_at}
use Rattle.model_core.specs.declared.model.Model.{Model}
use Rattle.model_core.specs.declared.term.TermKind.TheVariants.{Scalar}
use Rattle.model_core.specs.Scalar.{Coordinate, partner}
use Rattle.model_core.specs.TermTensor.{Numbers, legs_of, coordinates_at, value_or, at_places}
use Rattle.model_core.specs.Directions.{conjugated}
use Rattle.term_expand.specs.declared.directions.Direction.{Direction as Found}
use Rattle.term_expand.specs.Multiples.{HasNumbers}
use Rattle.term_expand.proofs.Projections.{constants}
use Rattle.term_expand.proofs.Sides.{gathered-append}
use Rattle.gauge_check.specs.Actions.{value_of, negated_value, negated_values, on_both}
use Rattle.gauge_check.specs.Steps.{IsWhole}
use Rattle.gauge_check.proofs.Gathers.{HasPlaces, own_values, own_value_keys}

-- ---- the entries of another tensor, each times -1

negated_keys : (rank : ℕ) (es : Entries) → HasRank rank es → AllByRecursion (HasPlaces rank) (map negated_value es)
negated_keys rank [] keys = tt
negated_keys rank (e ∷ es) keys = (keys.0, negated_keys rank es keys.1)

negated_sum : (es : Entries) (key : List ℕ) → gathered_at (map entry (map negated_value es)) key ≡ scale_poly (neg_ℚ one_ℚ) (gathered_at es key)
unfolding gathered_at
negated_sum es key =
    sum-map poly_ring.semiring entry (map negated_value es) (λ e. where_equal poly_ring.semiring (places_cmp key e.0) e.1)
    ∙ sum-map poly_ring.semiring negated_value es (λ v. where_equal poly_ring.semiring (places_cmp key v.key) v.value)
    ∙ ap (sum poly_ring.semiring es) (fun_ext (λ e. sym (mul_where poly_ring.semiring (places_cmp key e.0) (constant (neg_ℚ one_ℚ)) e.1)))
    ∙ sum-mul poly_ring.semiring (constant (neg_ℚ one_ℚ)) es (λ e. where_equal poly_ring.semiring (places_cmp key e.0) e.1)

-- ---- differences

minus : (a b : ℚ) → add_poly (constant a) (scale_poly (neg_ℚ one_ℚ) (constant b)) ≡ constant (a -ℚ b)
minus a b =
    ap (add_poly (constant a)) (sym (constants.at_mul (neg_ℚ one_ℚ) b)) ∙ sym (constants.at_add a (neg_ℚ one_ℚ *ℚ b))
    ∙ ap constant (identity ring_ℚ (a ∷ b ∷ []) (var 0 ⊕ opposite single ⊗ var 1) (var 0 ⊕ opposite (var 1)) refl)

less_at : (f : Numbers) (o : Option (List Coordinate)) → value_or zero_ℚ f o -ℚ value_or zero_ℚ (conjugated Scalar f) o ≡ value_or zero_ℚ (λ cs. f cs -ℚ f (map partner cs)) o
less_at f (Some cs) = refl
less_at f None = ring_ℚ.add_neg zero_ℚ

module _ (model : Model) (t other : Tensor) (vs : List Value) (is : vs ≡ map value_of (entries_of t) ++ negated_values other) (same_rank : rank_of other ≡ rank_of t) where
  pub difference_keys : All (HasPlaces (rank_of t)) vs
  difference_keys =
      subst (All (HasPlaces (rank_of t))) (sym is)
      (All-append (HasPlaces (rank_of t)) (map value_of (entries_of t)) (negated_values other) (own_value_keys t)
      (All-from_recursion (HasPlaces (rank_of t)) (negated_values other) (negated_keys (rank_of t) (entries_of other) (subst (λ n. HasRank n (entries_of other)) same_rank other.1.keys))))

  difference_sum : (key : List ℕ) → gathered_at (map entry vs) key ≡ add_poly (value t key) (scale_poly (neg_ℚ one_ℚ) (value other key))
  difference_sum key =
      ap (λ ws. gathered_at (map entry ws) key) is ∙ gathered-append (map value_of (entries_of t)) (negated_values other) key
      ∙ ap₂ add_poly (own_values t key) (negated_sum (entries_of other) key ∙ ap (scale_poly (neg_ℚ one_ℚ)) (sym (value_gathered_at (entries_of other) key)))

  -- the difference's numbers
  pub has_difference : (f : Numbers) (rank : ℕ) (found : Tensor) → HasNumbers model Scalar f t → HasNumbers model Scalar (conjugated Scalar f) other → rank ≡ rank_of t → HasValues rank (gathered_at (map entry vs)) found
      → HasNumbers model Scalar (λ cs. f cs -ℚ f (map partner cs)) found
  has_difference f rank found has conjugate ranked gathered =
      other_values rank 4 (gathered_at (map entry vs)) (λ key. constant (at_places zero_ℚ (legs_of model Scalar) (λ cs. f cs -ℚ f (map partner cs)) key)) found (ranked ∙ has.rank_is)
      (λ key l. difference_sum key ∙ ap₂ (λ p q. add_poly p (scale_poly (neg_ℚ one_ℚ) q)) (has.value_is key l) (conjugate.value_is key l)
      ∙ minus (at_places zero_ℚ (legs_of model Scalar) f key) (at_places zero_ℚ (legs_of model Scalar) (conjugated Scalar f) key)
      ∙ ap constant (less_at f (coordinates_at (legs_of model Scalar) key))) gathered

-- both sides of a direction as a tensor
pub has_whole : (model : Model) (f : Numbers) (direction : Found) (whole : Tensor) → IsWhole model f direction → HasValues 4 (on_both (value direction.tensor)) whole → HasNumbers model Scalar f whole
has_whole model f direction whole is has =
    other_values 4 4 (on_both (value direction.tensor)) (λ key. constant (at_places zero_ℚ (legs_of model Scalar) f key)) whole refl is.numbers has
