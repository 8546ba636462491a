-- Where a Yukawa tensor is 0 everywhere, its beta functions are 0 too.
use Rattle.std.specs.Prelude.{◌≡◌, ◌<◌, ℕ, suc, pos, List, [], ◌∷◌, map, length, get_or, slice_get, Option, Some, None, option_map}
use Rattle.std.specs.List.{AllByRecursion}
use Rattle.std.proofs.Common.{refl, sym, ap, ap₂, ◌∙◌, arith}
use Rattle.std.proofs.lemmas.Option.{slice_get-map, slice_get-get_or}
use Rattle.exact_algebra.specs.Blocks.{slice_get-append_left}
use Rattle.exact_algebra.specs.Formal.{coefficient-nil}
use Rattle.exact_algebra.specs.Ring.{zero_mul}
use Rattle.exact_algebra.specs.Sums.{sum, sum-zero, sum-same_on}
use Rattle.exact_algebra.specs.TensorContraction.{places_keys}
use Rattle.frac128.specs.Rational.{whole, one_ℚ, neg_ℚ}
use Rattle.beta_poly.specs.Polynomial.{Polynomial, poly_ring, zero_poly, add_poly, mul_poly, scale_poly, constant}
use Rattle.su_reps.specs.Operators.{fraction}
use Rattle.sparse_tensor.specs.Tensor.{Tensor, HasValues, poly_zero_test, entries_of, value_in}
use Rattle.sparse_tensor.proofs.Parts.{other_values}
use Rattle.model_core.specs.declared.model.Model.{Model}
use Rattle.model_core.specs.Component.{Component, fermion_components}
use Rattle.model_core.specs.Directions.{yukawa_tensor, yukawa_at}
use Rattle.model_core.specs.GaugeTwoLoop.{negative}
use Rattle.model_core.specs.Scalar.{Coordinate, partner, scalar_components, scalar_coordinates}
use Rattle.model_core.specs.Scalar.Coordinate.{Of, Dummy}
use Rattle.model_core.specs.TermTensor.{fermion_coordinates, with_coordinate, value_or}
use Rattle.term_expand.proofs.Legs.{of_three}
use Rattle.beta_formulas.specs.YukawaBeta.{Matrix, yukawa, conjugate, times, leg_line, leg_part, vertex_line, vertex_part, scalar_square, scalar_part, gauge_part, beta_matrix, yukawa_beta, yukawa_beta_at}

-- ---- sums of nothing

-- an item and where it stands
record HasPlace {A : Type 0} (xs : List A) (x : A) : Type 0 where
  place : ℕ
  there : slice_get xs place ≡ Some x

by_recursion : {A : Type 0} (P : A → Type 0) (xs : List A) → ((i : ℕ) (d : A) → i < length xs → P (get_or xs i d)) → AllByRecursion P xs
by_recursion P [] each = tt
by_recursion P (x ∷ xs) each = (each 0 x (omega arith), by_recursion P xs (λ i d h. each (suc i) d (omega arith)))

sum_none : {A : Type 0} (xs : List A) (f : A → Polynomial) → ((x : A) → HasPlace xs x → f x ≡ zero_poly) → sum poly_ring.semiring xs f ≡ zero_poly
sum_none xs f none =
    sum-same_on poly_ring.semiring (HasPlace xs) xs f (λ _. zero_poly)
    (by_recursion (HasPlace xs) xs (λ i d h. record { place = i; there = slice_get-get_or xs i d h })) none
    ∙ sum-zero poly_ring.semiring xs

module _ (model : Model) where
  -- a product whose first or last factor is 0
  times_first : (A B : Matrix) (j k : Component) → ((i : Component) → HasPlace (fermion_components model) i → A j i ≡ zero_poly) → times model A B j k ≡ zero_poly
  times_first A B j k none =
      sum_none (fermion_components model) (λ i. mul_poly (A j i) (B i k)) (λ i h. ap (λ p. mul_poly p (B i k)) (none i h) ∙ zero_mul poly_ring.semiring (B i k))

  times_last : (A B : Matrix) (j k : Component) → ((i : Component) → HasPlace (fermion_components model) i → B i k ≡ zero_poly) → times model A B j k ≡ zero_poly
  times_last A B j k none =
      sum_none (fermion_components model) (λ i. mul_poly (A j i) (B i k)) (λ i h. ap (mul_poly (A j i)) (none i h) ∙ poly_ring.semiring.mul_zero (A j i))

  module _ (t : Tensor) (has : HasValues 3 (yukawa_at model) t) (none : entries_of t ≡ []) where
    no_yukawa : (c : Coordinate) (j k : Component) → HasPlace (scalar_coordinates model) c → HasPlace (fermion_components model) j → HasPlace (fermion_components model) k → yukawa model c j k ≡ zero_poly
    no_yukawa c j k at_c at_j at_k =
        let F = fermion_components model in
        let key = at_j.place ∷ at_k.place ∷ at_c.place ∷ [] in
        let one : slice_get (fermion_coordinates model) at_j.place ≡ Some (Of j) = slice_get-map Of F at_j.place ∙ ap (option_map Of) at_j.there in
        let two : slice_get (fermion_coordinates model) at_k.place ≡ Some (Of k) = slice_get-map Of F at_k.place ∙ ap (option_map Of) at_k.there in
        let three = at_c.there in
        sym (has.value_is key refl
        ∙ ap (value_or zero_poly (yukawa_tensor model)) (λ x. with_coordinate (one x) (with_coordinate (two x) (with_coordinate (three x) (Some [])))))
        ∙ ap (λ es. value_in es key) none
        ∙ coefficient-nil places_keys poly_ring.semiring poly_zero_test key

    component_placed : (b : Component) → HasPlace (scalar_components model) b → HasPlace (scalar_coordinates model) (Of b)
    component_placed b at = record {
      place = at.place;
      there = slice_get-append_left (map Of (scalar_components model)) (Dummy ∷ []) at.place (Of b) (slice_get-map Of (scalar_components model) at.place ∙ ap (option_map Of) at.there);
    }

    -- ---- the parts

    module _ (a : Coordinate) (j k : Component) (at_a : HasPlace (scalar_coordinates model) a) (at_j : HasPlace (fermion_components model) j) (at_k : HasPlace (fermion_components model) k) where
      no_leg : leg_part model a j k ≡ zero_poly
      unfolding leg_part
      no_leg =
          let R = poly_ring.semiring in
          ap (scale_poly (fraction 1 2)) (sum_none (scalar_components model) (λ b. leg_line model a (Of b) j k) (λ b at_b.
          ap₂ add_poly
          (times_last (times model (yukawa model (Of b)) (conjugate model (partner (Of b)))) (yukawa model a) j k (λ i at_i. no_yukawa a i k at_a at_i at_k))
          (times_last (times model (yukawa model a) (conjugate model (partner (Of b)))) (yukawa model (Of b)) j k (λ i at_i. no_yukawa (Of b) i k (component_placed b at_b) at_i at_k))
          ∙ R.add_zero zero_poly))
          ∙ R.mul_zero (constant (fraction 1 2))

      no_vertex : vertex_part model a j k ≡ zero_poly
      unfolding vertex_part
      no_vertex =
          let R = poly_ring.semiring in
          ap (scale_poly (whole (pos 2))) (sum_none (scalar_components model) (λ b. vertex_line model a (Of b) j k) (λ b at_b.
          times_first (times model (yukawa model (Of b)) (conjugate model a)) (yukawa model (partner (Of b))) j k (λ i at_i.
          times_first (yukawa model (Of b)) (conjugate model a) j i (λ h at_h. no_yukawa (Of b) j h (component_placed b at_b) at_j at_h))))
          ∙ R.mul_zero (constant (whole (pos 2)))

      no_gauge : negative (gauge_part model a j k) ≡ zero_poly
      unfolding gauge_part
      no_gauge =
          let R = poly_ring.semiring in
          ap (λ y. negative (scale_poly (whole (pos 3)) y)) (ap (mul_poly _) (no_yukawa a j k at_a at_j at_k) ∙ R.mul_zero _)
          ∙ ap negative (R.mul_zero (constant (whole (pos 3))))
          ∙ R.mul_zero (constant (neg_ℚ one_ℚ))

    no_scalar : (a : Coordinate) (j k : Component) → HasPlace (fermion_components model) j → HasPlace (fermion_components model) k → scalar_part model a j k ≡ zero_poly
    unfolding scalar_part
    no_scalar (Of a) j k at_j at_k =
        sum_none (scalar_components model) (λ b. mul_poly (scalar_square model (Of a) (partner (Of b))) (yukawa model (Of b) j k)) (λ b at_b.
        ap (mul_poly (scalar_square model (Of a) (partner (Of b)))) (no_yukawa (Of b) j k (component_placed b at_b) at_j at_k)
        ∙ poly_ring.semiring.mul_zero (scalar_square model (Of a) (partner (Of b))))
    no_scalar Dummy j k at_j at_k = refl

    no_beta : (a : Coordinate) (j k : Component) → HasPlace (scalar_coordinates model) a → HasPlace (fermion_components model) j → HasPlace (fermion_components model) k → beta_matrix model a j k ≡ zero_poly
    no_beta a j k at_a at_j at_k =
        let zero_twice = poly_ring.semiring.add_zero zero_poly in
        ap₂ add_poly (ap₂ add_poly (ap₂ add_poly (no_leg a j k at_a at_j at_k) (no_vertex a j k at_a at_j at_k) ∙ zero_twice) (no_scalar a j k at_j at_k) ∙ zero_twice) (no_gauge a j k at_a at_j at_k)
        ∙ zero_twice

    -- ---- at keys

    at_coordinates : (j k a : ℕ) (o p : Option Component) (q : Option Coordinate) → slice_get (fermion_components model) j ≡ o → slice_get (fermion_components model) k ≡ p → slice_get (scalar_coordinates model) a ≡ q
        → zero_poly ≡ value_or zero_poly (yukawa_beta model) (with_coordinate (option_map Of o) (with_coordinate (option_map Of p) (with_coordinate q (Some []))))
    unfolding yukawa_beta
    at_coordinates j k a None p q first second third = refl
    at_coordinates j k a (Some x) None q first second third = refl
    at_coordinates j k a (Some x) (Some y) None first second third = refl
    at_coordinates j k a (Some x) (Some y) (Some c) first second third =
        sym (no_beta c x y (record { place = a; there = third }) (record { place = j; there = first }) (record { place = k; there = second }))

    pub beta_none : (j k a : ℕ) → zero_poly ≡ yukawa_beta_at model (j ∷ k ∷ a ∷ [])
    beta_none j k a =
        let F = fermion_components model in
        at_coordinates j k a (slice_get F j) (slice_get F k) (slice_get (scalar_coordinates model) a) refl refl refl
        ∙ ap₂ (λ o p. value_or zero_poly (yukawa_beta model) (with_coordinate o (with_coordinate p (with_coordinate (slice_get (scalar_coordinates model) a) (Some []))))) (sym (slice_get-map Of F j)) (sym (slice_get-map Of F k))

    pub has_no_betas : (s : Tensor) → HasValues 3 (λ key. zero_poly) s → HasValues 3 (yukawa_beta_at model) s
    has_no_betas s =
        other_values 3 3 (λ key. zero_poly) (yukawa_beta_at model) s refl
        (λ key l. of_three (λ ks. zero_poly ≡ yukawa_beta_at model ks) beta_none key l)
