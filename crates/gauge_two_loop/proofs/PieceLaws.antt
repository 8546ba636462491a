-- The beta function of a gauge coupling as the sum of its parts.
use Rattle.std.proofs.Common.{◌≡◌, ℕ, ◌+◌, ◌<◌, ◌≤◌, List, [], ◌∷◌, ◌++◌, map, take, length, get_or, Some, refl, sym, ap, ap₂, ◌∙◌, arith, add-one}
use Rattle.std.specs.Prelude.{slice_get}
use Rattle.std.specs.List.{enumerate_from}
use Rattle.std.proofs.Math.Seq.{take-suc}
use Rattle.std.proofs.lemmas.List.{map-append, take_all}
use Rattle.std.proofs.lemmas.List.FromFn.{length-enumerate_from, get_or-enumerate_from}
use Rattle.std.proofs.lemmas.Option.{slice_get_within, get_or_from_slice_get}
use mathlib.Core.Path.{fun_ext}
use Rattle.exact_algebra.specs.Maps.{const-one, const-mul}
use Rattle.exact_algebra.specs.Solver.{identity}
use Rattle.exact_algebra.specs.Solver.Term.{var, single, ◌⊕◌, ◌⊗◌, opposite}
use Rattle.exact_algebra.specs.Sums.{sum, sum-append, sum-one, sum-mul}
use Rattle.frac128.specs.Rational.{ℚ, one_ℚ, neg_ℚ, reciprocal}
use Rattle.frac128.specs.RationalLaws.{ring_ℚ}
use Rattle.beta_poly.specs.Monomial.{monomials, power}
use Rattle.beta_poly.specs.Polynomial.{Polynomial, poly_ring, zero_test, add_poly, mul_poly, scale_poly, constant}
use Rattle.model_core.specs.declared.group.Group.{Group}
use Rattle.model_core.specs.declared.model.Model.{Model}
use Rattle.model_core.specs.GaugeBeta.{generator_count}
use Rattle.model_core.specs.GaugeTwoLoop.{gauge_symbol, gauge_power, over_groups, own_number, mixed_number, yukawa_trace, gauge_two_loop}
use Rattle.gauge_two_loop.specs.Pieces.{gauge_piece, mixed_pieces, gauge_part, minus_cube, yukawa_part}
use Rattle.gauge_two_loop.proofs.Terms.{scaled_term, product_term}

-- ---- groups with their places

module _ (groups : List Group) (place : ℕ) (group : Group) (there : slice_get groups place ≡ Some group) where
  group_within : place < length groups
  group_within = slice_get_within groups place group there

  pub taken : take (place + 1) (enumerate_from 0 groups) ≡ take place (enumerate_from 0 groups) ++ (place, group) ∷ []
  taken =
      let all = enumerate_from 0 groups in
      let count : 0 + place ≡ place = omega arith in
      let is : get_or all place (place, group) ≡ (place, group) =
      get_or-enumerate_from 0 groups place (place, group) group_within ∙ ap₂ (λ n g. (n, g)) count (get_or_from_slice_get groups place group group there) in
      ap (λ n. take n all) (add-one place)
      ∙ take-suc all place (place, group) (omega (arith, group_within, length-enumerate_from 0 groups))
      ∙ ap (λ y. take place all ++ y ∷ []) is

-- the terms of one group more
pub mixed_pieces-more : (model : Model) (k : ℕ × Group) (l : ℕ) (second : Group) → slice_get model.groups l ≡ Some second
    → mixed_pieces model k (take (l + 1) (enumerate_from 0 model.groups)) ≡ add_poly (mixed_pieces model k (take l (enumerate_from 0 model.groups))) (gauge_piece k.0 l (mixed_number model k (l, second)))
mixed_pieces-more model k l second there =
    let one = λ (g : ℕ × Group). gauge_piece k.0 g.0 (mixed_number model k g) in
    let before = take l (enumerate_from 0 model.groups) in
    ap (mixed_pieces model k) (taken model.groups l second there)
    ∙ sum-append poly_ring.semiring before ((l, second) ∷ []) one
    ∙ ap (add_poly (mixed_pieces model k before)) (sum-one poly_ring.semiring (l, second) one)

-- ---- the sum of the parts

minus_is : (x : ℚ) → constant (neg_ℚ x) ≡ mul_poly (constant (neg_ℚ one_ℚ)) (constant x)
minus_is x =
    ap constant (identity ring_ℚ (x ∷ []) (opposite (var 0)) (opposite single ⊗ var 0) refl) ∙ const-mul monomials ring_ℚ.semiring zero_test (neg_ℚ one_ℚ) x

minus_twice : mul_poly (constant (neg_ℚ one_ℚ)) (constant (neg_ℚ one_ℚ)) ≡ poly_ring.semiring.one
minus_twice =
    sym (const-mul monomials ring_ℚ.semiring zero_test (neg_ℚ one_ℚ) (neg_ℚ one_ℚ)) ∙ ap constant (identity ring_ℚ [] (opposite single ⊗ opposite single) single refl) ∙ const-one monomials ring_ℚ.semiring zero_test

module _ (model : Model) (k : ℕ × Group) where
  -- the terms of all groups share the factor g_k^3
  mixed_pieces-factor : mixed_pieces model k (enumerate_from 0 model.groups) ≡ mul_poly (gauge_power k.0 3) (over_groups model (mixed_number model k))
  mixed_pieces-factor =
      let all = enumerate_from 0 model.groups in
      let one = λ (l : ℕ × Group). scale_poly (mixed_number model k l) (gauge_power l.0 2) in
      ap (sum poly_ring.semiring all) (fun_ext (λ l.
      product_term (mixed_number model k l) (power (gauge_symbol k.0) 3) (power (gauge_symbol l.0) 2)
      ∙ identity poly_ring (constant (mixed_number model k l) ∷ gauge_power k.0 3 ∷ gauge_power l.0 2 ∷ []) (var 0 ⊗ (var 1 ⊗ var 2)) (var 1 ⊗ (var 0 ⊗ var 2)) refl))
      ∙ sum-mul poly_ring.semiring (gauge_power k.0 3) all one

  pub sum_of_parts : add_poly (gauge_part model k) (yukawa_part k (yukawa_trace model k)) ≡ gauge_two_loop model k
  unfolding gauge_two_loop
  sum_of_parts =
      let own = constant (own_number model k) in
      let share = constant (reciprocal (generator_count k.1)) in
      let minus = constant (neg_ℚ one_ℚ) in
      let g = gauge_power k.0 3 in
      let h = gauge_power k.0 2 in
      let mixed = over_groups model (mixed_number model k) in
      let trace = yukawa_trace model k in
      let first : gauge_piece k.0 k.0 (neg_ℚ (own_number model k)) ≡ mul_poly (mul_poly minus own) (mul_poly g h) =
      product_term (neg_ℚ (own_number model k)) (power (gauge_symbol k.0) 3) (power (gauge_symbol k.0) 2) ∙ ap (λ c. mul_poly c (mul_poly g h)) (minus_is (own_number model k)) in
      let last : minus_cube k ≡ mul_poly (mul_poly minus share) g =
      scaled_term (neg_ℚ (reciprocal (generator_count k.1))) (power (gauge_symbol k.0) 3) ∙ ap (λ c. mul_poly c g) (minus_is (reciprocal (generator_count k.1))) in
      let values = minus ∷ own ∷ share ∷ g ∷ h ∷ mixed ∷ trace ∷ [] in
      ap₂ add_poly (ap₂ add_poly first mixed_pieces-factor) (ap (λ p. mul_poly p trace) last)
      ∙ identity poly_ring values
      (((var 0 ⊗ var 1) ⊗ (var 3 ⊗ var 4) ⊕ var 3 ⊗ var 5) ⊕ ((var 0 ⊗ var 2) ⊗ var 3) ⊗ var 6)
      (((var 0 ⊗ var 1) ⊗ (var 3 ⊗ var 4) ⊕ single ⊗ (var 3 ⊗ var 5)) ⊕ ((var 0 ⊗ var 2) ⊗ var 3) ⊗ var 6) refl
      ∙ ap (λ c. add_poly (add_poly (mul_poly (mul_poly minus own) (mul_poly g h)) (mul_poly c (mul_poly g mixed))) (mul_poly (mul_poly (mul_poly minus share) g) trace)) (sym minus_twice)
      ∙ identity poly_ring values
      (((var 0 ⊗ var 1) ⊗ (var 3 ⊗ var 4) ⊕ (var 0 ⊗ var 0) ⊗ (var 3 ⊗ var 5)) ⊕ ((var 0 ⊗ var 2) ⊗ var 3) ⊗ var 6)
      (var 0 ⊗ (var 3 ⊗ ((var 1 ⊗ var 4 ⊕ var 0 ⊗ var 5) ⊕ var 2 ⊗ var 6))) refl

-- the beta function of one group more
pub betas-more : (model : Model) (place : ℕ) (group : Group) (found new : List Polynomial) (beta : Polynomial) → slice_get model.groups place ≡ Some group
    → found ≡ map (gauge_two_loop model) (take place (enumerate_from 0 model.groups)) → beta ≡ gauge_two_loop model (place, group) → new ≡ found ++ beta ∷ []
    → new ≡ map (gauge_two_loop model) (take (place + 1) (enumerate_from 0 model.groups))
betas-more model place group found new beta there so_far is further =
    let before = take place (enumerate_from 0 model.groups) in
    further
    ∙ ap₂ (λ ps p. ps ++ p ∷ []) so_far is
    ∙ sym (map-append (gauge_two_loop model) before ((place, group) ∷ []))
    ∙ ap (map (gauge_two_loop model)) (sym (taken model.groups place group there))

-- those of all groups
pub betas-end : (model : Model) (place : ℕ) (found : List Polynomial) → length model.groups ≤ place → found ≡ map (gauge_two_loop model) (take place (enumerate_from 0 model.groups)) → found ≡ map (gauge_two_loop model) (enumerate_from 0 model.groups)
betas-end model place found past so_far =
    so_far ∙ ap (map (gauge_two_loop model)) (take_all place (enumerate_from 0 model.groups) (omega (arith, length-enumerate_from 0 model.groups, past)))
