-- The sum over all pairs of generators is the sum over pairs of groups and the generators of each.
use Rattle.std.specs.Prelude.{◌≡◌, ◌≤◌, ◌+◌, ℕ, suc, Bool, true, false, cond, List, [], ◌∷◌, map, slice_get, Some}
use Rattle.std.specs.List.{enumerate_from, range_with_len}
use Rattle.std.proofs.Common.{refl, sym, ap, ap₂, subst, ◌∙◌, arith, inl, inr}
use mathlib.Core.Path.{fun_ext}
use Rattle.exact_algebra.specs.Ring.{Semiring}
use Rattle.exact_algebra.specs.Solver.{identity, var, ◌⊗◌}
use Rattle.exact_algebra.specs.Sums.{sum, sum-nil, sum-cons, sum-flat_map, sum-map, sum-mul, sum-swap, at_sum}
use Rattle.frac128.specs.Rational.{ℚ, ◌*ℚ◌}
use Rattle.frac128.specs.RationalLaws.{ring_ℚ}
use Rattle.beta_poly.specs.Polynomial.{Polynomial, poly_ring, mul_poly, scale_poly, constant}
use Rattle.su_reps.specs.Operators.{fraction}
use Rattle.model_core.specs.declared.generator.Generator.{Generator}
use Rattle.model_core.specs.declared.group.Group.{Group}
use Rattle.model_core.specs.declared.model.Model.{Model}
use Rattle.model_core.specs.GaugeTwoLoop.{gauge_power}
use Rattle.model_core.specs.Generators.{charge_generator, generators, generators_of, special_generators}
use Rattle.model_core.specs.Groups.{is_abelian}
use Rattle.model_core.specs.Scalar.{Coordinate}
use Rattle.model_core.specs.Valid.{IsValid}
use Rattle.term_expand.proofs.Projections.{constants}
use Rattle.neighbour_laws.proofs.Members.{IsIn, in-flat_map, in-map, in-range}
use Rattle.gauge_check.proofs.ActionRuns.{group_special}
use Rattle.beta_formulas.specs.ScalarBeta.{gauge_pair, generator_weight, opposite, pair_entry}
use Rattle.quartic_one_loop.specs.declared.gauges.GaugeFactor.{GaugeFactor}
use Rattle.quartic_one_loop.specs.GaugePairs.{AreGaugeFactors, IsOfGroup, coupling_at, coupling_or_zero, factor_share, group_coupling, pair_share, share_factor}
use Rattle.quartic_one_loop.specs.OrderShares.{gauge_share}

-- ---- generators of groups

-- an element with its place, where places count from a number
in_enumerated : (groups : List Group) (start : ℕ) (k : ℕ × Group) → IsIn k (enumerate_from start groups) → (i : ℕ) × (start + i ≡ k.0) × (slice_get groups i ≡ Some k.1)
in_enumerated [] start k there = absurd there
in_enumerated (group ∷ groups) start k (inl e) = (0, omega (arith, ap (λ p. p.0) e), sym (ap (λ p. Some p.1) e))
in_enumerated (group ∷ groups) start k (inr more) =
    let rest = in_enumerated groups (start + 1) k more in
    (suc rest.0, omega (arith, rest.1), rest.2)

pub group_there : (model : Model) (k : ℕ × Group) → IsIn k (enumerate_from 0 model.groups) → slice_get model.groups k.0 ≡ Some k.1
group_there model k there =
    let at = in_enumerated model.groups 0 k there in
    let same : at.0 ≡ k.0 = omega (arith, at.1) in
    ap (slice_get model.groups) (sym same) ∙ at.2

-- what is asked of a generator of a group
record IsIts (model : Model) (k : ℕ × Group) (x : Generator) : Type 0 where
  place_is : x.place ≡ k.0
  of_group : IsOfGroup model x

its_same : (model : Model) (k : ℕ × Group) (x y : Generator) → x ≡ y → IsIts model k y → IsIts model k x
its_same model k x y e is = subst (IsIts model k) (sym e) is

-- the charge is its own opposite
charge_is : (model : Model) (k : ℕ × Group) → slice_get model.groups k.0 ≡ Some k.1 → IsIts model k (charge_generator k.0)
charge_is model k there = record {
  place_is = refl;
  of_group = record {
    group = k.1;
    there = there;
    special = λ e. let never : ⊥ = cc in absurd never;
    opposite_special = λ e. let never : ⊥ = cc in absurd never;
  };
}

special_is : (model : Model) (k : ℕ × Group) → slice_get model.groups k.0 ≡ Some k.1 → 2 ≤ k.1.n → (i j : ℕ) → IsIn i (range_with_len 1 k.1.n) → IsIn j (range_with_len 1 k.1.n) → IsIts model k (record { place = k.0; i = i; j = j })
special_is model k there large i j row column =
    let first = in-range i 1 k.1.n row in
    let second = in-range j 1 k.1.n column in
    let high : i ≤ k.1.n = omega (arith, first.1) in
    let wide : j ≤ k.1.n = omega (arith, second.1) in
    record {
      place_is = refl;
      of_group = record {
        group = k.1;
        there = there;
        special = λ _. record { group = k.1; at = there; special = large; indices = ((first.0, high), ((second.0, wide), tt)) };
        opposite_special = λ _. record { group = k.1; at = there; special = large; indices = ((second.0, wide), ((first.0, high), tt)) };
      };
    }

module _ (model : Model) (valid : IsValid model) where
  group_generator : (k : ℕ × Group) (x : Generator) → slice_get model.groups k.0 ≡ Some k.1 → IsIn x (generators_of k) → IsIts model k x
  group_generator k x there is = by_test (is_abelian k.1) refl is
    where
      by_test : (b : Bool) → is_abelian k.1 ≡ b → IsIn x (cond b (charge_generator k.0 ∷ []) (special_generators k.0 k.1.n)) → IsIts model k x
      by_test true e (inl same) = its_same model k x (charge_generator k.0) same (charge_is model k there)
      by_test true e (inr more) = absurd more
      by_test false e is =
          let n = k.1.n in
          let row = in-flat_map (λ i. map (λ j. record { place = k.0; i = i; j = j }) (range_with_len 1 n)) x (range_with_len 1 n) is in
          let column = in-map (λ j. record { place = k.0; i = row.0; j = j }) x (range_with_len 1 n) row.2 in
          its_same model k x (record { place = k.0; i = row.0; j = column.0 }) column.2
          (special_is model k there (group_special model k.0 k.1 valid there e) row.0 column.0 row.1 column.1)

  -- a generator of the model is one of a group
  pub of_group : (x : Generator) → IsIn x (generators model) → IsOfGroup model x
  of_group x is =
      let at = in-flat_map generators_of x (enumerate_from 0 model.groups) is in
      (group_generator at.0 x (group_there model at.0 at.1) at.2).of_group

  its_coupling : (k : ℕ × Group) (x : Generator) → slice_get model.groups k.0 ≡ Some k.1 → IsIn x (generators_of k) → coupling_at model x.place ≡ group_coupling k.0 k.1
  its_coupling k x there is =
      ap (coupling_at model) (group_generator k x there is).place_is ∙ ap (coupling_or_zero k.0) there

-- ---- sums

-- equal summands
sum-members : (R : Semiring) {A : Type 0} (xs : List A) (f g : A → R.carrier) → ((x : A) → IsIn x xs → f x ≡ g x) → sum R xs f ≡ sum R xs g
sum-members R [] f g same = sum-nil R f ∙ sym (sum-nil R g)
sum-members R (x ∷ xs) f g same =
    sum-cons R x xs f ∙ ap₂ R.add (same x (inl refl)) (sum-members R xs f g (λ y there. same y (inr there))) ∙ sym (sum-cons R x xs g)

-- a constant factor of numbers
double_sum : {A B : Type 0} (W : Polynomial) (xs : List A) (ys : List B) (N : A → B → ℚ)
    → sum poly_ring.semiring xs (λ x. sum poly_ring.semiring ys (λ y. mul_poly W (constant (N x y)))) ≡ mul_poly W (constant (sum ring_ℚ.semiring xs (λ x. sum ring_ℚ.semiring ys (N x))))
double_sum W xs ys N =
    let R = poly_ring.semiring in
    ap (sum R xs) (fun_ext (λ x. sum-mul R W ys (λ y. constant (N x y)) ∙ ap (mul_poly W) (sym (at_sum ring_ℚ.semiring R constant constants ys (N x)))))
    ∙ sum-mul R W xs (λ x. constant (sum ring_ℚ.semiring ys (N x)))
    ∙ ap (mul_poly W) (sym (at_sum ring_ℚ.semiring R constant constants xs (λ x. sum ring_ℚ.semiring ys (N x))))

-- the weights and couplings of two groups in another order
weights_moved : (v w s : ℚ) (g h : Polynomial) → mul_poly (share_factor (scale_poly v g) (scale_poly w h)) (constant s) ≡ scale_poly (fraction 3 8) (scale_poly ((v *ℚ w) *ℚ s) (mul_poly g h))
weights_moved v w s g h =
    identity poly_ring (constant (fraction 3 8) ∷ constant v ∷ constant w ∷ constant s ∷ g ∷ h ∷ [])
    ((var 0 ⊗ ((var 1 ⊗ var 4) ⊗ (var 2 ⊗ var 5))) ⊗ var 3) (var 0 ⊗ (((var 1 ⊗ var 2) ⊗ var 3) ⊗ (var 4 ⊗ var 5))) refl
    ∙ ap (λ c. scale_poly (fraction 3 8) (mul_poly c (mul_poly g h))) (ap (λ c. mul_poly c (constant s)) (sym (constants.at_mul v w)) ∙ sym (constants.at_mul (v *ℚ w) s))

module _ (model : Model) (valid : IsValid model) (a b c d : Coordinate) where
  abbrev all_groups : List (ℕ × Group)
  all_groups = enumerate_from 0 model.groups

  abbrev entries : Generator → Generator → ℚ
  entries x z = pair_entry model x z a b *ℚ pair_entry model (opposite x) (opposite z) c d

  abbrev one_pair : Generator → Generator → Polynomial
  one_pair x z = pair_share model x z a b c d

  abbrev groups_pair : ℕ × Group → ℕ × Group → Polynomial
  groups_pair k l = scale_poly (gauge_pair model k l a b c d) (mul_poly (gauge_power k.0 2) (gauge_power l.0 2))

  -- two groups
  two_groups : (k l : ℕ × Group) → IsIn k all_groups → IsIn l all_groups → sum poly_ring.semiring (generators_of k) (λ x. sum poly_ring.semiring (generators_of l) (one_pair x)) ≡ scale_poly (fraction 3 8) (groups_pair k l)
  two_groups k l first second =
      let R = poly_ring.semiring in
      let W = share_factor (group_coupling k.0 k.1) (group_coupling l.0 l.1) in
      sum-members R (generators_of k) (λ x. sum R (generators_of l) (one_pair x)) (λ x. sum R (generators_of l) (λ z. mul_poly W (constant (entries x z)))) (λ x is.
      sum-members R (generators_of l) (one_pair x) (λ z. mul_poly W (constant (entries x z))) (λ z its.
      ap₂ (λ v w. mul_poly (share_factor v w) (constant (entries x z))) (its_coupling model valid k x (group_there model k first) is) (its_coupling model valid l z (group_there model l second) its)))
      ∙ double_sum W (generators_of k) (generators_of l) entries
      ∙ weights_moved (generator_weight k.1) (generator_weight l.1) (sum ring_ℚ.semiring (generators_of k) (λ x. sum ring_ℚ.semiring (generators_of l) (entries x))) (gauge_power k.0 2) (gauge_power l.0 2)

  -- a group and all generators
  one_group : (k : ℕ × Group) → IsIn k all_groups → sum poly_ring.semiring (generators_of k) (λ x. sum poly_ring.semiring (generators model) (one_pair x)) ≡ sum poly_ring.semiring all_groups (λ l. scale_poly (fraction 3 8) (groups_pair k l))
  one_group k first =
      let R = poly_ring.semiring in
      ap (sum R (generators_of k)) (fun_ext (λ x. sum-flat_map R generators_of all_groups (one_pair x)))
      ∙ sum-swap R (generators_of k) all_groups (λ x l. sum R (generators_of l) (one_pair x))
      ∙ sum-members R all_groups (λ l. sum R (generators_of k) (λ x. sum R (generators_of l) (one_pair x))) (λ l. scale_poly (fraction 3 8) (groups_pair k l)) (λ l second. two_groups k l first second)

  -- all pairs of generators
  pub all_pairs : sum poly_ring.semiring (generators model) (λ x. sum poly_ring.semiring (generators model) (one_pair x)) ≡ gauge_share model a b c d
  all_pairs =
      let R = poly_ring.semiring in
      sum-flat_map R generators_of all_groups (λ x. sum R (generators model) (one_pair x))
      ∙ sum-members R all_groups (λ k. sum R (generators_of k) (λ x. sum R (generators model) (one_pair x))) (λ k. sum R all_groups (λ l. scale_poly (fraction 3 8) (groups_pair k l))) one_group
      ∙ ap (sum R all_groups) (fun_ext (λ k. sum-mul R (constant (fraction 3 8)) all_groups (groups_pair k)))
      ∙ sum-mul R (constant (fraction 3 8)) all_groups (λ k. sum R all_groups (groups_pair k))

  -- ---- factors

  -- the sum over factors is that over their generators
  pub factors_share : (factors : List GaugeFactor) → AreGaugeFactors model (generators model) factors → sum poly_ring.semiring factors (λ left. sum poly_ring.semiring factors (λ right. factor_share model left right a b c d)) ≡ gauge_share model a b c d
  factors_share factors are =
      let R = poly_ring.semiring in
      let gen = λ (f : GaugeFactor). f.generator in
      ap (sum R factors) (fun_ext (λ left. sym (sum-map R gen factors (one_pair left.generator)) ∙ ap (λ xs. sum R xs (one_pair left.generator)) are.generators_are))
      ∙ sym (sum-map R gen factors (λ x. sum R (generators model) (one_pair x)))
      ∙ ap (λ xs. sum R xs (λ x. sum R (generators model) (one_pair x))) are.generators_are
      ∙ all_pairs
