-- The entries of the scalar tensor times a group's factor and Casimirs, and their sum over the groups.
use Rattle.std.specs.Prelude.{◌≡◌, ◌≤◌, ◌+◌, ℕ, zero, suc, List, [], ◌∷◌, ◌++◌, map, length, get_or, slice_get, Option, Some, None, option_map}
use Rattle.std.specs.List.{All, enumerate_from}
use Rattle.std.proofs.Common.{Ordering, Less, Equal, Greater, refl, sym, subst, ap, ap₂, ◌∙◌, arith}
use Rattle.std.proofs.lemmas.List.{map-append}
use Rattle.std.proofs.lemmas.List.FromFn.{length-enumerate_from, get_or-enumerate_from}
use Rattle.std.proofs.lemmas.Option.{slice_get-map, slice_get_within, slice_get-get_or, get_or_from_slice_get}
use mathlib.Core.Path.{fun_ext}
use Rattle.exact_algebra.specs.Formal.{coefficient-cons, coefficient-nil}
use Rattle.exact_algebra.specs.Maps.{const-zero}
use Rattle.exact_algebra.specs.Ring.{zero_mul}
use Rattle.exact_algebra.specs.Solver.{identity}
use Rattle.exact_algebra.specs.Solver.Term.{var, ◌⊗◌}
use Rattle.exact_algebra.specs.Sums.{sum, sum-nil, sum-cons, sum-zero, sum-mul, sum-mul_right, where_equal}
use Rattle.exact_algebra.specs.TensorContraction.{places_keys, places_cmp}
use Rattle.frac128.specs.Rational.{ℚ, zero_ℚ, neg_ℚ}
use Rattle.frac128.specs.RationalLaws.{ring_ℚ}
use Rattle.beta_poly.specs.Exponents.{AllWithin}
use Rattle.beta_poly.specs.Monomial.{monomials, power}
use Rattle.beta_poly.specs.Polynomial.{Polynomial, poly_ring, zero_test, zero_poly, add_poly, mul_poly, scale_poly, constant}
use Rattle.beta_poly.proofs.ExponentLaws.{AllWithin-term, IsWithin-power}
use Rattle.sparse_tensor.specs.declared.values.Value.{Value}
use Rattle.sparse_tensor.specs.Tensor.{Tensor, Entries, HasRank, HasValues, poly_zero_test, rank_of, entries_of, value_in}
use Rattle.sparse_tensor.specs.Operations.{entry, gathered_at}
use Rattle.su_reps.specs.Operators.{fraction}
use Rattle.model_core.specs.declared.group.Group.{Group}
use Rattle.model_core.specs.declared.model.Model.{Model}
use Rattle.model_core.specs.Component.{Component}
use Rattle.model_core.specs.Directions.{scalar_at}
use Rattle.model_core.specs.GaugeBeta.{casimir_at}
use Rattle.model_core.specs.GaugeTwoLoop.{gauge_symbol, gauge_power}
use Rattle.model_core.specs.Scalar.{Coordinate, scalar_components, scalar_coordinates}
use Rattle.model_core.specs.Scalar.Coordinate.{Of, Dummy}
use Rattle.term_expand.proofs.Legs.{of_four}
use Rattle.gauge_two_loop.proofs.Terms.{scaled_term}
use Rattle.beta_formulas.specs.ScalarBeta.{quartic}
use Rattle.quartic_one_loop.specs.FourLegs.{four_at, first_of, AddsFour}
use Rattle.quartic_one_loop.specs.ChargeParts.{coordinate_casimir, charge_factor, charge_at, charged, charged_values, group_share}
use Rattle.quartic_one_loop.specs.OrderShares.{charge_share}
use Rattle.quartic_one_loop.proofs.Adding.{four_options, adds_same, adds_behind, first_all}
use Rattle.quartic_one_loop.proofs.QuarticPlaces.{quartic_four}

-- ---- entries

module _ (casimirs : List ℚ) (factor : Polynomial) where
  -- a value whose key isn't asked for counts for nothing
  charge_where : (key other : List ℕ) (p : Polynomial) (o : Ordering) → places_cmp key other ≡ o
      → where_equal poly_ring.semiring o (mul_poly (charge_at casimirs factor other) p) ≡ mul_poly (charge_at casimirs factor key) (where_equal poly_ring.semiring o p)
  charge_where key other p Less is = sym (poly_ring.semiring.mul_zero (charge_at casimirs factor key))
  charge_where key other p Equal is =
      ap (λ k. mul_poly (charge_at casimirs factor k) p) (sym (places_keys.equal key other is))
  charge_where key other p Greater is = sym (poly_ring.semiring.mul_zero (charge_at casimirs factor key))

  charged_sum : (es : Entries) (key : List ℕ) → gathered_at (map entry (map (charged casimirs factor) es)) key ≡ mul_poly (charge_at casimirs factor key) (value_in es key)
  unfolding gathered_at
  charged_sum [] key =
      sum-nil poly_ring.semiring (λ e. where_equal poly_ring.semiring (places_cmp key e.0) e.1)
      ∙ sym (ap (mul_poly (charge_at casimirs factor key)) (coefficient-nil places_keys poly_ring.semiring poly_zero_test key) ∙ poly_ring.semiring.mul_zero (charge_at casimirs factor key))
  charged_sum (e ∷ es) key =
      sum-cons poly_ring.semiring (e.0, mul_poly (charge_at casimirs factor e.0) e.1) (map entry (map (charged casimirs factor) es)) (λ e. where_equal poly_ring.semiring (places_cmp key e.0) e.1)
      ∙ ap₂ add_poly (charge_where key e.0 e.1 (places_cmp key e.0) refl) (charged_sum es key)
      ∙ sym (ap (mul_poly (charge_at casimirs factor key)) (coefficient-cons places_keys poly_ring.semiring poly_zero_test e es key)
      ∙ poly_ring.semiring.mul_add (charge_at casimirs factor key) (where_equal poly_ring.semiring (places_cmp key e.0) e.1) (value_in es key))

  charged_keys : (rank : ℕ) (es : Entries) → HasRank rank es → All {X = Value} (λ v. length v.key ≡ rank) (map (charged casimirs factor) es)
  charged_keys rank [] keys i d within = absurd (omega (arith, within))
  charged_keys rank (e ∷ es) keys zero d within = keys.0
  charged_keys rank (e ∷ es) keys (suc i) d within = charged_keys rank es keys.1 i d (omega (arith, within))

-- ---- a group

module _ (model : Model) (g : ℕ × Group) where
  abbrev pub casimirs_at : List ℚ
  casimirs_at = map (coordinate_casimir g) (scalar_coordinates model)

  -- the Casimir at a place that has a coordinate
  casimir_there : (i : ℕ) (x : Coordinate) → slice_get (scalar_coordinates model) i ≡ Some x → get_or casimirs_at i zero_ℚ ≡ coordinate_casimir g x
  casimir_there i x there =
      get_or_from_slice_get casimirs_at i (coordinate_casimir g x) zero_ℚ (slice_get-map (coordinate_casimir g) (scalar_coordinates model) i ∙ ap (option_map (coordinate_casimir g)) there)

  by_coordinates : (number : ℚ) (o p q r : Option Coordinate) → ((x : Coordinate) → o ≡ Some x → number ≡ coordinate_casimir g x)
      → mul_poly (scale_poly number (charge_factor g.0)) (four_options (quartic model) o p q r) ≡ four_options (group_share model g) o p q r
  by_coordinates number None p q r is = poly_ring.semiring.mul_zero (scale_poly number (charge_factor g.0))
  by_coordinates number (Some a) None q r is =
      poly_ring.semiring.mul_zero (scale_poly number (charge_factor g.0))
  by_coordinates number (Some a) (Some b) None r is =
      poly_ring.semiring.mul_zero (scale_poly number (charge_factor g.0))
  by_coordinates number (Some a) (Some b) (Some c) None is =
      poly_ring.semiring.mul_zero (scale_poly number (charge_factor g.0))
  by_coordinates number (Some a) (Some b) (Some c) (Some d) is =
      ap (λ n. mul_poly (scale_poly n (charge_factor g.0)) (quartic model a b c d)) (is a refl)

  charged_at : (key : List ℕ) → length key ≡ 4 → mul_poly (charge_at casimirs_at (charge_factor g.0) key) (four_at model (quartic model) key) ≡ four_at model (group_share model g) key
  charged_at =
      of_four (λ key. mul_poly (charge_at casimirs_at (charge_factor g.0) key) (four_at model (quartic model) key) ≡ four_at model (group_share model g) key) (λ i j k l.
      let cs = scalar_coordinates model in
      by_coordinates (get_or casimirs_at i zero_ℚ) (slice_get cs i) (slice_get cs j) (slice_get cs k) (slice_get cs l) (casimir_there i))

  -- what the entries of the scalar tensor add
  pub adds_charged : (t : Tensor) (old new : List Value) → HasValues 4 (scalar_at model) t → new ≡ old ++ charged_values casimirs_at (charge_factor g.0) t → AddsFour model (group_share model g) old new
  adds_charged t old new has is =
      let four = quartic_four model t has in
      adds_behind model (group_share model g) old new (charged_values casimirs_at (charge_factor g.0) t) is
      (subst (λ n. All {X = Value} (λ v. length v.key ≡ n) (charged_values casimirs_at (charge_factor g.0) t)) has.rank_is (charged_keys casimirs_at (charge_factor g.0) (rank_of t) (entries_of t) t.1.keys))
      (λ key l.
      charged_sum casimirs_at (charge_factor g.0) (entries_of t) key
      ∙ ap (mul_poly (charge_at casimirs_at (charge_factor g.0) key)) (four.value_is key l)
      ∙ charged_at key l)

  -- the Casimirs of all components, and 0 behind them
  images : (cs : List Component) → map (coordinate_casimir g) (map Of cs) ≡ map (casimir_at g.1 g.0) cs
  images [] = refl
  images (c ∷ cs) = ap (λ l. casimir_at g.1 g.0 c ∷ l) (images cs)

  pub casimirs_all : (found new : List ℚ) (last : ℚ) → found ≡ map (casimir_at g.1 g.0) (scalar_components model) → last ≡ zero_ℚ → new ≡ found ++ last ∷ [] → new ≡ casimirs_at
  casimirs_all found new last so_far is next =
      next
      ∙ ap₂ (λ l n. l ++ n ∷ []) (so_far ∙ sym (images (scalar_components model))) is
      ∙ sym (map-append (coordinate_casimir g) (map Of (scalar_components model)) (Dummy ∷ []))

-- each exponent of the factor is at most 2
pub factor_within : (place : ℕ) → AllWithin 2 (charge_factor place)
factor_within place =
    AllWithin-term 2 (power (gauge_symbol place) 2) (neg_ℚ (fraction 1 2)) (IsWithin-power (gauge_symbol place) 2)

-- ---- the groups

module _ (model : Model) where
  -- a group with its place
  pub group_there : (place : ℕ) (group : Group) → slice_get model.groups place ≡ Some group → slice_get (enumerate_from 0 model.groups) place ≡ Some (place, group)
  group_there place group there =
      let all = enumerate_from 0 model.groups in
      let inside = slice_get_within model.groups place group there in
      let count : 0 + place ≡ place = omega arith in
      slice_get-get_or all place (place, group) (omega (arith, inside, length-enumerate_from 0 model.groups))
      ∙ ap Some (get_or-enumerate_from 0 model.groups place (place, group) inside ∙ ap₂ (λ n h. (n, h)) count (get_or_from_slice_get model.groups place group group there))

  -- the sum over the groups at a component
  component_groups : (x : Component) (b c d : Coordinate) → sum poly_ring.semiring (enumerate_from 0 model.groups) (λ g. group_share model g (Of x) b c d) ≡ charge_share model (Of x) b c d
  component_groups x b c d =
      let R = poly_ring.semiring in
      let gs = enumerate_from 0 model.groups in
      let minus = constant (neg_ℚ (fraction 1 2)) in
      let l = quartic model (Of x) b c d in
      let number = λ (g : ℕ × Group). casimir_at g.1 g.0 x in
      let one = λ (g : ℕ × Group). scale_poly (number g) (gauge_power g.0 2) in
      let each : (g : ℕ × Group) → group_share model g (Of x) b c d ≡ mul_poly minus (mul_poly (one g) l) =
      λ g. ap (λ p. mul_poly (scale_poly (number g) p) l) (scaled_term (neg_ℚ (fraction 1 2)) (power (gauge_symbol g.0) 2))
      ∙ identity poly_ring (minus ∷ constant (number g) ∷ gauge_power g.0 2 ∷ l ∷ []) ((var 1 ⊗ (var 0 ⊗ var 2)) ⊗ var 3) (var 0 ⊗ ((var 1 ⊗ var 2) ⊗ var 3)) refl in
      ap (sum R gs) (fun_ext each)
      ∙ sum-mul R minus gs (λ g. mul_poly (one g) l)
      ∙ ap (mul_poly minus) (sum-mul_right R l gs one)

  -- and none at the dummy
  dummy_groups : (b c d : Coordinate) → sum poly_ring.semiring (enumerate_from 0 model.groups) (λ g. group_share model g Dummy b c d) ≡ charge_share model Dummy b c d
  dummy_groups b c d =
      let R = poly_ring.semiring in
      let gs = enumerate_from 0 model.groups in
      let l = quartic model Dummy b c d in
      let each : (g : ℕ × Group) → group_share model g Dummy b c d ≡ zero_poly =
      λ g. ap (λ z. mul_poly (mul_poly z (charge_factor g.0)) l) (const-zero monomials ring_ℚ.semiring zero_test)
      ∙ ap (λ z. mul_poly z l) (zero_mul R (charge_factor g.0))
      ∙ zero_mul R l in
      ap (sum R gs) (fun_ext each) ∙ sum-zero R gs ∙ sym (R.mul_zero (constant (neg_ℚ (fraction 1 2))))

  all_groups : (a b c d : Coordinate) → sum poly_ring.semiring (enumerate_from 0 model.groups) (λ g. group_share model g a b c d) ≡ charge_share model a b c d
  all_groups (Of x) b c d = component_groups x b c d
  all_groups Dummy b c d = dummy_groups b c d

  pub groups_all : (place : ℕ) (old new : List Value) → length model.groups ≤ place → AddsFour model (first_of place (enumerate_from 0 model.groups) (group_share model)) old new → AddsFour model (charge_share model) old new
  groups_all place old new past so_far =
      adds_same model (λ a b c d. sum poly_ring.semiring (enumerate_from 0 model.groups) (λ g. group_share model g a b c d)) (charge_share model) old new all_groups
      (first_all model (enumerate_from 0 model.groups) (group_share model) place old new (omega (arith, past, length-enumerate_from 0 model.groups)) so_far)
