-- A direction that no neighbouring X_ij of an SU(n) changes isn't changed by any X_ij. Those of different i and j are
-- commutators of neighbouring ones, X_ii - X_jj is the commutator of X_ij and X_ji, and the X_ii add up to 0.
use Rattle.std.proofs.Common.{◌≡◌, ℕ, zero, suc, ◌+◌, ◌-◌, ◌<◌, ◌≤◌, List, [], ◌∷◌, Some, refl, sym, subst, ap, ap₂, ◌∙◌, arith, inl, inr, pos}
use Rattle.std.specs.Prelude.{◌≢◌, ◌⊎◌, slice_get}
use Rattle.exact_algebra.specs.Solver.{identity}
use Rattle.exact_algebra.specs.Solver.Term.{var, nought, single, ◌⊕◌, ◌⊗◌, opposite}
use Rattle.exact_algebra.specs.Sums.{below, below-constant, below-same}
use Rattle.frac128.specs.Rational.{ℚ, whole, zero_ℚ, one_ℚ, ◌+ℚ◌, ◌*ℚ◌, neg_ℚ}
use Rattle.frac128.specs.RationalLaws.{ring_ℚ, *ℚ_comm, product-zero, zero-+ℚ}
use Rattle.frac128.specs.Whole.{counted, whole_nonzero}
use Rattle.su_reps.specs.Tuples.{AreValues, delta}
use Rattle.model_core.specs.declared.group.Group.{Group}
use Rattle.model_core.specs.declared.model.Model.{Model}
use Rattle.model_core.specs.Directions.{Direction}
use Rattle.model_core.specs.Generators.{coordinate_generator}
use Rattle.model_core.specs.Invariance.{acted, change, legs_on}
use Rattle.model_core.specs.Scalar.{Coordinate}
use Rattle.model_core.specs.Valid.{IsValid}
use Rattle.neighbour_laws.specs.Neighbours.{AreUnchanged, IsKey, IsUnchanged, special_generator}
use Rattle.neighbour_laws.proofs.ActionSums.{acted-bracket, acted-no_sum, acted-none}
use Rattle.neighbour_laws.proofs.LegAlgebra.{leg-algebras}
use Rattle.neighbour_laws.proofs.LegBrackets.{leg-brackets, legs-no_sum}
use Rattle.neighbour_laws.proofs.TupleProducts.{delta_apart, delta_same}

-- ---- numbers

first_alone : (d e x y : ℚ) → d ≡ one_ℚ → e ≡ zero_ℚ → d *ℚ x +ℚ neg_ℚ e *ℚ y ≡ zero_ℚ → x ≡ zero_ℚ
first_alone d e x y one none h =
    identity ring_ℚ (x ∷ y ∷ []) (var 0) (single ⊗ var 0 ⊕ opposite nought ⊗ var 1) refl
    ∙ ap₂ (λ s t. s *ℚ x +ℚ neg_ℚ t *ℚ y) (sym one) (sym none) ∙ h

both_same : (d e x y : ℚ) → d ≡ one_ℚ → e ≡ one_ℚ → d *ℚ x +ℚ neg_ℚ e *ℚ y ≡ zero_ℚ → x ≡ y
both_same d e x y one other h =
    identity ring_ℚ (x ∷ y ∷ []) (var 0) ((single ⊗ var 0 ⊕ opposite single ⊗ var 1) ⊕ var 1) refl
    ∙ ap (λ k. k +ℚ y) (ap₂ (λ s t. s *ℚ x +ℚ neg_ℚ t *ℚ y) (sym one) (sym other) ∙ h) ∙ zero-+ℚ y

-- n times a number is 0 where the number is
times_none : (n : ℕ) (x : ℚ) → 1 ≤ n → below ring_ℚ.semiring n (λ _. x) ≡ zero_ℚ → x ≡ zero_ℚ
times_none n x positive h =
    product-zero x (whole (pos n)) (whole_nonzero n positive)
    (*ℚ_comm x (whole (pos n)) ∙ sym (below-constant ring_ℚ.semiring n x ∙ ap (λ k. k *ℚ x) (counted n)) ∙ h)

-- one of two numbers is less, or they are the same
in_order : (i j : ℕ) → (i < j) ⊎ ((j < i) ⊎ (i ≡ j))
in_order i j = grind arith

module _ (model : Model) (valid : IsValid model) (direction : Direction) (side place : ℕ) (group : Group) (found : slice_get model.groups place ≡ Some group) (positive : 1 ≤ group.n) where
  -- X_ij doesn't change the direction on the side
  abbrev Unchanged : ℕ → ℕ → Type 0
  Unchanged i j = IsUnchanged model direction side (special_generator place i j)

  abbrev legs : List (List Coordinate)
  legs = legs_on model direction.kind side

  abbrev numbers : List ℕ → ℚ
  numbers places = direction.numbers (side ∷ places)

  abbrev moved : ℕ → ℕ → List ℕ → ℚ
  moved i j key = change model direction (special_generator place i j) (side ∷ key)

  abbrev IsInRange : ℕ → Type 0
  IsInRange i = (1 ≤ i) × (i ≤ group.n)

  -- ---- commutators

  commuted : (i j l m : ℕ) → AreValues group.n (i ∷ j ∷ l ∷ m ∷ []) → Unchanged i j → Unchanged l m → (key : List ℕ) → IsKey legs key
      → delta j l *ℚ moved i m key +ℚ neg_ℚ (delta i m) *ℚ moved l j key ≡ zero_ℚ
  commuted i j l m values first second key inside =
      let A = coordinate_generator model.groups (special_generator place i j) in
      let B = coordinate_generator model.groups (special_generator place l m) in
      let C = coordinate_generator model.groups (special_generator place i m) in
      let D = coordinate_generator model.groups (special_generator place l j) in
      let rest = delta j l *ℚ moved i m key +ℚ neg_ℚ (delta i m) *ℚ moved l j key in
      let brackets = leg-brackets model valid place group found positive legs (leg-algebras model valid place group found positive direction.kind side) i j l m values in
      sym (zero-+ℚ rest)
      ∙ ap (λ k. k +ℚ rest) (sym (acted-none A legs (acted B legs numbers) second key inside))
      ∙ sym (acted-bracket A B C D (delta j l) (neg_ℚ (delta i m)) legs numbers key brackets inside)
      ∙ acted-none B legs (acted A legs numbers) first key inside

  -- X_im from X_ij and X_jm
  chained : (i j m : ℕ) → IsInRange i → IsInRange j → IsInRange m → m ≢ i → Unchanged i j → Unchanged j m → Unchanged i m
  chained i j m first second third apart one other key inside =
      first_alone (delta j j) (delta i m) (moved i m key) (moved j j key) (delta_same j) (delta_apart i m apart) (commuted i j j m (first, (second, (second, (third, tt)))) one other key inside)

  -- X_ii and X_jj from X_ij and X_ji
  levelled : (i j : ℕ) → IsInRange i → IsInRange j → Unchanged i j → Unchanged j i → (key : List ℕ) → IsKey legs key → moved i i key ≡ moved j j key
  levelled i j first second one other key inside =
      both_same (delta j j) (delta i i) (moved i i key) (moved j j key) (delta_same j) (delta_same i) (commuted i j j i (first, (second, (second, (first, tt)))) one other key inside)

  -- ---- from neighbours

  module _ (near : AreUnchanged model direction side place group.n) where
    -- a pair that is d + 1 apart, in both orders
    distant : (d i j : ℕ) → i + (d + 1) ≡ j → 1 ≤ i → j ≤ group.n → Unchanged i j × Unchanged j i
    distant zero i j e low high =
        let next : i + 1 ≡ j = omega arith in
        subst (λ k. Unchanged i k × Unchanged k i) next (near i low (omega arith))
    distant (suc d) i j e low high =
        let middle = i + (d + 1) in
        let next : i + (d + 1) + 1 ≡ j = omega arith in
        let before = distant d i middle refl low (omega arith) in
        let step : Unchanged middle j × Unchanged j middle = subst (λ k. Unchanged middle k × Unchanged k middle) next (near middle (omega arith) (omega arith)) in
        let first : IsInRange i = (low, omega arith) in
        let second : IsInRange (i + (d + 1)) = (omega arith, omega arith) in
        let third : IsInRange j = (omega arith, high) in
        (chained i middle j first second third (λ same. omega (arith, same)) before.0 step.0, chained j middle i third second first (λ same. omega (arith, same)) step.1 before.1)

    -- any two different ones
    apart_unchanged : (i j : ℕ) → i < j → 1 ≤ i → j ≤ group.n → Unchanged i j × Unchanged j i
    apart_unchanged i j less low high = distant (j - i - 1) i j (omega arith) low high

    -- the X_ii all change it alike
    level : (i j : ℕ) → IsInRange i → IsInRange j → (key : List ℕ) → IsKey legs key → moved i i key ≡ moved j j key
    level i j first second key inside = elim (in_order i j) [
      | inl less ↦ let pair = apart_unchanged i j less first.0 second.1 in levelled i j first second pair.0 pair.1 key inside
      | inr (inl more) ↦ let pair = apart_unchanged j i more second.0 first.1 in sym (levelled j i second first pair.0 pair.1 key inside)
      | inr (inr same) ↦ ap (λ k. moved k k key) same
    ]

    -- and so not at all
    diagonal_unchanged : (i : ℕ) → IsInRange i → Unchanged i i
    diagonal_unchanged i range key inside =
        times_none group.n (moved i i key) positive
        (below-same ring_ℚ.semiring group.n (λ _. moved i i key) (λ k. moved (suc k) (suc k) key) (λ k l. level i (suc k) range (omega arith, omega arith) key inside)
        ∙ acted-no_sum group.n (λ k. coordinate_generator model.groups (special_generator place (suc k) (suc k))) legs numbers key (legs-no_sum model valid place group found positive legs (leg-algebras model valid place group found positive direction.kind side)) inside)

    pub neighbours_are_enough : (i j : ℕ) → 1 ≤ i → i ≤ group.n → 1 ≤ j → j ≤ group.n → Unchanged i j
    neighbours_are_enough i j low high left right = elim (in_order i j) [
      | inl less ↦ (apart_unchanged i j less low right).0
      | inr (inl more) ↦ (apart_unchanged j i more left high).1
      | inr (inr same) ↦ subst (λ k. Unchanged i k) same (diagonal_unchanged i (low, high))
    ]
