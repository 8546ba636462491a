-- What fields add to a trace as whole numbers and charges, and the sums of these over all fields.
use Rattle.std.proofs.Common.{◌≡◌, ℕ, ◌*◌, List, [], ◌∷◌, refl, sym, ap, ap₂, ◌∙◌, pos}
use Rattle.std.proofs.lemmas.List.Sums.{sum_by-cons}
use Rattle.exact_algebra.specs.Solver.{identity}
use Rattle.exact_algebra.specs.Solver.Term.{var, ◌⊗◌}
use Rattle.exact_algebra.specs.Sums.{sum, sum-nil, sum-cons}
use Rattle.frac128.specs.Rational.{ℚ, whole, ◌+ℚ◌, ◌*ℚ◌}
use Rattle.frac128.specs.RationalLaws.{ring_ℚ}
use Rattle.frac128.specs.Whole.{whole-+ℤ, whole-*ℤ, whole-add, whole-mul}
use Rattle.su_reps.specs.Operators.{cubic, doubled_index}
use Rattle.model_core.specs.declared.group.Group.{Group}
use Rattle.model_core.specs.declared.field.Field.{Field}
use Rattle.model_core.specs.GaugeBeta.{rep_at}
use Rattle.model_core.specs.Multiplet.{doubled_index_sum, fermion_copies, multiplicity}
use Rattle.anomaly_check.specs.Counts.{cubic_share, cubic_sum, index_share}
use Rattle.anomaly_check.proofs.OnGroup.{one_times, others}

-- ---- products

-- two counts in turn are their product
count_in : (g o : ℕ) (x : ℚ) → whole (pos g) *ℚ (whole (pos o) *ℚ x) ≡ whole (pos (g * o)) *ℚ x
count_in g o x =
    identity ring_ℚ (whole (pos g) ∷ whole (pos o) ∷ x ∷ []) (var 0 ⊗ (var 1 ⊗ var 2)) ((var 0 ⊗ var 1) ⊗ var 2) refl ∙ ap (λ k. k *ℚ x) (sym (whole-mul g o))

-- a charge moves behind the counts
pub charge_last : (g c x : ℚ) → g *ℚ (c *ℚ x) ≡ (g *ℚ x) *ℚ c
charge_last g c x = identity ring_ℚ (g ∷ c ∷ x ∷ []) (var 0 ⊗ (var 1 ⊗ var 2)) ((var 0 ⊗ var 2) ⊗ var 1) refl

-- and so does its cube
pub charges_last : (g c x : ℚ) → g *ℚ (c *ℚ (c *ℚ (c *ℚ x))) ≡ (g *ℚ x) *ℚ (c *ℚ (c *ℚ c))
charges_last g c x =
    identity ring_ℚ (g ∷ c ∷ x ∷ []) (var 0 ⊗ (var 1 ⊗ (var 1 ⊗ (var 1 ⊗ var 2)))) ((var 0 ⊗ var 2) ⊗ (var 1 ⊗ (var 1 ⊗ var 1))) refl

module _ (groups : List Group) (place : ℕ) (group : Group) where
  -- the product of the dimensions under the other groups
  abbrev pub other_size : Field → ℕ
  other_size field = others groups field.reps place

  -- twice the Dynkin index, as often as the other groups have dimensions
  abbrev pub index_of : Field → ℚ
  index_of field = whole (pos (other_size field)) *ℚ whole (pos (doubled_index (rep_at field place) group.n))

  -- the anomaly coefficient, as often
  abbrev pub cubic_of : Field → ℚ
  cubic_of field = whole (pos (other_size field)) *ℚ whole (cubic (rep_at field place) group.n)

  -- these in all generations
  pub index_of-times : (field : Field) → whole (pos field.generations) *ℚ index_of field ≡ whole (pos (index_share groups place group field))
  index_of-times field =
      let index = doubled_index (rep_at field place) group.n in
      count_in field.generations (other_size field) (whole (pos index)) ∙ sym (whole-mul (multiplicity groups field place) index)

  pub cubic_of-times : (field : Field) → whole (pos field.generations) *ℚ cubic_of field ≡ whole (cubic_share groups place group field)
  cubic_of-times field =
      let number = cubic (rep_at field place) group.n in
      count_in field.generations (other_size field) (whole number) ∙ sym (whole-*ℤ (pos (multiplicity groups field place)) number)

  -- ---- sums

  -- twice the sum of the Dynkin indices
  pub sum-index : (fields : List Field) → sum ring_ℚ.semiring fields (λ field. whole (pos (index_share groups place group field))) ≡ whole (pos (doubled_index_sum fermion_copies groups place group fields))
  sum-index [] = sum-nil ring_ℚ.semiring (λ field. whole (pos (index_share groups place group field)))
  sum-index (field ∷ fields) =
      let share = index_share groups place group field in
      sum-cons ring_ℚ.semiring field fields (λ x. whole (pos (index_share groups place group x)))
      ∙ ap₂ ◌+ℚ◌ (ap (λ k. whole (pos k)) (sym (one_times share))) (sum-index fields)
      ∙ sym (whole-add (1 * share) (doubled_index_sum fermion_copies groups place group fields))
      ∙ ap (λ k. whole (pos k)) (sym (sum_by-cons (λ x. fermion_copies x * (multiplicity groups x place * doubled_index (rep_at x place) group.n)) field fields))

  -- the sum of the anomaly coefficients
  pub sum-cubic : (fields : List Field) → sum ring_ℚ.semiring fields (λ field. whole (cubic_share groups place group field)) ≡ whole (cubic_sum groups place group fields)
  sum-cubic [] = sum-nil ring_ℚ.semiring (λ field. whole (cubic_share groups place group field))
  sum-cubic (field ∷ fields) =
      sum-cons ring_ℚ.semiring field fields (λ x. whole (cubic_share groups place group x))
      ∙ ap (λ s. whole (cubic_share groups place group field) +ℚ s) (sum-cubic fields)
      ∙ sym (whole-+ℤ (cubic_share groups place group field) (cubic_sum groups place group fields))
