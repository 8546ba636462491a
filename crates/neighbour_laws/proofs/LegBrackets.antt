-- The Lie algebra on a leg, place by place.
use Rattle.std.proofs.Common.{◌≡◌, ℕ, suc, ◌≤◌, List, [], ◌∷◌, length, Some, ap, ap₂, sym, ◌∙◌}
use Rattle.std.specs.Prelude.{slice_get}
use mathlib.Core.Path.{fun_ext}
use Rattle.exact_algebra.specs.Sums.{below, sum}
use Rattle.frac128.specs.Rational.{◌+ℚ◌, ◌*ℚ◌, neg_ℚ}
use Rattle.frac128.specs.RationalLaws.{ring_ℚ}
use Rattle.su_reps.specs.Tuples.{AreValues, delta}
use Rattle.model_core.specs.declared.group.Group.{Group}
use Rattle.model_core.specs.declared.model.Model.{Model}
use Rattle.model_core.specs.Generators.{coordinate_generator}
use Rattle.model_core.specs.Invariance.{matrix_at, matrix_or_zero}
use Rattle.model_core.specs.Scalar.{Coordinate}
use Rattle.model_core.specs.Valid.{IsValid}
use Rattle.neighbour_laws.specs.Neighbours.{special_generator}
use Rattle.neighbour_laws.proofs.ActionSums.{AreBrackets, HasNoSum, HaveNoSum, IsBracket, Matrix}
use Rattle.neighbour_laws.proofs.LegAlgebra.{AreLegAlgebras}
use Rattle.neighbour_laws.proofs.ListAlgebra.{Family, IsAlgebra}
use Rattle.neighbour_laws.proofs.Members.{at_place, below-places, in_at}

-- ---- one leg

module _ (leg : List Coordinate) (x y : ℕ) (c d : Coordinate) (first : slice_get leg x ≡ Some c) (second : slice_get leg y ≡ Some d) where
  -- a matrix at two places
  entry-places : (A : Matrix) → matrix_at A leg x y ≡ A c d
  entry-places A = ap₂ (matrix_or_zero A) first second

  -- the product of two
  product-places : (A B : Matrix) → below ring_ℚ.semiring (length leg) (λ z. matrix_at A leg x z *ℚ matrix_at B leg z y) ≡ sum ring_ℚ.semiring leg (λ e. A c e *ℚ B e d)
  product-places A B =
      ap₂ (λ o r. below ring_ℚ.semiring (length leg) (λ z. matrix_or_zero A o (slice_get leg z) *ℚ matrix_or_zero B (slice_get leg z) r)) first second
      ∙ below-places (λ o. matrix_or_zero A (Some c) o *ℚ matrix_or_zero B o (Some d)) leg

module _ (n : ℕ) (X : Family Coordinate) (leg : List Coordinate) (algebra : IsAlgebra n X leg) where
  leg-bracket : (i j l m : ℕ) → AreValues n (i ∷ j ∷ l ∷ m ∷ []) → IsBracket (X i j) (X l m) (X i m) (X l j) (delta j l) (neg_ℚ (delta i m)) leg
  leg-bracket i j l m values x y inside within =
      let first = at_place leg x inside in
      let second = at_place leg y within in
      let c = first.0 in
      let d = second.0 in
      product-places leg x y c d first.1 second.1 (X i j) (X l m)
      ∙ algebra.bracket i j l m values c d (in_at leg x c first.1) (in_at leg y d second.1)
      ∙ sym (ap₂ ◌+ℚ◌ (product-places leg x y c d first.1 second.1 (X l m) (X i j))
      (ap₂ (λ s t. delta j l *ℚ s +ℚ neg_ℚ (delta i m) *ℚ t) (entry-places leg x y c d first.1 second.1 (X i m)) (entry-places leg x y c d first.1 second.1 (X l j))))

  leg-no_sum : HasNoSum n (λ i. X (suc i) (suc i)) leg
  leg-no_sum x y inside within =
      let first = at_place leg x inside in
      let second = at_place leg y within in
      ap (below ring_ℚ.semiring n) (fun_ext (λ i. entry-places leg x y first.0 second.0 first.1 second.1 (X (suc i) (suc i))))
      ∙ algebra.diagonal first.0 second.0 (in_at leg x first.0 first.1) (in_at leg y second.0 second.1)

-- ---- all legs

module _ (model : Model) (valid : IsValid model) (place : ℕ) (group : Group) (found : slice_get model.groups place ≡ Some group) (positive : 1 ≤ group.n) where
  abbrev pub on_coordinates : Family Coordinate
  on_coordinates i j = coordinate_generator model.groups (special_generator place i j)

  pub leg-brackets : (legs : List (List Coordinate)) → AreLegAlgebras model valid place group found positive legs → (i j l m : ℕ) → AreValues group.n (i ∷ j ∷ l ∷ m ∷ [])
      → AreBrackets (on_coordinates i j) (on_coordinates l m) (on_coordinates i m) (on_coordinates l j) (delta j l) (neg_ℚ (delta i m)) legs
  leg-brackets [] algebras i j l m values = tt
  leg-brackets (leg ∷ legs) algebras i j l m values = (leg-bracket group.n on_coordinates leg algebras.0 i j l m values, leg-brackets legs algebras.1 i j l m values)

  pub legs-no_sum : (legs : List (List Coordinate)) → AreLegAlgebras model valid place group found positive legs → HaveNoSum group.n (λ i. on_coordinates (suc i) (suc i)) legs
  legs-no_sum [] algebras = tt
  legs-no_sum (leg ∷ legs) algebras = (leg-no_sum group.n on_coordinates leg algebras.0, legs-no_sum legs algebras.1)
