-- The matrices that the parts are made of, by their places.
use Rattle.std.specs.Prelude.{◌≡◌, ◌≢◌, ◌<◌, ◌≤◌, ◌+◌, ℕ, List, [], ◌∷◌, length, slice_get, Some}
use Rattle.std.specs.List.{enumerate_from}
use Rattle.std.proofs.Common.{ap, ◌∙◌, arith}
use Rattle.std.proofs.lemmas.List.{length-map}
use Rattle.std.proofs.lemmas.List.FromFn.{length-enumerate_from}
use Rattle.exact_algebra.specs.Formal.{AllKeys}
use Rattle.frac128.specs.Rational.{ℚ}
use Rattle.beta_poly.specs.Exponents.{IsWithin}
use Rattle.beta_poly.specs.Monomial.{Monomial, monomial_keys}
use Rattle.sparse_tensor.specs.Tensor.{Tensor}
use Rattle.model_core.specs.Scalar.{scalar_components, scalar_coordinates}
use Rattle.model_core.proofs.ValidLaws.{valid_scalar_count}
use Rattle.beta_formulas.specs.YukawaBeta.{yukawa, conjugate}
use Rattle.yukawa_one_loop.specs.declared.lines.Lines.{Lines}
use Rattle.yukawa_one_loop.specs.Matrices.{AreWithin, IsLinear}
use Rattle.yukawa_one_loop.specs.Parts.{IsLines, coordinate_at, gauge_line}
use Rattle.yukawa_one_loop.proofs.Coordinates.{coordinates_count, matrices_count, matrix_there}

-- ---- bounds on exponents

at_most_two : (n : ℕ) → n ≤ 1 → n ≤ 2
at_most_two n h = omega arith

keys_weaker : (ts : List (Monomial × ℚ)) → AllKeys monomial_keys ℚ (IsWithin 1) ts → AllKeys monomial_keys ℚ (IsWithin 2) ts
keys_weaker [] all = tt
keys_weaker (t ∷ ts) all = ((λ s. at_most_two _ (all.0 s)), keys_weaker ts all.1)

-- exponents of at most 1 are at most 2
pub within_two : (t : Tensor) → AreWithin 1 t → AreWithin 2 t
within_two t within i d h = keys_weaker _ (within i d h)

-- ---- matrices

module _ (lines : Lines) (is : IsLines lines) where
  pub plain_inside : (place : ℕ) → place < length (scalar_coordinates lines.model.now) → place < length lines.matrices.plain
  plain_inside place inside =
      omega (arith, inside, matrices_count lines.model.now (yukawa lines.model.now) (scalar_coordinates lines.model.now) lines.matrices.plain is.matrices.plain)

  pub conjugate_inside : (place : ℕ) → place < length (scalar_coordinates lines.model.now) → place < length lines.matrices.conjugate
  conjugate_inside place inside =
      omega (arith, inside, matrices_count lines.model.now (conjugate lines.model.now) (scalar_coordinates lines.model.now) lines.matrices.conjugate is.matrices.conjugate)

  -- Y[a] and Yd[a] at the place of a
  pub plain_there : (place : ℕ) (t : Tensor) → slice_get lines.matrices.plain place ≡ Some t → IsLinear lines.model.now (yukawa lines.model.now (coordinate_at lines.model.now place)) t
  plain_there place t there =
      matrix_there lines.model.now (yukawa lines.model.now) (scalar_coordinates lines.model.now) lines.matrices.plain is.matrices.plain place t there

  pub conjugate_there : (place : ℕ) (t : Tensor) → slice_get lines.matrices.conjugate place ≡ Some t → IsLinear lines.model.now (conjugate lines.model.now (coordinate_at lines.model.now place)) t
  conjugate_there place t there =
      matrix_there lines.model.now (conjugate lines.model.now) (scalar_coordinates lines.model.now) lines.matrices.conjugate is.matrices.conjugate place t there

  -- ---- places

  -- a component's place is a coordinate's
  pub component_inside : (b : ℕ) → b < lines.dummy → b < length (scalar_coordinates lines.model.now)
  component_inside b inside = omega (arith, inside, is.dummy, coordinates_count lines.model.now)

  pub component_below : (b : ℕ) → b < lines.dummy → b < length (scalar_components lines.model.now)
  component_below b inside = omega (arith, inside, is.dummy)

  pub components_past : (b : ℕ) → lines.dummy ≤ b → length (scalar_components lines.model.now) ≤ b
  components_past b past = omega (arith, past, is.dummy)

  pub coordinates_past : length (scalar_coordinates lines.model.now) ≡ lines.dummy + 1
  coordinates_past = omega (arith, is.dummy, coordinates_count lines.model.now)

  -- a coordinate that isn't the dummy is a component's
  pub scalar_below : (a : ℕ) → a < length (scalar_coordinates lines.model.now) → a ≢ lines.dummy → a < length (scalar_components lines.model.now)
  scalar_below a inside other = omega (arith, inside, other, is.dummy, coordinates_count lines.model.now)

  pub dummy_small : lines.dummy ≤ 256
  dummy_small = omega (arith, is.dummy, valid_scalar_count lines.model.now is.valid)

  pub gauges_count : length lines.gauges ≡ length lines.model.now.groups
  gauges_count =
      ap length is.gauges ∙ length-map (enumerate_from 0 lines.model.now.groups) (gauge_line lines.model.now) ∙ length-enumerate_from 0 lines.model.now.groups
