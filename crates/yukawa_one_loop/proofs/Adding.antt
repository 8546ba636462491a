-- Values that add matrices to others.
use Rattle.std.specs.Prelude.{◌≡◌, ◌<◌, ◌≤◌, ◌+◌, ℕ, List, [], ◌∷◌, ◌++◌, map, take, length, get_or, Option, Some, None}
use Rattle.std.specs.List.{All}
use Rattle.std.proofs.Common.{refl, sym, subst, ap, ◌∙◌}
use Rattle.std.proofs.lemmas.List.{take_all, take_more}
use Rattle.std.proofs.lemmas.List.Elements.{All-append}
use mathlib.Core.Path.{fun_ext}
use Rattle.exact_algebra.specs.Sums.{sum, sum-nil, sum-one, sum-append}
use Rattle.frac128.specs.Rational.{ℚ}
use Rattle.beta_poly.specs.Polynomial.{Polynomial, poly_ring, zero_poly, add_poly, scale_poly, constant}
use Rattle.sparse_tensor.specs.declared.values.Value.{Value}
use Rattle.sparse_tensor.specs.Operations.{entry, gathered_at}
use Rattle.model_core.specs.declared.model.Model.{Model}
use Rattle.model_core.specs.Component.{Component}
use Rattle.model_core.specs.GaugeTwoLoop.{over_scalars}
use Rattle.model_core.specs.Scalar.{Coordinate, scalar_components}
use Rattle.model_core.specs.Scalar.Coordinate.{Of, Dummy}
use Rattle.model_core.specs.TermTensor.{fermion_coordinates, coordinates_at, value_or}
use Rattle.term_expand.proofs.Sides.{gathered-append}
use Rattle.beta_formulas.specs.YukawaBeta.{Matrix}
use Rattle.yukawa_one_loop.specs.Matrices.{entry_at, matrix_at, AddsMatrix, over_first}
use Rattle.yukawa_one_loop.specs.Parts.{coordinate_at}
use Rattle.yukawa_one_loop.proofs.Coordinates.{nobody, coordinate_first}

-- ---- matrices at coordinates

entries_combined : (h : Polynomial → Polynomial → Polynomial) (A B : Matrix) → h zero_poly zero_poly ≡ zero_poly → (cs : List Coordinate) → h (entry_at A cs) (entry_at B cs) ≡ entry_at (λ j k. h (A j k) (B j k)) cs
entries_combined h A B z [] = z
entries_combined h A B z (Dummy ∷ cs) = z
entries_combined h A B z (Of j ∷ []) = z
entries_combined h A B z (Of j ∷ Dummy ∷ cs) = z
entries_combined h A B z (Of j ∷ Of k ∷ []) = refl
entries_combined h A B z (Of j ∷ Of k ∷ c ∷ cs) = z

at_combined : (h : Polynomial → Polynomial → Polynomial) (A B : Matrix) → h zero_poly zero_poly ≡ zero_poly → (o : Option (List Coordinate)) → h (value_or zero_poly (entry_at A) o) (value_or zero_poly (entry_at B) o) ≡ value_or zero_poly (entry_at (λ j k. h (A j k) (B j k))) o
at_combined h A B z None = z
at_combined h A B z (Some cs) = entries_combined h A B z cs

entries_zero : (cs : List Coordinate) → entry_at (λ j k. zero_poly) cs ≡ zero_poly
entries_zero [] = refl
entries_zero (Dummy ∷ cs) = refl
entries_zero (Of j ∷ []) = refl
entries_zero (Of j ∷ Dummy ∷ cs) = refl
entries_zero (Of j ∷ Of k ∷ []) = refl
entries_zero (Of j ∷ Of k ∷ c ∷ cs) = refl

at_zero : (o : Option (List Coordinate)) → value_or zero_poly (entry_at (λ j k. zero_poly)) o ≡ zero_poly
at_zero None = refl
at_zero (Some cs) = entries_zero cs

module _ (model : Model) where
  -- the sum of two matrices at a key
  pub matrix_at-add : (A B : Matrix) (key : List ℕ) → add_poly (matrix_at model A key) (matrix_at model B key) ≡ matrix_at model (λ j k. add_poly (A j k) (B j k)) key
  matrix_at-add A B key =
      at_combined add_poly A B (poly_ring.semiring.add_zero zero_poly) (coordinates_at (fermion_coordinates model ∷ fermion_coordinates model ∷ []) key)

  pub matrix_at-zero : (key : List ℕ) → matrix_at model (λ j k. zero_poly) key ≡ zero_poly
  matrix_at-zero key = at_zero (coordinates_at (fermion_coordinates model ∷ fermion_coordinates model ∷ []) key)

  pub matrix_at-same : (A B : Matrix) (key : List ℕ) → ((j k : Component) → A j k ≡ B j k) → matrix_at model A key ≡ matrix_at model B key
  matrix_at-same A B key same = ap (λ m. matrix_at model m key) (fun_ext (λ j. fun_ext (λ k. same j k)))

  -- ---- what is added

  -- the same matrix
  pub adds_same : (A B : Matrix) (old new : List Value) → ((j k : Component) → A j k ≡ B j k) → AddsMatrix model A old new → AddsMatrix model B old new
  adds_same A B old new same adds = record {
    keys = adds.keys;
    sums = λ key l. adds.sums key l ∙ ap (add_poly (gathered_at (map entry old) key)) (matrix_at-same A B key same);
  }

  -- nothing
  pub adds_none : (A : Matrix) (values : List Value) → ((j k : Component) → A j k ≡ zero_poly) → AddsMatrix model A values values
  adds_none A values none = record {
    keys = λ before. before;
    sums = λ key l.
        sym (poly_ring.semiring.add_zero (gathered_at (map entry values) key))
        ∙ ap (add_poly (gathered_at (map entry values) key)) (sym (matrix_at-same A (λ j k. zero_poly) key none ∙ matrix_at-zero key));
  }

  -- two matrices one after the other
  pub adds_both : (A B : Matrix) (old now new : List Value) → AddsMatrix model A old now → AddsMatrix model B now new → AddsMatrix model (λ j k. add_poly (A j k) (B j k)) old new
  adds_both A B old now new first second = record {
    keys = λ before. second.keys (first.keys before);
    sums = λ key l.
        let p = gathered_at (map entry old) key in
        second.sums key l
        ∙ ap (λ z. add_poly z (matrix_at model B key)) (first.sums key l)
        ∙ poly_ring.semiring.add_assoc p (matrix_at model A key) (matrix_at model B key)
        ∙ ap (add_poly p) (matrix_at-add A B key);
  }

  -- values put behind others
  pub adds_behind : (A : Matrix) (old new values : List Value) → new ≡ old ++ values → All (λ v. length v.key ≡ 2) values → ((key : List ℕ) → length key ≡ 2 → gathered_at (map entry values) key ≡ matrix_at model A key) → AddsMatrix model A old new
  adds_behind A old new values is keys sums = record {
    keys = λ before. subst (All (λ v. length v.key ≡ 2)) (sym is) (All-append (λ v. length v.key ≡ 2) old values before keys);
    sums = λ key l. ap (λ vs. gathered_at (map entry vs) key) is ∙ gathered-append old values key ∙ ap (add_poly (gathered_at (map entry old) key)) (sums key l);
  }

  -- ---- sums over the first scalar components

  module _ (matrices : Coordinate → Matrix) where
    first_none : (j k : Component) → over_first 0 model matrices j k ≡ zero_poly
    first_none j k = sum-nil poly_ring.semiring (λ c. matrices (Of c) j k)

    first_more : (n : ℕ) (j k : Component) → n < length (scalar_components model) → over_first (n + 1) model matrices j k ≡ add_poly (over_first n model matrices j k) (matrices (coordinate_at model n) j k)
    first_more n j k inside =
        let R = poly_ring.semiring in
        let xs = scalar_components model in
        let x = get_or xs n nobody in
        let f = λ (c : Component). matrices (Of c) j k in
        ap (λ cs. sum R cs f) (take_more xs n nobody inside)
        ∙ sum-append R (take n xs) (x ∷ []) f
        ∙ ap (add_poly (sum R (take n xs) f)) (sum-one R x f ∙ ap (λ c. matrices c j k) (sym (coordinate_first model n inside)))

    first_all : (n : ℕ) (j k : Component) → length (scalar_components model) ≤ n → over_first n model matrices j k ≡ over_scalars model (λ b. matrices b j k)
    first_all n j k past =
        ap (λ cs. sum poly_ring.semiring cs (λ c. matrices (Of c) j k)) (take_all n (scalar_components model) past)

    pub over_none : (values : List Value) → AddsMatrix model (over_first 0 model matrices) values values
    over_none values = adds_none (over_first 0 model matrices) values first_none

    -- one component more
    pub over_more : (n : ℕ) (old now new : List Value) → n < length (scalar_components model) → AddsMatrix model (over_first n model matrices) old now → AddsMatrix model (matrices (coordinate_at model n)) now new → AddsMatrix model (over_first (n + 1) model matrices) old new
    over_more n old now new inside so_far one =
        adds_same (λ j k. add_poly (over_first n model matrices j k) (matrices (coordinate_at model n) j k)) (over_first (n + 1) model matrices) old new
        (λ j k. sym (first_more n j k inside))
        (adds_both (over_first n model matrices) (matrices (coordinate_at model n)) old now new so_far one)

    pub over_all : (n : ℕ) (old new : List Value) → length (scalar_components model) ≤ n → AddsMatrix model (over_first n model matrices) old new → AddsMatrix model (λ j k. over_scalars model (λ b. matrices b j k)) old new
    over_all n old new past =
        adds_same (over_first n model matrices) (λ j k. over_scalars model (λ b. matrices b j k)) old new (λ j k. first_all n j k past)

    -- ---- and their multiples

    pub scaled_none : (c : ℚ) (values : List Value) → AddsMatrix model (λ j k. scale_poly c (over_first 0 model matrices j k)) values values
    scaled_none c values =
        adds_none (λ j k. scale_poly c (over_first 0 model matrices j k)) values (λ j k. ap (scale_poly c) (first_none j k) ∙ poly_ring.semiring.mul_zero (constant c))

    pub scaled_more : (c : ℚ) (n : ℕ) (old now new : List Value) → n < length (scalar_components model) → AddsMatrix model (λ j k. scale_poly c (over_first n model matrices j k)) old now
        → AddsMatrix model (λ j k. scale_poly c (matrices (coordinate_at model n) j k)) now new → AddsMatrix model (λ j k. scale_poly c (over_first (n + 1) model matrices j k)) old new
    scaled_more c n old now new inside so_far one =
        let before = λ (j k : Component). over_first n model matrices j k in
        let here = λ (j k : Component). matrices (coordinate_at model n) j k in
        adds_same (λ j k. add_poly (scale_poly c (before j k)) (scale_poly c (here j k))) (λ j k. scale_poly c (over_first (n + 1) model matrices j k)) old new
        (λ j k. sym (ap (scale_poly c) (first_more n j k inside) ∙ poly_ring.semiring.mul_add (constant c) (before j k) (here j k)))
        (adds_both (λ j k. scale_poly c (before j k)) (λ j k. scale_poly c (here j k)) old now new so_far one)

    pub scaled_all : (c : ℚ) (n : ℕ) (old new : List Value) → length (scalar_components model) ≤ n → AddsMatrix model (λ j k. scale_poly c (over_first n model matrices j k)) old new
        → AddsMatrix model (λ j k. scale_poly c (over_scalars model (λ b. matrices b j k))) old new
    scaled_all c n old new past =
        adds_same (λ j k. scale_poly c (over_first n model matrices j k)) (λ j k. scale_poly c (over_scalars model (λ b. matrices b j k))) old new (λ j k. ap (scale_poly c) (first_all n j k past))
