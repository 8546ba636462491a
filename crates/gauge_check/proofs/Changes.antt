-- How a generator changes numbers: along its links as it is defined by its matrices.
use Rattle.std.specs.Prelude.{◌≡◌, ◌≤◌, ℕ, zero, suc, List, [], ◌∷◌, map, length, get_or, set, slice_get, Option, Some, None}
use Rattle.std.proofs.Common.{refl, sym, ap, ap₂, subst, ◌∙◌, arith}
use Rattle.std.proofs.lemmas.List.{length-set, length-map}
use Rattle.std.proofs.lemmas.Option.{slice_get_past}
use mathlib.Core.Path.{fun_ext}
use Rattle.exact_algebra.specs.Ring.{zero_mul}
use Rattle.exact_algebra.specs.Sums.{below, below-none, at_below}
use Rattle.exact_algebra.specs.Solver.{identity, var, ◌⊕◌, nought}
use Rattle.frac128.specs.Rational.{ℚ, zero_ℚ, ◌+ℚ◌, ◌*ℚ◌}
use Rattle.frac128.specs.RationalLaws.{ring_ℚ}
use Rattle.beta_poly.specs.Polynomial.{poly_ring, zero_poly, add_poly, mul_poly, constant}
use Rattle.sparse_tensor.specs.declared.links.Link.{Link}
use Rattle.sparse_tensor.specs.Tensor.{Tensor, HasValues, rank_of, value}
use Rattle.sparse_tensor.specs.Operations.{Values, projected_at}
use Rattle.sparse_tensor.proofs.Parts.{other_values}
use Rattle.model_core.specs.declared.generator.Generator.{Generator}
use Rattle.model_core.specs.declared.model.Model.{Model}
use Rattle.model_core.specs.declared.term.TermKind.{TermKind}
use Rattle.model_core.specs.declared.term.TermKind.TheVariants.{Fermion, Scalar}
use Rattle.model_core.specs.Scalar.{Coordinate, scalar_coordinates}
use Rattle.model_core.specs.TermTensor.{legs_of, fermion_coordinates, with_coordinate, coordinates_at}
use Rattle.model_core.specs.Directions.{Direction}
use Rattle.model_core.specs.Generators.{coordinate_generator}
use Rattle.model_core.specs.Invariance.{matrix_or_zero, matrix_at, acted, of_conjugate, legs_on, change}
use Rattle.term_expand.specs.Texts.{leg_count}
use Rattle.term_expand.proofs.Legs.{of_three, of_four}
use Rattle.term_expand.proofs.Projections.{constants, projected_at-dense}
use Rattle.gauge_check.specs.declared.action.Action.{Action}
use Rattle.gauge_check.specs.Actions.{AreMatrix, IsAction, leg_links, acted_along}
use Rattle.gauge_check.specs.Steps.{HasKeyNumbers}

-- as many places on each leg
abbrev SameLegs : List (List Coordinate) → List (List Coordinate) → Type 0
SameLegs [] [] = Unit {0}
SameLegs (leg ∷ legs) (other ∷ others) = (length leg ≡ length other) × SameLegs legs others
SameLegs _ _ = ⊥

-- ---- one leg

module _ (matrix : Coordinate → Coordinate → ℚ) where
  -- the sum over a leg
  abbrev over_leg : List Coordinate → ℕ → (List ℕ → ℚ) → List ℕ → ℚ
  over_leg leg p g key = below ring_ℚ.semiring (length leg) (λ x. matrix_at matrix leg x (get_or key p 0) *ℚ g (set key p x))

  along_leg : (leg : List Coordinate) (links : List Link) (p n : ℕ) (f : Values) (g : List ℕ → ℚ) → AreMatrix matrix leg links → ((key : List ℕ) → length key ≡ n → f key ≡ constant (g key)) → (key : List ℕ) → length key ≡ n → projected_at p links f key ≡ constant (over_leg leg p g key)
  along_leg leg links p n f g are same key l =
      projected_at-dense p (length leg) (length leg) links f key are.between
      ∙ ap (below poly_ring.semiring (length leg)) (fun_ext (λ x. ap₂ mul_poly (are.value x (get_or key p 0)) (same (set key p x) (length-set key p x ∙ l)) ∙ sym (constants.at_mul (matrix_at matrix leg x (get_or key p 0)) (g (set key p x)))))
      ∙ sym (at_below ring_ℚ.semiring poly_ring.semiring constant constants (length leg) (λ x. matrix_at matrix leg x (get_or key p 0) *ℚ g (set key p x)))

  -- ---- all legs

  three_sums : (a b c : ℚ) → add_poly (add_poly (add_poly zero_poly (constant a)) (constant b)) (constant c) ≡ constant (a +ℚ (b +ℚ (c +ℚ zero_ℚ)))
  three_sums a b c =
      identity poly_ring (constant a ∷ constant b ∷ constant c ∷ []) (((nought ⊕ var 0) ⊕ var 1) ⊕ var 2) (var 0 ⊕ (var 1 ⊕ (var 2 ⊕ nought))) refl
      ∙ ap (λ p. add_poly (constant a) (add_poly (constant b) (add_poly (constant c) p))) (sym constants.at_zero)
      ∙ ap (λ p. add_poly (constant a) (add_poly (constant b) p)) (sym (constants.at_add c zero_ℚ))
      ∙ ap (add_poly (constant a)) (sym (constants.at_add b (c +ℚ zero_ℚ)))
      ∙ sym (constants.at_add a (b +ℚ (c +ℚ zero_ℚ)))

  four_sums : (a b c d : ℚ) → add_poly (add_poly (add_poly (add_poly zero_poly (constant a)) (constant b)) (constant c)) (constant d) ≡ constant (a +ℚ (b +ℚ (c +ℚ (d +ℚ zero_ℚ))))
  four_sums a b c d =
      identity poly_ring (constant a ∷ constant b ∷ constant c ∷ constant d ∷ []) ((((nought ⊕ var 0) ⊕ var 1) ⊕ var 2) ⊕ var 3) (var 0 ⊕ (var 1 ⊕ (var 2 ⊕ (var 3 ⊕ nought)))) refl
      ∙ ap (λ p. add_poly (constant a) (add_poly (constant b) (add_poly (constant c) (add_poly (constant d) p)))) (sym constants.at_zero)
      ∙ ap (λ p. add_poly (constant a) (add_poly (constant b) (add_poly (constant c) p))) (sym (constants.at_add d zero_ℚ))
      ∙ ap (λ p. add_poly (constant a) (add_poly (constant b) p)) (sym (constants.at_add c (d +ℚ zero_ℚ)))
      ∙ ap (add_poly (constant a)) (sym (constants.at_add b (c +ℚ (d +ℚ zero_ℚ))))
      ∙ sym (constants.at_add a (b +ℚ (c +ℚ (d +ℚ zero_ℚ))))

  module _ (links : ℕ → List Link) (f : Values) (g : List ℕ → ℚ) where
    three_legs : (first second third : List Coordinate) → AreMatrix matrix first (links 0) → AreMatrix matrix second (links 1) → AreMatrix matrix third (links 2) → ((key : List ℕ) → length key ≡ 3 → f key ≡ constant (g key))
        → (a b c : ℕ) → acted_along links 3 f (a ∷ b ∷ c ∷ []) ≡ constant (acted matrix (first ∷ second ∷ third ∷ []) g (a ∷ b ∷ c ∷ []))
    unfolding acted_along acted
    three_legs first second third is_first is_second is_third same a b c =
        let key = a ∷ b ∷ c ∷ [] in
        ap₂ add_poly
        (ap₂ add_poly
        (ap (add_poly zero_poly) (along_leg first (links 0) 0 3 f g is_first same key refl))
        (along_leg second (links 1) 1 3 f g is_second same key refl))
        (along_leg third (links 2) 2 3 f g is_third same key refl)
        ∙ three_sums (over_leg first 0 g key) (over_leg second 1 g key) (over_leg third 2 g key)

    four_legs : (leg : List Coordinate) → AreMatrix matrix leg (links 0) → AreMatrix matrix leg (links 1) → AreMatrix matrix leg (links 2) → AreMatrix matrix leg (links 3) → ((key : List ℕ) → length key ≡ 4 → f key ≡ constant (g key))
        → (a b c d : ℕ) → acted_along links 4 f (a ∷ b ∷ c ∷ d ∷ []) ≡ constant (acted matrix (leg ∷ leg ∷ leg ∷ leg ∷ []) g (a ∷ b ∷ c ∷ d ∷ []))
    unfolding acted_along acted
    four_legs leg is_first is_second is_third is_fourth same a b c d =
        let key = a ∷ b ∷ c ∷ d ∷ [] in
        ap₂ add_poly
        (ap₂ add_poly
        (ap₂ add_poly
        (ap (add_poly zero_poly) (along_leg leg (links 0) 0 4 f g is_first same key refl))
        (along_leg leg (links 1) 1 4 f g is_second same key refl))
        (along_leg leg (links 2) 2 4 f g is_third same key refl))
        (along_leg leg (links 3) 3 4 f g is_fourth same key refl)
        ∙ four_sums (over_leg leg 0 g key) (over_leg leg 1 g key) (over_leg leg 2 g key) (over_leg leg 3 g key)

  -- ---- outside of the legs

  acted_nothing : (legs : List (List Coordinate)) (g : List ℕ → ℚ) (key : List ℕ) → ((k : List ℕ) → g k ≡ zero_ℚ) → acted matrix legs g key ≡ zero_ℚ
  unfolding acted
  acted_nothing [] g key none = refl
  acted_nothing (leg ∷ legs) g [] none = refl
  acted_nothing (leg ∷ legs) g (y ∷ key) none =
      ap₂ ◌+ℚ◌
      (below-none ring_ℚ.semiring (length leg) (λ x. matrix_at matrix leg x y *ℚ g (x ∷ key)) (λ x l. ap (λ v. matrix_at matrix leg x y *ℚ v) (none (x ∷ key)) ∙ ring_ℚ.semiring.mul_zero (matrix_at matrix leg x y)))
      (acted_nothing legs (λ rest. g (y ∷ rest)) key (λ rest. none (y ∷ rest)))
      ∙ ring_ℚ.semiring.add_zero zero_ℚ

  no_entry : (o : Option Coordinate) → matrix_or_zero matrix o None ≡ zero_ℚ
  no_entry None = refl
  no_entry (Some c) = refl

  with_none : (o : Option Coordinate) → with_coordinate o None ≡ None
  with_none None = refl
  with_none (Some c) = refl

  none_behind : (c : Coordinate) (rest : Option (List Coordinate)) → with_coordinate (Some c) rest ≡ None → rest ≡ None
  none_behind c None e = refl
  none_behind c (Some cs) e = absurd cc

  past_end : (xs : List Coordinate) (i : ℕ) → slice_get xs i ≡ None → length xs ≤ i
  past_end [] i e = omega arith
  past_end (x ∷ xs) zero e = let never : ⊥ = cc in absurd never
  past_end (x ∷ xs) (suc i) e = let rest = past_end xs i e in omega (arith, rest)

  past : (leg other : List Coordinate) (y : ℕ) → length leg ≡ length other → slice_get other y ≡ None → slice_get leg y ≡ None
  past leg other y same none = slice_get_past leg y (subst (λ n. n ≤ y) (sym same) (past_end other y none))

  module _ (leg other : List Coordinate) (legs others : List (List Coordinate)) (g : List ℕ → ℚ) (y : ℕ) (key : List ℕ) (same : length leg ≡ length other) (outside : (k : List ℕ) → coordinates_at (other ∷ others) k ≡ None → g k ≡ zero_ℚ) where
    here_outside : slice_get other y ≡ None → acted matrix (leg ∷ legs) g (y ∷ key) ≡ zero_ℚ
    unfolding acted
    here_outside none =
        ap₂ ◌+ℚ◌
        (below-none ring_ℚ.semiring (length leg) (λ x. matrix_at matrix leg x y *ℚ g (x ∷ key)) (λ x l. ap (λ v. v *ℚ g (x ∷ key)) (ap (matrix_or_zero matrix (slice_get leg x)) (past leg other y same none) ∙ no_entry (slice_get leg x)) ∙ zero_mul ring_ℚ.semiring (g (x ∷ key))))
        (acted_nothing legs (λ rest. g (y ∷ rest)) key (λ rest. outside (y ∷ rest) (ap (λ o. with_coordinate o (coordinates_at others rest)) none)))
        ∙ ring_ℚ.semiring.add_zero zero_ℚ

    later_outside : coordinates_at others key ≡ None → acted matrix legs (λ rest. g (y ∷ rest)) key ≡ zero_ℚ → acted matrix (leg ∷ legs) g (y ∷ key) ≡ zero_ℚ
    unfolding acted
    later_outside none later =
        ap₂ ◌+ℚ◌
        (below-none ring_ℚ.semiring (length leg) (λ x. matrix_at matrix leg x y *ℚ g (x ∷ key)) (λ x l. ap (λ v. matrix_at matrix leg x y *ℚ v) (outside (x ∷ key) (ap (with_coordinate (slice_get other x)) none ∙ with_none (slice_get other x))) ∙ ring_ℚ.semiring.mul_zero (matrix_at matrix leg x y)))
        later
        ∙ ring_ℚ.semiring.add_zero zero_ℚ

    first_outside : (o : Option Coordinate) → slice_get other y ≡ o → (coordinates_at others key ≡ None → acted matrix legs (λ rest. g (y ∷ rest)) key ≡ zero_ℚ) → coordinates_at (other ∷ others) (y ∷ key) ≡ None → acted matrix (leg ∷ legs) g (y ∷ key) ≡ zero_ℚ
    first_outside None e later at = here_outside e
    first_outside (Some c) e later at =
        let none : coordinates_at others key ≡ None = none_behind c (coordinates_at others key) (ap (λ o. with_coordinate o (coordinates_at others key)) (sym e) ∙ at) in
        later_outside none (later none)

  -- what is 0 outside of the legs is changed by 0 there
  acted_outside : (legs others : List (List Coordinate)) (g : List ℕ → ℚ) (key : List ℕ) → SameLegs legs others → ((k : List ℕ) → coordinates_at others k ≡ None → g k ≡ zero_ℚ) → coordinates_at others key ≡ None → acted matrix legs g key ≡ zero_ℚ
  unfolding acted
  acted_outside [] others g key same outside at = refl
  acted_outside (leg ∷ legs) [] g key same outside at = absurd same
  acted_outside (leg ∷ legs) (other ∷ others) g [] same outside at = refl
  acted_outside (leg ∷ legs) (other ∷ others) g (y ∷ key) same outside at =
      first_outside leg other legs others g y key same.0 outside (slice_get other y) refl
      (acted_outside legs others (λ rest. g (y ∷ rest)) key same.1 (λ rest none. outside (y ∷ rest) (ap (with_coordinate (slice_get other y)) none ∙ with_none (slice_get other y)))) at

-- ---- a model's legs

same_legs : (model : Model) (kind : TermKind) (side : ℕ) → SameLegs (legs_on model kind side) (legs_of model kind)
same_legs model Fermion zero = (refl, (refl, (refl, tt)))
same_legs model Fermion (suc side) =
    let fermions = fermion_coordinates model in
    (length-map fermions of_conjugate, (length-map fermions of_conjugate, (refl, tt)))
same_legs model Scalar side = (refl, (refl, (refl, (refl, tt))))

module _ (model : Model) (x : Generator) (action : Action) (is : IsAction model x action) (f : Values) (g : List ℕ → ℚ) where
  abbrev matrix_of : Coordinate → Coordinate → ℚ
  matrix_of = coordinate_generator model.groups x

  acted_is : (kind : TermKind) (side : ℕ) → ((key : List ℕ) → length key ≡ leg_count kind → f key ≡ constant (g key)) → (key : List ℕ) → length key ≡ leg_count kind
      → acted_along (leg_links action kind side) (leg_count kind) f key ≡ constant (acted matrix_of (legs_on model kind side) g key)
  acted_is Fermion zero same =
      let fermions = fermion_coordinates model in
      let scalars = scalar_coordinates model in
      of_three (λ key. acted_along (leg_links action Fermion 0) 3 f key ≡ constant (acted matrix_of (fermions ∷ fermions ∷ scalars ∷ []) g key))
      (three_legs matrix_of (leg_links action Fermion 0) f g fermions fermions scalars is.fermions is.fermions is.scalars same)
  acted_is Fermion (suc side) same =
      let others = map of_conjugate (fermion_coordinates model) in
      let scalars = scalar_coordinates model in
      of_three (λ key. acted_along (leg_links action Fermion (suc side)) 3 f key ≡ constant (acted matrix_of (others ∷ others ∷ scalars ∷ []) g key))
      (three_legs matrix_of (leg_links action Fermion (suc side)) f g others others scalars is.conjugates is.conjugates is.scalars same)
  acted_is Scalar side same =
      let leg = scalar_coordinates model in
      of_four (λ key. acted_along (leg_links action Scalar side) 4 f key ≡ constant (acted matrix_of (leg ∷ leg ∷ leg ∷ leg ∷ []) g key))
      (four_legs matrix_of (leg_links action Scalar side) f g leg is.scalars is.scalars is.scalars is.scalars same)

-- a tensor's change under a generator
pub has_change : (model : Model) (x : Generator) (action : Action) (kind : TermKind) (side : ℕ) (g : List ℕ → ℚ) (part found : Tensor) → IsAction model x action → HasKeyNumbers model kind g part
    → HasValues (rank_of part) (acted_along (leg_links action kind side) (rank_of part) (value part)) found → HasKeyNumbers model kind (acted (coordinate_generator model.groups x) (legs_on model kind side) g) found
has_change model x action kind side g part found is has moved = record {
  has =
      other_values (rank_of part) (leg_count kind) (acted_along (leg_links action kind side) (rank_of part) (value part)) (λ key. constant (acted (coordinate_generator model.groups x) (legs_on model kind side) g key)) found has.has.rank_is
      (λ key l. ap (λ n. acted_along (leg_links action kind side) n (value part) key) has.has.rank_is ∙ acted_is model x action is (value part) g kind side has.has.value_is key l)
      moved;
  outside = λ key. acted_outside (coordinate_generator model.groups x) (legs_on model kind side) (legs_of model kind) g key (same_legs model kind side) has.outside;
}

-- the change of a direction on a side
pub changes : (model : Model) (x : Generator) (kind : TermKind) (side : ℕ) (meant : Direction) (found : Tensor) → meant.kind ≡ kind
    → HasKeyNumbers model kind (acted (coordinate_generator model.groups x) (legs_on model kind side) (λ key. meant.numbers (side ∷ key))) found → HasKeyNumbers model kind (λ key. change model meant x (side ∷ key)) found
changes model x kind side meant found same has =
    subst (λ k. HasKeyNumbers model kind (acted (coordinate_generator model.groups x) (legs_on model k side) (λ key. meant.numbers (side ∷ key))) found) (sym same) has
