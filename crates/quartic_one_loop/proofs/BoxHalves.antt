-- The halves of the loop of four Yukawa couplings and the whole loop, as contractions.
use Rattle.std.specs.Prelude.{◌≡◌, ◌+◌, ◌-◌, ℕ, List, [], ◌∷◌, length, slice_get, Option, Some, None, option_map}
use Rattle.std.specs.List.{insert}
use Rattle.std.proofs.Common.{refl, sym, ap, ap₂, ◌∙◌}
use Rattle.std.proofs.lemmas.Option.{slice_get-map}
use mathlib.Core.Path.{fun_ext}
use Rattle.exact_algebra.specs.Ring.{zero_mul}
use Rattle.exact_algebra.specs.Sums.{below, below-none}
use Rattle.beta_poly.specs.Polynomial.{Polynomial, poly_ring, zero_poly, mul_poly}
use Rattle.sparse_tensor.specs.declared.links.Link.{Link}
use Rattle.sparse_tensor.specs.Tensor.{Tensor, HasValues, rank_of, value}
use Rattle.sparse_tensor.specs.Operations.{contracted_at}
use Rattle.model_core.specs.declared.model.Model.{Model}
use Rattle.model_core.specs.Component.{Component, fermion_components}
use Rattle.model_core.specs.Directions.{yukawa_tensor, yukawa_at}
use Rattle.model_core.specs.GaugeTwoLoop.{conjugate_yukawa}
use Rattle.model_core.specs.Scalar.{Coordinate, scalar_coordinates}
use Rattle.model_core.specs.Scalar.Coordinate.{Of}
use Rattle.model_core.specs.TermTensor.{with_coordinate, value_or}
use Rattle.term_expand.proofs.Legs.{of_three, of_four}
use Rattle.beta_formulas.specs.ScalarBeta.{at_four}
use Rattle.beta_formulas.specs.YukawaBeta.{yukawa, conjugate}
use Rattle.yukawa_one_loop.specs.Matrices.{identity_links}
use Rattle.yukawa_one_loop.proofs.Pairs.{pair_at}
use Rattle.quartic_one_loop.specs.Boxes.{conjugate_at, half, half_from, half_to, half_from_at, half_to_at, box_from}
use Rattle.quartic_one_loop.specs.FourLegs.{four_at}
use Rattle.quartic_one_loop.proofs.IdentityContractions.{joined_identity, product_at}

-- ---- tensors at places that may have no coordinate

-- a function of two components and a scalar coordinate, 0 where one is missing
abbrev three_at : (List Coordinate → Polynomial) → Option Component → Option Component → Option Coordinate → Polynomial
three_at f j k None = zero_poly
three_at f j k (Some a) = pair_at (λ x y. f (Of x ∷ Of y ∷ a ∷ [])) j k

at_components : (f : List Coordinate → Polynomial) (j k : Option Component) (a : Option Coordinate)
    → value_or zero_poly f (with_coordinate (option_map Of j) (with_coordinate (option_map Of k) (with_coordinate a (Some [])))) ≡ three_at f j k a
at_components f None None None = refl
at_components f None None (Some a) = refl
at_components f None (Some k) None = refl
at_components f None (Some k) (Some a) = refl
at_components f (Some j) None None = refl
at_components f (Some j) None (Some a) = refl
at_components f (Some j) (Some k) None = refl
at_components f (Some j) (Some k) (Some a) = refl

module _ (model : Model) where
  yukawa_three : (j k a : ℕ) → yukawa_at model (j ∷ k ∷ a ∷ []) ≡ three_at (yukawa_tensor model) (slice_get (fermion_components model) j) (slice_get (fermion_components model) k) (slice_get (scalar_coordinates model) a)
  yukawa_three j k a =
      let cs = fermion_components model in
      let o = slice_get (scalar_coordinates model) a in
      ap₂ (λ x y. value_or zero_poly (yukawa_tensor model) (with_coordinate x (with_coordinate y (with_coordinate o (Some []))))) (slice_get-map Of cs j) (slice_get-map Of cs k)
      ∙ at_components (yukawa_tensor model) (slice_get cs j) (slice_get cs k) o

  conjugate_three : (j k a : ℕ) → conjugate_at model (j ∷ k ∷ a ∷ []) ≡ three_at (conjugate_yukawa model) (slice_get (fermion_components model) j) (slice_get (fermion_components model) k) (slice_get (scalar_coordinates model) a)
  conjugate_three j k a =
      let cs = fermion_components model in
      let o = slice_get (scalar_coordinates model) a in
      ap₂ (λ x y. value_or zero_poly (conjugate_yukawa model) (with_coordinate x (with_coordinate y (with_coordinate o (Some []))))) (slice_get-map Of cs j) (slice_get-map Of cs k)
      ∙ at_components (conjugate_yukawa model) (slice_get cs j) (slice_get cs k) o

  -- ---- halves

  -- Y[a] Yd[b] at two components, 0 where one of the four is missing
  abbrev half_at : Option Component → Option Component → Option Coordinate → Option Coordinate → Polynomial
  half_at i j None b = zero_poly
  half_at i j (Some a) None = zero_poly
  half_at i j (Some a) (Some b) = pair_at (half model a b) i j

  half_sum : (i j : Option Component) (a b : Option Coordinate)
      → below poly_ring.semiring (length (fermion_components model)) (λ k. mul_poly (three_at (yukawa_tensor model) i (slice_get (fermion_components model) k) a) (three_at (conjugate_yukawa model) (slice_get (fermion_components model) k) j b)) ≡ half_at i j a b
  half_sum i j None b =
      let cs = fermion_components model in
      below-none poly_ring.semiring (length cs) _ (λ k _. zero_mul poly_ring.semiring (three_at (conjugate_yukawa model) (slice_get cs k) j b))
  half_sum i j (Some a) None =
      let cs = fermion_components model in
      below-none poly_ring.semiring (length cs) _ (λ k _. poly_ring.semiring.mul_zero (three_at (yukawa_tensor model) i (slice_get cs k) (Some a)))
  half_sum i j (Some a) (Some b) = product_at model (yukawa model a) (conjugate model b) i j

  from_options : (i : Component) (a : Option Coordinate) (j : Option Component) (b : Option Coordinate)
      → value_or zero_poly (half_from model i) (with_coordinate a (with_coordinate (option_map Of j) (with_coordinate b (Some [])))) ≡ half_at (Some i) j a b
  from_options i None j b = refl
  from_options i (Some a) None None = refl
  from_options i (Some a) None (Some b) = refl
  from_options i (Some a) (Some j) None = refl
  from_options i (Some a) (Some j) (Some b) = refl

  to_options : (i : Component) (j : Option Component) (c d : Option Coordinate)
      → value_or zero_poly (half_to model i) (with_coordinate (option_map Of j) (with_coordinate c (with_coordinate d (Some [])))) ≡ half_at j (Some i) c d
  to_options i None None d = refl
  to_options i None (Some c) None = refl
  to_options i None (Some c) (Some d) = refl
  to_options i (Some j) None d = refl
  to_options i (Some j) (Some c) None = refl
  to_options i (Some j) (Some c) (Some d) = refl

  from_at : (i : Component) (a j b : ℕ) → half_from_at model i (a ∷ j ∷ b ∷ []) ≡ half_at (Some i) (slice_get (fermion_components model) j) (slice_get (scalar_coordinates model) a) (slice_get (scalar_coordinates model) b)
  from_at i a j b =
      let cs = fermion_components model in
      let o = slice_get (scalar_coordinates model) a in
      let r = slice_get (scalar_coordinates model) b in
      ap (λ x. value_or zero_poly (half_from model i) (with_coordinate o (with_coordinate x (with_coordinate r (Some []))))) (slice_get-map Of cs j)
      ∙ from_options i o (slice_get cs j) r

  to_at : (i : Component) (j c d : ℕ) → half_to_at model i (j ∷ c ∷ d ∷ []) ≡ half_at (slice_get (fermion_components model) j) (Some i) (slice_get (scalar_coordinates model) c) (slice_get (scalar_coordinates model) d)
  to_at i j c d =
      let cs = fermion_components model in
      let o = slice_get (scalar_coordinates model) c in
      let r = slice_get (scalar_coordinates model) d in
      ap (λ x. value_or zero_poly (half_to model i) (with_coordinate x (with_coordinate o (with_coordinate r (Some []))))) (slice_get-map Of cs j)
      ∙ to_options i (slice_get cs j) o r

  -- ---- the loop

  box_sum : (i : Component) (a b c d : Option Coordinate)
      → below poly_ring.semiring (length (fermion_components model)) (λ j. mul_poly (half_at (Some i) (slice_get (fermion_components model) j) a b) (half_at (slice_get (fermion_components model) j) (Some i) c d))
      ≡ value_or zero_poly (at_four (box_from model i)) (with_coordinate a (with_coordinate b (with_coordinate c (with_coordinate d (Some [])))))
  box_sum i None b c d =
      let cs = fermion_components model in
      below-none poly_ring.semiring (length cs) _ (λ j _. zero_mul poly_ring.semiring (half_at (slice_get cs j) (Some i) c d))
  box_sum i (Some a) None c d =
      let cs = fermion_components model in
      below-none poly_ring.semiring (length cs) _ (λ j _. zero_mul poly_ring.semiring (half_at (slice_get cs j) (Some i) c d))
  box_sum i (Some a) (Some b) None d =
      let cs = fermion_components model in
      below-none poly_ring.semiring (length cs) _ (λ j _. poly_ring.semiring.mul_zero (pair_at (half model a b) (Some i) (slice_get cs j)))
  box_sum i (Some a) (Some b) (Some c) None =
      let cs = fermion_components model in
      below-none poly_ring.semiring (length cs) _ (λ j _. poly_ring.semiring.mul_zero (pair_at (half model a b) (Some i) (slice_get cs j)))
  box_sum i (Some a) (Some b) (Some c) (Some d) = product_at model (half model a b) (half model c d) (Some i) (Some i)

  -- ---- contractions

  module _ (links : List Link) (links_are : links ≡ identity_links (length (fermion_components model))) (i : Component) where
    module _ (place : ℕ) (there : slice_get (fermion_components model) place ≡ Some i) (y yd : Tensor) (plain : HasValues 3 (yukawa_at model) y) (conjugated : HasValues 3 (conjugate_at model) yd) where
      pub is_half_from : (s u : Tensor) → HasValues (rank_of y - 1) (λ key. value y (insert key 0 place)) s → HasValues (rank_of s + rank_of yd - 2) (contracted_at (rank_of s - 1) 0 0 links (value s) (value yd)) u → HasValues 3 (half_from_at model i) u
      is_half_from s u sliced has =
          let R = poly_ring.semiring in
          let cs = fermion_components model in
          let n = length cs in
          let two : rank_of s ≡ 2 = sliced.rank_is ∙ ap (λ r. r - 1) plain.rank_is in
          let three : rank_of s + rank_of yd - 2 ≡ 3 = ap₂ (λ p q. p + q - 2) two conjugated.rank_is in
          let leg : 2 ≡ rank_of y - 1 = sym (ap (λ r. r - 1) plain.rank_is) in
          record {
            rank_is = has.rank_is ∙ three;
            value_is = of_three (λ key. value u key ≡ half_from_at model i key) (λ a j b.
                let o = slice_get (scalar_coordinates model) a in
                let r = slice_get (scalar_coordinates model) b in
                has.value_is (a ∷ j ∷ b ∷ []) (sym three)
                ∙ ap₂ (λ m ls. contracted_at (m - 1) 0 0 ls (value s) (value yd) (a ∷ j ∷ b ∷ [])) two links_are
                ∙ joined_identity 0 0 n (value s) (value yd) (a ∷ []) (j ∷ b ∷ [])
                ∙ ap (below R n) (fun_ext (λ k. ap₂ mul_poly
                (sliced.value_is (k ∷ a ∷ []) leg ∙ plain.value_is (place ∷ k ∷ a ∷ []) refl ∙ yukawa_three place k a)
                (conjugated.value_is (k ∷ j ∷ b ∷ []) refl ∙ conjugate_three k j b)))
                ∙ half_sum (slice_get cs place) (slice_get cs j) o r
                ∙ ap (λ x. half_at x (slice_get cs j) o r) there
                ∙ sym (from_at i a j b));
          }

      pub is_half_to : (s u : Tensor) → HasValues (rank_of yd - 1) (λ key. value yd (insert key 1 place)) s → HasValues (rank_of y + rank_of s - 2) (contracted_at (rank_of y - 1) 1 0 links (value y) (value s)) u → HasValues 3 (half_to_at model i) u
      is_half_to s u sliced has =
          let R = poly_ring.semiring in
          let cs = fermion_components model in
          let n = length cs in
          let two : rank_of s ≡ 2 = sliced.rank_is ∙ ap (λ r. r - 1) conjugated.rank_is in
          let three : rank_of y + rank_of s - 2 ≡ 3 = ap₂ (λ p q. p + q - 2) plain.rank_is two in
          let leg : 2 ≡ rank_of yd - 1 = sym (ap (λ r. r - 1) conjugated.rank_is) in
          record {
            rank_is = has.rank_is ∙ three;
            value_is = of_three (λ key. value u key ≡ half_to_at model i key) (λ j c d.
                let o = slice_get (scalar_coordinates model) c in
                let r = slice_get (scalar_coordinates model) d in
                has.value_is (j ∷ c ∷ d ∷ []) (sym three)
                ∙ ap₂ (λ m ls. contracted_at (m - 1) 1 0 ls (value y) (value s) (j ∷ c ∷ d ∷ [])) plain.rank_is links_are
                ∙ joined_identity 1 0 n (value y) (value s) (j ∷ c ∷ []) (d ∷ [])
                ∙ ap (below R n) (fun_ext (λ k. ap₂ mul_poly
                (plain.value_is (j ∷ k ∷ c ∷ []) refl ∙ yukawa_three j k c)
                (sliced.value_is (k ∷ d ∷ []) leg ∙ conjugated.value_is (k ∷ place ∷ d ∷ []) refl ∙ conjugate_three k place d)))
                ∙ half_sum (slice_get cs j) (slice_get cs place) o r
                ∙ ap (λ x. half_at (slice_get cs j) x o r) there
                ∙ sym (to_at i j c d));
          }

    pub is_box : (s t u : Tensor) → HasValues 3 (half_from_at model i) s → HasValues 3 (half_to_at model i) t → HasValues (rank_of s + rank_of t - 2) (contracted_at (rank_of s - 1) 1 0 links (value s) (value t)) u → HasValues 4 (four_at model (box_from model i)) u
    is_box s t u from to has =
        let R = poly_ring.semiring in
        let cs = fermion_components model in
        let n = length cs in
        let four : rank_of s + rank_of t - 2 ≡ 4 = ap₂ (λ p q. p + q - 2) from.rank_is to.rank_is in
        record {
          rank_is = has.rank_is ∙ four;
          value_is = of_four (λ key. value u key ≡ four_at model (box_from model i) key) (λ a b c d.
              has.value_is (a ∷ b ∷ c ∷ d ∷ []) (sym four)
              ∙ ap₂ (λ m ls. contracted_at (m - 1) 1 0 ls (value s) (value t) (a ∷ b ∷ c ∷ d ∷ [])) from.rank_is links_are
              ∙ joined_identity 1 0 n (value s) (value t) (a ∷ b ∷ []) (c ∷ d ∷ [])
              ∙ ap (below R n) (fun_ext (λ j. ap₂ mul_poly
              (from.value_is (a ∷ j ∷ b ∷ []) refl ∙ from_at i a j b)
              (to.value_is (j ∷ c ∷ d ∷ []) refl ∙ to_at i j c d)))
              ∙ box_sum i (slice_get (scalar_coordinates model) a) (slice_get (scalar_coordinates model) b) (slice_get (scalar_coordinates model) c) (slice_get (scalar_coordinates model) d));
        }
