-- Contractions of two slices of the scalar tensor along the links between partners.
use Rattle.std.specs.Prelude.{◌≡◌, ◌<◌, ◌+◌, ◌-◌, ℕ, List, [], ◌∷◌, length, get_or, slice_get, Option, Some, None, option_map}
use Rattle.std.specs.List.{insert}
use Rattle.std.proofs.Common.{refl, sym, ap, ap₂, ◌∙◌, arith}
use mathlib.Core.Path.{fun_ext}
use Rattle.exact_algebra.specs.Ring.{zero_mul}
use Rattle.exact_algebra.specs.Sums.{sum-by_place, below, below-same, below-none}
use Rattle.frac128.specs.Rational.{one_ℚ}
use Rattle.beta_poly.specs.Polynomial.{Polynomial, poly_ring, zero_poly, mul_poly, scale_poly}
use Rattle.beta_poly.proofs.Multiples.{scale_one}
use Rattle.sparse_tensor.specs.declared.links.Link.{Link}
use Rattle.sparse_tensor.specs.Tensor.{Tensor, HasValues, rank_of, value}
use Rattle.sparse_tensor.specs.Operations.{Values, joined, contracted_at}
use Rattle.model_core.specs.declared.model.Model.{Model}
use Rattle.model_core.specs.Directions.{scalar_tensor, scalar_at}
use Rattle.model_core.specs.Scalar.{Coordinate, partner, scalar_components, scalar_coordinates}
use Rattle.model_core.specs.Scalar.Coordinate.{Of}
use Rattle.model_core.specs.TermTensor.{with_coordinate, value_or}
use Rattle.term_expand.proofs.Legs.{of_four}
use Rattle.beta_formulas.specs.ScalarBeta.{FourLegs, quartic}
use Rattle.yukawa_one_loop.specs.Parts.{coordinate_at}
use Rattle.yukawa_one_loop.proofs.Coordinates.{nobody, coordinates_count, coordinate_first, coordinate_there}
use Rattle.quartic_one_loop.specs.FourLegs.{four_at}
use Rattle.quartic_one_loop.specs.LoopSums.{IsPartnerLink, ArePartnerLinks, loop_over}
use Rattle.quartic_one_loop.proofs.Adding.{four_options}

-- ---- functions of four coordinates that may be missing

-- a sum
options_sum : (n : ℕ) (f : ℕ → FourLegs) (o p q r : Option Coordinate) → below poly_ring.semiring n (λ i. four_options (f i) o p q r) ≡ four_options (λ a b c d. below poly_ring.semiring n (λ i. f i a b c d)) o p q r
options_sum n f None p q r = below-none poly_ring.semiring n _ (λ i h. refl)
options_sum n f (Some a) None q r = below-none poly_ring.semiring n _ (λ i h. refl)
options_sum n f (Some a) (Some b) None r = below-none poly_ring.semiring n _ (λ i h. refl)
options_sum n f (Some a) (Some b) (Some c) None = below-none poly_ring.semiring n _ (λ i h. refl)
options_sum n f (Some a) (Some b) (Some c) (Some d) = refl

module _ (model : Model) where
  -- L there
  abbrev quartic_options : Option Coordinate → Option Coordinate → Option Coordinate → Option Coordinate → Polynomial
  quartic_options o p q r =
      value_or zero_poly (scalar_tensor model) (with_coordinate o (with_coordinate p (with_coordinate q (with_coordinate r (Some [])))))

  -- L(a,b,e,f) L(g,h,c,d)
  abbrev product_line : Coordinate → Coordinate → Coordinate → Coordinate → FourLegs
  product_line e f g h a b c d = mul_poly (quartic model a b e f) (quartic model g h c d)

  options_product : (e f g h : Coordinate) (o p q r : Option Coordinate) → mul_poly (quartic_options o p (Some e) (Some f)) (quartic_options (Some g) (Some h) q r) ≡ four_options (product_line e f g h) o p q r
  options_product e f g h None p q r = zero_mul poly_ring.semiring (quartic_options (Some g) (Some h) q r)
  options_product e f g h (Some a) None q r = zero_mul poly_ring.semiring (quartic_options (Some g) (Some h) q r)
  options_product e f g h (Some a) (Some b) None r = poly_ring.semiring.mul_zero (quartic model a b e f)
  options_product e f g h (Some a) (Some b) (Some c) None = poly_ring.semiring.mul_zero (quartic model a b e f)
  options_product e f g h (Some a) (Some b) (Some c) (Some d) = refl

  -- ---- a product along links

  -- the component at a place, as a coordinate
  abbrev scalar : ℕ → Coordinate
  scalar i = Of (get_or (scalar_components model) i nobody)

  scalar_there : (i : ℕ) → i < length (scalar_components model) → slice_get (scalar_coordinates model) i ≡ Some (scalar i)
  scalar_there i inside =
      let count = coordinates_count model in
      coordinate_there model i (omega (arith, inside, count)) ∙ ap Some (coordinate_first model i inside)

  module _ (f g : Values) (links : List Link) (place other : ℕ)
      (left : (a b i : ℕ) → f (a ∷ b ∷ i ∷ []) ≡ scalar_at model (a ∷ b ∷ place ∷ i ∷ []))
      (right : (i c d : ℕ) → g (i ∷ c ∷ d ∷ []) ≡ scalar_at model (other ∷ i ∷ c ∷ d ∷ []))
      (are : ArePartnerLinks model (length (scalar_components model)) links)
      (e : Coordinate)
      (here : slice_get (scalar_coordinates model) place ≡ Some e)
      (there : slice_get (scalar_coordinates model) other ≡ Some (partner e)) where
    -- what a link gives
    abbrev link_term : ℕ → ℕ → ℕ → ℕ → Link → Polynomial
    link_term a b c d l = scale_poly l.value (mul_poly (f (a ∷ b ∷ l.from ∷ [])) (g (l.to ∷ c ∷ d ∷ [])))

    one_link : (a b c d i : ℕ) (l : Link) → i < length (scalar_components model) → IsPartnerLink model i l
        → link_term a b c d l ≡ four_options (product_line e (scalar i) (partner e) (partner (scalar i))) (slice_get (scalar_coordinates model) a) (slice_get (scalar_coordinates model) b) (slice_get (scalar_coordinates model) c) (slice_get (scalar_coordinates model) d)
    one_link a b c d i l inside is =
        let xs = scalar_coordinates model in
        let o = slice_get xs a in
        let p = slice_get xs b in
        let q = slice_get xs c in
        let r = slice_get xs d in
        let from : slice_get xs l.from ≡ Some (scalar i) = ap (slice_get xs) is.from_is ∙ scalar_there i inside in
        let to : slice_get xs l.to ≡ Some (partner (scalar i)) = is.to_is ∙ ap (option_map partner) (scalar_there i inside) in
        let product = mul_poly (f (a ∷ b ∷ l.from ∷ [])) (g (l.to ∷ c ∷ d ∷ [])) in
        ap (λ n. scale_poly n product) is.value_is
        ∙ scale_one product
        ∙ ap₂ mul_poly (left a b l.from ∙ ap₂ (quartic_options o p) here from) (right l.to c d ∙ ap₂ (λ x y. quartic_options x y q r) there to)
        ∙ options_product e (scalar i) (partner e) (partner (scalar i)) o p q r

    all_links : (a b c d : ℕ) → contracted_at 2 2 0 links f g (a ∷ b ∷ c ∷ d ∷ []) ≡ four_at model (loop_over model e) (a ∷ b ∷ c ∷ d ∷ [])
    unfolding joined
    all_links a b c d =
        let R = poly_ring.semiring in
        let xs = scalar_coordinates model in
        let cs = scalar_components model in
        let o = slice_get xs a in
        let p = slice_get xs b in
        let q = slice_get xs c in
        let r = slice_get xs d in
        let nothing : Link = record { from = 0; to = 0; value = one_ℚ } in
        let line = λ (i : ℕ). product_line e (scalar i) (partner e) (partner (scalar i)) in
        sum-by_place R nothing links (link_term a b c d)
        ∙ below-same R (length links) (λ i. link_term a b c d (get_or links i nothing)) (λ i. four_options (line i) o p q r) (λ i h. let count = are.count_is in one_link a b c d i (get_or links i nothing) (omega (arith, h, count)) (are.each i nothing h))
        ∙ ap (λ n. below R n (λ i. four_options (line i) o p q r)) are.count_is
        ∙ options_sum (length cs) line o p q r
        ∙ ap (λ (h : FourLegs). four_options h o p q r) (fun_ext (λ a. fun_ext (λ b. fun_ext (λ c. fun_ext (λ d. sym (sum-by_place R nobody cs (λ x. product_line e (Of x) (partner e) (partner (Of x)) a b c d)))))))

  -- the contraction of the slices at a place and at that of the partner
  pub loop_over_is : (t s u v : Tensor) (links : List Link) (place other : ℕ) → place < length (scalar_coordinates model) → slice_get (scalar_coordinates model) other ≡ option_map partner (slice_get (scalar_coordinates model) place)
      → HasValues 4 (scalar_at model) t → ArePartnerLinks model (length (scalar_components model)) links → HasValues (rank_of t - 1) (λ key. value t (insert key 2 place)) s → HasValues (rank_of t - 1) (λ key. value t (insert key 0 other)) u
      → HasValues (rank_of s + rank_of u - 2) (contracted_at (rank_of s - 1) 2 0 links (value s) (value u)) v → HasValues 4 (four_at model (loop_over model (coordinate_at model place))) v
  loop_over_is t s u v links place other inside paired has are first second contracted =
      let four = has.rank_is in
      let three : rank_of s ≡ 3 = let is = first.rank_is in omega (arith, is, four) in
      let also : rank_of u ≡ 3 = let is = second.rank_is in omega (arith, is, four) in
      let rank : rank_of s + rank_of u - 2 ≡ 4 = omega (arith, three, also) in
      let long : rank_of t - 1 ≡ 3 = omega (arith, four) in
      let here = coordinate_there model place inside in
      record {
        rank_is = contracted.rank_is ∙ rank;
        value_is =
            of_four (λ key. value v key ≡ four_at model (loop_over model (coordinate_at model place)) key) (λ a b c d.
            contracted.value_is (a ∷ b ∷ c ∷ d ∷ []) (sym rank)
            ∙ ap (λ n. contracted_at (n - 1) 2 0 links (value s) (value u) (a ∷ b ∷ c ∷ d ∷ [])) three
            ∙ all_links (value s) (value u) links place other
            (λ x y i. first.value_is (x ∷ y ∷ i ∷ []) (sym long) ∙ has.value_is (x ∷ y ∷ place ∷ i ∷ []) refl)
            (λ i x y. second.value_is (i ∷ x ∷ y ∷ []) (sym long) ∙ has.value_is (other ∷ i ∷ x ∷ y ∷ []) refl)
            are (coordinate_at model place) here (paired ∙ ap (option_map partner) here) a b c d);
      }
