-- Matrices of numbers over the scalar coordinates, as tensors of three legs: products along links, sums, and outer products.
use Rattle.std.specs.Prelude.{◌≡◌, ◌<◌, ◌≤◌, ◌+◌, ◌-◌, ◌⊎◌, ℕ, zero, suc, List, [], ◌∷◌, ◌++◌, length, map, get_or, set, slice_get, Option, Some, None, option_map}
use Rattle.std.specs.List.{All, insert}
use Rattle.std.specs.Ordering.{nat_cmp}
use Rattle.std.proofs.Common.{refl, sym, ap, ap₂, subst, ◌∙◌, arith, inl, inr}
use Rattle.std.proofs.lemmas.List.{length-set}
use Rattle.std.proofs.lemmas.List.Elements.{All-append}
use Rattle.std.proofs.lemmas.Option.{slice_get_past}
use mathlib.Core.Path.{fun_ext}
use Rattle.exact_algebra.specs.Ring.{zero_mul}
use Rattle.exact_algebra.specs.Sums.{sum, sum-one, below, below-at, below-none, at_below, nat_equal, where_equal, where_equal-apart}
use Rattle.exact_algebra.specs.Kronecker.{mul_where}
use Rattle.frac128.specs.Rational.{ℚ, zero_ℚ, one_ℚ, ◌+ℚ◌, ◌*ℚ◌}
use Rattle.frac128.specs.RationalLaws.{ring_ℚ}
use Rattle.beta_poly.specs.Exponents.{AllWithin}
use Rattle.beta_poly.specs.Monomial.{one_monomial}
use Rattle.beta_poly.specs.Polynomial.{Polynomial, poly_ring, add_poly, mul_poly, scale_poly, constant}
use Rattle.beta_poly.proofs.Multiples.{scale_one}
use Rattle.beta_poly.proofs.ExponentLaws.{AllWithin-term, IsWithin-one}
use Rattle.sparse_tensor.specs.declared.links.Link.{Link}
use Rattle.sparse_tensor.specs.declared.values.Value.{Value}
use Rattle.sparse_tensor.specs.Laws.{IsBetween, link_value}
use Rattle.sparse_tensor.specs.Tensor.{Tensor, HasValues, entries_of, rank_of, value}
use Rattle.sparse_tensor.specs.Operations.{Values, contracted_at, entry, gathered_at, joined, projected_at}
use Rattle.sparse_tensor.proofs.Parts.{other_values}
use Rattle.model_core.specs.declared.group.Group.{Group}
use Rattle.model_core.specs.declared.model.Model.{Model}
use Rattle.model_core.specs.Invariance.{matrix_at, matrix_or_zero}
use Rattle.model_core.specs.Scalar.{Coordinate, partner, scalar_coordinates}
use Rattle.model_core.specs.TermTensor.{coordinate_projector}
use Rattle.term_expand.specs.Projectors.{AreProjectors, projector_or_zero}
use Rattle.term_expand.proofs.Constants.{constant_term}
use Rattle.term_expand.proofs.Legs.{of_three, of_four}
use Rattle.term_expand.proofs.Projections.{constants, projected_at-dense}
use Rattle.term_expand.proofs.Sides.{gathered-append}
use Rattle.gauge_check.specs.Actions.{AreMatrix, value_of}
use Rattle.gauge_check.proofs.Gathers.{HasPlaces, own_values, own_value_keys}
use Rattle.neighbour_laws.proofs.Members.{below-places}
use Rattle.beta_formulas.specs.ScalarBeta.{FourLegs}
use Rattle.yukawa_one_loop.specs.Matrices.{identity_links}
use Rattle.yukawa_one_loop.proofs.Bounds.{within_values}
use Rattle.yukawa_one_loop.proofs.Coordinates.{partner_inside}
use Rattle.quartic_one_loop.specs.FourLegs.{AreWithin, four_at}
use Rattle.quartic_one_loop.specs.GaugePairs.{NumberMatrix, number_at, HasNumbers, at_partner, sum_at, IsPartners}
use Rattle.quartic_one_loop.proofs.Adding.{four_options}

-- ---- matrices at coordinates that may be missing

no_row : (f : NumberMatrix) (p : Option Coordinate) → matrix_or_zero f None p ≡ zero_ℚ
no_row f p = refl

no_column : (f : NumberMatrix) (o : Option Coordinate) → matrix_or_zero f o None ≡ zero_ℚ
no_column f None = refl
no_column f (Some a) = refl

-- the same matrix
pub numbers_same : (model : Model) (f g : NumberMatrix) (t : Tensor) → ((a b : Coordinate) → f a b ≡ g a b) → HasNumbers model f t → HasNumbers model g t
numbers_same model f g t same = subst (λ h. HasNumbers model h t) (fun_ext (λ a. fun_ext (λ b. same a b)))

-- ---- products

-- numbers along links
numbers_along : (M : ℕ → ℕ → ℚ) (n p m : ℕ) (links : List Link) (f : Values) (g : List ℕ → ℚ) → All (IsBetween n n) links → ((x y : ℕ) → link_value links x y ≡ constant (M x y)) → ((key : List ℕ) → length key ≡ m → f key ≡ constant (g key))
    → (key : List ℕ) → length key ≡ m → projected_at p links f key ≡ constant (below ring_ℚ.semiring n (λ x. M x (get_or key p 0) *ℚ g (set key p x)))
numbers_along M n p m links f g between values same key l =
    projected_at-dense p n n links f key between
    ∙ ap (below poly_ring.semiring n) (fun_ext (λ x. ap₂ mul_poly (values x (get_or key p 0)) (same (set key p x) (length-set key p x ∙ l)) ∙ sym (constants.at_mul (M x (get_or key p 0)) (g (set key p x)))))
    ∙ sym (at_below ring_ℚ.semiring poly_ring.semiring constant constants n (λ x. M x (get_or key p 0) *ℚ g (set key p x)))

-- a matrix times another
abbrev pub after : Model → NumberMatrix → NumberMatrix → NumberMatrix
after model f m a b = sum ring_ℚ.semiring (scalar_coordinates model) (λ c. m c b *ℚ f a c)

module _ (model : Model) (f m : NumberMatrix) where
  after_at : (o p : Option Coordinate) → below ring_ℚ.semiring (length (scalar_coordinates model)) (λ x. matrix_or_zero m (slice_get (scalar_coordinates model) x) p *ℚ matrix_or_zero f o (slice_get (scalar_coordinates model) x)) ≡ matrix_or_zero (after model f m) o p
  after_at None p =
      let cs = scalar_coordinates model in
      below-none ring_ℚ.semiring (length cs) (λ x. matrix_or_zero m (slice_get cs x) p *ℚ matrix_or_zero f None (slice_get cs x)) (λ x l. ring_ℚ.semiring.mul_zero (matrix_or_zero m (slice_get cs x) p))
  after_at (Some a) None =
      let cs = scalar_coordinates model in
      below-none ring_ℚ.semiring (length cs) (λ x. matrix_or_zero m (slice_get cs x) None *ℚ matrix_or_zero f (Some a) (slice_get cs x))
      (λ x l. ap (λ v. v *ℚ matrix_or_zero f (Some a) (slice_get cs x)) (no_column m (slice_get cs x)) ∙ zero_mul ring_ℚ.semiring (matrix_or_zero f (Some a) (slice_get cs x)))
  after_at (Some a) (Some b) =
      below-places (λ q. matrix_or_zero m q (Some b) *ℚ matrix_or_zero f (Some a) q) (scalar_coordinates model)

  number_after : (a b k : ℕ) → below ring_ℚ.semiring (length (scalar_coordinates model)) (λ x. matrix_at m (scalar_coordinates model) x b *ℚ number_at model f (a ∷ x ∷ k ∷ [])) ≡ number_at model (after model f m) (a ∷ b ∷ k ∷ [])
  number_after a b zero = after_at (slice_get (scalar_coordinates model) a) (slice_get (scalar_coordinates model) b)
  number_after a b (suc k) =
      let cs = scalar_coordinates model in
      below-none ring_ℚ.semiring (length cs) (λ x. matrix_at m cs x b *ℚ number_at model f (a ∷ x ∷ suc k ∷ [])) (λ x l. ring_ℚ.semiring.mul_zero (matrix_at m cs x b))

  -- a projection of the second leg along the links of a matrix
  pub has_after : (links : List Link) (s t : Tensor) → AreMatrix m (scalar_coordinates model) links → HasNumbers model f s → HasValues (rank_of s) (projected_at 1 links (value s)) t → HasNumbers model (after model f m) t
  has_after links s t are has =
      let cs = scalar_coordinates model in
      other_values (rank_of s) 3 (projected_at 1 links (value s)) (λ key. constant (number_at model (after model f m) key)) t has.rank_is
      (of_three (λ key. projected_at 1 links (value s) key ≡ constant (number_at model (after model f m) key)) (λ a b k.
      numbers_along (matrix_at m cs) (length cs) 1 3 links (value s) (number_at model f) are.between are.value has.value_is (a ∷ b ∷ k ∷ []) refl
      ∙ ap constant (number_after a b k)))

-- projectors are a matrix
projector_same : (groups : List Group) (o p : Option Coordinate) → projector_or_zero groups o p ≡ matrix_or_zero (coordinate_projector groups) o p
projector_same groups None p = refl
projector_same groups (Some c) None = refl
projector_same groups (Some c) (Some d) = refl

pub projector_matrix : (groups : List Group) (leg : List Coordinate) (links : List Link) → AreProjectors groups leg links → AreMatrix (coordinate_projector groups) leg links
projector_matrix groups leg links are = record {
  between = are.between;
  value = λ x y. are.value x y ∙ ap constant (projector_same groups (slice_get leg x) (slice_get leg y));
}

-- ---- partners

in_or_out : (a n : ℕ) → (a < n) ⊎ (n ≤ a)
in_or_out a n = grind arith

scaled_one : (c : ℚ) → mul_poly (constant c) (constant one_ℚ) ≡ constant c
scaled_one c = ap (mul_poly (constant c)) constants.at_one ∙ poly_ring.semiring.mul_one (constant c)

module _ (model : Model) (m : NumberMatrix) where
  partner_cases : (o p : Option Coordinate) → matrix_or_zero m (option_map partner o) p ≡ matrix_or_zero (at_partner m) o p
  partner_cases None p = refl
  partner_cases (Some a) None = refl
  partner_cases (Some a) (Some b) = refl

  outside_number : (a b k : ℕ) → length (scalar_coordinates model) ≤ a → number_at model (at_partner m) (a ∷ b ∷ k ∷ []) ≡ zero_ℚ
  outside_number a b zero past = ap (λ o. matrix_or_zero (at_partner m) o (slice_get (scalar_coordinates model) b)) (slice_get_past (scalar_coordinates model) a past)
  outside_number a b (suc k) past = refl

  inside_number : (a b k other : ℕ) → slice_get (scalar_coordinates model) other ≡ option_map partner (slice_get (scalar_coordinates model) a)
      → mul_poly (constant (matrix_at m (scalar_coordinates model) other b)) (where_equal poly_ring.semiring (nat_cmp k 0) (constant one_ℚ)) ≡ constant (number_at model (at_partner m) (a ∷ b ∷ k ∷ []))
  inside_number a b zero other found =
      let cs = scalar_coordinates model in
      scaled_one (matrix_at m cs other b)
      ∙ ap constant (ap (λ o. matrix_or_zero m o (slice_get cs b)) found ∙ partner_cases (slice_get cs a) (slice_get cs b))
  inside_number a b (suc k) other found =
      let number = constant (matrix_at m (scalar_coordinates model) other b) in
      ap (mul_poly number) (where_equal-apart poly_ring.semiring (nat_cmp (suc k) 0) (constant one_ℚ) (λ e. let same = nat_equal (suc k) 0 e in absurd (omega (arith, same))))
      ∙ poly_ring.semiring.mul_zero number ∙ sym constants.at_zero

  module _ (links : List Link) (s : Tensor) (are : AreMatrix m (scalar_coordinates model) links) (partners : IsPartners model s) where
    partner_value : (a b k : ℕ) → projected_at 1 links (value s) (a ∷ b ∷ k ∷ []) ≡ constant (number_at model (at_partner m) (a ∷ b ∷ k ∷ []))
    partner_value a b k = projected_at-dense 1 n n links (value s) (a ∷ b ∷ k ∷ []) are.between ∙ by_place (in_or_out a n)
      where
        n : ℕ
        n = length (scalar_coordinates model)

        unit : Polynomial
        unit = where_equal poly_ring.semiring (nat_cmp k 0) (constant one_ℚ)

        by_place : (a < n) ⊎ (n ≤ a) → below poly_ring.semiring n (λ x. mul_poly (link_value links x b) (value s (a ∷ x ∷ k ∷ []))) ≡ constant (number_at model (at_partner m) (a ∷ b ∷ k ∷ []))
        by_place (inl inside) =
            let other = partners.other a in
            ap (below poly_ring.semiring n) (fun_ext (λ x. ap (mul_poly (link_value links x b)) (partners.inside a x k inside) ∙ mul_where poly_ring.semiring (nat_cmp x other) (link_value links x b) unit))
            ∙ below-at poly_ring.semiring n other (λ x. mul_poly (link_value links x b) unit) (partner_inside model a other inside (partners.partners a inside))
            ∙ ap (λ v. mul_poly v unit) (are.value other b)
            ∙ inside_number a b k other (partners.partners a inside)
        by_place (inr past) =
            below-none poly_ring.semiring n (λ x. mul_poly (link_value links x b) (value s (a ∷ x ∷ k ∷ [])))
            (λ x l. ap (mul_poly (link_value links x b)) (partners.outside a x k past) ∙ poly_ring.semiring.mul_zero (link_value links x b))
            ∙ sym (ap constant (outside_number a b k past) ∙ constants.at_zero)

    -- the partners' tensor projected along the links of a matrix
    pub has_partners : (t : Tensor) → HasValues (rank_of s) (projected_at 1 links (value s)) t → HasNumbers model (at_partner m) t
    has_partners t =
        other_values (rank_of s) 3 (projected_at 1 links (value s)) (λ key. constant (number_at model (at_partner m) key)) t partners.rank_is
        (of_three (λ key. projected_at 1 links (value s) key ≡ constant (number_at model (at_partner m) key)) partner_value)

-- ---- sums

module _ (model : Model) (f g : NumberMatrix) where
  sum_cases : (o p : Option Coordinate) → matrix_or_zero f o p +ℚ matrix_or_zero g o p ≡ matrix_or_zero (sum_at f g) o p
  sum_cases None p = ring_ℚ.semiring.add_zero zero_ℚ
  sum_cases (Some a) None = ring_ℚ.semiring.add_zero zero_ℚ
  sum_cases (Some a) (Some b) = refl

  number_sum : (a b k : ℕ) → number_at model f (a ∷ b ∷ k ∷ []) +ℚ number_at model g (a ∷ b ∷ k ∷ []) ≡ number_at model (sum_at f g) (a ∷ b ∷ k ∷ [])
  number_sum a b zero = sum_cases (slice_get (scalar_coordinates model) a) (slice_get (scalar_coordinates model) b)
  number_sum a b (suc k) = ring_ℚ.semiring.add_zero zero_ℚ

  -- the entries of two matrices together
  pub has_sum : (s t u : Tensor) (vs : List Value) → vs ≡ map value_of (entries_of s) ++ map value_of (entries_of t) → HasNumbers model f s → HasNumbers model g t → HasValues 3 (gathered_at (map entry vs)) u → HasNumbers model (sum_at f g) u
  has_sum s t u vs is first second =
      other_values 3 3 (gathered_at (map entry vs)) (λ key. constant (number_at model (sum_at f g) key)) u refl
      (of_three (λ key. gathered_at (map entry vs) key ≡ constant (number_at model (sum_at f g) key)) (λ a b k.
      let key = a ∷ b ∷ k ∷ [] in
      ap (λ ws. gathered_at (map entry ws) key) is
      ∙ gathered-append (map value_of (entries_of s)) (map value_of (entries_of t)) key
      ∙ ap₂ add_poly (own_values s key ∙ first.value_is key refl) (own_values t key ∙ second.value_is key refl)
      ∙ sym (constants.at_add (number_at model f key) (number_at model g key))
      ∙ ap constant (number_sum a b k)))

-- their keys
pub sum_keys : (s t : Tensor) (vs : List Value) → vs ≡ map value_of (entries_of s) ++ map value_of (entries_of t) → rank_of s ≡ 3 → rank_of t ≡ 3 → All (HasPlaces 3) vs
sum_keys s t vs is first second =
    subst (All (HasPlaces 3)) (sym is)
    (All-append (HasPlaces 3) (map value_of (entries_of s)) (map value_of (entries_of t))
    (subst (λ n. All (HasPlaces n) (map value_of (entries_of s))) first (own_value_keys s))
    (subst (λ n. All (HasPlaces n) (map value_of (entries_of t))) second (own_value_keys t)))

-- ---- bounds

-- a number has no symbol
pub constant_within : (n : ℕ) (c : ℚ) → AllWithin n (constant c)
constant_within n c = subst (AllWithin n) (constant_term c) (AllWithin-term n one_monomial c (IsWithin-one n))

pub numbers_within : (n : ℕ) (model : Model) (f : NumberMatrix) (t : Tensor) → HasNumbers model f t → AreWithin n t
numbers_within n model f t has =
    within_values n t (λ key l. subst (AllWithin n) (sym (has.value_is key (l ∙ has.rank_is))) (constant_within n (number_at model f key)))

-- ---- outer products

-- at the first two legs the one matrix, and at the others the other one
abbrev pub outer : NumberMatrix → NumberMatrix → FourLegs
outer f g a b c d = constant (f a b *ℚ g c d)

joined_once : (F G : Values) (a b c d : ℕ) → contracted_at 2 2 2 (identity_links 1) F G (a ∷ b ∷ c ∷ d ∷ []) ≡ mul_poly (F (a ∷ b ∷ 0 ∷ [])) (G (c ∷ d ∷ 0 ∷ []))
unfolding joined
joined_once F G a b c d =
    sum-one poly_ring.semiring (record { from = 0; to = 0; value = one_ℚ }) (λ l. scale_poly l.value (mul_poly (F (insert (a ∷ b ∷ []) 2 l.from)) (G (insert (c ∷ d ∷ []) 2 l.to))))
    ∙ scale_one (mul_poly (F (a ∷ b ∷ 0 ∷ [])) (G (c ∷ d ∷ 0 ∷ [])))

module _ (model : Model) (f g : NumberMatrix) where
  outer_cases : (o p q r : Option Coordinate) → constant (matrix_or_zero f o p *ℚ matrix_or_zero g q r) ≡ four_options (outer f g) o p q r
  outer_cases None p q r = ap constant (zero_mul ring_ℚ.semiring (matrix_or_zero g q r)) ∙ constants.at_zero
  outer_cases (Some a) None q r = ap constant (zero_mul ring_ℚ.semiring (matrix_or_zero g q r)) ∙ constants.at_zero
  outer_cases (Some a) (Some b) None r = ap constant (ring_ℚ.semiring.mul_zero (f a b)) ∙ constants.at_zero
  outer_cases (Some a) (Some b) (Some c) None = ap constant (ring_ℚ.semiring.mul_zero (f a b)) ∙ constants.at_zero
  outer_cases (Some a) (Some b) (Some c) (Some d) = refl

  outer_value : (s t : Tensor) → HasNumbers model f s → HasNumbers model g t → (a b c d : ℕ) → contracted_at 2 2 2 (identity_links 1) (value s) (value t) (a ∷ b ∷ c ∷ d ∷ []) ≡ four_at model (outer f g) (a ∷ b ∷ c ∷ d ∷ [])
  outer_value s t first second a b c d =
      let cs = scalar_coordinates model in
      joined_once (value s) (value t) a b c d
      ∙ ap₂ mul_poly (first.value_is (a ∷ b ∷ 0 ∷ []) refl) (second.value_is (c ∷ d ∷ 0 ∷ []) refl)
      ∙ sym (constants.at_mul (matrix_at f cs a b) (matrix_at g cs c d))
      ∙ outer_cases (slice_get cs a) (slice_get cs b) (slice_get cs c) (slice_get cs d)

  -- a contraction of the third legs along one link
  pub has_outer : (s t u : Tensor) (links : List Link) → links ≡ identity_links 1 → HasNumbers model f s → HasNumbers model g t → HasValues (rank_of s + rank_of t - 2) (contracted_at (rank_of s - 1) 2 2 links (value s) (value t)) u → HasValues 4 (four_at model (outer f g)) u
  has_outer s t u links is first second =
      let one = first.rank_is in
      let two = second.rank_is in
      other_values (rank_of s + rank_of t - 2) 4 (contracted_at (rank_of s - 1) 2 2 links (value s) (value t)) (four_at model (outer f g)) u (omega (arith, one, two))
      (of_four (λ key. contracted_at (rank_of s - 1) 2 2 links (value s) (value t) key ≡ four_at model (outer f g) key) (λ a b c d.
      ap₂ (λ n ls. contracted_at (n - 1) 2 2 ls (value s) (value t) (a ∷ b ∷ c ∷ d ∷ [])) one is ∙ outer_value s t first second a b c d))

pub outer_within : (n : ℕ) (model : Model) (f g : NumberMatrix) (u : Tensor) → HasValues 4 (four_at model (outer f g)) u → AreWithin n u
outer_within n model f g u has =
    within_values n u (λ key l. subst (AllWithin n) (sym (has.value_is key (l ∙ has.rank_is)))
    (of_four (λ key. AllWithin n (four_at model (outer f g) key)) (λ a b c d.
    let cs = scalar_coordinates model in
    subst (AllWithin n) (outer_cases model f g (slice_get cs a) (slice_get cs b) (slice_get cs c) (slice_get cs d)) (constant_within n (matrix_at f cs a b *ℚ matrix_at g cs c d)))
    key (l ∙ has.rank_is)))
