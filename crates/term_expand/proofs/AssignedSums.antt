-- What the values of a term's text add up to at a key is the value of the text with the coordinates at the key's places.
use Rattle.std.specs.Prelude.{◌≡◌, ◌+◌, ◌-◌, ℕ, true, List, [], ◌∷◌, ◌++◌, map, length, replicate, slice_get, Option, Some, None}
use Rattle.std.specs.List.{AllByRecursion}
use Rattle.std.specs.Ordering.{nat_cmp}
use Rattle.std.proofs.Common.{refl, sym, ap, ◌∙◌, arith, append_assoc, length-append, Ordering, Less, Equal, Greater}
use mathlib.Core.Path.{fun_ext}
use Rattle.exact_algebra.specs.Ring.{Semiring, IsSemiringMap}
use Rattle.exact_algebra.specs.Sums.{sum, sum-map, sum-flat_map, sum-zero, sum-same_on, where_equal, at_sum}
use Rattle.exact_algebra.specs.Kronecker.{where_then}
use Rattle.exact_algebra.specs.TensorContraction.{places_cmp}
use Rattle.exact_algebra.specs.Maps.{const-IsSemiringMap}
use Rattle.frac128.specs.Rational.{ℚ, zero_ℚ, ◌*ℚ◌}
use Rattle.frac128.specs.RationalLaws.{ring_ℚ}
use Rattle.beta_poly.specs.Monomial.{monomials}
use Rattle.beta_poly.specs.Polynomial.{Polynomial, poly_ring, constant, zero_test}
use Rattle.sparse_tensor.specs.declared.values.Value.{Value}
use Rattle.sparse_tensor.specs.Operations.{entry, gathered_at}
use Rattle.model_core.specs.declared.model.Model.{Model}
use Rattle.model_core.specs.declared.content.LabelValue.{LabelValue}
use Rattle.model_core.specs.declared.term.Factor.{Factor}
use Rattle.model_core.specs.declared.term.Monomial.{Monomial}
use Rattle.model_core.specs.declared.term.Term.{Term}
use Rattle.model_core.specs.declared.term.TermKind.{TermKind}
use Rattle.model_core.specs.declared.term.TermKind.TheVariants.{Fermion, Scalar}
use Rattle.model_core.specs.Scalar.{Coordinate, scalar_coordinates}
use Rattle.model_core.specs.ComponentLists.{scalar_list}
use Rattle.model_core.specs.MonomialValue.{factors_at, given, value_at_slots, monomial_at}
use Rattle.model_core.specs.TermTensor.{Numbers, fermion_coordinates, legs_of, with_coordinate, coordinates_at, value_or, at_places}
use Rattle.model_core.specs.TermRules.{is_term}
use Rattle.term_expand.specs.declared.assignments.Assignment.{Assignment}
use Rattle.term_expand.specs.Assignments.{none_given, assignments}
use Rattle.term_expand.specs.Texts.{leg_count, key_of, value_of_assignment, monomial_values, text_values, one_way}
use Rattle.term_expand.proofs.Enumerated.{fermion_count, scalar_count, sum_over, over-same}
use Rattle.term_expand.proofs.GivenPlaces.{weight, key_weight, over_at}
use Rattle.term_expand.proofs.GivenSlots.{places_on, given_on, slots_given}
use Rattle.term_expand.proofs.AssignedSizes.{HasFields, term_fields}
pub use Rattle.term_expand.proofs.AssignedSizes.{text_values_rank}

-- ---- a monomial's assignments

module _ (R : Semiring) where
  open R use {carrier as C}

  joined_keys : (ks js ls ms : List ℕ) (c : C) → length ks ≡ length js → where_equal R (places_cmp (ks ++ ls) (js ++ ms)) c ≡ where_equal R (places_cmp ks js) (where_equal R (places_cmp ls ms) c)
  joined_keys [] [] ls ms c h = refl
  joined_keys [] (j ∷ js) ls ms c h = absurd (omega (arith, h))
  joined_keys (k ∷ ks) [] ls ms c h = absurd (omega (arith, h))
  joined_keys (k ∷ ks) (j ∷ js) ls ms c h =
      where_then R (nat_cmp k j) (places_cmp (ks ++ ls) (js ++ ms)) c ∙ ap (where_equal R (nat_cmp k j)) (joined_keys ks js ls ms c (omega (arith, h)))
      ∙ sym (where_then R (nat_cmp k j) (places_cmp ks js) (where_equal R (places_cmp ls ms) c))

module _ (R : Semiring) (W : List LabelValue → R.carrier) (model : Model) (row column legs : ℕ) (factors : List Factor) where
  open R use {carrier as C}

  -- how many dummies are left over
  abbrev left : ℕ
  left = legs - (fermion_count factors + scalar_count factors)

  abbrev at_key : List ℕ → List ℕ → List ℕ → List LabelValue → C
  at_key key gs hs slots =
      where_equal R (places_cmp key ((gs ++ hs) ++ replicate (legs - length (gs ++ hs)) (length (scalar_list model)))) (W slots)

  by_parts : (fs ss gs hs : List ℕ) (slots : List LabelValue) → length fs ≡ fermion_count factors → length gs ≡ fermion_count factors → length hs ≡ scalar_count factors
      → at_key (fs ++ ss) gs hs slots ≡ key_weight R W model row column left fs ss gs hs slots
  by_parts fs ss gs hs slots h l m =
      let dummy = length (scalar_list model) in
      let count : legs - length (gs ++ hs) ≡ left = omega (arith, length-append gs hs, l, m) in
      let same : length fs ≡ length gs = h ∙ sym l in
      ap (λ key. where_equal R (places_cmp (fs ++ ss) key) (W slots)) (append_assoc gs hs (replicate (legs - length (gs ++ hs)) dummy) ∙ ap (λ n. gs ++ (hs ++ replicate n dummy)) count)
      ∙ joined_keys R fs gs ss (hs ++ replicate left dummy) (W slots) same

  -- the sum over those with a key is the weight of the slots that the coordinates at its places give
  pub sum_assignments : (fs ss : List ℕ) → length fs ≡ fermion_count factors → length ss ≡ scalar_count factors + left
      → sum R (assignments model row column factors) (λ a. where_equal R (places_cmp (fs ++ ss) (key_of legs (length (scalar_list model)) a)) (W a.slots))
      ≡ weight R W [] (given_on model row column factors (places_on (fermion_coordinates model) fs) (places_on (scalar_coordinates model) ss))
  sum_assignments fs ss h k =
      sum_over R model row column factors none_given (at_key (fs ++ ss))
      ∙ over-same R model row column factors [] (at_key (fs ++ ss)) (key_weight R W model row column left fs ss) (λ gs hs slots l m. by_parts fs ss gs hs slots h l m)
      ∙ over_at R W model row column left factors [] fs ss refl k
      ∙ ap (weight R W []) (slots_given model row column factors fs ss)

-- ---- a monomial's value

-- the value of a monomial with one way to give the legs to its fields
abbrev monomial_way : Model → ℕ → ℕ → TermKind → Monomial → Numbers
monomial_way model row column Fermion monomial (j ∷ k ∷ a ∷ []) = monomial_at model row column (j ∷ k ∷ []) (a ∷ []) monomial
monomial_way model row column Fermion monomial _ = zero_ℚ
monomial_way model row column Scalar monomial cs = monomial_at model row column [] cs monomial

module _ (model : Model) (row column : ℕ) (monomial : Monomial) where
  abbrev slots_weight : List LabelValue → ℚ
  slots_weight slots = monomial.coefficient *ℚ factors_at model monomial.factors slots

  at_slots : (o : Option (List LabelValue)) → weight ring_ℚ.semiring slots_weight [] o ≡ value_at_slots model monomial o
  at_slots None = refl
  at_slots (Some slots) = refl

  three_legs : (x y z : Option Coordinate) → weight ring_ℚ.semiring slots_weight [] (given_on model row column monomial.factors (with_coordinate x (with_coordinate y (Some []))) (with_coordinate z (Some [])))
      ≡ value_or zero_ℚ (monomial_way model row column Fermion monomial) (with_coordinate x (with_coordinate y (with_coordinate z (Some []))))
  three_legs None y z = refl
  three_legs (Some c) None z = refl
  three_legs (Some c) (Some d) None = refl
  three_legs (Some c) (Some d) (Some e) = at_slots (given model row column monomial.factors (c ∷ d ∷ []) (e ∷ []))

  four_legs : (o : Option (List Coordinate)) → weight ring_ℚ.semiring slots_weight [] (given_on model row column monomial.factors (Some []) o) ≡ value_or zero_ℚ (monomial_way model row column Scalar monomial) o
  four_legs None = refl
  four_legs (Some cs) = at_slots (given model row column monomial.factors [] cs)

  -- what its assignments add up to at a key
  abbrev added : ℕ → List ℕ → ℚ
  added legs key =
      sum ring_ℚ.semiring (assignments model row column monomial.factors) (λ a. where_equal ring_ℚ.semiring (places_cmp key (key_of legs (length (scalar_list model)) a)) (slots_weight a.slots))

  monomial_sum : (of : TermKind) (key : List ℕ) → HasFields of monomial.factors → length key ≡ leg_count of
      → added (leg_count of) key ≡ at_places zero_ℚ (legs_of model of) (monomial_way model row column of monomial) key
  monomial_sum Fermion [] h l = absurd (omega (arith, l))
  monomial_sum Fermion (j ∷ []) h l = absurd (omega (arith, l))
  monomial_sum Fermion (j ∷ k ∷ []) h l = absurd (omega (arith, l))
  monomial_sum Fermion (j ∷ k ∷ a ∷ []) h l =
      let fields = monomial.factors in
      let fermions : 2 ≡ fermion_count fields = sym h.0 in
      let scalars : 1 ≡ scalar_count fields + (3 - (fermion_count fields + scalar_count fields)) = omega (arith, h.0, h.1) in
      sum_assignments ring_ℚ.semiring slots_weight model row column 3 fields (j ∷ k ∷ []) (a ∷ []) fermions scalars
      ∙ three_legs (slice_get (fermion_coordinates model) j) (slice_get (fermion_coordinates model) k) (slice_get (scalar_coordinates model) a)
  monomial_sum Fermion (j ∷ k ∷ a ∷ b ∷ key) h l = absurd (omega (arith, l))
  monomial_sum Scalar [] h l = absurd (omega (arith, l))
  monomial_sum Scalar (a ∷ []) h l = absurd (omega (arith, l))
  monomial_sum Scalar (a ∷ b ∷ []) h l = absurd (omega (arith, l))
  monomial_sum Scalar (a ∷ b ∷ c ∷ []) h l = absurd (omega (arith, l))
  monomial_sum Scalar (a ∷ b ∷ c ∷ d ∷ []) h l =
      let fields = monomial.factors in
      let fermions : 0 ≡ fermion_count fields = sym h.0 in
      let scalars : 4 ≡ scalar_count fields + (4 - (fermion_count fields + scalar_count fields)) = omega (arith, h.0, h.1) in
      sum_assignments ring_ℚ.semiring slots_weight model row column 4 fields [] (a ∷ b ∷ c ∷ d ∷ []) fermions scalars
      ∙ four_legs (coordinates_at (legs_of model Scalar) (a ∷ b ∷ c ∷ d ∷ []))
  monomial_sum Scalar (a ∷ b ∷ c ∷ d ∷ e ∷ key) h l = absurd (omega (arith, l))

-- ---- a text's value

at_coordinates : {A : Type 0} (xs : List A) (f : A → Numbers) (o : Option (List Coordinate)) → sum ring_ℚ.semiring xs (λ x. value_or zero_ℚ (f x) o) ≡ value_or zero_ℚ (λ cs. sum ring_ℚ.semiring xs (λ x. f x cs)) o
at_coordinates xs f None = sum-zero ring_ℚ.semiring xs
at_coordinates xs f (Some cs) = refl

monomial_ways : (model : Model) (term : Term) (row column : ℕ) (of : TermKind) (cs : List Coordinate)
    → sum ring_ℚ.semiring term.monomials (λ m. monomial_way model row column of m cs) ≡ one_way model term row column of cs
monomial_ways model term row column Fermion [] = sum-zero ring_ℚ.semiring term.monomials
monomial_ways model term row column Fermion (j ∷ []) = sum-zero ring_ℚ.semiring term.monomials
monomial_ways model term row column Fermion (j ∷ k ∷ []) = sum-zero ring_ℚ.semiring term.monomials
monomial_ways model term row column Fermion (j ∷ k ∷ a ∷ []) = refl
monomial_ways model term row column Fermion (j ∷ k ∷ a ∷ b ∷ cs) = sum-zero ring_ℚ.semiring term.monomials
monomial_ways model term row column Scalar cs = refl

-- what the assignments of all monomials add up to
text_sum : (model : Model) (term : Term) (row column : ℕ) (of : TermKind) (key : List ℕ) → AllByRecursion (λ m. HasFields of m.factors) term.monomials → length key ≡ leg_count of
    → sum ring_ℚ.semiring term.monomials (λ m. added model row column m (leg_count of) key) ≡ at_places zero_ℚ (legs_of model of) (one_way model term row column of) key
text_sum model term row column of key each l =
    sum-same_on ring_ℚ.semiring (λ m. HasFields of m.factors) term.monomials (λ m. added model row column m (leg_count of) key) (λ m. at_places zero_ℚ (legs_of model of) (monomial_way model row column of m) key) each (λ m h. monomial_sum model row column m of key h l)
    ∙ at_coordinates term.monomials (monomial_way model row column of) (coordinates_at (legs_of model of) key)
    ∙ ap (λ f. value_or zero_ℚ f (coordinates_at (legs_of model of) key)) (fun_ext (monomial_ways model term row column of))

-- ---- numbers as polynomials

constants : IsSemiringMap ring_ℚ.semiring poly_ring.semiring constant
constants = const-IsSemiringMap monomials ring_ℚ.semiring zero_test

constant_where : (o : Ordering) (c : ℚ) → where_equal poly_ring.semiring o (constant c) ≡ constant (where_equal ring_ℚ.semiring o c)
constant_where Less c = sym constants.at_zero
constant_where Equal c = refl
constant_where Greater c = sym constants.at_zero

module _ (model : Model) (term : Term) (row column : ℕ) (key : List ℕ) where
  at_value : Value → Polynomial
  at_value v = where_equal poly_ring.semiring (places_cmp key v.key) v.value

  monomial_constant : (monomial : Monomial) → sum poly_ring.semiring (monomial_values model term row column monomial) at_value ≡ constant (added model row column monomial (leg_count term.kind) key)
  unfolding at_value
  monomial_constant monomial =
      let all = assignments model row column monomial.factors in
      let order : Assignment → Ordering = λ a. places_cmp key (key_of (leg_count term.kind) (length (scalar_list model)) a) in
      let number : Assignment → ℚ = λ a. monomial.coefficient *ℚ factors_at model monomial.factors a.slots in
      sum-map poly_ring.semiring (value_of_assignment model term monomial) all at_value
      ∙ ap (sum poly_ring.semiring all) (fun_ext (λ a. constant_where (order a) (number a)))
      ∙ sym (at_sum ring_ℚ.semiring poly_ring.semiring constant constants all (λ a. where_equal ring_ℚ.semiring (order a) (number a)))

  values_constant : gathered_at (map entry (text_values model term row column)) key ≡ constant (sum ring_ℚ.semiring term.monomials (λ m. added model row column m (leg_count term.kind) key))
  unfolding gathered_at at_value
  values_constant =
      sum-map poly_ring.semiring entry (text_values model term row column) (λ e. where_equal poly_ring.semiring (places_cmp key e.0) e.1)
      ∙ sum-flat_map poly_ring.semiring (monomial_values model term row column) term.monomials at_value
      ∙ ap (sum poly_ring.semiring term.monomials) (fun_ext monomial_constant)
      ∙ sym (at_sum ring_ℚ.semiring poly_ring.semiring constant constants term.monomials (λ m. added model row column m (leg_count term.kind) key))

  -- the values of a term's text add up to its value with the coordinates at a key's places
  pub text_values_sum : is_term model term ≡ true → length key ≡ leg_count term.kind
      → gathered_at (map entry (text_values model term row column)) key ≡ constant (at_places zero_ℚ (legs_of model term.kind) (one_way model term row column term.kind) key)
  text_values_sum is l =
      values_constant ∙ ap constant (text_sum model term row column term.kind key (term_fields model term is) l)
