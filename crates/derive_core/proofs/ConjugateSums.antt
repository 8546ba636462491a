-- The conjugate of the Yukawa beta tensor: sums of conjugate values at the partners of scalars.
use Rattle.std.specs.Prelude.{◌≡◌, ◌<◌, ◌≤◌, ◌+◌, ℕ, zero, suc, ⊤, List, [], ◌∷◌, ◌++◌, map, length, slice_get, Option, Some, None, option_map}
use Rattle.std.specs.List.{All}
use Rattle.std.proofs.Common.{take, get_or, subst, refl, sym, ap, ap₂, ◌∙◌, arith, Ordering, Less, Equal, Greater}
use Rattle.std.proofs.lemmas.Cmp.{nat_list_cmp_total, tied_itself}
use Rattle.std.proofs.lemmas.List.{take_more, take_all}
use Rattle.std.proofs.lemmas.Option.{slice_get_within, get_or_from_slice_get}
use Rattle.exact_algebra.specs.Formal.{coefficient-cons, coefficient-nil}
use Rattle.exact_algebra.specs.Sums.{sum-nil, sum-cons, where_equal}
use Rattle.exact_algebra.specs.Kronecker.{where_same}
use Rattle.exact_algebra.specs.TensorContraction.{places_keys, places_cmp, places_equal}
use Rattle.beta_poly.specs.Polynomial.{Polynomial, poly_ring, add_poly, zero_poly, conj_poly, conj_poly-IsSemiringMap}
use Rattle.sparse_tensor.specs.declared.values.Value.{Value}
use Rattle.sparse_tensor.specs.Tensor.{Tensor, Entries, HasValues, poly_zero_test, entries_of, value_in}
use Rattle.sparse_tensor.specs.Operations.{entry, gathered_at}
use Rattle.model_core.specs.declared.model.Model.{Model}
use Rattle.model_core.specs.Scalar.{Coordinate, scalar_coordinates, partner}
use Rattle.model_core.specs.TermTensor.{fermion_coordinates, with_coordinate, value_or}
use Rattle.model_core.specs.Valid.{IsValid}
use Rattle.model_core.proofs.CoordinateLaws.{partner_twice, partner_place, scalar_told}
use Rattle.term_expand.proofs.Legs.{of_three}
use Rattle.beta_formulas.specs.YukawaBeta.{yukawa_beta, yukawa_beta_at}
use Rattle.derive_core.specs.BlockBetas.{conjugate_beta, conjugate_beta_at}
use Rattle.quartic_one_loop.specs.Boxes.{IsConjugateValue}
use Rattle.derive_core.proofs.TensorEntries.{entry_long, value_nonzero}

same_some : {A : Type 0} (x y : A) → Some x ≡ Some y → x ≡ y
same_some x y e = cc

some_none : {A : Type 0} (x : A) → None ≡ Some x → ⊥
some_none x e = cc

key_same : (a b : List ℕ) → a ≡ b → places_cmp a b ≡ Equal
key_same a b e = ap (places_cmp a) (sym e) ∙ tied_itself nat_list_cmp_total a

-- a key of three places
three_places : (key : List ℕ) → length key ≡ 3 → key ≡ get_or key 0 0 ∷ get_or key 1 0 ∷ get_or key 2 0 ∷ []
three_places = of_three (λ key. key ≡ get_or key 0 0 ∷ get_or key 1 0 ∷ get_or key 2 0 ∷ []) (λ a b c. refl)

same_places : (j k a x y z : ℕ) → j ≡ x → k ≡ y → a ≡ z → j ∷ k ∷ a ∷ [] ≡ x ∷ y ∷ z ∷ []
same_places j k a x y z first second third = λ i. first i ∷ second i ∷ third i ∷ []

-- ---- partners of places

module _ (model : Model) (valid : IsValid model) where
  -- each place has one with the partner of its coordinate, also a place that has none
  partner_exists : (a : ℕ) → (p : ℕ) × (slice_get (scalar_coordinates model) p ≡ option_map partner (slice_get (scalar_coordinates model) a))
  partner_exists a = by_coordinate (slice_get (scalar_coordinates model) a) refl
    where
      by_coordinate : (o : Option Coordinate) → slice_get (scalar_coordinates model) a ≡ o → (p : ℕ) × (slice_get (scalar_coordinates model) p ≡ option_map partner (slice_get (scalar_coordinates model) a))
      by_coordinate None at = (a, at ∙ sym (ap (option_map partner) at))
      by_coordinate (Some c) at = let other = partner_place model valid a c at in (other.0, other.1 ∙ sym (ap (option_map partner) at))

unmapped : (o : Option Coordinate) (c : Coordinate) → option_map partner o ≡ Some c → o ≡ Some (partner c)
unmapped None c h = absurd (some_none c h)
unmapped (Some d) c h = ap Some (sym (partner_twice d) ∙ ap partner (same_some (partner d) c h))

module _ (model : Model) (valid : IsValid model) (a p b q : ℕ) (c : Coordinate) (first : slice_get (scalar_coordinates model) p ≡ option_map partner (slice_get (scalar_coordinates model) a)) (second : slice_get (scalar_coordinates model) q ≡ option_map partner (slice_get (scalar_coordinates model) b)) (at : slice_get (scalar_coordinates model) b ≡ Some c) where
  -- the partner of the partner is the place itself
  partner_there : a ≡ q → p ≡ b
  partner_there same =
      let here : slice_get (scalar_coordinates model) a ≡ Some (partner c) = ap (slice_get (scalar_coordinates model)) same ∙ second ∙ ap (option_map partner) at in
      scalar_told model valid p b c (first ∙ ap (option_map partner) here ∙ ap Some (partner_twice c)) at

  partner_back : p ≡ b → a ≡ q
  partner_back same =
      let here : slice_get (scalar_coordinates model) a ≡ Some (partner c) = unmapped (slice_get (scalar_coordinates model) a) c (sym first ∙ ap (slice_get (scalar_coordinates model)) same ∙ at) in
      scalar_told model valid a q (partner c) here (second ∙ ap (option_map partner) at)

-- ---- the places of an entry

-- the last place of a key has a coordinate
pub record IsInside (model : Model) (key : List ℕ) : Type 0 where
  pub coordinate : Coordinate
  pub at : slice_get (scalar_coordinates model) (get_or key 2 0) ≡ Some coordinate

pub inside_within : (model : Model) (key : List ℕ) → IsInside model key → get_or key 2 0 < length (scalar_coordinates model)
inside_within model key inside = slice_get_within (scalar_coordinates model) (get_or key 2 0) inside.coordinate inside.at

scalar_there : (model : Model) (o r s : Option Coordinate) → (value_or zero_poly (yukawa_beta model) (with_coordinate o (with_coordinate r (with_coordinate s (Some [])))) ≡ zero_poly → ⊥) → (c : Coordinate) × (s ≡ Some c)
scalar_there model None r s nonzero = absurd (nonzero refl)
scalar_there model (Some c) None s nonzero = absurd (nonzero refl)
scalar_there model (Some c) (Some d) None nonzero = absurd (nonzero refl)
scalar_there model (Some c) (Some d) (Some e) nonzero = (e, refl)

places_inside : (model : Model) (j k a : ℕ) → (yukawa_beta_at model (j ∷ k ∷ a ∷ []) ≡ zero_poly → ⊥) → IsInside model (j ∷ k ∷ a ∷ [])
places_inside model j k a nonzero =
    let there = scalar_there model (slice_get (fermion_coordinates model) j) (slice_get (fermion_coordinates model) k) (slice_get (scalar_coordinates model) a) nonzero in
    record { coordinate = there.0; at = there.1 }

pub entry_inside : (model : Model) (t : Tensor) (i : ℕ) (e : List ℕ × Polynomial) → HasValues 3 (yukawa_beta_at model) t → slice_get (entries_of t) i ≡ Some e → IsInside model e.0
entry_inside model t i e has found =
    let long = entry_long 3 t i e has.rank_is found in
    of_three (λ key. (yukawa_beta_at model key ≡ zero_poly → ⊥) → IsInside model key) (places_inside model) e.0 long
    (λ none. value_nonzero t i e found (has.value_is e.0 long ∙ none))

-- ---- values one by one

pub record IsConjugate (model : Model) (e : List ℕ × Polynomial) (v : Value) : Type 0 where
  pub long : length e.0 ≡ 3
  pub inside : IsInside model e.0
  pub value : IsConjugateValue model e v

abbrev pub AreConjugates : Model → Entries → List Value → Type 0
AreConjugates model [] [] = ⊤
AreConjugates model (e ∷ es) (v ∷ vs) = IsConjugate model e v × AreConjugates model es vs
AreConjugates model _ _ = ⊥

conjugates_push : (model : Model) (es : Entries) (vs : List Value) (e : List ℕ × Polynomial) (v : Value) → AreConjugates model es vs → IsConjugate model e v → AreConjugates model (es ++ e ∷ []) (vs ++ v ∷ [])
conjugates_push model [] [] e v so_far next = (next, tt)
conjugates_push model [] (w ∷ vs) e v so_far next = absurd so_far
conjugates_push model (d ∷ es) [] e v so_far next = absurd so_far
conjugates_push model (d ∷ es) (w ∷ vs) e v so_far next = (so_far.0, conjugates_push model es vs e v so_far.1 next)

pub conjugates_step : (model : Model) (es : Entries) (vs new : List Value) (i : ℕ) (e : List ℕ × Polynomial) (v : Value) → slice_get es i ≡ Some e → AreConjugates model (take i es) vs → IsConjugate model e v → new ≡ vs ++ v ∷ [] → AreConjugates model (take (i + 1) es) new
conjugates_step model es vs new i e v found so_far next is =
    let more : take (i + 1) es ≡ take i es ++ e ∷ [] = take_more es i e (slice_get_within es i e found) ∙ ap (λ d. take i es ++ d ∷ []) (get_or_from_slice_get es i e e found) in
    subst (λ xs. AreConjugates model xs new) (sym more) (subst (AreConjugates model (take i es ++ e ∷ [])) (sym is) (conjugates_push model (take i es) vs e v so_far next))

pub conjugates_end : (model : Model) (es : Entries) (vs : List Value) (i : ℕ) → length es ≤ i → AreConjugates model (take i es) vs → AreConjugates model es vs
conjugates_end model es vs i over all = subst (λ xs. AreConjugates model xs vs) (take_all i es over) all

-- each key has three places
pub conjugate_keys : (model : Model) (es : Entries) (vs : List Value) → AreConjugates model es vs → All (λ v. length v.key ≡ 3) vs
conjugate_keys model [] [] all i d within = absurd (omega (arith, within))
conjugate_keys model [] (v ∷ vs) all i d within = absurd all
conjugate_keys model (e ∷ es) [] all i d within = absurd all
conjugate_keys model (e ∷ es) (v ∷ vs) all zero d within = ap length all.0.value.key
conjugate_keys model (e ∷ es) (v ∷ vs) all (suc i) d within = conjugate_keys model es vs all.1 i d (omega arith)

-- no entries, no values
pub no_values : (model : Model) (es : Entries) (vs : List Value) → AreConjugates model es vs → es ≡ [] → vs ≡ []
no_values model [] [] all none = refl
no_values model [] (v ∷ vs) all none = absurd all
no_values model (e ∷ es) vs all none = let never : ⊥ = cc in absurd never

-- ---- sums

pub nothing_gathered : (vs : List Value) (key : List ℕ) → vs ≡ [] → gathered_at (map entry vs) key ≡ zero_poly
unfolding gathered_at
nothing_gathered vs key none =
    ap (λ xs. gathered_at (map entry xs) key) none ∙ sum-nil poly_ring.semiring (λ e. where_equal poly_ring.semiring (places_cmp key e.0) e.1)

conj_where : (o : Ordering) (p : Polynomial) → conj_poly (where_equal poly_ring.semiring o p) ≡ where_equal poly_ring.semiring o (conj_poly p)
conj_where Less p = conj_poly-IsSemiringMap.at_zero
conj_where Equal p = refl
conj_where Greater p = conj_poly-IsSemiringMap.at_zero

module _ (model : Model) (valid : IsValid model) (j k a p : ℕ) (mirror : slice_get (scalar_coordinates model) p ≡ option_map partner (slice_get (scalar_coordinates model) a)) where
  one_conjugate : (e : List ℕ × Polynomial) (v : Value) → IsConjugate model e v → where_equal poly_ring.semiring (places_cmp (j ∷ k ∷ a ∷ []) v.key) v.value ≡ conj_poly (where_equal poly_ring.semiring (places_cmp (j ∷ k ∷ p ∷ []) e.0) e.1)
  one_conjugate e v is =
      where_same poly_ring.semiring (places_cmp (j ∷ k ∷ a ∷ []) v.key) (places_cmp (j ∷ k ∷ p ∷ []) e.0) v.value to_entry to_value
      ∙ ap (where_equal poly_ring.semiring (places_cmp (j ∷ k ∷ p ∷ []) e.0)) is.value.value
      ∙ sym (conj_where (places_cmp (j ∷ k ∷ p ∷ []) e.0) e.1)
    where
      to_entry : places_cmp (j ∷ k ∷ a ∷ []) v.key ≡ Equal → places_cmp (j ∷ k ∷ p ∷ []) e.0 ≡ Equal
      to_entry h =
          let same : j ∷ k ∷ a ∷ [] ≡ get_or e.0 0 0 ∷ get_or e.0 1 0 ∷ is.value.place ∷ [] = places_equal (j ∷ k ∷ a ∷ []) v.key h ∙ is.value.key in
          let third : p ≡ get_or e.0 2 0 = partner_there model valid a p (get_or e.0 2 0) is.value.place is.inside.coordinate mirror is.value.partner_is is.inside.at (ap (λ key. get_or key 2 0) same) in
          key_same (j ∷ k ∷ p ∷ []) e.0
          (same_places j k p (get_or e.0 0 0) (get_or e.0 1 0) (get_or e.0 2 0) (ap (λ key. get_or key 0 0) same) (ap (λ key. get_or key 1 0) same) third ∙ sym (three_places e.0 is.long))

      to_value : places_cmp (j ∷ k ∷ p ∷ []) e.0 ≡ Equal → places_cmp (j ∷ k ∷ a ∷ []) v.key ≡ Equal
      to_value h =
          let same : j ∷ k ∷ p ∷ [] ≡ e.0 = places_equal (j ∷ k ∷ p ∷ []) e.0 h in
          let third : a ≡ is.value.place = partner_back model valid a p (get_or e.0 2 0) is.value.place is.inside.coordinate mirror is.value.partner_is is.inside.at (ap (λ key. get_or key 2 0) same) in
          key_same (j ∷ k ∷ a ∷ []) v.key
          (same_places j k a (get_or e.0 0 0) (get_or e.0 1 0) is.value.place (ap (λ key. get_or key 0 0) same) (ap (λ key. get_or key 1 0) same) third ∙ sym is.value.key)

  -- the sum at a key is the conjugate of the value at the partner of its scalar
  gathered_conjugates : (es : Entries) (vs : List Value) → AreConjugates model es vs → gathered_at (map entry vs) (j ∷ k ∷ a ∷ []) ≡ conj_poly (value_in es (j ∷ k ∷ p ∷ []))
  unfolding gathered_at
  gathered_conjugates [] [] all =
      sum-nil poly_ring.semiring (λ e. where_equal poly_ring.semiring (places_cmp (j ∷ k ∷ a ∷ []) e.0) e.1)
      ∙ sym (ap conj_poly (coefficient-nil places_keys poly_ring.semiring poly_zero_test (j ∷ k ∷ p ∷ [])) ∙ conj_poly-IsSemiringMap.at_zero)
  gathered_conjugates [] (v ∷ vs) all = absurd all
  gathered_conjugates (e ∷ es) [] all = absurd all
  gathered_conjugates (e ∷ es) (v ∷ vs) all =
      sum-cons poly_ring.semiring (entry v) (map entry vs) (λ e. where_equal poly_ring.semiring (places_cmp (j ∷ k ∷ a ∷ []) e.0) e.1)
      ∙ ap₂ add_poly (one_conjugate e v all.0) (gathered_conjugates es vs all.1)
      ∙ sym (conj_poly-IsSemiringMap.at_add (where_equal poly_ring.semiring (places_cmp (j ∷ k ∷ p ∷ []) e.0) e.1) (value_in es (j ∷ k ∷ p ∷ [])))
      ∙ sym (ap conj_poly (coefficient-cons places_keys poly_ring.semiring poly_zero_test e es (j ∷ k ∷ p ∷ [])))

  conjugate_at : conj_poly (yukawa_beta_at model (j ∷ k ∷ p ∷ [])) ≡ conjugate_beta_at model (j ∷ k ∷ a ∷ [])
  conjugate_at =
      ap (λ o. conj_poly (value_or zero_poly (yukawa_beta model) (with_coordinate (slice_get (fermion_coordinates model) j) (with_coordinate (slice_get (fermion_coordinates model) k) (with_coordinate o (Some [])))))) mirror
      ∙ by_coordinates (slice_get (fermion_coordinates model) j) (slice_get (fermion_coordinates model) k) (slice_get (scalar_coordinates model) a)
    where
      by_coordinates : (o r s : Option Coordinate) → conj_poly (value_or zero_poly (yukawa_beta model) (with_coordinate o (with_coordinate r (with_coordinate (option_map partner s) (Some []))))) ≡ value_or zero_poly (conjugate_beta model) (with_coordinate o (with_coordinate r (with_coordinate s (Some []))))
      by_coordinates None r s = conj_poly-IsSemiringMap.at_zero
      by_coordinates (Some c) None s = conj_poly-IsSemiringMap.at_zero
      by_coordinates (Some c) (Some d) None = conj_poly-IsSemiringMap.at_zero
      by_coordinates (Some c) (Some d) (Some e) = refl

conjugate_sum : (model : Model) (t : Tensor) (vs : List Value) → IsValid model → HasValues 3 (yukawa_beta_at model) t → AreConjugates model (entries_of t) vs → (key : List ℕ) → length key ≡ 3 → gathered_at (map entry vs) key ≡ conjugate_beta_at model key
conjugate_sum model t vs valid has all = of_three (λ key. gathered_at (map entry vs) key ≡ conjugate_beta_at model key) three
  where
    three : (j k a : ℕ) → gathered_at (map entry vs) (j ∷ k ∷ a ∷ []) ≡ conjugate_beta_at model (j ∷ k ∷ a ∷ [])
    three j k a =
        let other = partner_exists model valid a in
        gathered_conjugates model valid j k a other.0 other.1 (entries_of t) vs all
        ∙ ap conj_poly (has.value_is (j ∷ k ∷ other.0 ∷ []) refl)
        ∙ conjugate_at model valid j k a other.0 other.1

-- what is gathered is the conjugate tensor
pub has_conjugate : (model : Model) (t : Tensor) (vs : List Value) (found : Tensor) → IsValid model → HasValues 3 (yukawa_beta_at model) t → AreConjugates model (entries_of t) vs → HasValues 3 (gathered_at (map entry vs)) found → HasValues 3 (conjugate_beta_at model) found
has_conjugate model t vs found valid has all gathered =
    record {
      rank_is = gathered.rank_is;
      value_is = λ key long. gathered.value_is key long ∙ conjugate_sum model t vs valid has all key long;
    }
