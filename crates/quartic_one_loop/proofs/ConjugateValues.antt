-- The conjugate of the Yukawa tensor: sums of conjugate values at the partners of scalars.
use Rattle.std.specs.Prelude.{◌≡◌, ◌<◌, ◌≤◌, ◌+◌, ℕ, zero, suc, ⊤, List, [], ◌∷◌, ◌++◌, map, length, slice_get, Option, Some, None, option_map}
use Rattle.std.specs.List.{All}
use Rattle.std.proofs.Common.{take, get_or, subst, refl, sym, ap, ap₂, ◌∙◌, arith, Ordering, Less, Equal, Greater}
use Rattle.std.proofs.lemmas.Cmp.{nat_list_cmp_total, tied_itself}
use Rattle.std.proofs.lemmas.List.{take_more, take_all}
use Rattle.std.proofs.lemmas.Option.{slice_get_within, slice_get-get_or, get_or_from_slice_get, same_Some}
use Rattle.exact_algebra.specs.Formal.{coefficient-cons, coefficient-nil}
use Rattle.exact_algebra.specs.Sums.{sum-nil, sum-cons, where_equal}
use Rattle.exact_algebra.specs.Kronecker.{where_same}
use Rattle.exact_algebra.specs.TensorContraction.{places_keys, places_cmp, places_equal}
use Rattle.beta_poly.specs.Exponents.{AllWithin}
use Rattle.beta_poly.specs.Polynomial.{Polynomial, poly_ring, add_poly, zero_poly, conj_poly, conj_poly-IsSemiringMap}
use Rattle.sparse_tensor.specs.declared.values.Value.{Value}
use Rattle.sparse_tensor.specs.Tensor.{Tensor, Entries, HasValues, poly_zero_test, entries_of, value, value_in}
use Rattle.sparse_tensor.specs.Operations.{entry, gathered_at}
use Rattle.model_core.specs.declared.model.Model.{Model}
use Rattle.model_core.specs.Directions.{yukawa_tensor, yukawa_at}
use Rattle.model_core.specs.GaugeTwoLoop.{conjugate_yukawa}
use Rattle.model_core.specs.Scalar.{Coordinate, scalar_coordinates, partner}
use Rattle.model_core.specs.Scalar.Coordinate.{Dummy}
use Rattle.model_core.specs.TermTensor.{fermion_coordinates, with_coordinate, value_or}
use Rattle.model_core.specs.Valid.{IsValid}
use Rattle.model_core.proofs.CoordinateLaws.{partner_twice, partner_place, scalar_told}
use Rattle.term_expand.proofs.Legs.{of_three}
use Rattle.gauge_two_loop.proofs.YukawaValues.{AllWithin-conj, entry_places}
use Rattle.yukawa_one_loop.proofs.Bounds.{value_within, within_values}
use Rattle.quartic_one_loop.specs.Boxes.{IsConjugate, IsConjugateValue, conjugate_at}
use Rattle.quartic_one_loop.specs.FourLegs.{IsYukawa}

some_none : {A : Type 0} (x : A) → None ≡ Some x → ⊥
some_none x e = cc

key_same : (a b : List ℕ) → a ≡ b → places_cmp a b ≡ Equal
key_same a b e = ap (places_cmp a) (sym e) ∙ tied_itself nat_list_cmp_total a

-- a key of three places
three_places : (key : List ℕ) → length key ≡ 3 → key ≡ get_or key 0 0 ∷ get_or key 1 0 ∷ get_or key 2 0 ∷ []
three_places = of_three (λ key. key ≡ get_or key 0 0 ∷ get_or key 1 0 ∷ get_or key 2 0 ∷ []) (λ a b c. refl)

same_places : (j k a x y z : ℕ) → j ≡ x → k ≡ y → a ≡ z → j ∷ k ∷ a ∷ [] ≡ x ∷ y ∷ z ∷ []
same_places j k a x y z first second third = λ i. first i ∷ second i ∷ third i ∷ []

-- ---- partners of places

module _ (model : Model) (valid : IsValid model) where
  -- each place has one with the partner of its coordinate, also a place that has none
  partner_exists : (a : ℕ) → (p : ℕ) × (slice_get (scalar_coordinates model) p ≡ option_map partner (slice_get (scalar_coordinates model) a))
  partner_exists a = by_coordinate (slice_get (scalar_coordinates model) a) refl
    where
      by_coordinate : (o : Option Coordinate) → slice_get (scalar_coordinates model) a ≡ o → (p : ℕ) × (slice_get (scalar_coordinates model) p ≡ option_map partner (slice_get (scalar_coordinates model) a))
      by_coordinate None at = (a, at ∙ sym (ap (option_map partner) at))
      by_coordinate (Some c) at = let other = partner_place model valid a c at in (other.0, other.1 ∙ sym (ap (option_map partner) at))

unmapped : (o : Option Coordinate) (c : Coordinate) → option_map partner o ≡ Some c → o ≡ Some (partner c)
unmapped None c h = absurd (some_none c h)
unmapped (Some d) c h = ap Some (sym (partner_twice d) ∙ ap partner (same_Some (partner d) c h))

module _ (model : Model) (valid : IsValid model) (a p b q : ℕ) (c : Coordinate) (first : slice_get (scalar_coordinates model) p ≡ option_map partner (slice_get (scalar_coordinates model) a)) (second : slice_get (scalar_coordinates model) q ≡ option_map partner (slice_get (scalar_coordinates model) b)) (at : slice_get (scalar_coordinates model) b ≡ Some c) where
  -- the partner of the partner is the place itself
  partner_there : a ≡ q → p ≡ b
  partner_there same =
      let here : slice_get (scalar_coordinates model) a ≡ Some (partner c) = ap (slice_get (scalar_coordinates model)) same ∙ second ∙ ap (option_map partner) at in
      scalar_told model valid p b c (first ∙ ap (option_map partner) here ∙ ap Some (partner_twice c)) at

  partner_back : p ≡ b → a ≡ q
  partner_back same =
      let here : slice_get (scalar_coordinates model) a ≡ Some (partner c) = unmapped (slice_get (scalar_coordinates model) a) c (sym first ∙ ap (slice_get (scalar_coordinates model)) same ∙ at) in
      scalar_told model valid a q (partner c) here (second ∙ ap (option_map partner) at)

-- ---- the places of an entry

-- a key of three places, of which the last has a coordinate
pub record IsInside (model : Model) (key : List ℕ) : Type 0 where
  pub long : length key ≡ 3
  pub coordinate : Coordinate
  pub at : slice_get (scalar_coordinates model) (get_or key 2 0) ≡ Some coordinate

pub inside_within : (model : Model) (key : List ℕ) → IsInside model key → get_or key 2 0 < length (scalar_coordinates model)
inside_within model key inside = slice_get_within (scalar_coordinates model) (get_or key 2 0) inside.coordinate inside.at

pub entry_inside : (model : Model) (t : Tensor) (i : ℕ) (e : List ℕ × Polynomial) → HasValues 3 (yukawa_at model) t → slice_get (entries_of t) i ≡ Some e → IsInside model e.0
entry_inside model t i e has found =
    let es = entries_of t in
    let places = entry_places model t has i e (slice_get_within es i e found) in
    let key : e.0 ≡ places.first ∷ places.second ∷ places.third ∷ [] = ap (λ d. d.0) (sym (get_or_from_slice_get es i e e found)) ∙ places.is in
    let c = get_or (scalar_coordinates model) places.third Dummy in
    record {
      long = ap length key;
      coordinate = c;
      at = ap (λ k. slice_get (scalar_coordinates model) (get_or k 2 0)) key ∙ slice_get-get_or (scalar_coordinates model) places.third Dummy places.third_within;
    }

-- ---- values one by one

pub record IsImage (model : Model) (e : List ℕ × Polynomial) (v : Value) : Type 0 where
  pub inside : IsInside model e.0
  pub value : IsConjugateValue model e v

abbrev pub AreImages : Model → Entries → List Value → Type 0
AreImages model [] [] = ⊤
AreImages model (e ∷ es) (v ∷ vs) = IsImage model e v × AreImages model es vs
AreImages model _ _ = ⊥

images_push : (model : Model) (es : Entries) (vs : List Value) (e : List ℕ × Polynomial) (v : Value) → AreImages model es vs → IsImage model e v → AreImages model (es ++ e ∷ []) (vs ++ v ∷ [])
images_push model [] [] e v so_far next = (next, tt)
images_push model [] (w ∷ vs) e v so_far next = absurd so_far
images_push model (d ∷ es) [] e v so_far next = absurd so_far
images_push model (d ∷ es) (w ∷ vs) e v so_far next = (so_far.0, images_push model es vs e v so_far.1 next)

pub images_step : (model : Model) (es : Entries) (vs new : List Value) (i : ℕ) (e : List ℕ × Polynomial) (v : Value) → slice_get es i ≡ Some e → AreImages model (take i es) vs → IsImage model e v → new ≡ vs ++ v ∷ [] → AreImages model (take (i + 1) es) new
images_step model es vs new i e v found so_far next is =
    let more : take (i + 1) es ≡ take i es ++ e ∷ [] = take_more es i e (slice_get_within es i e found) ∙ ap (λ d. take i es ++ d ∷ []) (get_or_from_slice_get es i e e found) in
    subst (λ xs. AreImages model xs new) (sym more) (subst (AreImages model (take i es ++ e ∷ [])) (sym is) (images_push model (take i es) vs e v so_far next))

pub images_end : (model : Model) (es : Entries) (vs : List Value) (i : ℕ) → length es ≤ i → AreImages model (take i es) vs → AreImages model es vs
images_end model es vs i over all = subst (λ xs. AreImages model xs vs) (take_all i es over) all

-- each key has three places
pub image_keys : (model : Model) (es : Entries) (vs : List Value) → AreImages model es vs → All {X = Value} (λ v. length v.key ≡ 3) vs
image_keys model [] [] all i d within = absurd (omega (arith, within))
image_keys model [] (v ∷ vs) all i d within = absurd all
image_keys model (e ∷ es) [] all i d within = absurd all
image_keys model (e ∷ es) (v ∷ vs) all zero d within = ap length all.0.value.key
image_keys model (e ∷ es) (v ∷ vs) all (suc i) d within = image_keys model es vs all.1 i d (omega arith)

-- ---- sums

conj_where : (o : Ordering) (p : Polynomial) → conj_poly (where_equal poly_ring.semiring o p) ≡ where_equal poly_ring.semiring o (conj_poly p)
conj_where Less p = conj_poly-IsSemiringMap.at_zero
conj_where Equal p = refl
conj_where Greater p = conj_poly-IsSemiringMap.at_zero

module _ (model : Model) (valid : IsValid model) (j k a p : ℕ) (mirror : slice_get (scalar_coordinates model) p ≡ option_map partner (slice_get (scalar_coordinates model) a)) where
  one_image : (e : List ℕ × Polynomial) (v : Value) → IsImage model e v → where_equal poly_ring.semiring (places_cmp (j ∷ k ∷ a ∷ []) v.key) v.value ≡ conj_poly (where_equal poly_ring.semiring (places_cmp (j ∷ k ∷ p ∷ []) e.0) e.1)
  one_image e v is =
      where_same poly_ring.semiring (places_cmp (j ∷ k ∷ a ∷ []) v.key) (places_cmp (j ∷ k ∷ p ∷ []) e.0) v.value to_entry to_value
      ∙ ap (where_equal poly_ring.semiring (places_cmp (j ∷ k ∷ p ∷ []) e.0)) is.value.value
      ∙ sym (conj_where (places_cmp (j ∷ k ∷ p ∷ []) e.0) e.1)
    where
      to_entry : places_cmp (j ∷ k ∷ a ∷ []) v.key ≡ Equal → places_cmp (j ∷ k ∷ p ∷ []) e.0 ≡ Equal
      to_entry h =
          let same : j ∷ k ∷ a ∷ [] ≡ get_or e.0 0 0 ∷ get_or e.0 1 0 ∷ is.value.place ∷ [] = places_equal (j ∷ k ∷ a ∷ []) v.key h ∙ is.value.key in
          let third : p ≡ get_or e.0 2 0 = partner_there model valid a p (get_or e.0 2 0) is.value.place is.inside.coordinate mirror is.value.partner_is is.inside.at (ap (λ key. get_or key 2 0) same) in
          key_same (j ∷ k ∷ p ∷ []) e.0
          (same_places j k p (get_or e.0 0 0) (get_or e.0 1 0) (get_or e.0 2 0) (ap (λ key. get_or key 0 0) same) (ap (λ key. get_or key 1 0) same) third ∙ sym (three_places e.0 is.inside.long))

      to_value : places_cmp (j ∷ k ∷ p ∷ []) e.0 ≡ Equal → places_cmp (j ∷ k ∷ a ∷ []) v.key ≡ Equal
      to_value h =
          let same : j ∷ k ∷ p ∷ [] ≡ e.0 = places_equal (j ∷ k ∷ p ∷ []) e.0 h in
          let third : a ≡ is.value.place = partner_back model valid a p (get_or e.0 2 0) is.value.place is.inside.coordinate mirror is.value.partner_is is.inside.at (ap (λ key. get_or key 2 0) same) in
          key_same (j ∷ k ∷ a ∷ []) v.key
          (same_places j k a (get_or e.0 0 0) (get_or e.0 1 0) is.value.place (ap (λ key. get_or key 0 0) same) (ap (λ key. get_or key 1 0) same) third ∙ sym is.value.key)

  -- the sum at a key is the conjugate of the value at the partner of its scalar
  gathered_images : (es : Entries) (vs : List Value) → AreImages model es vs → gathered_at (map entry vs) (j ∷ k ∷ a ∷ []) ≡ conj_poly (value_in es (j ∷ k ∷ p ∷ []))
  unfolding gathered_at
  gathered_images [] [] all =
      sum-nil poly_ring.semiring (λ e. where_equal poly_ring.semiring (places_cmp (j ∷ k ∷ a ∷ []) e.0) e.1)
      ∙ sym (ap conj_poly (coefficient-nil places_keys poly_ring.semiring poly_zero_test (j ∷ k ∷ p ∷ [])) ∙ conj_poly-IsSemiringMap.at_zero)
  gathered_images [] (v ∷ vs) all = absurd all
  gathered_images (e ∷ es) [] all = absurd all
  gathered_images (e ∷ es) (v ∷ vs) all =
      sum-cons poly_ring.semiring (entry v) (map entry vs) (λ e. where_equal poly_ring.semiring (places_cmp (j ∷ k ∷ a ∷ []) e.0) e.1)
      ∙ ap₂ add_poly (one_image e v all.0) (gathered_images es vs all.1)
      ∙ sym (conj_poly-IsSemiringMap.at_add (where_equal poly_ring.semiring (places_cmp (j ∷ k ∷ p ∷ []) e.0) e.1) (value_in es (j ∷ k ∷ p ∷ [])))
      ∙ sym (ap conj_poly (coefficient-cons places_keys poly_ring.semiring poly_zero_test e es (j ∷ k ∷ p ∷ [])))

  conjugate_there : conj_poly (yukawa_at model (j ∷ k ∷ p ∷ [])) ≡ conjugate_at model (j ∷ k ∷ a ∷ [])
  conjugate_there =
      ap (λ o. conj_poly (value_or zero_poly (yukawa_tensor model) (with_coordinate (slice_get (fermion_coordinates model) j) (with_coordinate (slice_get (fermion_coordinates model) k) (with_coordinate o (Some [])))))) mirror
      ∙ by_coordinates (slice_get (fermion_coordinates model) j) (slice_get (fermion_coordinates model) k) (slice_get (scalar_coordinates model) a)
    where
      by_coordinates : (o r s : Option Coordinate) → conj_poly (value_or zero_poly (yukawa_tensor model) (with_coordinate o (with_coordinate r (with_coordinate (option_map partner s) (Some []))))) ≡ value_or zero_poly (conjugate_yukawa model) (with_coordinate o (with_coordinate r (with_coordinate s (Some []))))
      by_coordinates None r s = conj_poly-IsSemiringMap.at_zero
      by_coordinates (Some c) None s = conj_poly-IsSemiringMap.at_zero
      by_coordinates (Some c) (Some d) None = conj_poly-IsSemiringMap.at_zero
      by_coordinates (Some c) (Some d) (Some e) = refl

module _ (model : Model) (t : Tensor) (vs : List Value) (valid : IsValid model) (yukawa : IsYukawa model t) (all : AreImages model (entries_of t) vs) where
  -- what is gathered at a key is the conjugate of a value of the Yukawa tensor, and that of the conjugate one
  conjugate_of : (key : List ℕ) → length key ≡ 3 → (p : List ℕ) × (gathered_at (map entry vs) key ≡ conj_poly (value t p))
  conjugate_of = of_three (λ key. (p : List ℕ) × (gathered_at (map entry vs) key ≡ conj_poly (value t p))) (λ j k a.
      let other = partner_exists model valid a in
      (j ∷ k ∷ other.0 ∷ [], gathered_images model valid j k a other.0 other.1 (entries_of t) vs all))

  conjugate_sum : (key : List ℕ) → length key ≡ 3 → gathered_at (map entry vs) key ≡ conjugate_at model key
  conjugate_sum = of_three (λ key. gathered_at (map entry vs) key ≡ conjugate_at model key) (λ j k a.
      let other = partner_exists model valid a in
      gathered_images model valid j k a other.0 other.1 (entries_of t) vs all
      ∙ ap conj_poly (yukawa.values.value_is (j ∷ k ∷ other.0 ∷ []) refl)
      ∙ conjugate_there model valid j k a other.0 other.1)

  -- what is gathered is the conjugate tensor
  pub is_conjugate : (found : Tensor) → HasValues 3 (gathered_at (map entry vs)) found → IsConjugate model found
  is_conjugate found gathered =
      record {
        values = record {
          rank_is = gathered.rank_is;
          value_is = λ key long. gathered.value_is key long ∙ conjugate_sum key long;
        };
        within =
            within_values 1 found (λ key l.
            let long = l ∙ gathered.rank_is in
            let from = conjugate_of key long in
            subst (AllWithin 1) (sym (gathered.value_is key long ∙ from.1)) (AllWithin-conj 1 (value t from.0) (value_within 1 t yukawa.within from.0)));
      }
