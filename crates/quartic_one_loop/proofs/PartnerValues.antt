-- The tensor with 1 at each scalar coordinate and its partner.
use Rattle.std.specs.Prelude.{◌≡◌, ◌<◌, ◌≤◌, ◌+◌, ℕ, zero, suc, List, [], ◌∷◌, ◌++◌, map, length, get_or, slice_get, Some}
use Rattle.std.specs.List.{All}
use Rattle.std.specs.Ordering.{nat_cmp}
use Rattle.std.proofs.Common.{refl, sym, ap, subst, ◌∙◌, arith}
use Rattle.std.proofs.lemmas.Option.{slice_get-get_or}
use Rattle.exact_algebra.specs.Kronecker.{where_same, where_then}
use Rattle.exact_algebra.specs.Sums.{sum-map, sum-by_place, below, below-at, below-none, below-same, nat_equal, where_equal, where_equal-apart}
use Rattle.exact_algebra.specs.TensorContraction.{places_cmp}
use Rattle.frac128.specs.Rational.{one_ℚ}
use Rattle.beta_poly.specs.Polynomial.{Polynomial, poly_ring, zero_poly, constant}
use Rattle.sparse_tensor.specs.declared.values.Value.{Value}
use Rattle.sparse_tensor.specs.Tensor.{Tensor, HasValues}
use Rattle.sparse_tensor.specs.Operations.{entry, gathered_at}
use Rattle.sparse_tensor.proofs.Deltas.{place_same}
use Rattle.model_core.specs.declared.model.Model.{Model}
use Rattle.model_core.specs.Scalar.{scalar_coordinates}
use Rattle.quartic_one_loop.specs.GaugePairs.{ArePartnerValues, IsPartnerValue, IsPartners}

-- a value for places that there aren't
nothing : Value
nothing = record { key = []; value = zero_poly }

module _ (model : Model) where
  pub no_values : (values : List Value) → values ≡ [] → ArePartnerValues model 0 values
  no_values values is = record {
    count_is = ap length is;
    each = λ place v there. let never : ⊥ = cc in absurd never;
  }

  -- what stands at a place of a list with one element more
  one_more : (xs : List Value) (x : Value) (place : ℕ) (v : Value) → (P : ℕ → Value → Type 0) → ((i : ℕ) (w : Value) → slice_get xs i ≡ Some w → P i w) → P (length xs) x → slice_get (xs ++ x ∷ []) place ≡ Some v → P place v
  one_more [] x zero v P each last there = let same : x ≡ v = cc in subst (P 0) same last
  one_more [] x (suc place) v P each last there = let never : ⊥ = cc in absurd never
  one_more (y ∷ xs) x zero v P each last there = each 0 v there
  one_more (y ∷ xs) x (suc place) v P each last there = one_more xs x place v (λ i. P (suc i)) (λ i. each (suc i)) last there

  pub value_more : (count : ℕ) (old new : List Value) (v : Value) → ArePartnerValues model count old → IsPartnerValue model count v → new ≡ old ++ v ∷ [] → ArePartnerValues model (count + 1) new
  value_more count old new v so_far is pushed = record {
    count_is = let now = ap length pushed ∙ longer old in let before = so_far.count_is in omega (arith, now, before);
    each = λ place w there.
        one_more old v place w (IsPartnerValue model) so_far.each (subst (λ n. IsPartnerValue model n v) (sym so_far.count_is) is)
        (ap (λ xs. slice_get xs place) (sym pushed) ∙ there);
  }
    where
      longer : (xs : List Value) → length (xs ++ v ∷ []) ≡ suc (length xs)
      longer [] = refl
      longer (x ∷ xs) = ap suc (longer xs)

  module _ (count : ℕ) (values : List Value) (are : ArePartnerValues model count values) where
    is_value : (i : ℕ) → i < count → IsPartnerValue model i (get_or values i nothing)
    is_value i inside =
        let within : i < length values = let same = are.count_is in omega (arith, inside, same) in
        are.each i (get_or values i nothing) (slice_get-get_or values i nothing within)

    -- each key has three places
    pub value_keys : All (λ v. length v.key ≡ 3) values
    value_keys i d within =
        let inside : i < count = let same = are.count_is in omega (arith, within, same) in
        let there = are.each i (get_or values i d) (slice_get-get_or values i d within) in
        ap length there.key_is

    other_of : ℕ → ℕ
    other_of i = get_or (get_or values i nothing).key 1 0

    other_is : (i : ℕ) (inside : i < count) → other_of i ≡ (is_value i inside).other
    unfolding other_of
    other_is i inside = ap (λ k. get_or k 1 0) (is_value i inside).key_is

    abbrev unit_at : ℕ → ℕ → Polynomial
    unit_at k i = where_equal poly_ring.semiring (nat_cmp k 0) (constant one_ℚ)

    abbrev row : ℕ → ℕ → ℕ → Polynomial
    row b k i = where_equal poly_ring.semiring (nat_cmp b (other_of i)) (where_equal poly_ring.semiring (nat_cmp k 0) (constant one_ℚ))

    other_way : (x y : ℕ) (p : Polynomial) → where_equal poly_ring.semiring (nat_cmp x y) p ≡ where_equal poly_ring.semiring (nat_cmp y x) p
    other_way x y p =
        where_same poly_ring.semiring (nat_cmp x y) (nat_cmp y x) p (λ h. place_same y x (sym (nat_equal x y h))) (λ h. place_same x y (sym (nat_equal y x h)))

    -- what one value gives a key
    one_value : (a b k i : ℕ) → i < count → where_equal poly_ring.semiring (places_cmp (a ∷ b ∷ k ∷ []) (get_or values i nothing).key) (get_or values i nothing).value ≡ where_equal poly_ring.semiring (nat_cmp i a) (row b k i)
    one_value a b k i inside =
        let R = poly_ring.semiring in
        let is = is_value i inside in
        let o = is.other in
        ap (λ key. where_equal R (places_cmp (a ∷ b ∷ k ∷ []) key) (get_or values i nothing).value) is.key_is
        ∙ ap (where_equal R (places_cmp (a ∷ b ∷ k ∷ []) (i ∷ o ∷ 0 ∷ []))) is.value_is
        ∙ where_then R (nat_cmp a i) (places_cmp (b ∷ k ∷ []) (o ∷ 0 ∷ [])) (constant one_ℚ)
        ∙ ap (where_equal R (nat_cmp a i))
        (where_then R (nat_cmp b o) (places_cmp (k ∷ []) (0 ∷ [])) (constant one_ℚ)
        ∙ ap (where_equal R (nat_cmp b o)) (where_then R (nat_cmp k 0) (places_cmp [] []) (constant one_ℚ))
        ∙ ap (λ x. where_equal R (nat_cmp b x) (where_equal R (nat_cmp k 0) (constant one_ℚ))) (sym (other_is i inside)))
        ∙ other_way a i (row b k i)

    all_values : (a b k : ℕ) → gathered_at (map entry values) (a ∷ b ∷ k ∷ []) ≡ below poly_ring.semiring count (λ i. where_equal poly_ring.semiring (nat_cmp i a) (row b k i))
    unfolding gathered_at
    all_values a b k =
        let R = poly_ring.semiring in
        let key = a ∷ b ∷ k ∷ [] in
        let at = λ (v : Value). where_equal R (places_cmp key v.key) v.value in
        sum-map R entry values (λ e. where_equal R (places_cmp key e.0) e.1)
        ∙ sum-by_place R nothing values at
        ∙ ap (λ n. below R n (λ i. at (get_or values i nothing))) are.count_is
        ∙ below-same R count (λ i. at (get_or values i nothing)) (λ i. where_equal R (nat_cmp i a) (row b k i)) (λ i inside. one_value a b k i inside)

    -- these values gathered
    pub are_partners : (t : Tensor) → count ≡ length (scalar_coordinates model) → HasValues 3 (gathered_at (map entry values)) t → IsPartners model t
    are_partners t all has = record {
      rank_is = has.rank_is;
      other = other_of;
      partners = λ a inside.
          let within : a < count = omega (arith, inside, all) in
          ap (slice_get (scalar_coordinates model)) (other_is a within) ∙ (is_value a within).partners;
      inside = λ a b k inside.
          let within : a < count = omega (arith, inside, all) in
          has.value_is (a ∷ b ∷ k ∷ []) refl ∙ all_values a b k ∙ below-at poly_ring.semiring count a (row b k) within;
      outside = λ a b k past.
          let beyond : count ≤ a = omega (arith, past, all) in
          has.value_is (a ∷ b ∷ k ∷ []) refl ∙ all_values a b k
          ∙ below-none poly_ring.semiring count (λ i. where_equal poly_ring.semiring (nat_cmp i a) (row b k i)) (λ i low.
          where_equal-apart poly_ring.semiring (nat_cmp i a) (row b k i) (λ e. let same = nat_equal i a e in absurd (omega (arith, same, low, beyond))));
    }
