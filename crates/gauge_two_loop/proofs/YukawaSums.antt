-- The sum over the entries of a Yukawa tensor is the dense trace of Casimirs and Yukawa matrices.
use Rattle.std.proofs.Common.{◌≡◌, ℕ, suc, ◌+◌, ◌<◌, Bool, true, false, cond, List, [], ◌∷◌, map, length, get_or, Some, refl, sym, subst, ap, ap₂, ◌∙◌, arith, Ordering, Less, Equal, Greater}
use Rattle.std.specs.Prelude.{◌==◌, slice_get, option_map}
use Rattle.std.specs.List.{AllByRecursion}
use Rattle.std.specs.Ordering.{nat_cmp, ordering_then}
use Rattle.std.proofs.lemmas.Bool.Decides.{nat_tests}
use Rattle.std.proofs.lemmas.List.{length-map, length-append, get_or-map}
use Rattle.std.proofs.lemmas.Option.{slice_get-map, slice_get-get_or}
use mathlib.Core.Path.{fun_ext}
use Rattle.exact_algebra.specs.Blocks.{slice_get-append_left}
use Rattle.exact_algebra.specs.Formal.{coefficient}
use Rattle.exact_algebra.specs.Kronecker.{where_then, below-where}
use Rattle.exact_algebra.specs.Ring.{zero_mul}
use Rattle.exact_algebra.specs.Sums.{sum, sum-zero, sum-mul, sum-mul_right, sum-same_on, sum-by_place, below, below-suc, below-same, below-none, below-mul, below-sum, below-at, where_equal}
use Rattle.exact_algebra.specs.TensorContraction.{places_cmp}
use Rattle.frac128.specs.Rational.{ℚ, zero_ℚ}
use Rattle.beta_poly.specs.Polynomial.{Polynomial, poly_ring, zero_poly, add_poly, mul_poly, scale_poly, conj_poly, constant}
use Rattle.sparse_tensor.specs.Tensor.{Tensor, HasValues, entries_of, value}
use Rattle.model_core.specs.declared.group.Group.{Group}
use Rattle.model_core.specs.declared.field.Field.{Field}
use Rattle.model_core.specs.declared.model.Model.{Model}
use Rattle.model_core.specs.Component.{Component, fermion_components}
use Rattle.model_core.specs.Directions.{yukawa_tensor, yukawa_at}
use Rattle.model_core.specs.GaugeBeta.{casimir_at}
use Rattle.model_core.specs.GaugeTwoLoop.{yukawa_trace}
use Rattle.model_core.specs.Scalar.{scalar_components, scalar_coordinates}
use Rattle.model_core.specs.Scalar.Coordinate.{Of, Dummy}
use Rattle.model_core.specs.TermTensor.{fermion_coordinates, with_coordinate, value_or}
use Rattle.model_core.proofs.CoordinateLaws.{partner_twice}
use Rattle.gauge_two_loop.specs.Pieces.{share_at, entry_share, shares}
use Rattle.gauge_two_loop.proofs.YukawaValues.{entry_places}

-- ---- sums over places

-- the test for one key is a test for each place
at_key : (i j b p q r : ℕ) (x : Polynomial)
    → where_equal poly_ring.semiring (places_cmp (i ∷ j ∷ b ∷ []) (p ∷ q ∷ r ∷ [])) x
    ≡ where_equal poly_ring.semiring (nat_cmp i p) (where_equal poly_ring.semiring (nat_cmp j q) (where_equal poly_ring.semiring (nat_cmp b r) x))
at_key i j b p q r x =
    let R = poly_ring.semiring in
    where_then R (nat_cmp i p) (ordering_then (nat_cmp j q) (ordering_then (nat_cmp b r) Equal)) x
    ∙ ap (where_equal R (nat_cmp i p)) (where_then R (nat_cmp j q) (ordering_then (nat_cmp b r) Equal) x
    ∙ ap (where_equal R (nat_cmp j q)) (where_then R (nat_cmp b r) Equal x))

-- a sum over all keys with one that counts
one_key : (m n p q r : ℕ) (H : ℕ → ℕ → ℕ → Polynomial) → p < n → q < n → r < m
    → below poly_ring.semiring m (λ b. below poly_ring.semiring n (λ i. below poly_ring.semiring n (λ j. where_equal poly_ring.semiring (places_cmp (i ∷ j ∷ b ∷ []) (p ∷ q ∷ r ∷ [])) (H i j b)))) ≡ H p q r
one_key m n p q r H first second third =
    let R = poly_ring.semiring in
    let at_third = λ (b : ℕ) (x : Polynomial). where_equal R (nat_cmp b r) x in
    let inner = λ (b i : ℕ).
    ap (below R n) (fun_ext (λ j. at_key i j b p q r (H i j b)))
    ∙ below-where R n (nat_cmp i p) (λ j. where_equal R (nat_cmp j q) (at_third b (H i j b)))
    ∙ ap (where_equal R (nat_cmp i p)) (below-at R n q (λ j. at_third b (H i j b)) second) in
    ap (below R m) (fun_ext (λ b. ap (below R n) (fun_ext (λ i. inner b i)) ∙ below-at R n p (λ i. at_third b (H i q b)) first))
    ∙ below-at R m r (λ b. H p q b) third

by_recursion : {A : Type 0} (P : A → Type 0) (xs : List A) → ((i : ℕ) (d : A) → i < length xs → P (get_or xs i d)) → AllByRecursion P xs
by_recursion P [] each = tt
by_recursion P (x ∷ xs) each = (each 0 x (omega arith), by_recursion P xs (λ i d h. each (suc i) d (omega arith)))

-- ---- the sum over entries

-- what a share is where the scalar is the dummy or isn't
abbrev share_by : Bool → ℚ → Polynomial → Polynomial → Polynomial
share_by test number found other = cond test zero_poly (scale_poly number (mul_poly found other))

share_none : (test : Bool) (number : ℚ) (other : Polynomial) → share_by test number zero_poly other ≡ zero_poly
share_none true number other = refl
share_none false number other =
    ap (mul_poly (constant number)) (zero_mul poly_ring.semiring other) ∙ poly_ring.semiring.mul_zero (constant number)

share_where : (o : Ordering) (test : Bool) (number : ℚ) (found other : Polynomial) → share_by test number (where_equal poly_ring.semiring o found) other ≡ where_equal poly_ring.semiring o (share_by test number found other)
share_where Less test number found other = share_none test number other
share_where Equal test number found other = refl
share_where Greater test number found other = share_none test number other

share_sum : {A : Type 0} (es : List A) (f : A → Polynomial) (test : Bool) (number : ℚ) (other : Polynomial)
    → sum poly_ring.semiring es (λ e. share_by test number (f e) other) ≡ share_by test number (sum poly_ring.semiring es f) other
share_sum es f true number other = sum-zero poly_ring.semiring es
share_sum es f false number other =
    sum-mul poly_ring.semiring (constant number) es (λ e. mul_poly (f e) other) ∙ ap (mul_poly (constant number)) (sum-mul_right poly_ring.semiring other es f)

value_sum : (t : Tensor) (key : List ℕ) → sum poly_ring.semiring (entries_of t) (λ e. where_equal poly_ring.semiring (places_cmp key e.0) e.1) ≡ value t key
unfolding coefficient
value_sum t key = refl

-- a key of three places within bounds
record HasKey (m n : ℕ) (e : List ℕ × Polynomial) : Type 0 where
  first : ℕ
  second : ℕ
  third : ℕ
  is : e.0 ≡ first ∷ second ∷ third ∷ []
  first_within : first < n
  second_within : second < n
  third_within : third < m

module _ (casimirs : List ℚ) (dummy : ℕ) (t : Tensor) where
  -- the share at a key of the value that the tensor has there
  abbrev share_there : ℕ → ℕ → ℕ → Polynomial
  share_there i j b = share_at casimirs dummy t i j b (value t (i ∷ j ∷ b ∷ []))

  -- an entry's share at a key, where it has that key
  abbrev share_if : List ℕ × Polynomial → ℕ → ℕ → ℕ → Polynomial
  share_if e i j b =
      where_equal poly_ring.semiring (places_cmp (i ∷ j ∷ b ∷ []) e.0) (share_at casimirs dummy t i j b e.1)

  -- an entry's share as a sum over all keys
  entry_expanded : (m n : ℕ) (e : List ℕ × Polynomial) → HasKey m n e
      → entry_share casimirs dummy t e ≡ below poly_ring.semiring m (λ b. below poly_ring.semiring n (λ i. below poly_ring.semiring n (λ j. share_if e i j b)))
  entry_expanded m n e key =
      let R = poly_ring.semiring in
      let claim : List ℕ → Type 0 = λ ks. entry_share casimirs dummy t (ks, e.1) ≡ below R m (λ b. below R n (λ i. below R n (λ j. share_if (ks, e.1) i j b))) in
      subst claim (sym key.is) (sym (one_key m n key.first key.second key.third (λ i j b. share_at casimirs dummy t i j b e.1) key.first_within key.second_within key.third_within))

  -- the sum over the entries at one key
  entries_at : (i j b : ℕ) → sum poly_ring.semiring (entries_of t) (λ e. share_if e i j b) ≡ share_there i j b
  entries_at i j b =
      let R = poly_ring.semiring in
      let key = i ∷ j ∷ b ∷ [] in
      let number = get_or casimirs i zero_ℚ in
      let other = conj_poly (value t (j ∷ i ∷ b ∷ [])) in
      ap (sum R (entries_of t)) (fun_ext (λ e. sym (share_where (places_cmp key e.0) (b == dummy) number e.1 other)))
      ∙ share_sum (entries_of t) (λ e. where_equal R (places_cmp key e.0) e.1) (b == dummy) number other
      ∙ ap (λ v. share_by (b == dummy) number v other) (value_sum t key)

  shares-dense : (m n : ℕ) → AllByRecursion (HasKey m n) (entries_of t)
      → shares casimirs dummy t (entries_of t) ≡ below poly_ring.semiring m (λ b. below poly_ring.semiring n (λ i. below poly_ring.semiring n (λ j. share_there i j b)))
  shares-dense m n keys =
      let R = poly_ring.semiring in
      let es = entries_of t in
      sum-same_on R (HasKey m n) es (entry_share casimirs dummy t) _ keys (entry_expanded m n)
      ∙ sym (below-sum R m es (λ b e. below R n (λ i. below R n (λ j. share_if e i j b))))
      ∙ ap (below R m) (fun_ext (λ b.
      sym (below-sum R n es (λ i e. below R n (λ j. share_if e i j b)))
      ∙ ap (below R n) (fun_ext (λ i.
      sym (below-sum R n es (λ j e. share_if e i j b))
      ∙ ap (below R n) (fun_ext (λ j. entries_at i j b))))))

-- ---- the dense trace

no_field : Field
no_field = record { name = []; generations = 0; charge = zero_ℚ; reps = []; real = false }

nobody : Component
nobody = record { field = no_field; conj = false; generation = 0; values = [] }

module _ (model : Model) (k : ℕ × Group) (t : Tensor) (has : HasValues 3 (yukawa_at model) t) where
  abbrev fermions : List Component
  fermions = fermion_components model

  abbrev scalars : List Component
  scalars = scalar_components model

  abbrev casimirs_of : List ℚ
  casimirs_of = map (casimir_at k.1 k.0) (fermion_components model)

  abbrev number : ℕ → ℚ
  number i = get_or (map (casimir_at k.1 k.0) (fermion_components model)) i zero_ℚ

  fermion_there : (i : ℕ) → i < length (fermion_components model) → slice_get (fermion_coordinates model) i ≡ Some (Of (get_or (fermion_components model) i nobody))
  fermion_there i h = slice_get-map Of (fermion_components model) i ∙ ap (option_map Of) (slice_get-get_or (fermion_components model) i nobody h)

  scalar_there : (b : ℕ) → b < length (scalar_components model) → slice_get (scalar_coordinates model) b ≡ Some (Of (get_or (scalar_components model) b nobody))
  scalar_there b h =
      slice_get-append_left (map Of (scalar_components model)) (Dummy ∷ []) b (Of (get_or (scalar_components model) b nobody))
      (slice_get-map Of (scalar_components model) b ∙ ap (option_map Of) (slice_get-get_or (scalar_components model) b nobody h))

  -- the value at places is that at their coordinates
  value_there : (i j b : ℕ) → i < length (fermion_components model) → j < length (fermion_components model) → b < length (scalar_components model)
      → value t (i ∷ j ∷ b ∷ []) ≡ yukawa_tensor model (Of (get_or (fermion_components model) i nobody) ∷ Of (get_or (fermion_components model) j nobody) ∷ Of (get_or (scalar_components model) b nobody) ∷ [])
  value_there i j b first second third =
      let one = fermion_there i first in
      let two = fermion_there j second in
      let three = scalar_there b third in
      has.value_is (i ∷ j ∷ b ∷ []) refl
      ∙ ap (value_or zero_poly (yukawa_tensor model)) (λ x. with_coordinate (one x) (with_coordinate (two x) (with_coordinate (three x) (Some []))))

  -- a matrix product's summand at places
  abbrev summand : ℕ → ℕ → ℕ → Polynomial
  summand i j b = mul_poly (value t (i ∷ j ∷ b ∷ [])) (conj_poly (value t (j ∷ i ∷ b ∷ [])))

  number_is : (i : ℕ) → i < length (fermion_components model) → number i ≡ casimir_at k.1 k.0 (get_or (fermion_components model) i nobody)
  number_is i h = get_or-map (casimir_at k.1 k.0) (fermion_components model) i nobody zero_ℚ h

  trace-dense : yukawa_trace model k ≡ below poly_ring.semiring (length (scalar_components model)) (λ b. below poly_ring.semiring (length (fermion_components model)) (λ i. scale_poly (number i) (below poly_ring.semiring (length (fermion_components model)) (λ j. summand i j b))))
  unfolding yukawa_trace
  trace-dense =
      let R = poly_ring.semiring in
      let F = fermion_components model in
      let S = scalar_components model in
      sum-by_place R nobody S _
      ∙ below-same R (length S) _ _ (λ b third.
      sum-by_place R nobody F _
      ∙ below-same R (length F) _ _ (λ i first.
      ap₂ scale_poly (sym (number_is i first)) (sum-by_place R nobody F _
      ∙ below-same R (length F) _ _ (λ j second.
      ap₂ mul_poly (sym (value_there i j b first second third))
      (ap (λ c. conj_poly (yukawa_tensor model (Of (get_or F j nobody) ∷ Of (get_or F i nobody) ∷ c ∷ []))) (partner_twice (Of (get_or S b nobody)))
      ∙ ap conj_poly (sym (value_there j i b second first third)))))))

  -- ---- both

  pub coordinate_count : length (scalar_coordinates model) ≡ suc (length (scalar_components model))
  coordinate_count =
      length-append (map Of (scalar_components model)) (Dummy ∷ []) ∙ ap (λ n. n + 1) (length-map (scalar_components model) Of) ∙ omega arith

  keys_are : AllByRecursion (HasKey (suc (length (scalar_components model))) (length (fermion_components model))) (entries_of t)
  keys_are =
      by_recursion (HasKey (suc (length (scalar_components model))) (length (fermion_components model))) (entries_of t) (λ i d h.
      let places = entry_places model t has i d h in
      record {
        first = places.first;
        second = places.second;
        third = places.third;
        is = places.is;
        first_within = places.first_within;
        second_within = places.second_within;
        third_within = subst (λ n. places.third < n) coordinate_count places.third_within;
      })

  same_number : (n : ℕ) → (n == n) ≡ true
  same_number n = grind (arith, nat_tests)

  other_number : (b n : ℕ) → b < n → (b == n) ≡ false
  other_number b n h = grind (arith, nat_tests)

  abbrev shared : ℕ → ℕ → ℕ → Polynomial
  shared i j b = share_at (map (casimir_at k.1 k.0) (fermion_components model)) (length (scalar_components model)) t i j b (value t (i ∷ j ∷ b ∷ []))

  dummy_share : (i j : ℕ) → shared i j (length (scalar_components model)) ≡ zero_poly
  dummy_share i j =
      let m = length (scalar_components model) in
      ap (λ test. share_by test (number i) (value t (i ∷ j ∷ m ∷ [])) (conj_poly (value t (j ∷ i ∷ m ∷ [])))) (same_number m)

  other_share : (i j b : ℕ) → b < length (scalar_components model) → shared i j b ≡ scale_poly (number i) (summand i j b)
  other_share i j b h =
      ap (λ test. share_by test (number i) (value t (i ∷ j ∷ b ∷ [])) (conj_poly (value t (j ∷ i ∷ b ∷ [])))) (other_number b (length (scalar_components model)) h)

  pub shares_trace : shares (map (casimir_at k.1 k.0) (fermion_components model)) (length (scalar_components model)) t (entries_of t) ≡ yukawa_trace model k
  shares_trace =
      let R = poly_ring.semiring in
      let n = length (fermion_components model) in
      let m = length (scalar_components model) in
      shares-dense (map (casimir_at k.1 k.0) (fermion_components model)) m t (suc m) n keys_are
      ∙ below-suc R m (λ b. below R n (λ i. below R n (λ j. shared i j b)))
      ∙ ap (add_poly (below R m (λ b. below R n (λ i. below R n (λ j. shared i j b))))) (below-none R n _ (λ i _. below-none R n _ (λ j _. dummy_share i j)))
      ∙ R.add_zero _
      ∙ below-same R m _ _ (λ b h. ap (below R n) (fun_ext (λ i. ap (below R n) (fun_ext (λ j. other_share i j b h)) ∙ below-mul R n (constant (number i)) (λ j. summand i j b))))
      ∙ sym trace-dense
