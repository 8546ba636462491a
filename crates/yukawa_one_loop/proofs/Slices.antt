-- Slices of a Yukawa tensor, and their conjugates, as the Yukawa matrices.
use Rattle.std.specs.Prelude.{◌≡◌, ◌+◌, ◌<◌, ◌≤◌, ◌==◌, ℕ, zero, suc, Bool, true, false, List, [], ◌∷◌, ◌++◌, map, length, get_or, slice_get, Option, Some, None, option_map}
use Rattle.std.specs.List.{All, flat_map}
use Rattle.std.specs.Ordering.{nat_cmp}
use Rattle.std.proofs.Common.{cond, take, subst, refl, sym, ap, ap₂, ◌∙◌, arith, length-append}
use Rattle.std.proofs.lemmas.Cmp.{nat_cmp_total, tied_itself}
use Rattle.std.proofs.lemmas.List.{append-nil, take_more, take_all}
use Rattle.std.proofs.lemmas.List.Elements.{All-append}
use Rattle.std.proofs.lemmas.Grind.{flat_map-append}
use Rattle.std.proofs.lemmas.Option.{slice_get-map, slice_get-get_or, slice_get_within, get_or_from_slice_get}
use Rattle.exact_algebra.specs.Formal.{coefficient-cons, coefficient-nil}
use Rattle.exact_algebra.specs.Kronecker.{where_then, where_zero}
use Rattle.exact_algebra.specs.Sums.{sum-one, where_equal, where_equal-apart, nat_equal}
use Rattle.exact_algebra.specs.TensorContraction.{places_keys, places_cmp}
use Rattle.std.proofs.Common.{Equal}
use Rattle.std.specs.Ordering.{ordering_then}
use Rattle.beta_poly.specs.Exponents.{AllWithin}
use Rattle.beta_poly.specs.Polynomial.{Polynomial, poly_ring, zero_poly, add_poly, conj_poly, conj_poly-IsSemiringMap}
use Rattle.sparse_tensor.specs.declared.values.Value.{Value}
use Rattle.sparse_tensor.specs.Tensor.{Tensor, Entries, HasRank, HasValues, poly_zero_test, rank_of, entries_of, value, value_in}
use Rattle.sparse_tensor.specs.Operations.{entry, gathered_at}
use Rattle.model_core.specs.declared.model.Model.{Model}
use Rattle.model_core.specs.Component.{Component, fermion_components}
use Rattle.model_core.specs.Directions.{yukawa_tensor, yukawa_at}
use Rattle.model_core.specs.Scalar.{Coordinate, scalar_coordinates, partner}
use Rattle.model_core.specs.Scalar.Coordinate.{Of, Dummy}
use Rattle.model_core.specs.TermTensor.{with_coordinate, value_or}
use Rattle.term_expand.proofs.Added.{gathered_none}
use Rattle.term_expand.proofs.Legs.{of_three}
use Rattle.term_expand.proofs.Sides.{gathered-append}
use Rattle.gauge_two_loop.proofs.YukawaValues.{AllWithin-conj, is_yukawa}
use Rattle.beta_formulas.specs.YukawaBeta.{Matrix, yukawa, conjugate}
use Rattle.yukawa_one_loop.specs.Entries.{sliced, slice_at}
use Rattle.yukawa_one_loop.specs.Matrices.{matrix_at, IsLinear, AreMatrices}
use Rattle.yukawa_one_loop.proofs.Bounds.{key_long, value_within, within_values}
use Rattle.yukawa_one_loop.proofs.Pairs.{of_two, pair_at, matrix_pair, matrix_image}

-- ---- the values of a slice

-- the test for a key of two is a test for each place
pub two_keys : (j k p q : ℕ) (x : Polynomial) → where_equal poly_ring.semiring (places_cmp (j ∷ k ∷ []) (p ∷ q ∷ [])) x ≡ where_equal poly_ring.semiring (nat_cmp j p) (where_equal poly_ring.semiring (nat_cmp k q) x)
two_keys j k p q x =
    let R = poly_ring.semiring in
    where_then R (nat_cmp j p) (ordering_then (nat_cmp k q) Equal) x
    ∙ ap (where_equal R (nat_cmp j p)) (where_then R (nat_cmp k q) Equal x)

-- and that for a key of three
pub three_keys : (j k a p q r : ℕ) (x : Polynomial)
    → where_equal poly_ring.semiring (places_cmp (j ∷ k ∷ a ∷ []) (p ∷ q ∷ r ∷ [])) x
    ≡ where_equal poly_ring.semiring (nat_cmp j p) (where_equal poly_ring.semiring (nat_cmp k q) (where_equal poly_ring.semiring (nat_cmp a r) x))
three_keys j k a p q r x =
    let R = poly_ring.semiring in
    where_then R (nat_cmp j p) (ordering_then (nat_cmp k q) (ordering_then (nat_cmp a r) Equal)) x
    ∙ ap (where_equal R (nat_cmp j p)) (where_then R (nat_cmp k q) (ordering_then (nat_cmp a r) Equal) x
    ∙ ap (where_equal R (nat_cmp k q)) (where_then R (nat_cmp a r) Equal x))

equal_number : (a b : ℕ) → (a == b) ≡ true → a ≡ b
equal_number a b h = grind arith

other_number : (a b : ℕ) → (a == b) ≡ false → a ≡ b → ⊥
other_number a b h e = grind arith

gathered_one : (v : Value) (key : List ℕ) → gathered_at (map entry (v ∷ [])) key ≡ where_equal poly_ring.semiring (places_cmp key v.key) v.value
unfolding gathered_at
gathered_one v key = sum-one poly_ring.semiring (entry v) (λ e. where_equal poly_ring.semiring (places_cmp key e.0) e.1)

module _ (place j k : ℕ) (x : Polynomial) where
  one_test : (p q r : ℕ) (b : Bool) → (r == place) ≡ b
      → gathered_at (map entry (cond b (record { key = p ∷ q ∷ []; value = x } ∷ []) [])) (j ∷ k ∷ []) ≡ where_equal poly_ring.semiring (places_cmp (j ∷ k ∷ place ∷ []) (p ∷ q ∷ r ∷ [])) x
  one_test p q r true is =
      let R = poly_ring.semiring in
      let same : nat_cmp place r ≡ Equal = ap (nat_cmp place) (equal_number r place is) ∙ tied_itself nat_cmp_total place in
      gathered_one (record { key = p ∷ q ∷ []; value = x }) (j ∷ k ∷ [])
      ∙ two_keys j k p q x
      ∙ sym (three_keys j k place p q r x ∙ ap (λ o. where_equal R (nat_cmp j p) (where_equal R (nat_cmp k q) (where_equal R o x))) same)
  one_test p q r false is =
      let R = poly_ring.semiring in
      let apart : where_equal R (nat_cmp place r) x ≡ zero_poly = where_equal-apart R (nat_cmp place r) x (λ e. other_number r place is (sym (nat_equal place r e))) in
      gathered_none (j ∷ k ∷ [])
      ∙ sym (three_keys j k place p q r x
      ∙ ap (λ y. where_equal R (nat_cmp j p) (where_equal R (nat_cmp k q) y)) apart
      ∙ ap (where_equal R (nat_cmp j p)) (where_zero R (nat_cmp k q))
      ∙ where_zero R (nat_cmp j p))

  one_sliced : (key : List ℕ) → length key ≡ 3 → gathered_at (map entry (sliced place (key, x))) (j ∷ k ∷ []) ≡ where_equal poly_ring.semiring (places_cmp (j ∷ k ∷ place ∷ []) key) x
  one_sliced =
      of_three (λ key. gathered_at (map entry (sliced place (key, x))) (j ∷ k ∷ []) ≡ where_equal poly_ring.semiring (places_cmp (j ∷ k ∷ place ∷ []) key) x) (λ p q r. one_test p q r (r == place) refl)

all_sliced : (place j k : ℕ) (es : Entries) → HasRank 3 es → gathered_at (map entry (flat_map (sliced place) es)) (j ∷ k ∷ []) ≡ value_in es (j ∷ k ∷ place ∷ [])
all_sliced place j k [] keys =
    gathered_none (j ∷ k ∷ []) ∙ sym (coefficient-nil places_keys poly_ring.semiring poly_zero_test (j ∷ k ∷ place ∷ []))
all_sliced place j k (e ∷ es) keys =
    gathered-append (sliced place e) (flat_map (sliced place) es) (j ∷ k ∷ [])
    ∙ ap₂ add_poly (one_sliced place j k e.1 e.0 keys.0) (all_sliced place j k es keys.1)
    ∙ sym (coefficient-cons places_keys poly_ring.semiring poly_zero_test e es (j ∷ k ∷ place ∷ []))

one_long : (place : ℕ) (e : List ℕ × Polynomial) → length e.0 ≡ 3 → All {X = Value} (λ v. length v.key ≡ 2) (sliced place e)
one_long place e long = by_test (get_or e.0 2 0 == place)
  where
    two : length (take 2 e.0) ≡ 2
    two = of_three (λ key. length (take 2 key) ≡ 2) (λ p q r. refl) e.0 long

    first : (v : Value) → length v.key ≡ 2 → All {X = Value} (λ v. length v.key ≡ 2) (v ∷ [])
    first v is zero d within = is
    first v is (suc i) d within = absurd (omega (arith, within))

    by_test : (b : Bool) → All {X = Value} (λ v. length v.key ≡ 2) (cond b (record { key = take 2 e.0; value = e.1 } ∷ []) [])
    by_test true = first (record { key = take 2 e.0; value = e.1 }) two
    by_test false = λ i d within. absurd (omega (arith, within))

all_long : (place : ℕ) (es : Entries) → HasRank 3 es → All {X = Value} (λ v. length v.key ≡ 2) (flat_map (sliced place) es)
all_long place [] keys = λ i d within. absurd (omega (arith, within))
all_long place (e ∷ es) keys =
    All-append (λ v. length v.key ≡ 2) (sliced place e) (flat_map (sliced place) es) (one_long place e keys.0) (all_long place es keys.1)

-- ---- the loop over entries

-- the values of one entry more
pub flat_step : {A B : Type 0} (f : A → List B) (xs : List A) (i : ℕ) (x : A) (now new : List B) → slice_get xs i ≡ Some x → now ≡ flat_map f (take i xs) → new ≡ now ++ f x → new ≡ flat_map f (take (i + 1) xs)
flat_step f xs i x now new found so_far next =
    let more : take (i + 1) xs ≡ take i xs ++ x ∷ [] = take_more xs i x (slice_get_within xs i x found) ∙ ap (λ d. take i xs ++ d ∷ []) (get_or_from_slice_get xs i x x found) in
    next ∙ ap (λ l. l ++ f x) so_far
    ∙ ap (λ l. flat_map f (take i xs) ++ l) (sym (append-nil (f x)))
    ∙ sym (flat_map-append f (take i xs) (x ∷ []))
    ∙ ap (flat_map f) (sym more)

module _ (place : ℕ) (t : Tensor) (rank : rank_of t ≡ 3) (values : List Value) (is : values ≡ flat_map (sliced place) (entries_of t)) where
  three : HasRank 3 (entries_of t)
  three = subst (λ n. HasRank n (entries_of t)) rank t.1.keys

  pub slice_keys : All {X = Value} (λ v. length v.key ≡ 2) values
  slice_keys = subst (All {X = Value} (λ v. length v.key ≡ 2)) (sym is) (all_long place (entries_of t) three)

  pub slice_values : (s : Tensor) → HasValues 2 (gathered_at (map entry values)) s → HasValues 2 (slice_at place (value t)) s
  slice_values s has = record {
    rank_is = has.rank_is;
    value_is =
        of_two (λ key. value s key ≡ value t (key ++ place ∷ [])) (λ j k.
        has.value_is (j ∷ k ∷ []) refl
        ∙ ap (λ vs. gathered_at (map entry vs) (j ∷ k ∷ [])) is
        ∙ all_sliced place j k (entries_of t) three);
  }

-- the same at the end of the loop
pub flat_end : {A B : Type 0} (f : A → List B) (xs : List A) (i : ℕ) (now : List B) → length xs ≤ i → now ≡ flat_map f (take i xs) → now ≡ flat_map f xs
flat_end f xs i now over so_far = so_far ∙ ap (flat_map f) (take_all i xs over)

-- ---- matrices

pair_with : (model : Model) (a : Coordinate) (j k : Option Component)
    → value_or zero_poly (yukawa_tensor model) (with_coordinate (option_map Of j) (with_coordinate (option_map Of k) (with_coordinate (Some a) (Some [])))) ≡ pair_at (yukawa model a) j k
pair_with model a (Some j) (Some k) = refl
pair_with model a (Some j) None = refl
pair_with model a None (Some k) = refl
pair_with model a None None = refl

module _ (model : Model) (t : Tensor) (has : HasValues 3 (yukawa_at model) t) where
  -- the slice at the place of a coordinate
  pub plain_linear : (place : ℕ) (a : Coordinate) (s : Tensor) → slice_get (scalar_coordinates model) place ≡ Some a → HasValues 2 (slice_at place (value t)) s → IsLinear model (yukawa model a) s
  plain_linear place a s there slice = record {
    entries = record {
      rank_is = slice.rank_is;
      value_is =
          of_two (λ key. value s key ≡ matrix_at model (yukawa model a) key) (λ j k.
          let cs = fermion_components model in
          slice.value_is (j ∷ k ∷ []) refl
          ∙ has.value_is (j ∷ k ∷ place ∷ []) refl
          ∙ ap₂ (λ x y. value_or zero_poly (yukawa_tensor model) (with_coordinate x (with_coordinate y (with_coordinate (slice_get (scalar_coordinates model) place) (Some []))))) (slice_get-map Of cs j) (slice_get-map Of cs k)
          ∙ ap (λ z. value_or zero_poly (yukawa_tensor model) (with_coordinate (option_map Of (slice_get cs j)) (with_coordinate (option_map Of (slice_get cs k)) (with_coordinate z (Some []))))) there
          ∙ pair_with model a (slice_get cs j) (slice_get cs k)
          ∙ sym (matrix_pair model (yukawa model a) j k));
    };
    within =
        within_values 1 s (λ key l.
        let long : length (key ++ place ∷ []) ≡ 3 = let counted = length-append key (place ∷ []) in let two = l ∙ slice.rank_is in omega (arith, counted, two) in
        subst (AllWithin 1) (sym (slice.value_is key (l ∙ slice.rank_is))) ((is_yukawa model t has).within (key ++ place ∷ []) long));
  }

  -- the conjugate of the slice at the place of the partner
  pub conjugate_linear : (place other : ℕ) (a : Coordinate) (s u : Tensor) → slice_get (scalar_coordinates model) place ≡ Some a
      → slice_get (scalar_coordinates model) other ≡ option_map partner (slice_get (scalar_coordinates model) place) → HasValues 2 (slice_at other (value t)) s
      → HasValues (rank_of s) (λ key. conj_poly (value s key)) u → IsLinear model (conjugate model a) u
  conjugate_linear place other a s u there paired slice conjugated =
      let plain = plain_linear other (partner a) s (paired ∙ ap (option_map partner) there) slice in
      record {
        entries = record {
          rank_is = conjugated.rank_is ∙ slice.rank_is;
          value_is = λ key l.
              conjugated.value_is key (l ∙ sym slice.rank_is)
              ∙ ap conj_poly (plain.entries.value_is key l)
              ∙ matrix_image model conj_poly conj_poly-IsSemiringMap.at_zero (yukawa model (partner a)) key l;
        };
        within =
            within_values 1 u (λ key l.
            subst (AllWithin 1) (sym (conjugated.value_is key (l ∙ conjugated.rank_is))) (AllWithin-conj 1 (value s key) (value_within 1 s plain.within key)));
      }

-- ---- lists of matrices

matrices_push : (model : Model) (matrices : Coordinate → Matrix) (cs : List Coordinate) (ts : List Tensor) (c : Coordinate) (t : Tensor) → AreMatrices model matrices cs ts → IsLinear model (matrices c) t
    → AreMatrices model matrices (cs ++ c ∷ []) (ts ++ t ∷ [])
matrices_push model matrices [] [] c t so_far is = (is, tt)
matrices_push model matrices [] (s ∷ ts) c t so_far is = absurd so_far
matrices_push model matrices (d ∷ cs) [] c t so_far is = absurd so_far
matrices_push model matrices (d ∷ cs) (s ∷ ts) c t so_far is = (so_far.0, matrices_push model matrices cs ts c t so_far.1 is)

-- one matrix more
pub matrices_step : (model : Model) (matrices : Coordinate → Matrix) (cs : List Coordinate) (i : ℕ) (ts new : List Tensor) (t : Tensor) → i < length cs → AreMatrices model matrices (take i cs) ts
    → ((c : Coordinate) → slice_get cs i ≡ Some c → IsLinear model (matrices c) t) → new ≡ ts ++ t ∷ [] → AreMatrices model matrices (take (i + 1) cs) new
matrices_step model matrices cs i ts new t within so_far linear is =
    let c = get_or cs i Dummy in
    subst (AreMatrices model matrices (take (i + 1) cs)) (sym is)
    (subst (λ ds. AreMatrices model matrices ds (ts ++ t ∷ [])) (sym (take_more cs i Dummy within))
    (matrices_push model matrices (take i cs) ts c t so_far (linear c (slice_get-get_or cs i Dummy within))))

pub matrices_end : (model : Model) (matrices : Coordinate → Matrix) (cs : List Coordinate) (i : ℕ) (ts : List Tensor) → length cs ≤ i → AreMatrices model matrices (take i cs) ts → AreMatrices model matrices cs ts
matrices_end model matrices cs i ts over so_far = subst (λ ds. AreMatrices model matrices ds ts) (take_all i cs over) so_far

-- ---- entries

-- an entry of a tensor of three legs has three places
pub entry_three : (t : Tensor) (i : ℕ) (e : List ℕ × Polynomial) → rank_of t ≡ 3 → slice_get (entries_of t) i ≡ Some e → length e.0 ≡ 3
entry_three t i e rank found =
    let es = entries_of t in
    subst (λ x. length x.0 ≡ 3) (get_or_from_slice_get es i e e found) (key_long (rank_of t) es i e t.1.keys (slice_get_within es i e found) ∙ rank)
