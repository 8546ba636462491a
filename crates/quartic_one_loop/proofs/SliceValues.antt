-- Slices of tensors at a place of a leg.
use Rattle.std.specs.Prelude.{◌≡◌, ◌-◌, ◌<◌, ◌≤◌, ◌==◌, ℕ, zero, suc, Bool, true, false, List, [], ◌∷◌, map, length, get_or, slice_get, Some}
use Rattle.std.specs.List.{All, flat_map, insert, remove}
use Rattle.std.proofs.Common.{cond, subst, refl, sym, ap, ap₂, ◌∙◌, arith, Equal}
use Rattle.std.proofs.lemmas.Cmp.{nat_list_cmp_total, tied_itself}
use Rattle.std.proofs.lemmas.List.Elements.{All-append}
use Rattle.std.proofs.lemmas.Option.{slice_get_within, get_or_from_slice_get}
use Rattle.exact_algebra.specs.Formal.{coefficient-cons, coefficient-nil}
use Rattle.exact_algebra.specs.Kronecker.{where_same}
use Rattle.exact_algebra.specs.Sums.{sum-one, where_equal, where_equal-apart}
use Rattle.exact_algebra.specs.TensorContraction.{places_keys, places_cmp, places_equal}
use Rattle.beta_poly.specs.Exponents.{AllWithin}
use Rattle.beta_poly.specs.Polynomial.{Polynomial, poly_ring, add_poly}
use Rattle.sparse_tensor.specs.declared.values.Value.{Value}
use Rattle.sparse_tensor.specs.Tensor.{Tensor, Entries, HasRank, HasValues, poly_zero_test, rank_of, entries_of, value, value_in}
use Rattle.sparse_tensor.specs.Operations.{entry, gathered_at}
use Rattle.term_expand.proofs.Added.{gathered_none}
use Rattle.term_expand.proofs.Sides.{gathered-append}
use Rattle.yukawa_one_loop.proofs.Bounds.{key_long, value_within, within_values}
use Rattle.quartic_one_loop.specs.FourLegs.{AreWithin}
use Rattle.quartic_one_loop.specs.SlicedEntries.{sliced, slice_at}

-- ---- a key and its places but one

place_inserted : (ks : List ℕ) (p x : ℕ) → p ≤ length ks → get_or (insert ks p x) p 0 ≡ x
place_inserted ks zero x l = refl
place_inserted [] (suc p) x l = absurd (omega arith)
place_inserted (k ∷ ks) (suc p) x l = place_inserted ks p x (omega arith)

rest_inserted : (ks : List ℕ) (p x : ℕ) → p ≤ length ks → remove (insert ks p x) p ≡ ks
rest_inserted ks zero x l = refl
rest_inserted [] (suc p) x l = absurd (omega arith)
rest_inserted (k ∷ ks) (suc p) x l = ap (λ r. k ∷ r) (rest_inserted ks p x (omega arith))

inserted_back : (p : ℕ) (key : List ℕ) → p < length key → insert (remove key p) p (get_or key p 0) ≡ key
inserted_back p [] l = absurd (omega arith)
inserted_back zero (y ∷ ys) l = refl
inserted_back (suc p) (y ∷ ys) l = ap (λ r. y ∷ r) (inserted_back p ys (omega arith))

length_rest : (p : ℕ) (key : List ℕ) (n : ℕ) → p < length key → length key ≡ suc n → length (remove key p) ≡ n
length_rest p [] n h m = absurd (omega arith)
length_rest zero (y ∷ ys) n h m = omega arith
length_rest (suc p) (y ∷ ys) zero h m = absurd (omega arith)
length_rest (suc p) (y ∷ ys) (suc n) h m = ap suc (length_rest p ys n (omega arith) (omega arith))

pub length_inserted : (ks : List ℕ) (p x : ℕ) → p ≤ length ks → length (insert ks p x) ≡ suc (length ks)
length_inserted ks zero x l = refl
length_inserted [] (suc p) x l = absurd (omega arith)
length_inserted (k ∷ ks) (suc p) x l = ap suc (length_inserted ks p x (omega arith))

equal_number : (a b : ℕ) → (a == b) ≡ true → a ≡ b
equal_number a b h = grind arith

other_number : (a b : ℕ) → (a == b) ≡ false → a ≡ b → ⊥
other_number a b h e = grind arith

-- the sum of one value
pub gathered_one : (v : Value) (key : List ℕ) → gathered_at (map entry (v ∷ [])) key ≡ where_equal poly_ring.semiring (places_cmp key v.key) v.value
unfolding gathered_at
gathered_one v key = sum-one poly_ring.semiring (entry v) (λ e. where_equal poly_ring.semiring (places_cmp key e.0) e.1)

same_places : (a b : List ℕ) → a ≡ b → places_cmp a b ≡ Equal
same_places a b e = ap (places_cmp a) (sym e) ∙ tied_itself nat_list_cmp_total a

-- ---- the values of a slice

module _ (leg place : ℕ) (ks : List ℕ) (inside : leg ≤ length ks) where
  one_test : (key : List ℕ) (x : Polynomial) → length key ≡ suc (length ks) → (b : Bool) → (get_or key leg 0 == place) ≡ b
      → gathered_at (map entry (cond b (record { key = remove key leg; value = x } ∷ []) [])) ks ≡ where_equal poly_ring.semiring (places_cmp (insert ks leg place) key) x
  one_test key x long true is =
      let R = poly_ring.semiring in
      let there : places_cmp ks (remove key leg) ≡ Equal → places_cmp (insert ks leg place) key ≡ Equal =
      (λ h. same_places (insert ks leg place) key (ap₂ (λ r y. insert r leg y) (places_equal ks (remove key leg) h) (sym (equal_number (get_or key leg 0) place is)) ∙ inserted_back leg key (omega (arith, inside, long)))) in
      let back : places_cmp (insert ks leg place) key ≡ Equal → places_cmp ks (remove key leg) ≡ Equal =
      (λ h. same_places ks (remove key leg) (sym (rest_inserted ks leg place inside) ∙ ap (λ k. remove k leg) (places_equal (insert ks leg place) key h))) in
      gathered_one (record { key = remove key leg; value = x }) ks
      ∙ where_same R (places_cmp ks (remove key leg)) (places_cmp (insert ks leg place) key) x there back
  one_test key x long false is =
      let R = poly_ring.semiring in
      gathered_none ks
      ∙ sym (where_equal-apart R (places_cmp (insert ks leg place) key) x (λ h.
      other_number (get_or key leg 0) place is (ap (λ k. get_or k leg 0) (sym (places_equal (insert ks leg place) key h)) ∙ place_inserted ks leg place inside)))

  all_sliced : (es : Entries) → HasRank (suc (length ks)) es → gathered_at (map entry (flat_map (sliced leg place) es)) ks ≡ value_in es (insert ks leg place)
  all_sliced [] keys =
      gathered_none ks ∙ sym (coefficient-nil places_keys poly_ring.semiring poly_zero_test (insert ks leg place))
  all_sliced (e ∷ es) keys =
      gathered-append (sliced leg place e) (flat_map (sliced leg place) es) ks
      ∙ ap₂ add_poly (one_test e.0 e.1 keys.0 (get_or e.0 leg 0 == place) refl) (all_sliced es keys.1)
      ∙ sym (coefficient-cons places_keys poly_ring.semiring poly_zero_test e es (insert ks leg place))

module _ (leg place n : ℕ) (inside : leg ≤ n) where
  one_long : (e : List ℕ × Polynomial) → length e.0 ≡ suc n → All {X = Value} (λ v. length v.key ≡ n) (sliced leg place e)
  one_long e long = by_test (get_or e.0 leg 0 == place)
    where
      first : (v : Value) → length v.key ≡ n → All {X = Value} (λ v. length v.key ≡ n) (v ∷ [])
      first v is zero d within = is
      first v is (suc i) d within = absurd (omega (arith, within))

      by_test : (b : Bool) → All {X = Value} (λ v. length v.key ≡ n) (cond b (record { key = remove e.0 leg; value = e.1 } ∷ []) [])
      by_test true =
          first (record { key = remove e.0 leg; value = e.1 }) (length_rest leg e.0 n (omega (arith, inside, long)) long)
      by_test false = λ i d within. absurd (omega (arith, within))

  all_long : (es : Entries) → HasRank (suc n) es → All {X = Value} (λ v. length v.key ≡ n) (flat_map (sliced leg place) es)
  all_long [] keys = λ i d within. absurd (omega (arith, within))
  all_long (e ∷ es) keys =
      All-append (λ v. length v.key ≡ n) (sliced leg place e) (flat_map (sliced leg place) es) (one_long e keys.0) (all_long es keys.1)

-- ---- the slice of a tensor

module _ (leg place : ℕ) (t : Tensor) (low : 2 ≤ rank_of t) (inside : leg < rank_of t) (values : List Value) (is : values ≡ flat_map (sliced leg place) (entries_of t)) where
  one_more : rank_of t ≡ suc (rank_of t - 1)
  one_more = omega (arith, low)

  pub slice_keys : All {X = Value} (λ v. length v.key ≡ rank_of t - 1) values
  slice_keys =
      subst (All {X = Value} (λ v. length v.key ≡ rank_of t - 1)) (sym is)
      (all_long leg place (rank_of t - 1) (omega (arith, low, inside)) (entries_of t) (subst (λ n. HasRank n (entries_of t)) one_more t.1.keys))

  module _ (s : Tensor) (has : HasValues (rank_of t - 1) (gathered_at (map entry values)) s) where
    pub slice_values : HasValues (rank_of t - 1) (slice_at leg place (value t)) s
    slice_values = record {
      rank_is = has.rank_is;
      value_is = λ key l.
          has.value_is key l
          ∙ ap (λ vs. gathered_at (map entry vs) key) is
          ∙ all_sliced leg place key (omega (arith, low, inside, l)) (entries_of t) (subst (λ n. HasRank n (entries_of t)) (one_more ∙ ap suc (sym l)) t.1.keys);
    }

    pub slice_within : (n : ℕ) → AreWithin n t → AreWithin n s
    slice_within n each =
        within_values n s (λ key l. subst (AllWithin n) (sym (slice_values.value_is key (l ∙ has.rank_is))) (value_within n t each (insert key leg place)))

-- ---- entries

-- an entry has a place for each leg
pub entry_long : (t : Tensor) (i : ℕ) (e : List ℕ × Polynomial) → slice_get (entries_of t) i ≡ Some e → length e.0 ≡ rank_of t
entry_long t i e found =
    let es = entries_of t in
    subst (λ x. length x.0 ≡ rank_of t) (get_or_from_slice_get es i e e found) (key_long (rank_of t) es i e t.1.keys (slice_get_within es i e found))
