-- Entries of tensors: their keys, and that their values aren't 0.
use Rattle.std.specs.Prelude.{◌≡◌, ◌+◌, ℕ, zero, suc, List, [], ◌∷◌, ◌++◌, length, slice_get, Some}
use Rattle.std.specs.List.{flat_map}
use Rattle.std.proofs.Common.{take, drop, get_or, refl, sym, ap, ◌∙◌, true≢false, append_assoc, append-nil, inl}
use Rattle.std.proofs.lemmas.Grind.{flat_map-append}
use Rattle.std.proofs.lemmas.List.{take_more}
use Rattle.std.proofs.lemmas.Option.{slice_get_within, get_or_from_slice_get}
use Rattle.exact_algebra.specs.TensorContraction.{places_keys}
use Rattle.beta_poly.specs.Polynomial.{Polynomial, poly_ring, zero_poly}
use Rattle.beta_poly.proofs.Steps.{at_number, coefficient_at, nonzero_at}
use Rattle.sparse_tensor.specs.declared.fault.TensorFault.{TensorFault}
use Rattle.sparse_tensor.specs.declared.fault.TensorFault.TheVariants.{Overflow, NoMemory}
use Rattle.sparse_tensor.specs.Refusals.{IsRefusalOf, IsSumRefusalOf}
use Rattle.sparse_tensor.specs.Tensor.{Tensor, Entries, HasRank, HasValues, poly_zero_test, rank_of, entries_of, value}

same_some : {A : Type 0} (x y : A) → Some x ≡ Some y → x ≡ y
same_some x y e = cc

key_at : (rank : ℕ) (es : Entries) (i : ℕ) (e : List ℕ × Polynomial) → HasRank rank es → slice_get es i ≡ Some e → length e.0 ≡ rank
key_at rank [] i e keys found = let never : ⊥ = cc in absurd never
key_at rank (d ∷ es) zero e keys found = ap (λ x. length x.0) (sym (same_some d e found)) ∙ keys.0
key_at rank (d ∷ es) (suc i) e keys found = key_at rank es i e keys.1 found

-- an entry has a place for each leg
pub entry_long : (rank : ℕ) (t : Tensor) (i : ℕ) (e : List ℕ × Polynomial) → rank_of t ≡ rank → slice_get (entries_of t) i ≡ Some e → length e.0 ≡ rank
entry_long rank t i e is found = key_at (rank_of t) (entries_of t) i e t.1.keys found ∙ is

-- the value at its key isn't 0
pub value_nonzero : (t : Tensor) (i : ℕ) (e : List ℕ × Polynomial) → slice_get (entries_of t) i ≡ Some e → value t e.0 ≡ zero_poly → ⊥
value_nonzero t i e found none =
    let es = entries_of t in
    let within = slice_get_within es i e found in
    let is : get_or es i e ≡ e = get_or_from_slice_get es i e e found in
    let there : drop i es ≡ e ∷ drop (i + 1) es = at_number es i e within ∙ ap (λ d. d ∷ drop (i + 1) es) is in
    let own : value t e.0 ≡ e.1 = coefficient_at places_keys poly_ring.semiring poly_zero_test es i e there t.1.is_map in
    true≢false (sym poly_zero_test.at_zero ∙ ap poly_zero_test.is_zero (sym none ∙ own) ∙ nonzero_at places_keys poly_ring.semiring poly_zero_test es i e there t.1.is_map)

-- a tensor that is 0 at each key has no entries
pub no_entries : (rank : ℕ) (f : List ℕ → Polynomial) (t : Tensor) → HasValues rank f t → ((key : List ℕ) → f key ≡ zero_poly) → entries_of t ≡ []
no_entries rank f t has none = by_list (entries_of t) refl
  where
    by_list : (es : Entries) → entries_of t ≡ es → entries_of t ≡ []
    by_list [] e = e
    by_list (first ∷ es) e =
        let found : slice_get (entries_of t) 0 ≡ Some first = ap (λ xs. slice_get xs 0) e in
        absurd (value_nonzero t 0 first found (has.value_is first.0 (entry_long rank t 0 first has.rank_is found) ∙ none first.0))

-- a refusal of a sum over one list is one of another list, which has an item where the first has one
pub sum_refusal : {A B : Type 0} (vs : List A) (xs : List B) (bad : TensorFault) → (xs ≡ [] → vs ≡ []) → IsSumRefusalOf vs bad → IsRefusalOf xs bad
sum_refusal vs xs (Overflow pair) none h = ((λ e. h.0 (none e)), inl h.1)
sum_refusal vs xs NoMemory none h = tt

-- a loop that adds a list for each item
pub joined_step : {A B : Type 0} (f : A → List B) (xs : List A) (i : ℕ) (x : A) (old now new : List B) → slice_get xs i ≡ Some x → now ≡ old ++ flat_map f (take i xs) → new ≡ now ++ f x → new ≡ old ++ flat_map f (take (i + 1) xs)
joined_step f xs i x old now new found so_far next =
    let more : take (i + 1) xs ≡ take i xs ++ x ∷ [] = take_more xs i x (slice_get_within xs i x found) ∙ ap (λ d. take i xs ++ d ∷ []) (get_or_from_slice_get xs i x x found) in
    next ∙ ap (λ l. l ++ f x) so_far ∙ append_assoc old (flat_map f (take i xs)) (f x)
    ∙ ap (λ l. old ++ (flat_map f (take i xs) ++ l)) (sym (append-nil (f x)))
    ∙ ap (λ l. old ++ l) (sym (flat_map-append f (take i xs) (x ∷ [])) ∙ ap (flat_map f) (sym more))
