-- From the fields of tensors to the ranks and the finite maps that they stand for.
use Rattle.std.specs.Prelude.{◌≡◌, ◌≤◌, ℕ, zero, suc, List, [], ◌∷◌, length, map}
use Rattle.std.specs.List.{All}
use Rattle.std.specs.List.Sorted.{IsPermutation, IsSortedByKey}
use Rattle.std.proofs.Common.{refl, sym, ap, ◌∙◌, arith, inl}
use Rattle.std.proofs.lemmas.List.Sorted.{All-permutation, length_permutation}
use Rattle.exact_algebra.specs.Sums.{where_equal}
use Rattle.exact_algebra.specs.Permuted.{sum-permuted}
use Rattle.exact_algebra.specs.Formal.{canonical_unique, coefficient, coefficient-eval, eval, unit_at}
use Rattle.exact_algebra.specs.Canon.{value-of}
use Rattle.exact_algebra.specs.TensorContraction.{places_keys, places_cmp}
use Rattle.beta_poly.specs.Polynomial.{Polynomial, poly_ring}
use Rattle.beta_poly.proofs.Gathered.{gathered, of-gathered, canonical_gathered, keys_gathered, rising, all_keys}
use Rattle.sparse_tensor.specs.declared.values.Value.{Value}
use Rattle.sparse_tensor.specs.declared.fault.TensorFault.{TensorFault}
use Rattle.sparse_tensor.specs.declared.fault.TensorFault.TheVariants.{Overflow, NoMemory}
use Rattle.sparse_tensor.specs.Tensor.{Entries, Tensor, IsMap, HasRank, IsTensor, HasValues, tensor, tensor_parts, rank_of, entries_of, value_in, poly_zero_test}
use Rattle.sparse_tensor.specs.Operations.{Values, entry, gathered_at}
use Rattle.sparse_tensor.specs.Refusals.{IsRefusalOf, IsSumRefusalOf}

pub ranks_are : (rank : ℕ) (es : Entries) (t : Tensor) → IsTensor rank es → tensor rank es ≡ t → rank ≡ rank_of t
ranks_are rank es t h e = sym (ap (λ x. x.0) (tensor_parts rank es h)) ∙ ap (λ x. rank_of x) e

pub entries_are : (rank : ℕ) (es : Entries) (t : Tensor) → IsTensor rank es → tensor rank es ≡ t → es ≡ entries_of t
entries_are rank es t h e = sym (ap (λ x. x.1) (tensor_parts rank es h)) ∙ ap (λ x. entries_of x) e

pub parts_of : (rank : ℕ) (es : Entries) → 1 ≤ rank → rank ≤ 8 → IsMap es → HasRank rank es → IsTensor rank es
parts_of rank es low high is_map keys = record { low = low; high = high; is_map = is_map; keys = keys }

-- the tensor of fields that have the values of F
pub has_values : (rank : ℕ) (es : Entries) (F : Values) → IsTensor rank es → ((key : List ℕ) → length key ≡ rank → value_in es key ≡ F key) → HasValues rank F (tensor rank es)
has_values rank es F h same = record {
  rank_is = ap (λ x. x.0) (tensor_parts rank es h);
  value_is = λ key l. ap (λ x. value_in x.1 key) (tensor_parts rank es h) ∙ same key l;
}

-- a tensor with the values of F has those of G, where the two are the same at each key of its rank
pub other_values : (m n : ℕ) (F G : Values) (t : Tensor) → m ≡ n → ((key : List ℕ) → length key ≡ n → F key ≡ G key) → HasValues m F t → HasValues n G t
other_values m n F G t e same h = record {
  rank_is = h.rank_is ∙ e;
  value_is = λ key l. h.value_is key (l ∙ sym e) ∙ same key l;
}

-- ---- sums of entries

pub value_gathered_at : (es : Entries) (key : List ℕ) → value_in es key ≡ gathered_at es key
unfolding coefficient gathered_at
value_gathered_at es key = refl

pub gathered_at-permuted : (es fs : Entries) (key : List ℕ) → IsPermutation es fs → gathered_at fs key ≡ gathered_at es key
unfolding gathered_at
gathered_at-permuted es fs key p = sum-permuted poly_ring.semiring es fs p (λ e. where_equal poly_ring.semiring (places_cmp key e.0) e.1)

pub value_none : (es out : Entries) (key : List ℕ) → es ≡ [] → out ≡ [] → value_in out key ≡ gathered_at es key
value_none es out key h o = ap (λ r. value_in r key) (o ∙ sym h) ∙ value_gathered_at es key

pub value_in-gathered : (es : Entries) (key : List ℕ) → value_in (gathered places_keys poly_ring.semiring poly_zero_test es) key ≡ gathered_at es key
value_in-gathered es key =
    let K = places_keys in
    let R = poly_ring.semiring in
    let g = gathered places_keys poly_ring.semiring poly_zero_test es in
    coefficient-eval K R g key ∙ sym (value-of K R poly_zero_test g (unit_at K R key)) ∙ ap (λ x. eval K R x.0 (unit_at K R key)) (of-gathered K R poly_zero_test es)
    ∙ value-of K R poly_zero_test es (unit_at K R key) ∙ sym (coefficient-eval K R es key) ∙ value_gathered_at es key

-- what nothing adds up to is empty
pub map_empty : (es fs : Entries) → IsMap es → ((key : List ℕ) → value_in es key ≡ gathered_at fs key) → fs ≡ [] → es ≡ []
map_empty es fs is same none =
    canonical_unique places_keys poly_ring.semiring poly_zero_test es [] is (record { ascending = tt; nonzero = tt })
    (λ key. same key ∙ ap (λ r. gathered_at r key) none ∙ sym (value_gathered_at [] key))

pub map_gathered : (es : Entries) → IsSortedByKey (λ e. e.0) places_cmp es → IsMap (gathered places_keys poly_ring.semiring poly_zero_test es)
map_gathered es h = canonical_gathered places_keys poly_ring.semiring poly_zero_test es (rising places_keys Polynomial es h)

pub rank_gathered : (es : Entries) (rank : ℕ) → HasRank rank es → HasRank rank (gathered places_keys poly_ring.semiring poly_zero_test es)
rank_gathered es rank h = keys_gathered places_keys poly_ring.semiring poly_zero_test (λ k. length k ≡ rank) es h

-- ---- keys

all_map : {A B : Type 0} (P : B → Type 0) (f : A → B) (xs : List A) → All (λ x. P (f x)) xs → All P (map f xs)
all_map P f [] h i d l = absurd (omega arith)
all_map P f (x ∷ xs) h zero d l = h zero x (omega arith)
all_map P f (x ∷ xs) h (suc i) d l = all_map P f xs (λ j e k. h (suc j) e (omega arith)) i d (omega arith)

pub all_ranks : (rank : ℕ) (es : Entries) → All (λ e. length e.0 ≡ rank) es → HasRank rank es
all_ranks rank es h = all_keys places_keys Polynomial (λ k. length k ≡ rank) es h

each_rank : (rank : ℕ) (es : Entries) → HasRank rank es → All (λ e. length e.0 ≡ rank) es
each_rank rank [] h i d l = absurd (omega arith)
each_rank rank (e ∷ es) h zero d l = h.0
each_rank rank (e ∷ es) h (suc i) d l = each_rank rank es h.1 i d (omega arith)

pub ranks_sorted : (rank : ℕ) (es fs : Entries) → IsPermutation es fs → HasRank rank es → HasRank rank fs
ranks_sorted rank es fs p h =
    all_ranks rank fs (All-permutation (λ e. length e.0 ≡ rank) es fs p (each_rank rank es h))

pub ranks_of_values : (rank : ℕ) (vs : List Value) → All (λ v. length v.key ≡ rank) vs → HasRank rank (map entry vs)
ranks_of_values rank vs h = all_ranks rank (map entry vs) (all_map (λ e. length e.0 ≡ rank) entry vs h)

pub sorted_empty : {A : Type 0} (xs ys : List A) → IsPermutation xs ys → xs ≡ [] → ys ≡ []
sorted_empty {A = A} xs ys p e = no_items ys (length_permutation xs ys p ∙ ap length e)
  where
    no_items : (zs : List A) → length zs ≡ 0 → zs ≡ []
    no_items [] h = refl
    no_items (z ∷ zs) h = absurd (omega arith)

-- ---- refusals

-- a refusal for one list is one for another that is empty only where the first is
pub refusal_of : {A B : Type 0} (xs : List A) (ys : List B) (fault : TensorFault) → (xs ≡ [] → ys ≡ []) → IsRefusalOf ys fault → IsRefusalOf xs fault
refusal_of xs ys (Overflow pair) none h = (λ e. h.0 (none e), h.1)
refusal_of xs ys NoMemory none h = tt

pub sum_refusal_of : {A B : Type 0} (xs : List A) (ys : List B) (fault : TensorFault) → (xs ≡ [] → ys ≡ []) → IsSumRefusalOf ys fault → IsSumRefusalOf xs fault
sum_refusal_of xs ys (Overflow pair) none h = (λ e. h.0 (none e), h.1)
sum_refusal_of xs ys NoMemory none h = tt

-- a refused sum is a refusal
pub refusal_by_sum : {A B : Type 0} (xs : List A) (ys : List B) (fault : TensorFault) → (xs ≡ [] → ys ≡ []) → IsSumRefusalOf ys fault → IsRefusalOf xs fault
refusal_by_sum xs ys (Overflow pair) none h = (λ e. h.0 (none e), inl h.1)
refusal_by_sum xs ys NoMemory none h = tt
