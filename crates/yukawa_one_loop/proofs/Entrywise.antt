-- A function of values, entry by entry.
use Rattle.std.specs.Prelude.{◌≡◌, ◌≤◌, ℕ, zero, suc, List, [], ◌∷◌, ◌++◌, map, length, take}
use Rattle.std.specs.List.{All}
use Rattle.std.proofs.Common.{subst, refl, sym, ap, ap₂, ◌∙◌, arith, Ordering, Less, Equal, Greater}
use Rattle.std.proofs.lemmas.List.{take_all}
use Rattle.std.proofs.lemmas.List.Elements.{All-append}
use Rattle.exact_algebra.specs.Formal.{coefficient-cons, coefficient-nil}
use Rattle.exact_algebra.specs.Sums.{sum-nil, sum-cons, where_equal}
use Rattle.exact_algebra.specs.TensorContraction.{places_keys, places_cmp}
use Rattle.beta_poly.specs.Polynomial.{Polynomial, poly_ring, zero_poly, add_poly, mul_poly, conj_poly, conj_poly-IsSemiringMap}
use Rattle.sparse_tensor.specs.declared.values.Value.{Value}
use Rattle.sparse_tensor.specs.Tensor.{Tensor, Entries, HasRank, HasValues, poly_zero_test, rank_of, entries_of, value, value_in}
use Rattle.sparse_tensor.specs.Operations.{entry, gathered_at}
use Rattle.model_core.specs.declared.model.Model.{Model}
use Rattle.term_expand.proofs.Sides.{gathered-append}
use Rattle.beta_formulas.specs.YukawaBeta.{Matrix}
use Rattle.yukawa_one_loop.specs.Entries.{with_value, with_values}
use Rattle.yukawa_one_loop.specs.Matrices.{IsMatrix, AddsMatrix}
use Rattle.yukawa_one_loop.proofs.Pairs.{matrix_image}

-- the function respects sums
pub record IsAdditive (h : Polynomial → Polynomial) : Type 0 where
  pub at_zero : h zero_poly ≡ zero_poly
  pub at_add : (p q : Polynomial) → h (add_poly p q) ≡ add_poly (h p) (h q)

pub times_additive : (factor : Polynomial) → IsAdditive (mul_poly factor)
times_additive factor = record { at_zero = poly_ring.semiring.mul_zero factor; at_add = poly_ring.semiring.mul_add factor }

pub conj_additive : IsAdditive conj_poly
conj_additive = record { at_zero = conj_poly-IsSemiringMap.at_zero; at_add = conj_poly-IsSemiringMap.at_add }

module _ (h : Polynomial → Polynomial) (additive : IsAdditive h) where
  where_image : (o : Ordering) (p : Polynomial) → where_equal poly_ring.semiring o (h p) ≡ h (where_equal poly_ring.semiring o p)
  where_image Less p = sym additive.at_zero
  where_image Equal p = refl
  where_image Greater p = sym additive.at_zero

  entries_at : (es : Entries) (key : List ℕ) → gathered_at (map entry (map (with_value h) es)) key ≡ h (value_in es key)
  unfolding gathered_at
  entries_at [] key =
      sum-nil poly_ring.semiring (λ e. where_equal poly_ring.semiring (places_cmp key e.0) e.1)
      ∙ sym (ap h (coefficient-nil places_keys poly_ring.semiring poly_zero_test key) ∙ additive.at_zero)
  entries_at (e ∷ es) key =
      sum-cons poly_ring.semiring (e.0, h e.1) (map entry (map (with_value h) es)) (λ e. where_equal poly_ring.semiring (places_cmp key e.0) e.1)
      ∙ ap₂ add_poly (where_image (places_cmp key e.0) e.1) (entries_at es key)
      ∙ sym (ap h (coefficient-cons places_keys poly_ring.semiring poly_zero_test e es key) ∙ additive.at_add (where_equal poly_ring.semiring (places_cmp key e.0) e.1) (value_in es key))

  -- the values gathered are those of the function
  pub with_values_at : (t : Tensor) (key : List ℕ) → gathered_at (map entry (with_values h t)) key ≡ h (value t key)
  with_values_at t key = entries_at (entries_of t) key

entry_keys : (h : Polynomial → Polynomial) (rank : ℕ) (es : Entries) → HasRank rank es → All {X = Value} (λ v. length v.key ≡ rank) (map (with_value h) es)
entry_keys h rank [] keys i d within = absurd (omega (arith, within))
entry_keys h rank (e ∷ es) keys zero d within = keys.0
entry_keys h rank (e ∷ es) keys (suc i) d within = entry_keys h rank es keys.1 i d (omega arith)

pub with_values_keys : (h : Polynomial → Polynomial) (t : Tensor) → All {X = Value} (λ v. length v.key ≡ rank_of t) (with_values h t)
with_values_keys h t = entry_keys h (rank_of t) (entries_of t) t.1.keys

-- the values of a matrix behind others
pub adds_image : (h : Polynomial → Polynomial) → IsAdditive h → (model : Model) (a : Matrix) (t : Tensor) (old new : List Value) → IsMatrix model a t → new ≡ old ++ with_values h t → AddsMatrix model (λ j k. h (a j k)) old new
adds_image h additive model a t old new has is = record {
  keys = λ before.
      subst (All {X = Value} (λ v. length v.key ≡ 2)) (sym is)
      (All-append (λ v. length v.key ≡ 2) old (with_values h t) before (subst (λ n. All {X = Value} (λ v. length v.key ≡ n) (with_values h t)) has.rank_is (with_values_keys h t)));
  sums = λ key l.
      ap (λ vs. gathered_at (map entry vs) key) is
      ∙ gathered-append old (with_values h t) key
      ∙ ap (add_poly (gathered_at (map entry old) key)) (with_values_at h additive t key ∙ ap h (has.value_is key l) ∙ matrix_image model h additive.at_zero a key l);
}

-- ---- the loop over entries

pub mapped_end : {A B : Type 0} (f : A → B) (xs : List A) (i : ℕ) (old now : List B) → length xs ≤ i → now ≡ old ++ map f (take i xs) → now ≡ old ++ map f xs
mapped_end f xs i old now over so_far = so_far ∙ ap (λ ys. old ++ map f ys) (take_all i xs over)

-- the tensor of all values
pub image_values : (h : Polynomial → Polynomial) → IsAdditive h → (t s : Tensor) (rank : ℕ) (values : List Value) → rank ≡ rank_of t → values ≡ with_values h t → HasValues rank (gathered_at (map entry values)) s
    → HasValues (rank_of t) (λ key. h (value t key)) s
image_values h additive t s rank values ranked is has = record {
  rank_is = has.rank_is ∙ ranked;
  value_is = λ key l. has.value_is key (l ∙ sym ranked) ∙ ap (λ vs. gathered_at (map entry vs) key) is ∙ with_values_at h additive t key;
}

pub image_keys : (h : Polynomial → Polynomial) (t : Tensor) (rank : ℕ) (values : List Value) → rank ≡ rank_of t → values ≡ with_values h t → All {X = Value} (λ v. length v.key ≡ rank) values
image_keys h t rank values ranked is =
    subst (λ n. All {X = Value} (λ v. length v.key ≡ n) values) (sym ranked) (subst (All {X = Value} (λ v. length v.key ≡ rank_of t)) (sym is) (with_values_keys h t))
