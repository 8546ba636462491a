-- The table of self-energies as a tensor.
use Rattle.std.specs.Prelude.{◌≡◌, ◌<◌, ◌≤◌, ◌+◌, ℕ, zero, suc, List, [], ◌∷◌, ◌++◌, map, length}
use Rattle.std.specs.List.{All, flat_map, range_with_len}
use Rattle.std.specs.Ordering.{nat_cmp}
use Rattle.std.proofs.Common.{refl, sym, subst, ap, ap₂, ◌∙◌, arith}
use Rattle.std.proofs.lemmas.Cmp.{nat_cmp_total, tied_itself}
use Rattle.std.proofs.lemmas.Grind.{flat_map-append}
use Rattle.std.proofs.lemmas.List.{append_assoc, append-nil}
use Rattle.std.proofs.lemmas.List.Elements.{All-append}
use Rattle.std.proofs.lemmas.List.FromFn.{map-range_with_len_more}
use mathlib.Core.Path.{fun_ext}
use Rattle.exact_algebra.specs.Kronecker.{where_zero}
use Rattle.exact_algebra.specs.Ranges.{sum-range}
use Rattle.exact_algebra.specs.Sums.{sum, sum-map, sum-pairs, below, below-only, below-none, where_equal, where_equal-apart, nat_equal}
use Rattle.exact_algebra.specs.TensorContraction.{places_cmp}
use Rattle.beta_poly.specs.Exponents.{AllWithin}
use Rattle.beta_poly.specs.Polynomial.{Polynomial, poly_ring, zero_poly}
use Rattle.sparse_tensor.specs.declared.values.Value.{Value}
use Rattle.sparse_tensor.specs.Tensor.{Tensor, HasValues}
use Rattle.sparse_tensor.specs.Operations.{entry, gathered_at}
use Rattle.model_core.specs.declared.model.Model.{Model}
use Rattle.model_core.specs.Scalar.{scalar_components}
use Rattle.yukawa_one_loop.proofs.Slices.{two_keys}
use Rattle.quartic_one_loop.specs.LegParts.{AreEnergies, energy_at, energy_value, energy_row, energy_rows}

from_zero : (i : ℕ) → 0 + i ≡ i
from_zero i = omega arith

-- one number more
range_more : (a n j : ℕ) → a + n ≡ j → range_with_len a (suc n) ≡ range_with_len a n ++ j ∷ []
range_more a zero j is = let same : a ≡ j = omega (arith, is) in ap (λ k. k ∷ []) same
range_more a (suc n) j is = ap (λ l. a ∷ l) (range_more (a + 1) n j (omega (arith, is)))

-- a value whose place isn't asked for counts for nothing
place_apart : (j a : ℕ) (x : Polynomial) → (a ≡ j → ⊥) → where_equal poly_ring.semiring (nat_cmp j a) x ≡ zero_poly
place_apart j a x other = where_equal-apart poly_ring.semiring (nat_cmp j a) x (λ e. other (sym (nat_equal j a e)))

-- one that is asked for counts
place_same : (j : ℕ) (x : Polynomial) → where_equal poly_ring.semiring (nat_cmp j j) x ≡ x
place_same j x = ap (λ o. where_equal poly_ring.semiring o x) (tied_itself nat_cmp_total j)

module _ (model : Model) (count : ℕ) where
  -- a value where its key is asked for
  abbrev asked : ℕ → ℕ → ℕ → ℕ → Polynomial
  asked j k a e =
      where_equal poly_ring.semiring (nat_cmp j a) (where_equal poly_ring.semiring (nat_cmp k e) (energy_at model a e))

  rows_at : (rows j k : ℕ) → gathered_at (map entry (energy_rows model count rows)) (j ∷ k ∷ []) ≡ below poly_ring.semiring rows (λ a. below poly_ring.semiring count (λ e. asked j k a e))
  unfolding gathered_at
  rows_at rows j k =
      let R = poly_ring.semiring in
      let test = λ (a e : ℕ). where_equal R (places_cmp (j ∷ k ∷ []) (a ∷ e ∷ [])) (energy_at model a e) in
      sum-map R entry (energy_rows model count rows) (λ e. where_equal R (places_cmp (j ∷ k ∷ []) e.0) e.1)
      ∙ sum-pairs R (energy_value model) (range_with_len 0 rows) (range_with_len 0 count) (λ v. where_equal R (places_cmp (j ∷ k ∷ []) v.key) v.value)
      ∙ sum-range R 0 rows (λ a. sum R (range_with_len 0 count) (test a))
      ∙ ap (below R rows) (fun_ext (λ a.
      ap (λ b. sum R (range_with_len 0 count) (test b)) (from_zero a)
      ∙ sum-range R 0 count (test a)
      ∙ ap (below R count) (fun_ext (λ e. ap (test a) (from_zero e) ∙ two_keys j k a e (energy_at model a e)))))

  -- the value that stands at a place of the table
  table_inside : (rows j k : ℕ) → j < rows → k < count → gathered_at (map entry (energy_rows model count rows)) (j ∷ k ∷ []) ≡ energy_at model j k
  table_inside rows j k first second =
      let R = poly_ring.semiring in
      rows_at rows j k
      ∙ below-only R rows j (λ a. below R count (λ e. asked j k a e)) first
      (λ a h other. below-none R count (λ e. asked j k a e) (λ e b. place_apart j a (where_equal R (nat_cmp k e) (energy_at model a e)) other))
      ∙ below-only R count k (λ e. asked j k j e) second
      (λ e h other. ap (where_equal R (nat_cmp j j)) (place_apart k e (energy_at model j e) other) ∙ where_zero R (nat_cmp j j))
      ∙ place_same j (where_equal R (nat_cmp k k) (energy_at model j k))
      ∙ place_same k (energy_at model j k)

  -- there are none in other rows
  table_outside : (rows j k : ℕ) → rows ≤ j → gathered_at (map entry (energy_rows model count rows)) (j ∷ k ∷ []) ≡ zero_poly
  table_outside rows j k past =
      let R = poly_ring.semiring in
      rows_at rows j k
      ∙ below-none R rows (λ a. below R count (λ e. asked j k a e))
      (λ a h. below-none R count (λ e. asked j k a e) (λ e b. place_apart j a (where_equal R (nat_cmp k e) (energy_at model a e)) (λ same. omega (arith, past, h, same))))

  -- ---- keys

  values_long : (a : ℕ) (es : List ℕ) → All {X = Value} (λ v. length v.key ≡ 2) (map (energy_value model a) es)
  values_long a [] i d within = absurd (omega (arith, within))
  values_long a (e ∷ es) zero d within = refl
  values_long a (e ∷ es) (suc i) d within = values_long a es i d (omega (arith, within))

  tables_long : (rows : List ℕ) → All {X = Value} (λ v. length v.key ≡ 2) (flat_map (energy_row model count) rows)
  tables_long [] = λ i d within. absurd (omega (arith, within))
  tables_long (a ∷ rows) =
      All-append (λ v. length v.key ≡ 2) (energy_row model count a) (flat_map (energy_row model count) rows) (values_long a (range_with_len 0 count)) (tables_long rows)

  pub rows_long : (rows : ℕ) (values : List Value) → values ≡ energy_rows model count rows → All {X = Value} (λ v. length v.key ≡ 2) values
  rows_long rows values is =
      subst (All {X = Value} (λ v. length v.key ≡ 2)) (sym is) (tables_long (range_with_len 0 rows))

  -- ---- loops

  -- one value more
  pub row_more : (a e : ℕ) (old now new : List Value) (v : Value) → now ≡ old ++ energy_row model e a → v ≡ energy_value model a e → new ≡ now ++ v ∷ [] → new ≡ old ++ energy_row model (e + 1) a
  row_more a e old now new v so_far is next =
      next
      ∙ ap₂ (λ l w. l ++ w ∷ []) so_far is
      ∙ append_assoc old (energy_row model e a) (energy_value model a e ∷ [])
      ∙ ap (λ l. old ++ l) (sym (map-range_with_len_more (energy_value model a) 0 e e (from_zero e)))

  -- one row more
  pub rows_more : (a : ℕ) (now new : List Value) → now ≡ energy_rows model count a → new ≡ now ++ energy_row model count a → new ≡ energy_rows model count (a + 1)
  rows_more a now new so_far next =
      let later : suc a ≡ a + 1 = omega arith in
      next
      ∙ ap (λ l. l ++ energy_row model count a) so_far
      ∙ ap (λ l. energy_rows model count a ++ l) (sym (append-nil (energy_row model count a)))
      ∙ sym (flat_map-append (energy_row model count) (range_with_len 0 a) (a ∷ []))
      ∙ ap (flat_map (energy_row model count)) (sym (range_more 0 a a (from_zero a)) ∙ ap (range_with_len 0) later)

-- a bound on one value more
pub within_more : (n : ℕ) (now new : List Value) (v : Value) → All {X = Value} (λ w. AllWithin n w.value) now → AllWithin n v.value → new ≡ now ++ v ∷ [] → All {X = Value} (λ w. AllWithin n w.value) new
within_more n now new v so_far one next =
    subst (All {X = Value} (λ w. AllWithin n w.value)) (sym next) (All-append (λ w. AllWithin n w.value) now (v ∷ []) so_far first)
  where
    first : All {X = Value} (λ w. AllWithin n w.value) (v ∷ [])
    first zero d within = one
    first (suc i) d within = absurd (omega (arith, within))

-- the tensor that is gathered
pub energies_gathered : (model : Model) (rows : ℕ) (values : List Value) (t : Tensor) → rows ≡ length (scalar_components model) → values ≡ energy_rows model rows rows → HasValues 2 (gathered_at (map entry values)) t → AreEnergies model t
energies_gathered model rows values t count is has = record {
  rank_is = has.rank_is;
  inside = λ a e first second.
      has.value_is (a ∷ e ∷ []) refl
      ∙ ap (λ vs. gathered_at (map entry vs) (a ∷ e ∷ [])) is
      ∙ table_inside model rows rows a e (omega (arith, first, count)) (omega (arith, second, count));
  outside = λ a e past.
      has.value_is (a ∷ e ∷ []) refl
      ∙ ap (λ vs. gathered_at (map entry vs) (a ∷ e ∷ [])) is
      ∙ table_outside model rows rows a e (omega (arith, past, count));
}
