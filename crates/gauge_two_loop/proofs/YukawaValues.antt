-- The values of a Yukawa tensor: exponents of at most 1, and entries at places of the legs; none where a model has no terms.
use Rattle.std.proofs.Common.{◌≡◌, ℕ, zero, suc, ◌+◌, ◌≤◌, ◌<◌, Bool, true, false, cond, List, [], ◌∷◌, ◌++◌, map, length, take, drop, get_or, Option, Some, None, refl, sym, subst, ap, ◌∙◌, arith, true≢false}
use Rattle.std.specs.Prelude.{◌==◌, slice_get}
use Rattle.std.proofs.lemmas.Bool.Decides.{nat_tests}
use Rattle.std.proofs.lemmas.Cmp.{tied_itself}
use Rattle.std.proofs.lemmas.Grind.{take_at_read}
use Rattle.std.proofs.lemmas.List.{length-map}
use Rattle.std.proofs.lemmas.Option.{slice_get_within, slice_get-get_or, get_or_from_slice_get}
use mathlib.Core.Path.{fun_ext}
use Rattle.exact_algebra.specs.Canon.{value, value-of, same_values}
use Rattle.exact_algebra.specs.Formal.{AllKeys, coefficient-eval, eval, unit_at}
use Rattle.exact_algebra.specs.Kronecker.{where_same}
use Rattle.exact_algebra.specs.Maps.{value-rename, rename-nought}
use Rattle.exact_algebra.specs.Naturals.{nat_semiring, nat_zero}
use Rattle.exact_algebra.specs.Sums.{sum, sum-nil, sum-cons, sum-one, sum-append, sum-map}
use Rattle.exact_algebra.specs.TensorContraction.{places_keys}
use Rattle.frac128.specs.Rational.{ℚ, zero_ℚ, ◌*ℚ◌}
use Rattle.frac128.specs.RationalLaws.{ring_ℚ}
use Rattle.beta_poly.specs.declared.symbol.Symbol.{Symbol}
use Rattle.beta_poly.specs.Exponents.{IsWithin, AllWithin}
use Rattle.beta_poly.specs.Monomial.{Monomial, monomial_keys, monomials, exponent, power, conj_monomial, value-conj_monomial}
use Rattle.beta_poly.specs.Polynomial.{Polynomial, Terms, poly_ring, zero_test, polynomial, zero_poly, add_poly, mul_poly, scale_poly, conj_poly, constant}
use Rattle.beta_poly.specs.Symbol.{symbol_keys, symbol_cmp, conj_symbol, conj_symbol-conj_symbol}
use Rattle.beta_poly.proofs.ExponentLaws.{keys_of, IsWithin-power, AllWithin-zero, AllWithin-term, AllWithin-add, AllWithin-mul, AllWithin-scale}
use Rattle.beta_poly.proofs.Steps.{at_number, coefficient_at, nonzero_at}
use Rattle.sparse_tensor.specs.Tensor.{Tensor, HasValues, poly_zero_test, rank_of, entries_of, value as value_at}
use Rattle.model_core.specs.declared.model.Model.{Model}
use Rattle.model_core.specs.declared.term.TermKind.TheVariants.{Fermion}
use Rattle.model_core.specs.Component.{fermion_components}
use Rattle.model_core.specs.Content.{is_fermionic}
use Rattle.model_core.specs.Directions.{CouplingEntry, entries, entries_from, symbol_of, multiple, entry_tensor, yukawa_part, yukawa_tensor, yukawa_at}
use Rattle.model_core.specs.Scalar.{Coordinate, scalar_coordinates}
use Rattle.model_core.specs.Scalar.Coordinate.{Of}
use Rattle.model_core.specs.TermTensor.{fermion_coordinates, legs_of, with_coordinate, coordinates_at, value_or}
use Rattle.term_expand.proofs.Legs.{of_three}
use Rattle.gauge_two_loop.specs.Pieces.{IsYukawa, share_at, entry_share, shares}

-- ---- exponents of conjugates

conj_weight : (s t : Symbol) → unit_at symbol_keys nat_semiring s (conj_symbol t) ≡ unit_at symbol_keys nat_semiring (conj_symbol s) t
conj_weight s t =
    where_same nat_semiring (symbol_cmp s (conj_symbol t)) (symbol_cmp (conj_symbol s) t) 1
    (λ same. let is : conj_symbol s ≡ t = ap conj_symbol (symbol_keys.equal s (conj_symbol t) same) ∙ conj_symbol-conj_symbol t in ap (λ r. symbol_cmp r t) is ∙ tied_itself symbol_keys.total t)
    (λ same. let is : s ≡ conj_symbol t = sym (conj_symbol-conj_symbol s) ∙ ap conj_symbol (symbol_keys.equal (conj_symbol s) t same) in ap (λ r. symbol_cmp r (conj_symbol t)) is ∙ tied_itself symbol_keys.total (conj_symbol t))

exponent-conj_monomial : (m : Monomial) (s : Symbol) → exponent (conj_monomial m) s ≡ exponent m (conj_symbol s)
exponent-conj_monomial m s =
    coefficient-eval symbol_keys nat_semiring (conj_monomial m).0 s
    ∙ value-conj_monomial m (unit_at symbol_keys nat_semiring s)
    ∙ ap (value symbol_keys nat_semiring nat_zero m) (fun_ext (conj_weight s))
    ∙ sym (coefficient-eval symbol_keys nat_semiring m.0 (conj_symbol s))

IsWithin-conj : (n : ℕ) (m : Monomial) → IsWithin n m → IsWithin n (conj_monomial m)
IsWithin-conj n m h s = subst (λ k. k ≤ n) (sym (exponent-conj_monomial m s)) (h (conj_symbol s))

conj_keys : (n : ℕ) (ts : Terms) → AllKeys monomial_keys ℚ (IsWithin n) ts → AllKeys monomial_keys ℚ (IsWithin n) (map (λ e. (conj_monomial e.0, e.1)) ts)
conj_keys n [] h = tt
conj_keys n (e ∷ es) h = (IsWithin-conj n e.0 h.0, conj_keys n es h.1)

polynomial-conjugate : (p : Polynomial) → polynomial (map (λ e. (conj_monomial e.0, e.1)) p.0) ≡ conj_poly p
unfolding polynomial eval
polynomial-conjugate p =
    same_values monomial_keys ring_ℚ.semiring zero_test (polynomial (map (λ e. (conj_monomial e.0, e.1)) p.0)) (conj_poly p) (λ F. value-of monomial_keys ring_ℚ.semiring zero_test (map (λ e. (conj_monomial e.0, e.1)) p.0) F ∙ sum-map ring_ℚ.semiring (λ (e : Monomial × ℚ). (conj_monomial e.0, e.1)) p.0 (λ e. e.1 *ℚ F e.0) ∙ sym (value-rename monomials ring_ℚ.semiring zero_test conj_monomial p F))

pub AllWithin-conj : (n : ℕ) (p : Polynomial) → AllWithin n p → AllWithin n (conj_poly p)
unfolding polynomial
AllWithin-conj n p h =
    subst (AllWithin n) (polynomial-conjugate p) (keys_of monomial_keys ring_ℚ.semiring zero_test (IsWithin n) (map (λ e. (conj_monomial e.0, e.1)) p.0) (conj_keys n p.0 h))

-- ---- exponents of sums

pub AllWithin-sum : {A : Type 0} (n : ℕ) (xs : List A) (f : A → Polynomial) → ((x : A) → AllWithin n (f x)) → AllWithin n (sum poly_ring.semiring xs f)
AllWithin-sum n [] f each = subst (AllWithin n) (sym (sum-nil poly_ring.semiring f)) (AllWithin-zero n)
AllWithin-sum n (x ∷ xs) f each =
    subst (AllWithin n) (sym (sum-cons poly_ring.semiring x xs f)) (AllWithin-add n (f x) (sum poly_ring.semiring xs f) (each x) (AllWithin-sum n xs f each))

AllWithin-sum_on : {A : Type 0} (n : ℕ) (xs : List A) (f : A → Polynomial) → ((i : ℕ) (d : A) → i < length xs → AllWithin n (f (get_or xs i d))) → AllWithin n (sum poly_ring.semiring xs f)
AllWithin-sum_on n [] f each = subst (AllWithin n) (sym (sum-nil poly_ring.semiring f)) (AllWithin-zero n)
AllWithin-sum_on n (x ∷ xs) f each =
    subst (AllWithin n) (sym (sum-cons poly_ring.semiring x xs f))
    (AllWithin-add n (f x) (sum poly_ring.semiring xs f) (each 0 x (omega arith)) (AllWithin-sum_on n xs f (λ i d h. each (suc i) d (omega arith))))

part_within : (model : Model) (cs : List Coordinate) (entry : CouplingEntry) → AllWithin 1 (yukawa_part model cs entry)
part_within model cs entry = by_kind (is_fermionic entry.term.kind)
  where
    by_kind : (b : Bool) → AllWithin 1 (cond b (multiple (symbol_of entry) (entry_tensor model entry cs)) zero_poly)
    by_kind true = AllWithin-term 1 (power (symbol_of entry) 1) (entry_tensor model entry cs) (IsWithin-power (symbol_of entry) 1)
    by_kind false = AllWithin-zero 1

tensor_within : (model : Model) (o : Option (List Coordinate)) → AllWithin 1 (value_or zero_poly (yukawa_tensor model) o)
tensor_within model None = AllWithin-zero 1
tensor_within model (Some cs) = AllWithin-sum 1 (entries model) (yukawa_part model cs) (part_within model cs)

-- ---- entries

key_long : (es : List (List ℕ × Polynomial)) (rank : ℕ) (i : ℕ) (d : List ℕ × Polynomial) → AllKeys places_keys Polynomial (λ k. length k ≡ rank) es → i < length es → length (get_or es i d).0 ≡ rank
key_long [] rank i d keys h = absurd (omega arith)
key_long (e ∷ es) rank zero d keys h = keys.0
key_long (e ∷ es) rank (suc i) d keys h = key_long es rank i d keys.1 (omega arith)

-- an entry of a tensor at its place
module _ (t : Tensor) (i : ℕ) (e : List ℕ × Polynomial) (there : slice_get (entries_of t) i ≡ Some e) where
  entry_within : i < length (entries_of t)
  entry_within = slice_get_within (entries_of t) i e there

  entry_is : get_or (entries_of t) i e ≡ e
  entry_is = get_or_from_slice_get (entries_of t) i e e there

  pub entry_long : (fermions : ℕ) → IsYukawa fermions t → length e.0 ≡ 3
  entry_long fermions yukawa =
      subst (λ x. length x.0 ≡ 3) entry_is (key_long (entries_of t) (rank_of t) i e t.1.keys entry_within ∙ yukawa.rank)

  pub entry_inside : (fermions : ℕ) → IsYukawa fermions t → get_or e.0 0 0 < fermions
  entry_inside fermions yukawa = subst (λ x. get_or x.0 0 0 < fermions) entry_is (yukawa.inside i e entry_within)

  pub entry_small : (fermions : ℕ) → IsYukawa fermions t → AllWithin 1 e.1
  entry_small fermions yukawa =
      let es = entries_of t in
      let at = at_number es i e entry_within ∙ ap (λ d. d ∷ drop (i + 1) es) entry_is in
      let own : value_at t e.0 ≡ e.1 = coefficient_at places_keys poly_ring.semiring poly_zero_test es i e at t.1.is_map in
      subst (AllWithin 1) own (yukawa.within e.0 (entry_long fermions yukawa))

  -- the sum over one entry more
  pub shares-more : (casimirs : List ℚ) (dummy : ℕ) → shares casimirs dummy t (take (i + 1) (entries_of t)) ≡ add_poly (shares casimirs dummy t (take i (entries_of t))) (entry_share casimirs dummy t e)
  shares-more casimirs dummy =
      let es = entries_of t in
      let taken : take (i + 1) es ≡ take i es ++ e ∷ [] = (take_at_read es i e entry_within).1 ∙ ap (λ x. take i es ++ x ∷ []) entry_is in
      ap (shares casimirs dummy t) taken
      ∙ sum-append poly_ring.semiring (take i es) (e ∷ []) (entry_share casimirs dummy t)
      ∙ ap (add_poly (shares casimirs dummy t (take i es))) (sum-one poly_ring.semiring e (entry_share casimirs dummy t))

-- ---- shares that are 0

pub share-dummy : (casimirs : List ℚ) (dummy : ℕ) (t : Tensor) (i j b : ℕ) (found : Polynomial) → b ≡ dummy → share_at casimirs dummy t i j b found ≡ zero_poly
share-dummy casimirs dummy t i j b found same =
    let test : (b == dummy) ≡ true = grind (arith, nat_tests) in
    ap (λ q. cond q zero_poly (scale_poly (get_or casimirs i zero_ℚ) (mul_poly found (conj_poly (value_at t (j ∷ i ∷ b ∷ [])))))) test

pub share-absent : (casimirs : List ℚ) (dummy : ℕ) (t : Tensor) (i j b : ℕ) (found : Polynomial) → value_at t (j ∷ i ∷ b ∷ []) ≡ zero_poly → share_at casimirs dummy t i j b found ≡ zero_poly
share-absent casimirs dummy t i j b found none = by_test (b == dummy)
  where
    by_test : (q : Bool) → cond q zero_poly (scale_poly (get_or casimirs i zero_ℚ) (mul_poly found (conj_poly (value_at t (j ∷ i ∷ b ∷ []))))) ≡ zero_poly
    by_test true = refl
    by_test false =
        ap (λ v. scale_poly (get_or casimirs i zero_ℚ) (mul_poly found (conj_poly v))) none
        ∙ ap (λ v. scale_poly (get_or casimirs i zero_ℚ) (mul_poly found v)) (rename-nought monomials ring_ℚ.semiring zero_test conj_monomial)
        ∙ ap (mul_poly (constant (get_or casimirs i zero_ℚ))) (poly_ring.semiring.mul_zero found)
        ∙ poly_ring.semiring.mul_zero (constant (get_or casimirs i zero_ℚ))

-- ---- exponents of a trace

pub shares-within : (casimirs : List ℚ) (dummy : ℕ) (t : Tensor) (fermions : ℕ) → IsYukawa fermions t → AllWithin 2 (shares casimirs dummy t (entries_of t))
shares-within casimirs dummy t fermions yukawa =
    AllWithin-sum_on 2 (entries_of t) (entry_share casimirs dummy t) (λ i d h.
    let e = get_or (entries_of t) i d in
    let there : slice_get (entries_of t) i ≡ Some e = slice_get-get_or (entries_of t) i d h in
    by_test (get_or e.0 2 0 == dummy) (get_or casimirs (get_or e.0 0 0) zero_ℚ) e.1 (value_at t (get_or e.0 1 0 ∷ get_or e.0 0 0 ∷ get_or e.0 2 0 ∷ [])) (entry_small t i e there fermions yukawa) (yukawa.within _ refl))
  where
    by_test : (q : Bool) (c : ℚ) (v w : Polynomial) → AllWithin 1 v → AllWithin 1 w → AllWithin 2 (cond q zero_poly (scale_poly c (mul_poly v (conj_poly w))))
    by_test true c v w first second = AllWithin-zero 2
    by_test false c v w first second = AllWithin-scale 2 c (mul_poly v (conj_poly w)) (AllWithin-mul 1 1 v (conj_poly w) first (AllWithin-conj 1 w second))

-- ---- places of entries

-- a value that isn't 0 has a coordinate at each place
three_places : (f : List Coordinate → Polynomial) (o p q : Option Coordinate) → (value_or zero_poly f (with_coordinate o (with_coordinate p (with_coordinate q (Some [])))) ≡ zero_poly → ⊥)
    → ((c : Coordinate) × (o ≡ Some c)) × ((c : Coordinate) × (p ≡ Some c)) × ((c : Coordinate) × (q ≡ Some c))
three_places f None p q nonzero = absurd (nonzero refl)
three_places f (Some c) None q nonzero = absurd (nonzero refl)
three_places f (Some c) (Some d) None nonzero = absurd (nonzero refl)
three_places f (Some c) (Some d) (Some e) nonzero = ((c, refl), (d, refl), (e, refl))

-- a key of three places within their legs
pub record HasPlaces (model : Model) (key : List ℕ) : Type 0 where
  pub first : ℕ
  pub second : ℕ
  pub third : ℕ
  pub is : key ≡ first ∷ second ∷ third ∷ []
  pub first_within : first < length (fermion_components model)
  pub second_within : second < length (fermion_components model)
  pub third_within : third < length (scalar_coordinates model)

places_of : (model : Model) (i j b : ℕ) → (yukawa_at model (i ∷ j ∷ b ∷ []) ≡ zero_poly → ⊥) → HasPlaces model (i ∷ j ∷ b ∷ [])
places_of model i j b nonzero =
    let leg = fermion_coordinates model in
    let found = three_places (yukawa_tensor model) (slice_get leg i) (slice_get leg j) (slice_get (scalar_coordinates model) b) nonzero in
    let count : length leg ≡ length (fermion_components model) = length-map (fermion_components model) Of in
    record {
      first = i;
      second = j;
      third = b;
      is = refl;
      first_within = omega (arith, count, slice_get_within leg i found.0.0 found.0.1);
      second_within = omega (arith, count, slice_get_within leg j found.1.0 found.1.1);
      third_within = slice_get_within (scalar_coordinates model) b found.2.0 found.2.1;
    }

module _ (model : Model) (t : Tensor) (has : HasValues 3 (yukawa_at model) t) where
  -- the places of an entry
  pub entry_places : (i : ℕ) (d : List ℕ × Polynomial) → i < length (entries_of t) → HasPlaces model (get_or (entries_of t) i d).0
  entry_places i d h =
      let es = entries_of t in
      let e = get_or es i d in
      let there = at_number es i d h in
      let long : length e.0 ≡ 3 = key_long es (rank_of t) i d t.1.keys h ∙ has.rank_is in
      let own : value_at t e.0 ≡ e.1 = coefficient_at places_keys poly_ring.semiring poly_zero_test es i e there t.1.is_map in
      let nonzero : e.1 ≡ zero_poly → ⊥ =
      λ z. true≢false (sym poly_zero_test.at_zero ∙ ap poly_zero_test.is_zero (sym z) ∙ nonzero_at places_keys poly_ring.semiring poly_zero_test es i e there t.1.is_map) in
      of_three (λ key. (yukawa_at model key ≡ zero_poly → ⊥) → HasPlaces model key) (places_of model) e.0 long (λ none. nonzero (sym own ∙ has.value_is e.0 long ∙ none))

  pub is_yukawa : IsYukawa (length (fermion_components model)) t
  is_yukawa =
      record {
        rank = has.rank_is;
        within = λ key long. subst (AllWithin 1) (sym (has.value_is key long)) (tensor_within model (coordinates_at (legs_of model Fermion) key));
        inside = λ i d h. let places = entry_places i d h in subst (λ key. get_or key 0 0 < length (fermion_components model)) (sym places.is) places.first_within;
      }

  -- no terms, no entries
  pub no_entries : model.terms ≡ [] → entries_of t ≡ []
  no_entries none = by_list (entries_of t) refl
    where
      no_coupling : model.terms ≡ [] → entries model ≡ []
      no_coupling e = ap (λ ts. entries_from 1 (length model.groups) ts) e

      no_value : (key : List ℕ) → yukawa_at model key ≡ zero_poly
      no_value key = by_coordinates (coordinates_at (legs_of model Fermion) key)
        where
          by_coordinates : (o : Option (List Coordinate)) → value_or zero_poly (yukawa_tensor model) o ≡ zero_poly
          by_coordinates None = refl
          by_coordinates (Some cs) = ap (λ es. sum poly_ring.semiring es (yukawa_part model cs)) (no_coupling none) ∙ sum-nil poly_ring.semiring _

      by_list : (es : List (List ℕ × Polynomial)) → entries_of t ≡ es → entries_of t ≡ []
      by_list [] e = e
      by_list (first ∷ es) e =
          let within : 0 < length (entries_of t) = omega (arith, ap length e) in
          let there = at_number (entries_of t) 0 first within in
          let here = get_or (entries_of t) 0 first in
          let long : length here.0 ≡ 3 = key_long (entries_of t) (rank_of t) 0 first t.1.keys within ∙ has.rank_is in
          let own : value_at t here.0 ≡ here.1 = coefficient_at places_keys poly_ring.semiring poly_zero_test (entries_of t) 0 here there t.1.is_map in
          let nonzero = nonzero_at places_keys poly_ring.semiring poly_zero_test (entries_of t) 0 here there t.1.is_map in
          absurd (true≢false (sym poly_zero_test.at_zero ∙ ap poly_zero_test.is_zero (sym (sym own ∙ has.value_is here.0 long ∙ no_value here.0)) ∙ nonzero))
