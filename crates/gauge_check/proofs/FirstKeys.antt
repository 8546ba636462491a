-- First entries of tensors of numbers, and first keys.
use Rattle.std.specs.Prelude.{◌≡◌, ◌≢◌, ◌<◌, ◌≤◌, ◌+◌, ◌||◌, not, ℕ, zero, suc, Bool, true, false, List, [], ◌∷◌, ◌++◌, map, length, get_or, slice_get, Option, Some, None}
use Rattle.std.specs.List.{list_any}
use Rattle.std.proofs.Common.{take, refl, sym, ap, ap₂, subst, ◌∙◌, arith, true≢false, Ordering, Less, Equal, Greater}
use Rattle.std.proofs.lemmas.Cmp.{nat_list_cmp_total, tied_itself}
use Rattle.std.proofs.lemmas.List.{take_more, take_all}
use Rattle.std.proofs.lemmas.List.Folds.{list_any-append}
use Rattle.exact_algebra.specs.Formal.{coefficient-eval, coefficient-nil, unit_at, greater_less}
use Rattle.exact_algebra.specs.Maps.{const-zero, value-const}
use Rattle.exact_algebra.specs.Sums.{where_equal}
use Rattle.exact_algebra.specs.TensorContraction.{places_keys, places_cmp, places_equal}
use Rattle.frac128.specs.Rational.{ℚ, zero_ℚ, one_ℚ, ◌*ℚ◌, ◌-ℚ◌, eq_ℚ}
use Rattle.frac128.specs.RationalLaws.{ring_ℚ, same_from_difference}
use Rattle.frac128.specs.RationalOrder.{Decides-eq_ℚ}
use Rattle.beta_poly.specs.Monomial.{monomial_keys, monomials, one_monomial}
use Rattle.beta_poly.specs.Polynomial.{Polynomial, poly_ring, zero_test, zero_poly, constant, coefficient_of}
use Rattle.beta_poly.proofs.Steps.{coefficient_at, coefficient_before, nonzero_at}
use Rattle.sparse_tensor.specs.Tensor.{Tensor, Entries, IsMap, HasRank, poly_zero_test, entries_of, value_in}
use Rattle.model_core.specs.declared.model.Model.{Model}
use Rattle.model_core.specs.declared.term.TermKind.{TermKind}
use Rattle.model_core.specs.declared.term.TermKind.TheVariants.{Scalar}
use Rattle.model_core.specs.Scalar.{Coordinate, partner}
use Rattle.model_core.specs.TermTensor.{Numbers, legs_of, coordinates_at, value_or, at_places}
use Rattle.term_expand.specs.declared.directions.Direction.{Direction as Found}
use Rattle.term_expand.specs.Multiples.{HasNumbers, HasCoordinates}
use Rattle.term_expand.specs.Texts.{leg_count}
use Rattle.gauge_check.specs.Steps.{HasKeyNumbers, IsWhole, AreWhole, differs_at, any_differs_at, IsFirstAt, IsFirstKey, first_key, earlier_by, earlier}

-- ---- numbers as polynomials

-- the number of a polynomial that is one
pub number_of : (c : ℚ) → coefficient_of (constant c) one_monomial ≡ c
number_of c =
    coefficient-eval monomial_keys ring_ℚ.semiring (constant c).0 one_monomial
    ∙ value-const monomials ring_ℚ.semiring zero_test c (unit_at monomial_keys ring_ℚ.semiring one_monomial)
    ∙ ap (λ o. c *ℚ where_equal ring_ℚ.semiring o one_ℚ) (tied_itself monomial_keys.total one_monomial)
    ∙ ring_ℚ.semiring.mul_one c

zero_number : constant zero_ℚ ≡ zero_poly
zero_number = const-zero monomials ring_ℚ.semiring zero_test

-- the number is 0 where the polynomial is
pub number_zero : (c : ℚ) → constant c ≡ zero_poly → c ≡ zero_ℚ
number_zero c e = sym (number_of c) ∙ ap (λ p. coefficient_of p one_monomial) (e ∙ sym zero_number) ∙ number_of zero_ℚ

not_zero : (p : Polynomial) → poly_zero_test.is_zero p ≡ false → p ≡ zero_poly → ⊥
not_zero p h e = true≢false (sym poly_zero_test.at_zero ∙ ap poly_zero_test.is_zero (sym e) ∙ h)

-- ---- the first entry

-- at the first entry's key the number isn't 0, and before it each is
pub record IsFirstEntry (model : Model) (kind : TermKind) (g : List ℕ → ℚ) (e : List ℕ × Polynomial) : Type 0 where
  pub inside : HasCoordinates model kind e.0
  pub number : e.1 ≡ constant (g e.0)
  pub nonzero : g e.0 ≢ zero_ℚ
  pub before : (key : List ℕ) → length key ≡ leg_count kind → places_cmp key e.0 ≡ Less → g key ≡ zero_ℚ

module _ (model : Model) (kind : TermKind) (g : List ℕ → ℚ) (outside : (key : List ℕ) → coordinates_at (legs_of model kind) key ≡ None → g key ≡ zero_ℚ) where
  inside_by : (key : List ℕ) (o : Option (List Coordinate)) → coordinates_at (legs_of model kind) key ≡ o → g key ≢ zero_ℚ → HasCoordinates model kind key
  inside_by key None at nonzero = absurd (nonzero (outside key at))
  inside_by key (Some cs) at nonzero = record { coordinates = cs; at = at }

  first_of : (e : List ℕ × Polynomial) (es : Entries) → IsMap (e ∷ es) → length e.0 ≡ leg_count kind → ((key : List ℕ) → length key ≡ leg_count kind → value_in (e ∷ es) key ≡ constant (g key)) → IsFirstEntry model kind g e
  first_of e es is_map long is =
      let own : e.1 ≡ constant (g e.0) = sym (coefficient_at places_keys poly_ring.semiring poly_zero_test (e ∷ es) 0 e refl is_map) ∙ is e.0 long in
      let nonzero : g e.0 ≢ zero_ℚ = λ none. not_zero e.1 (nonzero_at places_keys poly_ring.semiring poly_zero_test (e ∷ es) 0 e refl is_map) (own ∙ ap constant none ∙ zero_number) in
      record {
        inside = inside_by e.0 (coordinates_at (legs_of model kind) e.0) refl nonzero;
        number = own;
        nonzero = nonzero;
        before = λ key l less. number_zero (g key) (sym (is key l) ∙ coefficient_before places_keys poly_ring.semiring poly_zero_test (e ∷ es) key 0 e refl is_map less);
      }

  first_in : (es : Entries) (e : List ℕ × Polynomial) → slice_get es 0 ≡ Some e → IsMap es → HasRank (leg_count kind) es → ((key : List ℕ) → length key ≡ leg_count kind → value_in es key ≡ constant (g key)) → IsFirstEntry model kind g e
  first_in [] e found is_map keys is = let never : ⊥ = cc in absurd never
  first_in (d ∷ es) e found is_map keys is = subst (IsFirstEntry model kind g) (same d e found) (first_of d es is_map keys.0 is)
    where
      same : (x y : List ℕ × Polynomial) → Some x ≡ Some y → x ≡ y
      same x y e = cc

module _ (model : Model) (kind : TermKind) (g : List ℕ → ℚ) (t : Tensor) (has : HasKeyNumbers model kind g t) where
  -- a tensor's first entry
  pub first_entry : (e : List ℕ × Polynomial) → slice_get (entries_of t) 0 ≡ Some e → IsFirstEntry model kind g e
  first_entry e found =
      first_in model kind g has.outside (entries_of t) e found t.1.is_map (subst (λ n. HasRank n (entries_of t)) has.has.rank_is t.1.keys) has.has.value_is

  -- a tensor without entries
  pub no_entry : (key : List ℕ) → entries_of t ≡ [] → length key ≡ leg_count kind → g key ≡ zero_ℚ
  no_entry key none l =
      number_zero (g key) (sym (has.has.value_is key l) ∙ ap (λ es. value_in es key) none ∙ coefficient-nil places_keys poly_ring.semiring poly_zero_test key)

-- the numbers of coordinates are 0 where a place has none
pub key_numbers : (model : Model) (kind : TermKind) (f : Numbers) (t : Tensor) → HasNumbers model kind f t → HasKeyNumbers model kind (at_places zero_ℚ (legs_of model kind) f) t
key_numbers model kind f t has = record { has = has; outside = λ key at. ap (value_or zero_ℚ f) at }

-- ---- where numbers aren't those at the partners

module _ (f : Numbers) where
  abbrev apart : Numbers
  apart cs = f cs -ℚ f (map partner cs)

  abbrev tells : List Coordinate → Bool
  tells cs = not (eq_ℚ (f cs) (f (map partner cs)))

  same_there : (o : Option (List Coordinate)) → value_or zero_ℚ apart o ≡ zero_ℚ → value_or false tells o ≡ false
  same_there None e = refl
  same_there (Some cs) e = ap not ((Decides-eq_ℚ (f cs) (f (map partner cs))).1 (same_from_difference (f cs) (f (map partner cs)) e))

  other_there : (o : Option (List Coordinate)) → value_or zero_ℚ apart o ≢ zero_ℚ → value_or false tells o ≡ true
  other_there None h = absurd (h refl)
  other_there (Some cs) h = by_test (eq_ℚ (f cs) (f (map partner cs))) refl
    where
      by_test : (b : Bool) → eq_ℚ (f cs) (f (map partner cs)) ≡ b → not (eq_ℚ (f cs) (f (map partner cs))) ≡ true
      by_test true e =
          let same = (Decides-eq_ℚ (f cs) (f (map partner cs))).0 e in
          absurd (h (ap (λ x. x -ℚ f (map partner cs)) same ∙ ring_ℚ.add_neg (f (map partner cs))))
      by_test false e = ap not e

  -- the first key of the difference
  pub difference_first : (model : Model) (t : Tensor) → HasNumbers model Scalar apart t → IsFirstKey model (differs_at model f) (first_key (entries_of t))
  difference_first model t has = by_entries (entries_of t) refl
    where
      by_entries : (es : Entries) → entries_of t ≡ es → IsFirstKey model (differs_at model f) (first_key es)
      by_entries [] e = λ key l. same_there (coordinates_at (legs_of model Scalar) key) (no_entry model Scalar (at_places zero_ℚ (legs_of model Scalar) apart) t (key_numbers model Scalar apart t has) key e l)
      by_entries (d ∷ es) e =
          let first = first_entry model Scalar (at_places zero_ℚ (legs_of model Scalar) apart) t (key_numbers model Scalar apart t has) d (ap (λ xs. slice_get xs 0) e) in
          record {
            inside = first.inside;
            here = other_there (coordinates_at (legs_of model Scalar) d.0) first.nonzero;
            before = λ key l less. same_there (coordinates_at (legs_of model Scalar) key) (first.before key l less);
          }

-- ---- of two keys the first

or_true : (b : Bool) → (b || true) ≡ true
or_true true = refl
or_true false = refl

or_left : (a b : Bool) → a ≡ true → (a || b) ≡ true
or_left a b e = ap (λ x. x || b) e

or_right : (a b : Bool) → b ≡ true → (a || b) ≡ true
or_right a b e = ap (λ x. a || x) e ∙ or_true a

neither : (a b : Bool) → a ≡ false → b ≡ false → (a || b) ≡ false
neither a b e f = ap₂ (λ x y. x || y) e f

module _ (model : Model) (test other : List ℕ → Bool) where
  abbrev either : List ℕ → Bool
  either key = test key || other key

  both_first : (a b : List ℕ) (o : Ordering) → places_cmp a b ≡ o → IsFirstAt model test a → IsFirstAt model other b → IsFirstAt model either (earlier_by o a b)
  both_first a b Less e first second = record {
    inside = first.inside;
    here = or_left (test a) (other a) first.here;
    before = λ key l less. neither (test key) (other key) (first.before key l less) (second.before key l (nat_list_cmp_total.trans key a b less e));
  }
  both_first a b Equal e first second = record {
    inside = first.inside;
    here = or_left (test a) (other a) first.here;
    before = λ key l less. neither (test key) (other key) (first.before key l less) (second.before key l (subst (λ k. places_cmp key k ≡ Less) (places_equal a b e) less));
  }
  both_first a b Greater e first second = record {
    inside = second.inside;
    here = or_right (test b) (other b) second.here;
    before = λ key l less. neither (test key) (other key) (first.before key l (nat_list_cmp_total.trans key b a less (greater_less places_keys a b e))) (second.before key l less);
  }

  -- the first key at which one of two tests passes
  pub earlier_first : (a b : Option (List ℕ)) → IsFirstKey model test a → IsFirstKey model other b → IsFirstKey model either (earlier a b)
  earlier_first None None first second = λ key l. neither (test key) (other key) (first key l) (second key l)
  earlier_first None (Some b) first second = record {
    inside = second.inside;
    here = or_right (test b) (other b) second.here;
    before = λ key l less. neither (test key) (other key) (first key l) (second.before key l less);
  }
  earlier_first (Some a) None first second = record {
    inside = first.inside;
    here = or_left (test a) (other a) first.here;
    before = λ key l less. neither (test key) (other key) (first.before key l less) (second key l);
  }
  earlier_first (Some a) (Some b) first second = both_first a b (places_cmp a b) refl first second

-- ---- over all directions

same_tests : (model : Model) (test other : List ℕ → Bool) (o : Option (List ℕ)) → ((key : List ℕ) → test key ≡ other key) → IsFirstKey model test o → IsFirstKey model other o
same_tests model test other None same first = λ key l. sym (same key) ∙ first key l
same_tests model test other (Some a) same first = record {
  inside = first.inside;
  here = sym (same a) ∙ first.here;
  before = λ key l less. sym (same key) ∙ first.before key l less;
}

-- the same test at the same keys
pub first_key_same : (model : Model) (test other : List ℕ → Bool) (o : Option (List ℕ)) → ((key : List ℕ) → test key ≡ other key) → IsFirstKey model test o → IsFirstKey model other o
first_key_same = same_tests

pub no_difference : (model : Model) (fs : List Numbers) → IsFirstKey model (any_differs_at model (take 0 fs)) None
no_difference model fs = λ key l. refl

or_false : (b : Bool) → (b || false) ≡ b
or_false true = refl
or_false false = refl

-- one direction more
pub difference_step : (model : Model) (fs : List Numbers) (i : ℕ) (f : Numbers) (first next : Option (List ℕ)) → i < length fs → get_or fs i f ≡ f → IsFirstKey model (any_differs_at model (take i fs)) first → IsFirstKey model (differs_at model f) next
    → IsFirstKey model (any_differs_at model (take (i + 1) fs)) (earlier first next)
difference_step model fs i f first next within is so_far more =
    let longer : take (i + 1) fs ≡ take i fs ++ f ∷ [] = take_more fs i f within ∙ ap (λ g. take i fs ++ g ∷ []) is in
    same_tests model (λ key. any_differs_at model (take i fs) key || differs_at model f key) (any_differs_at model (take (i + 1) fs)) (earlier first next)
    (λ key. ap (λ b. any_differs_at model (take i fs) key || b) (sym (or_false (differs_at model f key))) ∙ sym (list_any-append (λ g. differs_at model g key) (take i fs) (f ∷ [])) ∙ ap (list_any (λ g. differs_at model g key)) (sym longer))
    (earlier_first model (any_differs_at model (take i fs)) (differs_at model f) first next so_far more)

pub difference_end : (model : Model) (fs : List Numbers) (i : ℕ) (first : Option (List ℕ)) → length fs ≤ i → IsFirstKey model (any_differs_at model (take i fs)) first → IsFirstKey model (any_differs_at model fs) first
difference_end model fs i first over so_far = subst (λ gs. IsFirstKey model (any_differs_at model gs) first) (take_all i fs over) so_far

-- the numbers of one direction among those of all
pub record WholeAt (model : Model) (fs : List Numbers) (i : ℕ) (found : Found) : Type 0 where
  pub numbers : Numbers
  pub within : i < length fs
  pub is : get_or fs i numbers ≡ numbers
  pub whole : IsWhole model numbers found

pub whole_at : (model : Model) (fs : List Numbers) (ds : List Found) (i : ℕ) (found : Found) → AreWhole model fs ds → i < length ds → found ≡ get_or ds i found → WholeAt model fs i found
whole_at model [] [] i found all within is = absurd (omega (arith, within))
whole_at model [] (d ∷ ds) i found all within is = absurd all
whole_at model (f ∷ fs) [] i found all within is = absurd all
whole_at model (f ∷ fs) (d ∷ ds) zero found all within is = record { numbers = f; within = omega arith; is = refl; whole = subst (IsWhole model f) (sym is) all.0 }
whole_at model (f ∷ fs) (d ∷ ds) (suc i) found all within is =
    let rest = whole_at model fs ds i found all.1 (omega (arith, within)) is in
    let inside = rest.within in
    record { numbers = rest.numbers; within = omega (arith, inside); is = rest.is; whole = rest.whole }

pub wholes_length : (model : Model) (fs : List Numbers) (ds : List Found) → AreWhole model fs ds → length fs ≡ length ds
wholes_length model [] [] all = refl
wholes_length model [] (d ∷ ds) all = absurd all
wholes_length model (f ∷ fs) [] all = absurd all
wholes_length model (f ∷ fs) (d ∷ ds) all = ap suc (wholes_length model fs ds all.1)
