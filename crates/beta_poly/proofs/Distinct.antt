-- Lists in which no key stands twice, and that a sort makes canonical.
use Rattle.std.proofs.Common.{◌≡◌, ℕ, zero, suc, ◌+◌, ◌≤◌, List, [], ◌∷◌, refl, sym, ap, ◌∙◌, arith, false, true≢false, Ordering, Less, Equal, Greater, subst}
use Rattle.std.specs.Prelude.{map}
use Rattle.std.specs.List.{All}
use Rattle.std.specs.Ordering.{is_lt}
use Rattle.std.specs.List.Sorted.{IsPermutation}
use Rattle.std.proofs.lemmas.List.Sorted.{All-permutation}
use Rattle.std.proofs.lemmas.Cmp.{tied_itself}
use mathlib.Core.Path.{fun_ext}
use Rattle.exact_algebra.specs.Naturals.{nat_semiring}
use Rattle.exact_algebra.specs.Sums.{sum, sum-cons, sum-map, where_equal}
use Rattle.exact_algebra.specs.Permuted.{sum-permuted}
use Rattle.exact_algebra.specs.Ring.{Semiring, ZeroTest}
use Rattle.exact_algebra.specs.Formal.{Keys, Formal, AllKeys, Above, Ascending, NonZero, IsCanonical, greater_less}
use Rattle.beta_poly.proofs.Gathered.{Rising}

plain : (n : ℕ) → 0 + n ≡ n
plain n = omega arith

less_unequal : Less ≡ Equal → ⊥
less_unequal h = cc

greater_unequal : Greater ≡ Equal → ⊥
greater_unequal h = cc

module _ (K : Keys) (V : Type 0) where
  -- 1 where the two keys are one, and 0 elsewhere
  abbrev met : K.carrier → K.carrier → ℕ
  met k j = where_equal nat_semiring (K.cmp k j) 1

  -- how often the key stands in the list
  abbrev count : K.carrier → List (K.carrier × V) → ℕ
  count k es = sum nat_semiring es (λ e. met k e.0)

  -- no key stands twice
  abbrev pub Distinct : List (K.carrier × V) → Type 0
  Distinct es = (k : K.carrier) → count k es ≤ 1

  count-nil : (k : K.carrier) → count k [] ≡ 0
  unfolding sum
  count-nil k = refl

  count-cons : (k : K.carrier) (e : K.carrier × V) (es : List (K.carrier × V)) → count k (e ∷ es) ≡ met k e.0 + count k es
  count-cons k e es = sum-cons nat_semiring e es (λ e. met k e.0)

  none_above : (k : K.carrier) (es : List (K.carrier × V)) → Above K V k es → count k es ≡ 0
  none_above k [] h = count-nil k
  none_above k (e ∷ es) h =
      count-cons k e es ∙ ap (λ o. where_equal nat_semiring o 1 + count k es) h.0 ∙ plain (count k es) ∙ none_above k es h.1

  once_at : (o : Ordering) (k : K.carrier) (e : K.carrier × V) (es : List (K.carrier × V)) → K.cmp k e.0 ≡ o → Above K V e.0 es → count k es ≤ 1 → where_equal nat_semiring o 1 + count k es ≤ 1
  once_at Less k e es h a c = omega arith
  once_at Greater k e es h a c = omega arith
  once_at Equal k e es h a c =
      let none : count k es ≡ 0 = none_above k es (subst (λ x. Above K V x es) (sym (K.equal k e.0 h)) a) in
      omega arith

  -- keys that ascend are distinct
  pub distinct : (es : List (K.carrier × V)) → Ascending K V es → Distinct es
  distinct [] h k = subst (λ n. n ≤ 1) (sym (count-nil k)) (omega arith)
  distinct (e ∷ es) h k =
      subst (λ n. n ≤ 1) (sym (count-cons k e es)) (once_at (K.cmp k e.0) k e es refl h.0 (distinct es h.1 k))

  pub distinct-permuted : (es fs : List (K.carrier × V)) → IsPermutation es fs → Distinct es → Distinct fs
  distinct-permuted es fs p h k =
      subst (λ n. n ≤ 1) (sym (sum-permuted nat_semiring es fs p (λ e. met k e.0))) (h k)

  -- ---- renamed keys

  module _ (f : K.carrier → K.carrier) (back : (k : K.carrier) → f (f k) ≡ k) where
    forth : (k j : K.carrier) → K.cmp k (f j) ≡ Equal → K.cmp (f k) j ≡ Equal
    forth k j h =
        ap (λ x. K.cmp x j) (ap f (K.equal k (f j) h) ∙ back j) ∙ tied_itself K.total j

    over : (k j : K.carrier) → K.cmp (f k) j ≡ Equal → K.cmp k (f j) ≡ Equal
    over k j h =
        ap (K.cmp k) (ap f (sym (K.equal (f k) j h)) ∙ back k) ∙ tied_itself K.total k

    met_at : (o r : Ordering) (k j : K.carrier) → K.cmp k (f j) ≡ o → K.cmp (f k) j ≡ r → where_equal nat_semiring o 1 ≡ where_equal nat_semiring r 1
    met_at Equal Equal k j h g = refl
    met_at Equal Less k j h g = absurd (less_unequal (sym g ∙ forth k j h))
    met_at Equal Greater k j h g = absurd (greater_unequal (sym g ∙ forth k j h))
    met_at Less Equal k j h g = absurd (less_unequal (sym h ∙ over k j g))
    met_at Greater Equal k j h g = absurd (greater_unequal (sym h ∙ over k j g))
    met_at Less Less k j h g = refl
    met_at Less Greater k j h g = refl
    met_at Greater Less k j h g = refl
    met_at Greater Greater k j h g = refl

    pub distinct-renamed : (es : List (K.carrier × V)) → Distinct es → Distinct (map (λ e. (f e.0, e.1)) es)
    distinct-renamed es h k =
        subst (λ n. n ≤ 1) (sym (sum-map nat_semiring (λ (e : K.carrier × V). (f e.0, e.1)) es (λ e. met k e.0) ∙ ap (sum nat_semiring es) (fun_ext (λ e. met_at (K.cmp k (f e.0)) (K.cmp (f k) e.0) k e.0 refl refl)))) (h (f k))

  -- ---- distinct keys that don't fall ascend

  head_zero : (m n : ℕ) → m + n ≡ 0 → (m ≡ 0) × (n ≡ 0)
  head_zero m n h = (omega arith, omega arith)

  apart_at : (o : Ordering) (k j : K.carrier) → K.cmp k j ≡ o → is_lt (K.cmp j k) ≡ false → where_equal nat_semiring o 1 ≡ 0 → K.cmp k j ≡ Less
  apart_at Less k j h up z = h
  apart_at Equal k j h up z = absurd (omega arith)
  apart_at Greater k j h up z = absurd (true≢false (sym (ap is_lt (greater_less K k j h)) ∙ up))

  apart : (k : K.carrier) (es : List (K.carrier × V)) → count k es ≡ 0 → AllKeys K V (λ j. is_lt (K.cmp j k) ≡ false) es → Above K V k es
  apart k [] z h = tt
  apart k (e ∷ es) z h =
      let both = head_zero (met k e.0) (count k es) (sym (count-cons k e es) ∙ z) in
      (apart_at (K.cmp k e.0) k e.0 refl h.0 both.0, apart k es both.1 h.1)

  none_left : (m n : ℕ) → m + n ≤ 1 → m ≡ 1 → n ≡ 0
  none_left m n h e = omega arith

  fewer : (m n : ℕ) → m + n ≤ 1 → n ≤ 1
  fewer m n h = omega arith

  pub ascending : (es : List (K.carrier × V)) → Rising K V es → Distinct es → Ascending K V es
  ascending [] up h = tt
  ascending (e ∷ es) up h =
      (apart e.0 es (none_left (met e.0 e.0) (count e.0 es) (counted e.0) (ap (λ o. where_equal nat_semiring o 1) (tied_itself K.total e.0))) up.0, ascending es up.1 (λ k. fewer (met k e.0) (count k es) (counted k)))
    where
      counted : (k : K.carrier) → met k e.0 + count k es ≤ 1
      counted k = subst (λ n. n ≤ 1) (count-cons k e es) (h k)

-- ---- coefficients other than 0

module _ (K : Keys) (R : Semiring) (Z : ZeroTest R) where
  to_all : (es : Formal K R) → NonZero K R Z es → All (λ e. Z.is_zero e.1 ≡ false) es
  to_all [] h i d l = absurd (omega arith)
  to_all (e ∷ es) h zero d l = h.0
  to_all (e ∷ es) h (suc i) d l = to_all es h.1 i d (omega arith)

  from_all : (es : Formal K R) → All (λ e. Z.is_zero e.1 ≡ false) es → NonZero K R Z es
  from_all [] h = tt
  from_all (e ∷ es) h = (h zero e (omega arith), from_all es (λ i d l. h (suc i) d (omega arith)))

  nonzero_renamed : (f : K.carrier → K.carrier) (es : Formal K R) → NonZero K R Z es → NonZero K R Z (map (λ e. (f e.0, e.1)) es)
  nonzero_renamed f [] h = tt
  nonzero_renamed f (e ∷ es) h = (h.0, nonzero_renamed f es h.1)

  -- a canonical list whose keys are renamed and then sorted is canonical
  pub canonical_renamed : (f : K.carrier → K.carrier) → ((k : K.carrier) → f (f k) ≡ k) → (es fs : Formal K R) → IsCanonical K R Z es → IsPermutation (map (λ e. (f e.0, e.1)) es) fs → Rising K R.carrier fs → IsCanonical K R Z fs
  canonical_renamed f back es fs h p up = record {
    ascending = ascending K R.carrier fs up (distinct-permuted K R.carrier (map (λ e. (f e.0, e.1)) es) fs p (distinct-renamed K R.carrier f back es (distinct K R.carrier es h.ascending)));
    nonzero = from_all fs (All-permutation (λ e. Z.is_zero e.1 ≡ false) (map (λ e. (f e.0, e.1)) es) fs p (to_all (map (λ e. (f e.0, e.1)) es) (nonzero_renamed f es h.nonzero)));
  }
