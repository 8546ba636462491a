-- Tensors with polynomials as values: a rank, and a finite map from lists of places to polynomials other than 0.
use Rattle.std.specs.Prelude.{◌≡◌, ◌≤◌, ℕ, zero, suc, Bool, true, false, List, [], ◌∷◌, length, if◌then◌else◌}
use Rattle.std.specs.Coded.{Coded, code_by, coded×, coded_list, coded_ℕ}
use Rattle.std.proofs.Common.{refl, ap, ap₂, ◌∙◌, arith, eqb, eqb-true, leb, leb-true, le-leb, Less}
use native.Mathlib.Bridge.{le_prop}
use native.Mathlib.Nat.{ℕ_set}
use mathlib.Core.HLevel.{Σ_prop_path}
use Rattle.exact_algebra.specs.Ring.{ZeroTest}
use Rattle.exact_algebra.specs.Formal.{coefficient, strip_at, AllKeys, Above, IsCanonical, canonical_tail, canonical, canonical_fixed, canonical_unique, IsCanonical-canonical}
use Rattle.exact_algebra.specs.Canon.{IsCanonical_prop}
use Rattle.exact_algebra.specs.Maps.{canon_zero}
use Rattle.exact_algebra.specs.TensorContraction.{places_keys}
use Rattle.frac128.specs.RationalLaws.{ring_ℚ}
use Rattle.beta_poly.specs.Monomial.{monomials}
use Rattle.beta_poly.specs.Polynomial.{Polynomial, poly_ring, polynomial_code, zero_test}

-- the test for the polynomial 0
abbrev pub poly_zero_test : ZeroTest poly_ring.semiring
poly_zero_test = canon_zero monomials ring_ℚ.semiring zero_test

-- values with their keys, in any order and with repeats
abbrev pub Entries : Type 0
Entries = List (List ℕ × Polynomial)

-- the keys ascend, and no value is 0
abbrev pub IsMap : Entries → Type 0
IsMap = IsCanonical places_keys poly_ring.semiring poly_zero_test

-- each key has this many places
abbrev pub HasRank : ℕ → Entries → Type 0
HasRank rank es = AllKeys places_keys Polynomial (λ k. length k ≡ rank) es

-- entries of a tensor: from 1 to 8 places in each key, keys that ascend, and no value 0
pub record IsTensor (rank : ℕ) (es : Entries) : Type 0 where
  pub low : 1 ≤ rank
  pub high : rank ≤ 8
  pub is_map : IsMap es
  pub keys : HasRank rank es

-- a tensor: a rank from 1 to 8, and a finite map from lists of that many places to polynomials other than 0
abbrev pub Tensor : Type 0
Tensor = (t : ℕ × Entries) × IsTensor t.0 t.1

-- the number of places in each key
abbrev pub rank_of : Tensor → ℕ
rank_of t = t.0.0

-- the entries in the order of their keys
abbrev pub entries_of : Tensor → Entries
entries_of t = t.0.1

-- the value that entries give a key: the sum of those that have it
abbrev pub value_in : Entries → List ℕ → Polynomial
value_in es key = coefficient places_keys poly_ring.semiring es key

-- the value at a key, the polynomial 0 where no entry has it
abbrev pub value : Tensor → List ℕ → Polynomial
value t key = value_in (entries_of t) key

-- an entry, or nothing where its value is 0
unfoldable pub kept : List ℕ → Polynomial → Entries
kept key p = strip_at places_keys poly_ring.semiring poly_zero_test (poly_zero_test.is_zero p) (key, p) []

-- the tensor has this rank, and this value at each key of so many places
pub record HasValues (rank : ℕ) (at : List ℕ → Polynomial) (t : Tensor) : Type 0 where
  pub rank_is : rank_of t ≡ rank
  pub value_is : (key : List ℕ) → length key ≡ rank → value t key ≡ at key

-- ---- the tensor of a rank and of entries

eqb-same : (n : ℕ) → eqb n n ≡ true
eqb-same n = grind arith

-- the nearest rank from 1 to 8
bounded : ℕ → ℕ
bounded zero = 1
bounded (suc n) = if leb (suc n) 8 then suc n else 8

low_at : (b : Bool) (n : ℕ) → 1 ≤ (if b then suc n else 8)
low_at true n = omega arith
low_at false n = omega arith

bounded_low : (n : ℕ) → 1 ≤ bounded n
unfolding bounded
bounded_low zero = omega arith
bounded_low (suc n) = low_at (leb (suc n) 8) n

high_at : (b : Bool) (n : ℕ) → leb (suc n) 8 ≡ b → (if b then suc n else 8) ≤ 8
high_at true n h = leb-true (suc n) 8 h
high_at false n h = omega arith

bounded_high : (n : ℕ) → bounded n ≤ 8
unfolding bounded
bounded_high zero = omega arith
bounded_high (suc n) = high_at (leb (suc n) 8) n refl

bounded_fixed : (n : ℕ) → 1 ≤ n → n ≤ 8 → bounded n ≡ n
unfolding bounded
bounded_fixed zero l h = absurd (omega arith)
bounded_fixed (suc n) l h = ap (λ b. if b then suc n else 8) (le-leb (suc n) 8 h)

keep_at : Bool → List ℕ × Polynomial → Entries → Entries
keep_at true e r = e ∷ r
keep_at false e r = r

-- the entries whose keys have this many places
of_rank : ℕ → Entries → Entries
of_rank rank [] = []
of_rank rank (e ∷ es) = keep_at (eqb (length e.0) rank) e (of_rank rank es)

above_at : (b : Bool) (k : List ℕ) (e : List ℕ × Polynomial) (r : Entries) → places_keys.cmp k e.0 ≡ Less → Above places_keys Polynomial k r → Above places_keys Polynomial k (keep_at b e r)
unfolding keep_at
above_at true k e r l h = (l, h)
above_at false k e r l h = h

above_kept : (rank : ℕ) (k : List ℕ) (es : Entries) → Above places_keys Polynomial k es → Above places_keys Polynomial k (of_rank rank es)
unfolding of_rank
above_kept rank k [] h = tt
above_kept rank k (e ∷ es) h =
    above_at (eqb (length e.0) rank) k e (of_rank rank es) h.0 (above_kept rank k es h.1)

map_at : (b : Bool) (e : List ℕ × Polynomial) (es r : Entries) → IsMap (e ∷ es) → Above places_keys Polynomial e.0 r → IsMap r → IsMap (keep_at b e r)
unfolding keep_at
map_at true e es r h a c = record { ascending = (a, c.ascending); nonzero = (h.nonzero.0, c.nonzero) }
map_at false e es r h a c = c

map_kept : (rank : ℕ) (es : Entries) → IsMap es → IsMap (of_rank rank es)
unfolding of_rank
map_kept rank [] h = h
map_kept rank (e ∷ es) h =
    map_at (eqb (length e.0) rank) e es (of_rank rank es) h (above_kept rank e.0 es h.ascending.0) (map_kept rank es (canonical_tail places_keys poly_ring.semiring poly_zero_test e es h))

keys_at : (b : Bool) (rank : ℕ) (e : List ℕ × Polynomial) (r : Entries) → eqb (length e.0) rank ≡ b → HasRank rank r → HasRank rank (keep_at b e r)
unfolding keep_at
keys_at true rank e r h k = (eqb-true (length e.0) rank h, k)
keys_at false rank e r h k = k

keys_kept : (rank : ℕ) (es : Entries) → HasRank rank (of_rank rank es)
unfolding of_rank
keys_kept rank [] = tt
keys_kept rank (e ∷ es) = keys_at (eqb (length e.0) rank) rank e (of_rank rank es) refl (keys_kept rank es)

all_kept : (rank : ℕ) (es : Entries) → HasRank rank es → of_rank rank es ≡ es
unfolding of_rank keep_at
all_kept rank [] h = refl
all_kept rank (e ∷ es) h =
    ap (λ b. keep_at b e (of_rank rank es)) (ap (λ n. eqb n rank) h.0 ∙ eqb-same rank) ∙ ap (λ r. e ∷ r) (all_kept rank es h.1)

-- the tensor of entries in any order and with repeats; those with another number of places count for nothing, and a rank
-- out of range becomes the nearest one that there is
pub tensor : ℕ → Entries → Tensor
tensor rank es =
    let whole = canonical places_keys poly_ring.semiring poly_zero_test es in (
      (bounded rank, of_rank (bounded rank) whole),
      record {
        low = bounded_low rank;
        high = bounded_high rank;
        is_map = map_kept (bounded rank) whole (IsCanonical-canonical places_keys poly_ring.semiring poly_zero_test es);
        keys = keys_kept (bounded rank) whole;
      },
    )

-- ---- laws

keys_prop : (rank : ℕ) (es : Entries) → IsProp (HasRank rank es)
keys_prop rank [] = hlevel
keys_prop rank (e ∷ es) = hlevel (ℕ_set, keys_prop rank es)

IsTensor_prop : (t : ℕ × Entries) → IsProp (IsTensor t.0 t.1)
IsTensor_prop t = hlevel (le_prop, IsCanonical_prop places_keys poly_ring.semiring poly_zero_test t.1, keys_prop t.0 t.1)

-- entries of a tensor are those of the tensor that they stand for
pub tensor_parts : (rank : ℕ) (es : Entries) → IsTensor rank es → (tensor rank es).0 ≡ (rank, es)
unfolding tensor
tensor_parts rank es h =
    let fixed = canonical_fixed places_keys poly_ring.semiring poly_zero_test es h.is_map in
    let same = bounded_fixed rank h.low h.high in
    λ i. (same i, (ap₂ of_rank same fixed ∙ all_kept rank es h.keys) i)

-- rank and entries of a tensor stand for it
pub tensor_back : (t : Tensor) → tensor (rank_of t) (entries_of t) ≡ t
tensor_back t = Σ_prop_path IsTensor_prop (tensor_parts (rank_of t) (entries_of t) t.1)

-- tensors with one rank and the same values at every key are the same
pub same_tensors : (s t : Tensor) → rank_of s ≡ rank_of t → ((key : List ℕ) → value s key ≡ value t key) → s ≡ t
same_tensors s t r same =
    let entries = canonical_unique places_keys poly_ring.semiring poly_zero_test (entries_of s) (entries_of t) s.1.is_map t.1.is_map same in
    Σ_prop_path IsTensor_prop (λ i. (r i, entries i))

-- a tensor is stored as its rank and its entries
abbrev pub tensor_code : Coded Tensor
tensor_code =
    code_by (ℕ × Entries) (coded× coded_ℕ (coded_list (coded× (coded_list coded_ℕ) polynomial_code))) (λ t. t.0) (λ p. tensor p.0 p.1) tensor_back
