-- Identities of sums over index values, by computation. An expression is built from Kronecker deltas of named indices, the
-- range's size n, 1/n and given numbers by sums, products, negations and sums over an index. It expands to a sum of
-- products of deltas in which no index is summed over: a sum over i takes the first delta with i and renames i, or
-- counts n where there is none.
--
-- `contracted C G fixed numbers p q values within s t refl refl` proves that the expressions s and t have one value in the
-- ring C, for the range G from 1 to n, at any n. The index names below `fixed` stand for the index values 1, 2, 3 .., which
-- differ, and the names after them for the `values`. The first `refl` says that no sum is over a fixed name, the second
-- that the difference of s and t cancels. The solver knows n * (1/n) = 1, and of the `numbers` nothing: where one of them
-- is 1/2, state the doubled identity.
use Rattle.std.proofs.Common.{◌≡◌, ℕ, zero, suc, ◌+◌, ◌≤◌, ◌<◌, refl, sym, ◌∙◌, ap, ap₂, arith, Bool, true, false, cond, List, [], ◌∷◌, ◌++◌, ◌⊎◌, inl, inr}
use Rattle.std.specs.Prelude.{nat_eq, nat_le, ◌&&◌, ◌||◌, not, ⊤}
use Rattle.std.proofs.lemmas.Bool.{eqb-true, eqb-false, eq-eqb, ne_eqb, leb-true, le-leb, and_parts, or_cases, cases_eq}
use Rattle.exact_algebra.specs.Ring.{CommutativeRing, zero_add, one_mul, zero_mul, add_mul, mul_left_comm, add_left_comm}
use Rattle.exact_algebra.specs.Sums.{below, below-suc, below-none, below-add, below-mul, below-same}
use Rattle.exact_algebra.specs.Solver.{at}
use Rattle.exact_algebra.specs.Regroup.{pairs_across, product_of_parts, signs_agree, signs_other, sign_out, neg_neg, neg_neg_one, neg_zero, neg_add, only_var, only_up, only_down, only_delta, only_one, factor_in, part_zero, equal_from_difference}

infixl 6 ◌⊕◌
infixl 7 ◌⊗◌
-- an expression over named indices and numbered values
pub data Expr : Type 0 where
  var : ℕ → Expr
  nought : Expr
  single : Expr
  -- the range's size and its inverse
  count : Expr
  share : Expr
  -- 1 where both indices have one value, else 0
  delta : ℕ → ℕ → Expr
  ◌⊕◌ : Expr → Expr → Expr
  ◌⊗◌ : Expr → Expr → Expr
  opposite : Expr → Expr
  -- the sum over the values of an index
  over : ℕ → Expr → Expr

-- a product of deltas
abbrev pub Deltas : Type 0
Deltas = List (ℕ × ℕ)

-- a product: its sign, the powers of n and 1/n, the numbers in order, the deltas in order
pub record Part : Type 0 where
  pub plus : Bool
  pub up : ℕ
  pub down : ℕ
  pub vars : List ℕ
  pub deltas : Deltas

-- products of numbers, in order
abbrev pub insert_var : ℕ → List ℕ → List ℕ
insert_var i [] = i ∷ []
insert_var i (j ∷ m) = cond (nat_le i j) (i ∷ j ∷ m) (j ∷ insert_var i m)

-- the product of two products of numbers
abbrev pub merge_vars : List ℕ → List ℕ → List ℕ
merge_vars [] n = n
merge_vars (i ∷ m) n = insert_var i (merge_vars m n)

-- products of deltas, in order
abbrev pub pair_le : ℕ × ℕ → ℕ × ℕ → Bool
pair_le d e = cond (nat_eq d.0 e.0) (nat_le d.1 e.1) (nat_le d.0 e.0)

-- a delta put into a product of deltas, in order
abbrev pub insert_delta : ℕ × ℕ → Deltas → Deltas
insert_delta d [] = d ∷ []
insert_delta d (e ∷ m) = cond (pair_le d e) (d ∷ e ∷ m) (e ∷ insert_delta d m)

-- the product of two products of deltas
abbrev pub merge_deltas : Deltas → Deltas → Deltas
merge_deltas [] n = n
merge_deltas (d ∷ m) n = insert_delta d (merge_deltas m n)

-- a delta does not depend on the order of its indices, and is 1 at an index with itself
abbrev pub ordered : ℕ × ℕ → ℕ × ℕ
ordered d = cond (nat_le d.0 d.1) d (d.1, d.0)

-- one delta more, in order, and none of an index with itself
abbrev pub put_delta : ℕ × ℕ → Deltas → Deltas
put_delta d m = cond (nat_eq d.0 d.1) m (insert_delta (ordered d) m)

-- in order, without those of an index with itself
abbrev pub sorted : Deltas → Deltas
sorted [] = []
sorted (d ∷ m) = put_delta d (sorted m)

-- the sign of a product by the signs of its two parts
abbrev pub same_sign : Bool → Bool → Bool
same_sign true s = s
same_sign false true = false
same_sign false false = true

-- the sign of the opposite
abbrev pub other_sign : Bool → Bool
other_sign true = false
other_sign false = true

-- n * (1/n) is 1
abbrev pub level : ℕ → ℕ → ℕ × ℕ
level zero d = (zero, d)
level (suc u) zero = (suc u, zero)
level (suc u) (suc d) = level u d

-- a part with its powers of n and 1/n levelled
abbrev pub part : Bool → ℕ × ℕ → List ℕ → Deltas → Part
part s l vs ds = record { plus = s; up = l.0; down = l.1; vars = vs; deltas = ds }

-- the product of two parts, of a part and a sum, and of two sums
abbrev pub times_part : Part → Part → Part
times_part p q = part (same_sign p.plus q.plus) (level (p.up + q.up) (p.down + q.down)) (merge_vars p.vars q.vars) (merge_deltas p.deltas q.deltas)

-- the product of a part and a sum
abbrev pub scale : Part → List Part → List Part
scale s [] = []
scale s (t ∷ p) = times_part s t ∷ scale s p

-- the product of two sums
abbrev pub product : List Part → List Part → List Part
product [] q = []
product (s ∷ p) q = scale s q ++ product p q

-- the sum with each sign turned
abbrev pub negated : List Part → List Part
negated [] = []
negated (s ∷ p) = part (other_sign s.plus) (s.up, s.down) s.vars s.deltas ∷ negated p

-- an index under a new name
abbrev pub renamed : ℕ → ℕ → ℕ → ℕ
renamed i j k = cond (nat_eq k i) j k

-- deltas with an index under a new name
abbrev pub rename : ℕ → ℕ → Deltas → Deltas
rename i j [] = []
rename i j (d ∷ m) = (renamed i j d.0, renamed i j d.1) ∷ rename i j m

-- whether i is free in the deltas, and the deltas after summing over i
abbrev pub choose : Bool → Bool → ℕ → ℕ × ℕ → Deltas → Bool × Deltas → Bool × Deltas
choose true true i d m r = r
choose true false i d m r = (false, rename i d.1 m)
choose false true i d m r = (false, rename i d.0 m)
choose false false i d m r = (r.0, d ∷ r.1)

-- whether i is free in the deltas, and the deltas after summing over i
abbrev pub contract : ℕ → Deltas → Bool × Deltas
contract i [] = (true, [])
contract i (d ∷ m) = choose (nat_eq d.0 i) (nat_eq d.1 i) i d m (contract i m)

-- whether two parts are one but for the sign
abbrev pub same_numbers : List ℕ → List ℕ → Bool
same_numbers [] [] = true
same_numbers [] (j ∷ n) = false
same_numbers (i ∷ m) [] = false
same_numbers (i ∷ m) (j ∷ n) = nat_eq i j && same_numbers m n

-- whether two products of deltas are one
abbrev pub same_deltas : Deltas → Deltas → Bool
same_deltas [] [] = true
same_deltas [] (j ∷ n) = false
same_deltas (i ∷ m) [] = false
same_deltas (i ∷ m) (j ∷ n) = (nat_eq i.0 j.0 && nat_eq i.1 j.1) && same_deltas m n

-- whether two parts are one but for the sign
abbrev pub same_part : Part → Part → Bool
same_part s t = (nat_eq s.up t.up && nat_eq s.down t.down) && (same_numbers s.vars t.vars && same_deltas s.deltas t.deltas)

-- whether two parts add up to 0
abbrev pub cancels : Part → Part → Bool
cancels s t = cond (same_sign s.plus t.plus) false (same_part s t)

-- adds one product, or cancels it with its opposite
abbrev pub put : Part → List Part → List Part
put s [] = s ∷ []
put s (t ∷ p) = cond (cancels s t) p (t ∷ put s p)

-- what is left of a sum once its parts have cancelled
abbrev pub settle : List Part → List Part
settle [] = []
settle (s ∷ p) = put s (settle p)

-- the values of an index: one name given, the others as before
abbrev pub set_index : ℕ → ℕ → (ℕ → ℕ) → ℕ → ℕ
set_index i a names k = cond (nat_eq k i) a (names k)

-- the names below `fixed` have the values 1, 2, 3 ..
abbrev pub first_names : ℕ → ℕ → ℕ
first_names fixed k = cond (nat_le (suc k) fixed) (suc k) 1

-- the following names have the values of a list
abbrev pub named : (fixed : ℕ) → ℕ → List ℕ → ℕ → ℕ
named fixed i [] = first_names fixed
named fixed i (a ∷ others) = set_index i a (named fixed (suc i) others)

-- all values are from 1 to n
abbrev pub AreWithin : ℕ → List ℕ → Type 0
AreWithin n [] = ⊤
AreWithin n (a ∷ others) = ((1 ≤ a) × (a ≤ n)) × AreWithin n others

nat_eq_comm : (a b : ℕ) → nat_eq a b ≡ nat_eq b a
nat_eq_comm a b = by_case (nat_eq a b) refl
  where
    by_case : (t : Bool) → nat_eq a b ≡ t → t ≡ nat_eq b a
    by_case true e = sym (eq-eqb b a (sym (eqb-true a b e)))
    by_case false e = sym (ne_eqb b a (λ h. eqb-false a b e (sym h)))

below_last : (n a b : ℕ) → nat_eq (suc n) b ≡ true → a < n → suc a ≡ b → ⊥
below_last n a b e l h = omega (arith, eqb-true (suc n) b e)

not_last : (n b : ℕ) → nat_eq (suc n) b ≡ false → b ≤ suc n → b ≤ n
not_last n b e l = by_cases (cases_eq (suc n) b)
  where
    by_cases : (suc n ≡ b) ⊎ (suc n ≡ b → ⊥) → b ≤ n
    by_cases (inl h) = absurd (eqb-false (suc n) b e h)
    by_cases (inr h) = omega arith

first_low : (fixed k : ℕ) → 1 ≤ first_names fixed k
first_low fixed k = by_case (nat_le (suc k) fixed)
  where
    by_case : (b : Bool) → 1 ≤ cond b (suc k) 1
    by_case true = omega arith
    by_case false = omega arith

first_high : (fixed n k : ℕ) → 1 ≤ n → fixed ≤ n → first_names fixed k ≤ n
first_high fixed n k p q = by_case (nat_le (suc k) fixed) refl
  where
    by_case : (b : Bool) → nat_le (suc k) fixed ≡ b → cond b (suc k) 1 ≤ n
    by_case true e = omega (arith, leb-true (suc k) fixed e)
    by_case false e = p

not_true : (b : Bool) → not b ≡ true → b ≡ false
not_true true e = absurd (cc e)
not_true false e = refl

first_apart : (fixed i j : ℕ) → not (nat_eq i j) ≡ true → nat_le (suc i) fixed ≡ true → nat_le (suc j) fixed ≡ true → nat_eq (first_names fixed i) (first_names fixed j) ≡ false
first_apart fixed i j h p q =
    ap₂ (λ b c. nat_eq (cond b (suc i) 1) (cond c (suc j) 1)) p q ∙ ne_eqb (suc i) (suc j) (λ e. eqb-false i j (not_true (nat_eq i j) h) (omega arith))

module _ (C : CommutativeRing) where
  open C.semiring use {carrier, zero as 𝟘, one as 𝟙, add as ◌⊞◌, mul as ◌⊠◌}

  infixl 6 ◌⊞◌
  infixl 7 ◌⊠◌
  -- Kronecker's delta
  abbrev pub kronecker : ℕ → ℕ → carrier
  kronecker a b = cond (nat_eq a b) 𝟙 𝟘

  -- the sum over the values from 1 to n
  abbrev pub total : ℕ → (ℕ → carrier) → carrier
  total n f = below C.semiring n (λ a. f (suc a))

  -- a range from 1 to n, with n and 1/n as numbers
  pub record Range : Type 0 where
    pub size : ℕ
    pub count : carrier
    pub share : carrier
    pub counted : total size (λ _. 𝟙) ≡ count
    pub shared : count ⊠ share ≡ 𝟙

  kronecker_same : (a : ℕ) → kronecker a a ≡ 𝟙
  kronecker_same a = ap (λ b. cond b 𝟙 𝟘) (eq-eqb a a refl)

  kronecker_apart : (a b : ℕ) → nat_eq a b ≡ false → kronecker a b ≡ 𝟘
  kronecker_apart a b e = ap (λ t. cond t 𝟙 𝟘) e

  pub kronecker_comm : (a b : ℕ) → kronecker a b ≡ kronecker b a
  kronecker_comm a b = ap (λ t. cond t 𝟙 𝟘) (nat_eq_comm a b)

  -- a delta leaves one summand
  one_left : (n b : ℕ) (f : ℕ → carrier) → 1 ≤ b → b ≤ n → total n (λ a. kronecker a b ⊠ f a) ≡ f b
  one_left zero b f p q = absurd (omega arith)
  one_left (suc n) b f p q = below-suc C.semiring n (λ a. kronecker (suc a) b ⊠ f (suc a)) ∙ by_last (λ l. one_left n b f p l) (nat_eq (suc n) b) refl
    where
      by_last : (b ≤ n → total n (λ a. kronecker a b ⊠ f a) ≡ f b) → (t : Bool) → nat_eq (suc n) b ≡ t → total n (λ a. kronecker a b ⊠ f a) ⊞ cond t 𝟙 𝟘 ⊠ f (suc n) ≡ f b
      by_last rest true e =
          ap (λ s. s ⊞ 𝟙 ⊠ f (suc n)) (below-none C.semiring n (λ a. kronecker (suc a) b ⊠ f (suc a)) (λ a l. ap (λ k. k ⊠ f (suc a)) (kronecker_apart (suc a) b (ne_eqb (suc a) b (below_last n a b e l))) ∙ zero_mul C.semiring (f (suc a))))
          ∙ zero_add C.semiring (𝟙 ⊠ f (suc n)) ∙ one_mul C.semiring (f (suc n)) ∙ ap f (eqb-true (suc n) b e)
      by_last rest false e =
          ap (λ s. total n (λ a. kronecker a b ⊠ f a) ⊞ s) (zero_mul C.semiring (f (suc n))) ∙ C.semiring.add_zero (total n (λ a. kronecker a b ⊠ f a)) ∙ rest (not_last n b e q)

module _ (C : CommutativeRing) (G : Range C) (fixed : ℕ) (numbers : List C.semiring.carrier) where
  open C.semiring use {carrier, zero as 𝟘, one as 𝟙, add as ◌⊞◌, mul as ◌⊠◌}

  infixl 6 ◌⊞◌
  infixl 7 ◌⊠◌
  -- the value of an expression
  abbrev pub value : (ℕ → ℕ) → Expr → carrier
  value names (var k) = at C numbers k
  value names nought = 𝟘
  value names single = 𝟙
  value names count = G.count
  value names share = G.share
  value names (delta i j) = kronecker C (names i) (names j)
  value names (s ⊕ t) = value names s ⊞ value names t
  value names (s ⊗ t) = value names s ⊠ value names t
  value names (opposite s) = C.neg (value names s)
  value names (over i s) = total C G.size (λ a. value (set_index i a names) s)

  -- no sum is over a fixed index
  abbrev pub is_proper : Expr → Bool
  is_proper (var k) = true
  is_proper nought = true
  is_proper single = true
  is_proper count = true
  is_proper share = true
  is_proper (delta i j) = true
  is_proper (s ⊕ t) = is_proper s && is_proper t
  is_proper (s ⊗ t) = is_proper s && is_proper t
  is_proper (opposite s) = is_proper s
  is_proper (over i s) = nat_le fixed i && is_proper s

  -- a delta of two different fixed indices
  abbrev pub is_apart : ℕ × ℕ → Bool
  is_apart d = not (nat_eq d.0 d.1) && (nat_le (suc d.0) fixed && nat_le (suc d.1) fixed)

  -- a product with such a delta is 0
  abbrev pub vanishes : Deltas → Bool
  vanishes [] = false
  vanishes (d ∷ m) = is_apart d || vanishes m

  -- a part with its deltas in order, none where it is 0
  abbrev pub tidied : Part → List Part
  tidied p = cond (vanishes p.deltas) [] (part p.plus (p.up, p.down) p.vars (sorted p.deltas) ∷ [])

  -- a part after summing over an index: n times as much where the index is free
  abbrev pub counted_part : Part → Bool × Deltas → List Part
  counted_part p r = tidied (part p.plus (cond r.0 (level (suc p.up) p.down) (p.up, p.down)) p.vars r.1)

  -- the sum over an index of each part
  abbrev pub sum_out : ℕ → List Part → List Part
  sum_out i [] = []
  sum_out i (p ∷ ps) = counted_part p (contract i p.deltas) ++ sum_out i ps

  -- an expression, as a sum of parts
  abbrev pub expand : Expr → List Part
  expand (var k) = part true (0, 0) (k ∷ []) [] ∷ []
  expand nought = []
  expand single = part true (0, 0) [] [] ∷ []
  expand count = part true (1, 0) [] [] ∷ []
  expand share = part true (0, 1) [] [] ∷ []
  expand (delta i j) = tidied (part true (0, 0) [] ((i, j) ∷ []))
  expand (s ⊕ t) = expand s ++ expand t
  expand (s ⊗ t) = product (expand s) (expand t)
  expand (opposite s) = negated (expand s)
  expand (over i s) = sum_out i (expand s)

  -- ---- what the names stand for
  -- names that fit: within the range, and the fixed ones apart
  record Fits (names : ℕ → ℕ) : Type 0 where
    low : (k : ℕ) → 1 ≤ names k
    high : (k : ℕ) → names k ≤ G.size
    apart : (i j : ℕ) → is_apart (i, j) ≡ true → nat_eq (names i) (names j) ≡ false

  -- x to the power k
  abbrev pub power : carrier → ℕ → carrier
  power x zero = 𝟙
  power x (suc k) = x ⊠ power x k

  -- 1 or -1
  abbrev pub with_sign : Bool → carrier
  with_sign true = 𝟙
  with_sign false = C.neg 𝟙

  -- the value of a product of numbers
  abbrev pub of_vars : List ℕ → carrier
  of_vars [] = 𝟙
  of_vars (i ∷ m) = at C numbers i ⊠ of_vars m

  -- the value of a product of deltas
  abbrev pub of_deltas : (ℕ → ℕ) → Deltas → carrier
  of_deltas names [] = 𝟙
  of_deltas names (d ∷ m) = kronecker C (names d.0) (names d.1) ⊠ of_deltas names m

  -- the value of a part
  abbrev pub of_part : (ℕ → ℕ) → Part → carrier
  of_part names p = with_sign p.plus ⊠ (((power G.count p.up ⊠ power G.share p.down) ⊠ of_vars p.vars) ⊠ of_deltas names p.deltas)

  -- the value of a sum of parts
  abbrev pub of_sum : (ℕ → ℕ) → List Part → carrier
  of_sum names [] = 𝟘
  of_sum names (p ∷ ps) = of_part names p ⊞ of_sum names ps

  -- ---- products
  power-add : (x : carrier) (a b : ℕ) → power x (a + b) ≡ power x a ⊠ power x b
  power-add x zero b =
      let shift : 0 + b ≡ b = omega arith in
      ap (power x) shift ∙ sym (one_mul C.semiring (power x b))
  power-add x (suc a) b =
      let shift : suc a + b ≡ suc (a + b) = omega arith in
      ap (power x) shift ∙ ap (λ k. x ⊠ k) (power-add x a b) ∙ sym (C.semiring.mul_assoc x (power x a) (power x b))

  of-level : (u d : ℕ) → power G.count (level u d).0 ⊠ power G.share (level u d).1 ≡ power G.count u ⊠ power G.share d
  of-level zero d = refl
  of-level (suc u) zero = refl
  of-level (suc u) (suc d) =
      of-level u d ∙ sym (one_mul C.semiring (power G.count u ⊠ power G.share d)) ∙ ap (λ k. k ⊠ (power G.count u ⊠ power G.share d)) (sym G.shared)
      ∙ pairs_across C G.count G.share (power G.count u) (power G.share d)

  sign-same : (s t : Bool) → with_sign (same_sign s t) ≡ with_sign s ⊠ with_sign t
  sign-same true true = sym (one_mul C.semiring 𝟙)
  sign-same true false = sym (one_mul C.semiring (C.neg 𝟙))
  sign-same false true = sym (C.semiring.mul_one (C.neg 𝟙))
  sign-same false false = sym (neg_neg_one C)

  insert_var_cases : (b : Bool) (i j : ℕ) (m n : List ℕ) → of_vars n ≡ at C numbers i ⊠ of_vars m → of_vars (cond b (i ∷ j ∷ m) (j ∷ n)) ≡ at C numbers i ⊠ (at C numbers j ⊠ of_vars m)
  insert_var_cases true i j m n e = refl
  insert_var_cases false i j m n e = ap (λ k. at C numbers j ⊠ k) e ∙ mul_left_comm C.semiring (at C numbers j) (at C numbers i) (of_vars m)

  of-insert_var : (i : ℕ) (m : List ℕ) → of_vars (insert_var i m) ≡ at C numbers i ⊠ of_vars m
  of-insert_var i [] = refl
  of-insert_var i (j ∷ m) = insert_var_cases (nat_le i j) i j m (insert_var i m) (of-insert_var i m)

  of-merge_vars : (m n : List ℕ) → of_vars (merge_vars m n) ≡ of_vars m ⊠ of_vars n
  of-merge_vars [] n = sym (one_mul C.semiring (of_vars n))
  of-merge_vars (i ∷ m) n = of-insert_var i (merge_vars m n) ∙ ap (λ k. at C numbers i ⊠ k) (of-merge_vars m n) ∙ sym (C.semiring.mul_assoc (at C numbers i) (of_vars m) (of_vars n))

  -- the value of a delta
  abbrev pub of_delta : (ℕ → ℕ) → ℕ × ℕ → carrier
  of_delta names d = kronecker C (names d.0) (names d.1)

  insert_delta_cases : (names : ℕ → ℕ) (b : Bool) (d e : ℕ × ℕ) (m n : Deltas) → of_deltas names n ≡ of_delta names d ⊠ of_deltas names m → of_deltas names (cond b (d ∷ e ∷ m) (e ∷ n)) ≡ of_delta names d ⊠ (of_delta names e ⊠ of_deltas names m)
  insert_delta_cases names true d e m n h = refl
  insert_delta_cases names false d e m n h = ap (λ k. of_delta names e ⊠ k) h ∙ mul_left_comm C.semiring (of_delta names e) (of_delta names d) (of_deltas names m)

  of-insert_delta : (names : ℕ → ℕ) (d : ℕ × ℕ) (m : Deltas) → of_deltas names (insert_delta d m) ≡ of_delta names d ⊠ of_deltas names m
  of-insert_delta names d [] = refl
  of-insert_delta names d (e ∷ m) = insert_delta_cases names (pair_le d e) d e m (insert_delta d m) (of-insert_delta names d m)

  of-merge_deltas : (names : ℕ → ℕ) (m n : Deltas) → of_deltas names (merge_deltas m n) ≡ of_deltas names m ⊠ of_deltas names n
  of-merge_deltas names [] n = sym (one_mul C.semiring (of_deltas names n))
  of-merge_deltas names (d ∷ m) n = of-insert_delta names d (merge_deltas m n) ∙ ap (λ k. of_delta names d ⊠ k) (of-merge_deltas names m n) ∙ sym (C.semiring.mul_assoc (of_delta names d) (of_deltas names m) (of_deltas names n))

  of-times_part : (names : ℕ → ℕ) (p q : Part) → of_part names (times_part p q) ≡ of_part names p ⊠ of_part names q
  of-times_part names p q =
      let l = level (p.up + q.up) (p.down + q.down) in
      let powers : power G.count l.0 ⊠ power G.share l.1 ≡ (power G.count p.up ⊠ power G.count q.up) ⊠ (power G.share p.down ⊠ power G.share q.down) =
      of-level (p.up + q.up) (p.down + q.down) ∙ ap₂ ◌⊠◌ (power-add G.count p.up q.up) (power-add G.share p.down q.down) in
      ap₂ ◌⊠◌ (sign-same p.plus q.plus) (ap₂ ◌⊠◌ (ap₂ ◌⊠◌ powers (of-merge_vars p.vars q.vars)) (of-merge_deltas names p.deltas q.deltas))
      ∙ product_of_parts C (with_sign p.plus) (with_sign q.plus) (power G.count p.up) (power G.count q.up) (power G.share p.down) (power G.share q.down) (of_vars p.vars) (of_vars q.vars) (of_deltas names p.deltas) (of_deltas names q.deltas)

  of-scale : (names : ℕ → ℕ) (s : Part) (p : List Part) → of_sum names (scale s p) ≡ of_part names s ⊠ of_sum names p
  of-scale names s [] = sym (C.semiring.mul_zero (of_part names s))
  of-scale names s (t ∷ p) = ap₂ ◌⊞◌ (of-times_part names s t) (of-scale names s p) ∙ sym (C.semiring.mul_add (of_part names s) (of_part names t) (of_sum names p))

  of-append : (names : ℕ → ℕ) (p q : List Part) → of_sum names (p ++ q) ≡ of_sum names p ⊞ of_sum names q
  of-append names [] q = sym (zero_add C.semiring (of_sum names q))
  of-append names (s ∷ p) q = ap (λ k. of_part names s ⊞ k) (of-append names p q) ∙ sym (C.semiring.add_assoc (of_part names s) (of_sum names p) (of_sum names q))

  of-product : (names : ℕ → ℕ) (p q : List Part) → of_sum names (product p q) ≡ of_sum names p ⊠ of_sum names q
  of-product names [] q = sym (zero_mul C.semiring (of_sum names q))
  of-product names (s ∷ p) q =
      of-append names (scale s q) (product p q) ∙ ap₂ ◌⊞◌ (of-scale names s q) (of-product names p q)
      ∙ sym (add_mul C.semiring (of_part names s) (of_sum names p) (of_sum names q))

  sign-other : (s : Bool) → with_sign (other_sign s) ≡ C.neg (with_sign s)
  sign-other true = refl
  sign-other false = sym (neg_neg C 𝟙)

  of-negated : (names : ℕ → ℕ) (p : List Part) → of_sum names (negated p) ≡ C.neg (of_sum names p)
  of-negated names [] = sym (neg_zero C)
  of-negated names (s ∷ p) =
      let body = ((power G.count s.up ⊠ power G.share s.down) ⊠ of_vars s.vars) ⊠ of_deltas names s.deltas in
      ap₂ ◌⊞◌ (ap (λ k. k ⊠ body) (sign-other s.plus) ∙ sign_out C (with_sign s.plus) body) (of-negated names p)
      ∙ sym (neg_add C (of_part names s) (of_sum names p))

  -- ---- tidying
  of-ordered : (names : ℕ → ℕ) (b : Bool) (d : ℕ × ℕ) → of_delta names (cond b d (d.1, d.0)) ≡ of_delta names d
  of-ordered names true d = refl
  of-ordered names false d = kronecker_comm C (names d.1) (names d.0)

  put_delta_cases : (names : ℕ → ℕ) (b : Bool) (d : ℕ × ℕ) (m : Deltas) → nat_eq d.0 d.1 ≡ b → of_deltas names (cond b m (insert_delta (ordered d) m)) ≡ of_delta names d ⊠ of_deltas names m
  put_delta_cases names true d m e =
      sym (ap (λ k. k ⊠ of_deltas names m) (ap (λ k. kronecker C (names d.0) (names k)) (sym (eqb-true d.0 d.1 e)) ∙ kronecker_same C (names d.0)) ∙ one_mul C.semiring (of_deltas names m))
  put_delta_cases names false d m e = of-insert_delta names (ordered d) m ∙ ap (λ k. k ⊠ of_deltas names m) (of-ordered names (nat_le d.0 d.1) d)

  of-sorted : (names : ℕ → ℕ) (m : Deltas) → of_deltas names (sorted m) ≡ of_deltas names m
  of-sorted names [] = refl
  of-sorted names (d ∷ m) = put_delta_cases names (nat_eq d.0 d.1) d (sorted m) refl ∙ ap (λ k. of_delta names d ⊠ k) (of-sorted names m)

  of-vanishes : (names : ℕ → ℕ) → Fits names → (m : Deltas) → vanishes m ≡ true → of_deltas names m ≡ 𝟘
  of-vanishes names fits [] e = absurd (cc e)
  of-vanishes names fits (d ∷ m) e = by_cases (of-vanishes names fits m) (or_cases (is_apart d) (vanishes m) e)
    where
      by_cases : (vanishes m ≡ true → of_deltas names m ≡ 𝟘) → (is_apart d ≡ true) ⊎ (vanishes m ≡ true) → of_deltas names (d ∷ m) ≡ 𝟘
      by_cases rest (inl h) = ap (λ k. k ⊠ of_deltas names m) (kronecker_apart C (names d.0) (names d.1) (fits.apart d.0 d.1 h)) ∙ zero_mul C.semiring (of_deltas names m)
      by_cases rest (inr h) = ap (λ k. of_delta names d ⊠ k) (rest h) ∙ C.semiring.mul_zero (of_delta names d)

  tidied_cases : (names : ℕ → ℕ) → Fits names → (b : Bool) (p : Part) → vanishes p.deltas ≡ b → of_sum names (cond b [] (part p.plus (p.up, p.down) p.vars (sorted p.deltas) ∷ [])) ≡ of_part names p
  tidied_cases names fits true p e =
      let scalar = (power G.count p.up ⊠ power G.share p.down) ⊠ of_vars p.vars in
      sym (ap (λ k. with_sign p.plus ⊠ (scalar ⊠ k)) (of-vanishes names fits p.deltas e) ∙ part_zero C (with_sign p.plus) scalar)
  tidied_cases names fits false p e =
      let scalar = (power G.count p.up ⊠ power G.share p.down) ⊠ of_vars p.vars in
      C.semiring.add_zero (with_sign p.plus ⊠ (scalar ⊠ of_deltas names (sorted p.deltas))) ∙ ap (λ k. with_sign p.plus ⊠ (scalar ⊠ k)) (of-sorted names p.deltas)

  of-tidied : (names : ℕ → ℕ) → Fits names → (p : Part) → of_sum names (tidied p) ≡ of_part names p
  of-tidied names fits p = tidied_cases names fits (vanishes p.deltas) p refl

  -- ---- a sum over an index
  of-renamed : (names : ℕ → ℕ) (b : Bool) (j k : ℕ) → cond b (names j) (names k) ≡ names (cond b j k)
  of-renamed names true j k = refl
  of-renamed names false j k = refl

  of-rename : (names : ℕ → ℕ) (i j : ℕ) (m : Deltas) → of_deltas (set_index i (names j) names) m ≡ of_deltas names (rename i j m)
  of-rename names i j [] = refl
  of-rename names i j (d ∷ m) =
      ap₂ ◌⊠◌ (ap₂ (kronecker C) (of-renamed names (nat_eq d.0 i) j d.0) (of-renamed names (nat_eq d.1 i) j d.1)) (of-rename names i j m)

  -- what a sum over i gives
  abbrev pub factor : Bool → carrier
  factor b = cond b G.count 𝟙

  -- a sum over i has this value
  IsSum : (ℕ → ℕ) → ℕ → Deltas → Bool × Deltas → Type 0
  IsSum names i m r = total C G.size (λ a. of_deltas (set_index i a names) m) ≡ factor r.0 ⊠ of_deltas names r.1

  taken : (names : ℕ → ℕ) → Fits names → (i j : ℕ) (m : Deltas) → total C G.size (λ a. kronecker C a (names j) ⊠ of_deltas (set_index i a names) m) ≡ 𝟙 ⊠ of_deltas names (rename i j m)
  taken names fits i j m =
      one_left C G.size (names j) (λ a. of_deltas (set_index i a names) m) (fits.low j) (fits.high j) ∙ of-rename names i j m ∙ sym (one_mul C.semiring (of_deltas names (rename i j m)))

  choose_sum : (names : ℕ → ℕ) → Fits names → (b c : Bool) (i : ℕ) (d : ℕ × ℕ) (m : Deltas) (r : Bool × Deltas) → IsSum names i m r → total C G.size (λ a. kronecker C (cond b a (names d.0)) (cond c a (names d.1)) ⊠ of_deltas (set_index i a names) m) ≡ factor (choose b c i d m r).0 ⊠ of_deltas names (choose b c i d m r).1
  unfolding IsSum
  choose_sum names fits true true i d m r h =
      below-same C.semiring G.size (λ a. kronecker C (suc a) (suc a) ⊠ of_deltas (set_index i (suc a) names) m) (λ a. of_deltas (set_index i (suc a) names) m)
      (λ a l. ap (λ k. k ⊠ of_deltas (set_index i (suc a) names) m) (kronecker_same C (suc a)) ∙ one_mul C.semiring (of_deltas (set_index i (suc a) names) m)) ∙ h
  choose_sum names fits true false i d m r h = taken names fits i d.1 m
  choose_sum names fits false true i d m r h =
      below-same C.semiring G.size (λ a. kronecker C (names d.0) (suc a) ⊠ of_deltas (set_index i (suc a) names) m) (λ a. kronecker C (suc a) (names d.0) ⊠ of_deltas (set_index i (suc a) names) m)
      (λ a l. ap (λ k. k ⊠ of_deltas (set_index i (suc a) names) m) (kronecker_comm C (names d.0) (suc a))) ∙ taken names fits i d.0 m
  choose_sum names fits false false i d m r h =
      below-mul C.semiring G.size (of_delta names d) (λ a. of_deltas (set_index i (suc a) names) m) ∙ ap (λ k. of_delta names d ⊠ k) h
      ∙ mul_left_comm C.semiring (of_delta names d) (factor r.0) (of_deltas names r.1)

  of-contract : (names : ℕ → ℕ) → Fits names → (i : ℕ) (m : Deltas) → IsSum names i m (contract i m)
  unfolding IsSum
  of-contract names fits i [] = G.counted ∙ sym (C.semiring.mul_one G.count)
  of-contract names fits i (d ∷ m) = choose_sum names fits (nat_eq d.0 i) (nat_eq d.1 i) i d m (contract i m) (of-contract names fits i m)

  counted-level : (b : Bool) (u d : ℕ) → power G.count (cond b (level (suc u) d) (u, d)).0 ⊠ power G.share (cond b (level (suc u) d) (u, d)).1 ≡ factor b ⊠ (power G.count u ⊠ power G.share d)
  counted-level true u d = of-level (suc u) d ∙ C.semiring.mul_assoc G.count (power G.count u) (power G.share d)
  counted-level false u d = sym (one_mul C.semiring (power G.count u ⊠ power G.share d))

  of-counted_part : (names : ℕ → ℕ) → Fits names → (i : ℕ) (p : Part) → total C G.size (λ a. of_part (set_index i a names) p) ≡ of_sum names (counted_part p (contract i p.deltas))
  unfolding IsSum
  of-counted_part names fits i p =
      let r = contract i p.deltas in
      let powers = power G.count p.up ⊠ power G.share p.down in
      let scalar = powers ⊠ of_vars p.vars in
      below-mul C.semiring G.size (with_sign p.plus) (λ a. scalar ⊠ of_deltas (set_index i (suc a) names) p.deltas)
      ∙ ap (λ k. with_sign p.plus ⊠ k) (below-mul C.semiring G.size scalar (λ a. of_deltas (set_index i (suc a) names) p.deltas))
      ∙ ap (λ k. with_sign p.plus ⊠ (scalar ⊠ k)) (of-contract names fits i p.deltas)
      ∙ factor_in C (with_sign p.plus) powers (of_vars p.vars) (factor r.0) (of_deltas names r.1)
      ∙ ap (λ k. with_sign p.plus ⊠ ((k ⊠ of_vars p.vars) ⊠ of_deltas names r.1)) (sym (counted-level r.0 p.up p.down))
      ∙ sym (of-tidied names fits (part p.plus (cond r.0 (level (suc p.up) p.down) (p.up, p.down)) p.vars r.1))

  of-sum_out : (names : ℕ → ℕ) → Fits names → (i : ℕ) (ps : List Part) → total C G.size (λ a. of_sum (set_index i a names) ps) ≡ of_sum names (sum_out i ps)
  of-sum_out names fits i [] = below-none C.semiring G.size (λ _. 𝟘) (λ a l. refl)
  of-sum_out names fits i (p ∷ ps) =
      below-add C.semiring G.size (λ a. of_part (set_index i (suc a) names) p) (λ a. of_sum (set_index i (suc a) names) ps)
      ∙ ap₂ ◌⊞◌ (of-counted_part names fits i p) (of-sum_out names fits i ps)
      ∙ sym (of-append names (counted_part p (contract i p.deltas)) (sum_out i ps))

  apart_lows : (i j : ℕ) → is_apart (i, j) ≡ true → (nat_le (suc i) fixed ≡ true) × (nat_le (suc j) fixed ≡ true)
  apart_lows i j e = and_parts (nat_le (suc i) fixed) (nat_le (suc j) fixed) (and_parts (not (nat_eq i j)) (nat_le (suc i) fixed && nat_le (suc j) fixed) e).1

  apart_parts : (i j : ℕ) → is_apart (i, j) ≡ true → (suc i ≤ fixed) × (suc j ≤ fixed)
  apart_parts i j e = (leb-true (suc i) fixed (apart_lows i j e).0, leb-true (suc j) fixed (apart_lows i j e).1)

  above_fixed : (i k : ℕ) → nat_le fixed k ≡ true → i ≡ k → suc i ≤ fixed → ⊥
  above_fixed i k h e l = omega (arith, leb-true fixed k h)

  -- an index in range that is not fixed takes a value
  set_apart : (b c : Bool) (i j k a : ℕ) (names : ℕ → ℕ) → nat_le fixed k ≡ true → nat_eq i k ≡ b → nat_eq j k ≡ c → is_apart (i, j) ≡ true → nat_eq (names i) (names j) ≡ false → nat_eq (cond b a (names i)) (cond c a (names j)) ≡ false
  set_apart true c i j k a names low e f h g = absurd (above_fixed i k low (eqb-true i k e) (apart_parts i j h).0)
  set_apart false true i j k a names low e f h g = absurd (above_fixed j k low (eqb-true j k f) (apart_parts i j h).1)
  set_apart false false i j k a names low e f h g = g

  set_within : (P : ℕ → Type 0) (b : Bool) (a c : ℕ) → P a → P c → P (cond b a c)
  set_within P true a c p q = p
  set_within P false a c p q = q

  fits_set : (names : ℕ → ℕ) → Fits names → (i a : ℕ) → nat_le fixed i ≡ true → 1 ≤ a → a ≤ G.size → Fits (set_index i a names)
  fits_set names fits i a h p q = record {
    low = λ k. set_within (λ v. 1 ≤ v) (nat_eq k i) a (names k) p (fits.low k);
    high = λ k. set_within (λ v. v ≤ G.size) (nat_eq k i) a (names k) q (fits.high k);
    apart = λ j k e. set_apart (nat_eq j i) (nat_eq k i) j k i a names h refl refl e (fits.apart j k e);
  }

  -- the expansion has the expression's value
  of-expand : (names : ℕ → ℕ) → Fits names → (e : Expr) → is_proper e ≡ true → of_sum names (expand e) ≡ value names e
  of-expand names fits (var k) h = only_var C (at C numbers k)
  of-expand names fits nought h = refl
  of-expand names fits single h = only_one C
  of-expand names fits count h = only_up C G.count
  of-expand names fits share h = only_down C G.share
  of-expand names fits (delta i j) h = of-tidied names fits (part true (0, 0) [] ((i, j) ∷ [])) ∙ only_delta C (kronecker C (names i) (names j))
  of-expand names fits (s ⊕ t) h =
      let parts = and_parts (is_proper s) (is_proper t) h in
      of-append names (expand s) (expand t) ∙ ap₂ ◌⊞◌ (of-expand names fits s parts.0) (of-expand names fits t parts.1)
  of-expand names fits (s ⊗ t) h =
      let parts = and_parts (is_proper s) (is_proper t) h in
      of-product names (expand s) (expand t) ∙ ap₂ ◌⊠◌ (of-expand names fits s parts.0) (of-expand names fits t parts.1)
  of-expand names fits (opposite s) h = of-negated names (expand s) ∙ ap C.neg (of-expand names fits s h)
  of-expand names fits (over i s) h =
      let parts = and_parts (nat_le fixed i) (is_proper s) h in
      sym (of-sum_out names fits i (expand s))
      ∙ below-same C.semiring G.size (λ a. of_sum (set_index i (suc a) names) (expand s)) (λ a. value (set_index i (suc a) names) s)
      (λ a l. of-expand (set_index i (suc a) names) (fits_set names fits i (suc a) parts.0 (omega arith) (omega arith)) s parts.1)

  -- ---- settling
  same_numbers-true : (m n : List ℕ) → same_numbers m n ≡ true → m ≡ n
  same_numbers-true [] [] e = refl
  same_numbers-true [] (j ∷ n) e = absurd (cc e)
  same_numbers-true (i ∷ m) [] e = absurd (cc e)
  same_numbers-true (i ∷ m) (j ∷ n) e =
      let parts = and_parts (nat_eq i j) (same_numbers m n) e in
      ap₂ ◌∷◌ (eqb-true i j parts.0) (same_numbers-true m n parts.1)

  same_deltas-true : (m n : Deltas) → same_deltas m n ≡ true → m ≡ n
  same_deltas-true [] [] e = refl
  same_deltas-true [] (j ∷ n) e = absurd (cc e)
  same_deltas-true (i ∷ m) [] e = absurd (cc e)
  same_deltas-true (i ∷ m) (j ∷ n) e =
      let parts = and_parts (nat_eq i.0 j.0 && nat_eq i.1 j.1) (same_deltas m n) e in
      let heads = and_parts (nat_eq i.0 j.0) (nat_eq i.1 j.1) parts.0 in
      ap₂ ◌∷◌ (λ k. (eqb-true i.0 j.0 heads.0 k, eqb-true i.1 j.1 heads.1 k)) (same_deltas-true m n parts.1)

  -- the value of a part but for its sign
  abbrev pub body : (ℕ → ℕ) → Part → carrier
  body names p = ((power G.count p.up ⊠ power G.share p.down) ⊠ of_vars p.vars) ⊠ of_deltas names p.deltas

  same_body : (names : ℕ → ℕ) (s t : Part) → same_part s t ≡ true → body names s ≡ body names t
  same_body names s t e =
      let halves = and_parts (nat_eq s.up t.up && nat_eq s.down t.down) (same_numbers s.vars t.vars && same_deltas s.deltas t.deltas) e in
      let powers = and_parts (nat_eq s.up t.up) (nat_eq s.down t.down) halves.0 in
      let lists = and_parts (same_numbers s.vars t.vars) (same_deltas s.deltas t.deltas) halves.1 in
      ap₂ ◌⊠◌ (ap₂ ◌⊠◌ (ap₂ ◌⊠◌ (ap (power G.count) (eqb-true s.up t.up powers.0)) (ap (power G.share) (eqb-true s.down t.down powers.1))) (ap of_vars (same_numbers-true s.vars t.vars lists.0))) (ap (of_deltas names) (same_deltas-true s.deltas t.deltas lists.1))

  cancel_signs : (s t : Bool) (a b : carrier) (c : Bool) → cond (same_sign s t) false c ≡ true → (c ≡ true → a ≡ b) → with_sign s ⊠ a ⊞ with_sign t ⊠ b ≡ 𝟘
  cancel_signs true true a b c e h = absurd (cc e)
  cancel_signs true false a b c e h = ap (λ k. 𝟙 ⊠ k ⊞ C.neg 𝟙 ⊠ b) (h e) ∙ signs_agree C b
  cancel_signs false true a b c e h = ap (λ k. C.neg 𝟙 ⊠ k ⊞ 𝟙 ⊠ b) (h e) ∙ signs_other C b
  cancel_signs false false a b c e h = absurd (cc e)

  put_cases : (names : ℕ → ℕ) (b : Bool) (s t : Part) (p q : List Part) → cancels s t ≡ b → of_sum names q ≡ of_part names s ⊞ of_sum names p → of_sum names (cond b p (t ∷ q)) ≡ of_part names s ⊞ (of_part names t ⊞ of_sum names p)
  put_cases names true s t p q e h =
      let none = cancel_signs s.plus t.plus (body names s) (body names t) (same_part s t) e (same_body names s t) in
      sym (zero_add C.semiring (of_sum names p)) ∙ ap (λ k. k ⊞ of_sum names p) (sym none) ∙ C.semiring.add_assoc (of_part names s) (of_part names t) (of_sum names p)
  put_cases names false s t p q e h = ap (λ k. of_part names t ⊞ k) h ∙ add_left_comm C.semiring (of_part names t) (of_part names s) (of_sum names p)

  of-put : (names : ℕ → ℕ) (s : Part) (p : List Part) → of_sum names (put s p) ≡ of_part names s ⊞ of_sum names p
  of-put names s [] = refl
  of-put names s (t ∷ p) = put_cases names (cancels s t) s t p (put s p) refl (of-put names s p)

  of-settle : (names : ℕ → ℕ) (p : List Part) → of_sum names (settle p) ≡ of_sum names p
  of-settle names [] = refl
  of-settle names (s ∷ p) = of-put names s (settle p) ∙ ap (λ k. of_part names s ⊞ k) (of-settle names p)

  value_same : (names : ℕ → ℕ) → Fits names → (s t : Expr) → is_proper (s ⊕ opposite t) ≡ true → settle (expand (s ⊕ opposite t)) ≡ [] → value names s ≡ value names t
  value_same names fits s t h e =
      equal_from_difference C (value names s) (value names t) (sym (of-expand names fits (s ⊕ opposite t) h) ∙ sym (of-settle names (expand (s ⊕ opposite t))) ∙ ap (of_sum names) e)

  -- ---- names that fit
  fits_first : 1 ≤ G.size → fixed ≤ G.size → Fits (first_names fixed)
  fits_first p q = record {
    low = λ k. first_low fixed k;
    high = λ k. first_high fixed G.size k p q;
    apart = λ i j e. first_apart fixed i j (and_parts (not (nat_eq i j)) (nat_le (suc i) fixed && nat_le (suc j) fixed) e).0 (apart_lows i j e).0 (apart_lows i j e).1;
  }

  fits_named : 1 ≤ G.size → fixed ≤ G.size → (i : ℕ) (values : List ℕ) → fixed ≤ i → AreWithin G.size values → Fits (named fixed i values)
  fits_named p q i [] l h = fits_first p q
  fits_named p q i (a ∷ others) l h = fits_set (named fixed (suc i) others) (fits_named p q (suc i) others (omega arith) h.1) i a (le-leb fixed i l) h.0.0 h.0.1

  -- two expressions have one value where their difference cancels; the names from `fixed` on have the given values
  pub contracted : 1 ≤ G.size → fixed ≤ G.size → (values : List ℕ) → AreWithin G.size values → (s t : Expr) → is_proper (s ⊕ opposite t) ≡ true → settle (expand (s ⊕ opposite t)) ≡ [] → value (named fixed fixed values) s ≡ value (named fixed fixed values) t
  contracted p q values h s t = value_same (named fixed fixed values) (fits_named p q fixed values (omega arith) h) s t
