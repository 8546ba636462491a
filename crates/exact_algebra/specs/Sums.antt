-- Finite sums in a commutative semiring: `sum R xs f` over a list, and `below R n f` over the places 0 to n - 1. They add,
-- take factors out, change their order, collapse at one place, and are joined from the sums over pieces.
--
-- Each law that needs no more than addition is the law of `Totals` in the additive monoid.
use Rattle.std.specs.Prelude.{◌≡◌, ◌≢◌, ℕ, suc, ◌+◌, ◌-◌, ◌*◌, ◌<◌, ◌≤◌, take, drop, length, get_or, List, [], ◌∷◌, ◌++◌, map, Bool, false, cond, not}
use Rattle.std.specs.List.{flat_map, filter, AllByRecursion, AllPairs, Contains}
use Rattle.std.specs.Ordering.{nat_cmp}
use mathlib.Core.Path.{fun_ext}
use Rattle.std.proofs.Common.{refl, sym, ap, ◌∙◌, arith, Ordering, Less, Equal, Greater}
use Rattle.std.proofs.lemmas.Cmp.{ranked, by_ranked, tied_itself, nat_cmp_total}
use Rattle.exact_algebra.specs.Ring.{Semiring, CommutativeRing, IsMonoidMap, IsSemiringMap, additive, map_additive, zero_add}
use Rattle.exact_algebra.specs.Naturals.{nat_semiring}
use Rattle.exact_algebra.specs.Regroup.{neg_zero, neg_add}
use Rattle.exact_algebra.specs.Totals.{total, total-one, total-append, total-map, total-flat_map, total-pairs, total-unit, total-times, total-swap, total-same_on, total-cut, total-filter, total-part, total-parts, total_below, total_below-same, total_below-unit, total_below-times, total_below-total, total_below-swap, total_below-split, total_below-blocks, total_below-only, total-by_place, total-only_at, total-only, total-constant, at_total, at_total_below}

pub nat_equal : (a b : ℕ) → nat_cmp a b ≡ Equal → a ≡ b
nat_equal a b h = by_ranked _ _ _ (nat_cmp a b) (ranked a b (nat_cmp a b) refl) (λ l p. cc) (λ _ p. p) (λ g p. cc)

pub below_less : (a b : ℕ) → nat_cmp a b ≡ Less → b < suc a → ⊥
below_less a b h l = by_ranked _ _ _ (nat_cmp a b) (ranked a b (nat_cmp a b) refl) (λ _ p. omega arith) (λ e p. cc) (λ g p. cc)

pub above_greater : (a b : ℕ) → nat_cmp a b ≡ Greater → b < a
above_greater a b h = by_ranked _ _ _ (nat_cmp a b) (ranked a b (nat_cmp a b) refl) (λ l p. cc) (λ e p. cc) (λ _ p. p)

pub less_cmp : (a b : ℕ) → a < b → nat_cmp a b ≡ Less
less_cmp a b h = grind arith

module _ (R : Semiring) where
  open R use {carrier, add as ◌⊕◌, mul as ◌⊗◌}

  infixl 6 ◌⊕◌
  infixl 7 ◌⊗◌
  -- the sum of f over the elements of a list
  unfoldable pub sum : {A : Type 0} → List A → (A → carrier) → carrier
  unfolding total
  sum xs f = total (additive R) xs f

  pub sum-total : {A : Type 0} (xs : List A) (f : A → carrier) → sum xs f ≡ total (additive R) xs f
  unfolding sum
  sum-total xs f = refl

  pub sum-nil : {A : Type 0} (f : A → carrier) → sum [] f ≡ R.zero
  unfolding sum
  sum-nil f = refl

  pub sum-cons : {A : Type 0} (x : A) (xs : List A) (f : A → carrier) → sum (x ∷ xs) f ≡ f x ⊕ sum xs f
  unfolding sum
  sum-cons x xs f = refl

  pub sum-one : {A : Type 0} (x : A) (f : A → carrier) → sum (x ∷ []) f ≡ f x
  unfolding sum
  sum-one x f = total-one (additive R) x f

  pub sum-append : {A : Type 0} (xs ys : List A) (f : A → carrier) → sum (xs ++ ys) f ≡ sum xs f ⊕ sum ys f
  unfolding sum
  sum-append xs ys f = total-append (additive R) xs ys f

  pub sum-map : {A B : Type 0} (g : A → B) (xs : List A) (f : B → carrier) → sum (map g xs) f ≡ sum xs (λ x. f (g x))
  unfolding sum
  sum-map g xs f = total-map (additive R) g xs f

  pub sum-flat_map : {A B : Type 0} (g : A → List B) (xs : List A) (f : B → carrier) → sum (flat_map g xs) f ≡ sum xs (λ x. sum (g x) f)
  unfolding sum
  sum-flat_map g xs f = total-flat_map (additive R) g xs f

  -- over all pairs of an element of the one list and an element of the other
  pub sum-pairs : {A B D : Type 0} (g : A → B → D) (xs : List A) (ys : List B) (f : D → carrier) → sum (flat_map (λ x. map (g x) ys) xs) f ≡ sum xs (λ x. sum ys (λ y. f (g x y)))
  unfolding sum
  sum-pairs g xs ys f = total-pairs (additive R) g xs ys f

  pub sum-zero : {A : Type 0} (xs : List A) → sum xs (λ _. R.zero) ≡ R.zero
  unfolding sum
  sum-zero xs = total-unit (additive R) xs

  pub sum-add : {A : Type 0} (xs : List A) (f g : A → carrier) → sum xs (λ x. f x ⊕ g x) ≡ sum xs f ⊕ sum xs g
  unfolding sum
  sum-add xs f g = total-times (additive R) xs f g

  pub sum-mul : {A : Type 0} (c : carrier) (xs : List A) (f : A → carrier) → sum xs (λ x. c ⊗ f x) ≡ c ⊗ sum xs f
  sum-mul c xs f = sum-total xs (λ x. c ⊗ f x) ∙ sym (at_total (additive R) (additive R) (λ x. c ⊗ x) (factor c) xs f) ∙ ap (λ s. c ⊗ s) (sym (sum-total xs f))
    where
      factor : (c : carrier) → IsMonoidMap (additive R) (additive R) (λ x. c ⊗ x)
      factor c = record { at_unit = R.mul_zero c; at_times = R.mul_add c }

  pub sum-swap : {A B : Type 0} (xs : List A) (ys : List B) (f : A → B → carrier) → sum xs (λ x. sum ys (λ y. f x y)) ≡ sum ys (λ y. sum xs (λ x. f x y))
  unfolding sum
  sum-swap xs ys f = total-swap (additive R) xs ys f

  -- ---- equal summands

  pub sum-same : {A : Type 0} (xs : List A) (f g : A → carrier) → ((x : A) → f x ≡ g x) → sum xs f ≡ sum xs g
  sum-same xs f g h = ap (sum xs) (fun_ext h)

  -- P holds of each element
  abbrev pub Each : {A : Type 0} → (A → Type 0) → List A → Type 0
  Each P xs = AllByRecursion P xs

  pub sum-same_on : {A : Type 0} (P : A → Type 0) (xs : List A) (f g : A → carrier) → Each P xs → ((x : A) → P x → f x ≡ g x) → sum xs f ≡ sum xs g
  unfolding sum
  sum-same_on P xs f g h e = total-same_on (additive R) P xs f g h e

  -- ---- products

  pub sum-mul_right : {A : Type 0} (c : carrier) (xs : List A) (f : A → carrier) → sum xs (λ x. f x ⊗ c) ≡ sum xs f ⊗ c
  sum-mul_right c xs f =
      sum-same xs (λ x. f x ⊗ c) (λ x. c ⊗ f x) (λ x. R.mul_comm (f x) c) ∙ sum-mul c xs f ∙ R.mul_comm c (sum xs f)

  -- a product of two sums is the sum of the products
  pub sum_mul_sum : {A B : Type 0} (xs : List A) (ys : List B) (f : A → carrier) (g : B → carrier) → sum xs f ⊗ sum ys g ≡ sum xs (λ x. sum ys (λ y. f x ⊗ g y))
  sum_mul_sum xs ys f g =
      sym (sum-mul_right (sum ys g) xs f) ∙ ap (sum xs) (fun_ext (λ x. sym (sum-mul (f x) ys g)))

  -- ---- over a part of a list

  -- c where the test passes, else 0
  abbrev pub where_true : Bool → carrier → carrier
  where_true b c = cond b c R.zero

  pub sum-filter : {A : Type 0} (test : A → Bool) (xs : List A) (f : A → carrier) → sum (filter test xs) f ≡ sum xs (λ x. where_true (test x) (f x))
  unfolding sum
  sum-filter test xs f = total-filter (additive R) test xs f

  -- the summands outside of the part are 0
  pub sum-part : {A : Type 0} (test : A → Bool) (xs : List A) (f : A → carrier) → Each (λ x. test x ≡ false → f x ≡ R.zero) xs → sum (filter test xs) f ≡ sum xs f
  unfolding sum
  sum-part test xs f h = total-part (additive R) test xs f h

  -- a list cut in the elements that pass and the others
  pub sum-parts : {A : Type 0} (test : A → Bool) (xs : List A) (f : A → carrier) → sum (filter test xs) f ⊕ sum (filter (λ x. not (test x)) xs) f ≡ sum xs f
  unfolding sum
  sum-parts test xs f = total-parts (additive R) test xs f

  -- c where two keys compare as equal, else 0
  abbrev pub where_equal : Ordering → carrier → carrier
  where_equal Less c = R.zero
  where_equal Equal c = c
  where_equal Greater c = R.zero

  pub where_equal-apart : (o : Ordering) (c : carrier) → o ≢ Equal → where_equal o c ≡ R.zero
  where_equal-apart Less c h = refl
  where_equal-apart Equal c h = absurd (h refl)
  where_equal-apart Greater c h = refl

  -- ---- sums over the places below n

  -- the sum of f over the places below n
  pub below : ℕ → (ℕ → carrier) → carrier
  unfolding total_below
  below n f = total_below (additive R) n f

  pub below-total : (n : ℕ) (f : ℕ → carrier) → below n f ≡ total_below (additive R) n f
  unfolding below
  below-total n f = refl

  pub below-zero : (f : ℕ → carrier) → below 0 f ≡ R.zero
  unfolding below
  below-zero f = refl

  pub below-suc : (n : ℕ) (f : ℕ → carrier) → below (suc n) f ≡ below n f ⊕ f n
  unfolding below
  below-suc n f = refl

  pub below-same : (n : ℕ) (f g : ℕ → carrier) → ((i : ℕ) → i < n → f i ≡ g i) → below n f ≡ below n g
  unfolding below
  below-same n f g h = total_below-same (additive R) n f g h

  pub below-none : (n : ℕ) (f : ℕ → carrier) → ((i : ℕ) → i < n → f i ≡ R.zero) → below n f ≡ R.zero
  unfolding below
  below-none n f h = total_below-unit (additive R) n f h

  pub below-add : (n : ℕ) (f g : ℕ → carrier) → below n (λ i. f i ⊕ g i) ≡ below n f ⊕ below n g
  unfolding below
  below-add n f g = total_below-times (additive R) n f g

  pub below-mul : (n : ℕ) (c : carrier) (f : ℕ → carrier) → below n (λ i. c ⊗ f i) ≡ c ⊗ below n f
  below-mul n c f = below-total n (λ i. c ⊗ f i) ∙ sym (at_total_below (additive R) (additive R) (λ x. c ⊗ x) (factor c) n f) ∙ ap (λ s. c ⊗ s) (sym (below-total n f))
    where
      factor : (c : carrier) → IsMonoidMap (additive R) (additive R) (λ x. c ⊗ x)
      factor c = record { at_unit = R.mul_zero c; at_times = R.mul_add c }

  pub below-mul_right : (n : ℕ) (c : carrier) (f : ℕ → carrier) → below n (λ i. f i ⊗ c) ≡ below n f ⊗ c
  below-mul_right n c f =
      ap (below n) (fun_ext (λ i. R.mul_comm (f i) c)) ∙ below-mul n c f ∙ R.mul_comm c (below n f)

  pub below_mul_below : (m n : ℕ) (f g : ℕ → carrier) → below m f ⊗ below n g ≡ below m (λ i. below n (λ j. f i ⊗ g j))
  below_mul_below m n f g =
      sym (below-mul_right m (below n g) f) ∙ ap (below m) (fun_ext (λ i. sym (below-mul n (f i) g)))

  pub below-sum : {A : Type 0} (n : ℕ) (xs : List A) (f : ℕ → A → carrier) → below n (λ i. sum xs (f i)) ≡ sum xs (λ x. below n (λ i. f i x))
  unfolding below sum
  below-sum n xs f = total_below-total (additive R) n xs f

  pub below-swap : (m n : ℕ) (f : ℕ → ℕ → carrier) → below m (λ i. below n (λ j. f i j)) ≡ below n (λ j. below m (λ i. f i j))
  unfolding below
  below-swap m n f = total_below-swap (additive R) m n f

  -- ---- sums that collapse at one place

  -- all summands but the one at k are 0
  pub below-only : (n k : ℕ) (f : ℕ → carrier) → k < n → ((i : ℕ) → i < n → i ≢ k → f i ≡ R.zero) → below n f ≡ f k
  unfolding below
  below-only n k f l h = total_below-only (additive R) n k f l h

  -- a Kronecker delta leaves one summand
  pub below-at : (n k : ℕ) (f : ℕ → carrier) → k < n → below n (λ i. where_equal (nat_cmp i k) (f i)) ≡ f k
  below-at n k f l =
      below-only n k (λ i. where_equal (nat_cmp i k) (f i)) l (λ i b ne. where_equal-apart (nat_cmp i k) (f i) (λ e. ne (nat_equal i k e)))
      ∙ ap (λ o. where_equal o (f k)) (tied_itself nat_cmp_total k)

  -- in a list all summands but the one at place k are 0
  pub sum-only_at : {A : Type 0} (d : A) (xs : List A) (k : ℕ) (f : A → carrier) → k < length xs → ((i : ℕ) → i < length xs → i ≢ k → f (get_or xs i d) ≡ R.zero) → sum xs f ≡ f (get_or xs k d)
  unfolding sum
  sum-only_at d xs k f l h = total-only_at (additive R) d xs k f l h

  -- in a list without repeats all summands but the one at k are 0
  pub sum-only : {A : Type 0} (xs : List A) (k : A) (f : A → carrier) → AllPairs (λ x y. x ≢ y) xs → Contains xs k → ((x : A) → x ≢ k → f x ≡ R.zero) → sum xs f ≡ f k
  unfolding sum
  sum-only xs k f distinct c h = total-only (additive R) xs k f distinct c h

  -- ---- pieces

  -- a range in two pieces
  pub below-split : (m n : ℕ) (f : ℕ → carrier) → below (m + n) f ≡ below m f ⊕ below n (λ i. f (m + i))
  unfolding below
  below-split m n f = total_below-split (additive R) m n f

  -- a range in m blocks of n
  pub below-blocks : (m n : ℕ) (f : ℕ → carrier) → below (m * n) f ≡ below m (λ i. below n (λ j. f (i * n + j)))
  unfolding below
  below-blocks m n f = total_below-blocks (additive R) m n f

  -- the sum over the places from lo to below hi
  abbrev pub between : ℕ → ℕ → (ℕ → carrier) → carrier
  between lo hi f = below (hi - lo) (λ i. f (lo + i))

  pub between-join : (lo mid hi : ℕ) (f : ℕ → carrier) → lo ≤ mid → mid ≤ hi → between lo mid f ⊕ between mid hi f ≡ between lo hi f
  between-join lo mid hi f a b =
      ap (λ s. below (mid - lo) (λ i. f (lo + i)) ⊕ s) (below-same (hi - mid) (λ i. f (mid + i)) (λ i. f (lo + ((mid - lo) + i))) (λ i l. ap f (omega arith)))
      ∙ sym (below-split (mid - lo) (hi - mid) (λ i. f (lo + i))) ∙ ap (λ n. below n (λ i. f (lo + i))) (omega arith)

  -- the summands outside of a piece are 0
  pub below-part : (lo hi n : ℕ) (f : ℕ → carrier) → lo ≤ hi → hi ≤ n → ((i : ℕ) → i < lo → f i ≡ R.zero) → ((i : ℕ) → hi ≤ i → i < n → f i ≡ R.zero) → below n f ≡ between lo hi f
  below-part lo hi n f a b front back =
      let whole : hi + (n - hi) ≡ n = omega arith in
      let piece : lo + (hi - lo) ≡ hi = omega arith in
      ap (λ k. below k f) (sym whole) ∙ below-split hi (n - hi) f
      ∙ ap (λ s. below hi f ⊕ s) (below-none (n - hi) (λ i. f (hi + i)) (λ i l. back (hi + i) (omega arith) (omega arith))) ∙ R.add_zero (below hi f)
      ∙ ap (λ k. below k f) (sym piece) ∙ below-split lo (hi - lo) f
      ∙ ap (λ s. s ⊕ between lo hi f) (below-none lo f front) ∙ zero_add R (between lo hi f)

  pub sum-cut : {A : Type 0} (i : ℕ) (xs : List A) (f : A → carrier) → sum (take i xs) f ⊕ sum (drop i xs) f ≡ sum xs f
  unfolding sum
  sum-cut i xs f = total-cut (additive R) i xs f

  -- any list of pieces
  pub sum-pieces : {A : Type 0} (pieces : List (List A)) (f : A → carrier) → sum (flat_map (λ piece. piece) pieces) f ≡ sum pieces (λ piece. sum piece f)
  sum-pieces pieces f = sum-flat_map (λ piece. piece) pieces f

  -- ---- a list by its places

  pub sum-by_place : {A : Type 0} (d : A) (xs : List A) (f : A → carrier) → sum xs f ≡ below (length xs) (λ i. f (get_or xs i d))
  unfolding below sum
  sum-by_place d xs f = total-by_place (additive R) d xs f

  -- ---- equal summands c

  -- the number n: n times 1
  abbrev pub number : ℕ → carrier
  number n = below n (λ _. R.one)

  pub below-constant : (n : ℕ) (c : carrier) → below n (λ _. c) ≡ number n ⊗ c
  below-constant n c = ap (below n) (fun_ext (λ i. sym (R.mul_comm R.one c ∙ R.mul_one c))) ∙ below-mul_right n c (λ _. R.one)

  pub sum-constant : {A : Type 0} (xs : List A) (c : carrier) → sum xs (λ _. c) ≡ number (length xs) ⊗ c
  sum-constant xs c = sum-total xs (λ _. c) ∙ total-constant (additive R) xs c ∙ sym (below-total (length xs) (λ _. c)) ∙ below-constant (length xs) c

  pub number-add : (m n : ℕ) → number (m + n) ≡ number m ⊕ number n
  number-add m n = below-split m n (λ _. R.one)

  pub number-mul : (m n : ℕ) → number (m * n) ≡ number m ⊗ number n
  number-mul m n = below-blocks m n (λ _. R.one) ∙ below-constant m (number n)

  -- the natural numbers map into each semiring
  pub number-IsSemiringMap : IsSemiringMap nat_semiring R number
  number-IsSemiringMap = record { at_zero = below-zero (λ _. R.one); at_one = number_one; at_add = number-add; at_mul = number-mul }
    where
      number_one : number 1 ≡ R.one
      number_one = below-suc 0 (λ _. R.one) ∙ ap (λ s. s ⊕ R.one) (below-zero (λ _. R.one)) ∙ R.add_comm R.zero R.one ∙ R.add_zero R.one

-- ---- maps of semirings go under a sum

module _ (R S : Semiring) (h : R.carrier → S.carrier) (m : IsSemiringMap R S h) where
  pub at_sum : {A : Type 0} (xs : List A) (f : A → R.carrier) → h (sum R xs f) ≡ sum S xs (λ x. h (f x))
  unfolding sum
  at_sum xs f = at_total (additive R) (additive S) h (map_additive R S h m) xs f

  pub at_below : (n : ℕ) (f : ℕ → R.carrier) → h (below R n f) ≡ below S n (λ i. h (f i))
  unfolding below
  at_below n f = at_total_below (additive R) (additive S) h (map_additive R S h m) n f

-- ---- negatives go under a sum

module _ (A : CommutativeRing) where
  open A.semiring use {carrier}

  -- negation is a map of the numbers under addition
  turns : IsMonoidMap (additive A.semiring) (additive A.semiring) A.neg
  turns = record { at_unit = neg_zero A; at_times = neg_add A }

  pub sum-neg : {X : Type 0} (xs : List X) (f : X → carrier) → sum A.semiring xs (λ x. A.neg (f x)) ≡ A.neg (sum A.semiring xs f)
  unfolding sum
  sum-neg xs f = sym (at_total (additive A.semiring) (additive A.semiring) A.neg turns xs f)

  pub below-neg : (n : ℕ) (f : ℕ → carrier) → below A.semiring n (λ i. A.neg (f i)) ≡ A.neg (below A.semiring n f)
  unfolding below
  below-neg n f = sym (at_total_below (additive A.semiring) (additive A.semiring) A.neg turns n f)
