-- Finite products in a commutative monoid: `total M xs f` over a list and `total_below M n f` over the places 0 to n - 1.
-- A sum is the total of the numbers under addition (`Sums`), a product the total of the numbers under multiplication
-- (`Products`), so that the laws that need no more than a monoid are proved once, here.
use Rattle.std.specs.Prelude.{◌≡◌, ◌≢◌, ◌⊎◌, ℕ, zero, suc, ◌+◌, ◌*◌, ◌<◌, List, [], ◌∷◌, ◌++◌, map, take, drop, length, get_or, Bool, true, false, cond, not, nat_eq}
use Rattle.std.specs.List.{flat_map, filter, AllByRecursion, AllPairs, Contains}
use mathlib.Core.Path.{fun_ext}
use Rattle.std.proofs.Common.{refl, sym, ap, ap₂, ◌∙◌, arith, inl, inr, take-append-drop, add-zero, add-suc, eqb-true, eq-eqb, true≢false}
use Rattle.exact_algebra.specs.Ring.{CommutativeMonoid, IsMonoidMap, Action, unit_times, times_times_comm}
use Rattle.exact_algebra.specs.Naturals.{nat_semiring}

module _ (M : CommutativeMonoid) where
  open M use {carrier, unit, times as ◌⊙◌}

  infixl 6 ◌⊙◌
  -- the product of f over the elements of a list
  unfoldable pub total : {A : Type 0} → List A → (A → carrier) → carrier
  total [] f = unit
  total (x ∷ xs) f = f x ⊙ total xs f

  -- the product of f over the places below n
  unfoldable pub total_below : ℕ → (ℕ → carrier) → carrier
  total_below zero f = unit
  total_below (suc n) f = total_below n f ⊙ f n

  -- n factors c
  abbrev pub power : ℕ → carrier → carrier
  power n c = total_below n (λ _. c)

  -- ---- over a list

  pub total-nil : {A : Type 0} (f : A → carrier) → total [] f ≡ unit
  unfolding total
  total-nil f = refl

  pub total-cons : {A : Type 0} (x : A) (xs : List A) (f : A → carrier) → total (x ∷ xs) f ≡ f x ⊙ total xs f
  unfolding total
  total-cons x xs f = refl

  pub total-one : {A : Type 0} (x : A) (f : A → carrier) → total (x ∷ []) f ≡ f x
  unfolding total
  total-one x f = M.times_unit (f x)

  pub total-append : {A : Type 0} (xs ys : List A) (f : A → carrier) → total (xs ++ ys) f ≡ total xs f ⊙ total ys f
  unfolding total
  total-append [] ys f = sym (unit_times M (total ys f))
  total-append (x ∷ xs) ys f = ap (λ s. f x ⊙ s) (total-append xs ys f) ∙ sym (M.times_assoc (f x) (total xs f) (total ys f))

  pub total-map : {A B : Type 0} (g : A → B) (xs : List A) (f : B → carrier) → total (map g xs) f ≡ total xs (λ x. f (g x))
  unfolding total
  total-map g [] f = refl
  total-map g (x ∷ xs) f = ap (λ s. f (g x) ⊙ s) (total-map g xs f)

  pub total-flat_map : {A B : Type 0} (g : A → List B) (xs : List A) (f : B → carrier) → total (flat_map g xs) f ≡ total xs (λ x. total (g x) f)
  unfolding total
  total-flat_map g [] f = refl
  total-flat_map g (x ∷ xs) f = total-append (g x) (flat_map g xs) f ∙ ap (λ s. total (g x) f ⊙ s) (total-flat_map g xs f)

  -- over all pairs of an element of the one list and an element of the other
  pub total-pairs : {A B D : Type 0} (g : A → B → D) (xs : List A) (ys : List B) (f : D → carrier) → total (flat_map (λ x. map (g x) ys) xs) f ≡ total xs (λ x. total ys (λ y. f (g x y)))
  total-pairs g xs ys f =
      total-flat_map (λ x. map (g x) ys) xs f ∙ ap (total xs) (fun_ext (λ x. total-map (g x) ys f))

  pub total-unit : {A : Type 0} (xs : List A) → total xs (λ _. unit) ≡ unit
  unfolding total
  total-unit [] = refl
  total-unit (x ∷ xs) = unit_times M (total xs (λ _. unit)) ∙ total-unit xs

  pub total-times : {A : Type 0} (xs : List A) (f g : A → carrier) → total xs (λ x. f x ⊙ g x) ≡ total xs f ⊙ total xs g
  unfolding total
  total-times [] f g = sym (M.times_unit unit)
  total-times (x ∷ xs) f g =
      ap (λ s. (f x ⊙ g x) ⊙ s) (total-times xs f g) ∙ times_times_comm M (f x) (g x) (total xs f) (total xs g)

  pub total-swap : {A B : Type 0} (xs : List A) (ys : List B) (f : A → B → carrier) → total xs (λ x. total ys (λ y. f x y)) ≡ total ys (λ y. total xs (λ x. f x y))
  unfolding total
  total-swap [] ys f = sym (total-unit ys)
  total-swap (x ∷ xs) ys f =
      ap (λ s. total ys (f x) ⊙ s) (total-swap xs ys f) ∙ sym (total-times ys (f x) (λ y. total xs (λ z. f z y)))

  pub total-same : {A : Type 0} (xs : List A) (f g : A → carrier) → ((x : A) → f x ≡ g x) → total xs f ≡ total xs g
  total-same xs f g h = ap (total xs) (fun_ext h)

  -- equal factors at the elements of the list, which meet P
  pub total-same_on : {A : Type 0} (P : A → Type 0) (xs : List A) (f g : A → carrier) → AllByRecursion P xs → ((x : A) → P x → f x ≡ g x) → total xs f ≡ total xs g
  unfolding total
  total-same_on P [] f g h e = refl
  total-same_on P (x ∷ xs) f g h e = ap₂ ◌⊙◌ (e x h.0) (total-same_on P xs f g h.1 e)

  pub total-cut : {A : Type 0} (i : ℕ) (xs : List A) (f : A → carrier) → total (take i xs) f ⊙ total (drop i xs) f ≡ total xs f
  total-cut i xs f =
      sym (total-append (take i xs) (drop i xs) f) ∙ ap (λ ys. total ys f) (take-append-drop i xs)

  -- ---- over a part of a list

  -- c where the test passes, else the unit
  abbrev pub unit_unless : Bool → carrier → carrier
  unit_unless b c = cond b c unit

  pub total-filter : {A : Type 0} (test : A → Bool) (xs : List A) (f : A → carrier) → total (filter test xs) f ≡ total xs (λ x. unit_unless (test x) (f x))
  unfolding total
  total-filter test [] f = refl
  total-filter test (x ∷ xs) f = kept (test x) ∙ ap (λ s. unit_unless (test x) (f x) ⊙ s) (total-filter test xs f)
    where
      kept : (b : Bool) → total (cond b (x ∷ filter test xs) (filter test xs)) f ≡ unit_unless b (f x) ⊙ total (filter test xs) f
      kept true = refl
      kept false = sym (unit_times M (total (filter test xs) f))

  -- the factors outside of the part are the unit
  pub total-part : {A : Type 0} (test : A → Bool) (xs : List A) (f : A → carrier) → AllByRecursion (λ x. test x ≡ false → f x ≡ unit) xs → total (filter test xs) f ≡ total xs f
  total-part test xs f h =
      total-filter test xs f
      ∙ total-same_on (λ x. test x ≡ false → f x ≡ unit) xs (λ x. unit_unless (test x) (f x)) f h (λ x e. either (test x) (f x) e)
    where
      either : (b : Bool) (c : carrier) → (b ≡ false → c ≡ unit) → unit_unless b c ≡ c
      either true c e = refl
      either false c e = sym (e refl)

  -- a list cut in the elements that pass and the others
  pub total-parts : {A : Type 0} (test : A → Bool) (xs : List A) (f : A → carrier) → total (filter test xs) f ⊙ total (filter (λ x. not (test x)) xs) f ≡ total xs f
  total-parts test xs f =
      ap₂ ◌⊙◌ (total-filter test xs f) (total-filter (λ x. not (test x)) xs f)
      ∙ sym (total-times xs (λ x. unit_unless (test x) (f x)) (λ x. unit_unless (not (test x)) (f x)))
      ∙ total-same xs (λ x. unit_unless (test x) (f x) ⊙ unit_unless (not (test x)) (f x)) f (λ x. either (test x) (f x))
    where
      either : (b : Bool) (c : carrier) → unit_unless b c ⊙ unit_unless (not b) c ≡ c
      either true c = M.times_unit c
      either false c = unit_times M c

  -- ---- over the places below n

  pub total_below-zero : (f : ℕ → carrier) → total_below 0 f ≡ unit
  unfolding total_below
  total_below-zero f = refl

  pub total_below-suc : (n : ℕ) (f : ℕ → carrier) → total_below (suc n) f ≡ total_below n f ⊙ f n
  unfolding total_below
  total_below-suc n f = refl

  -- the first factor apart
  pub total_below-first : (n : ℕ) (f : ℕ → carrier) → total_below (suc n) f ≡ f 0 ⊙ total_below n (λ i. f (suc i))
  unfolding total_below
  total_below-first zero f = M.times_comm unit (f 0)
  total_below-first (suc n) f =
      ap (λ s. s ⊙ f (suc n)) (total_below-first n f) ∙ M.times_assoc (f 0) (total_below n (λ i. f (suc i))) (f (suc n))

  pub total_below-same : (n : ℕ) (f g : ℕ → carrier) → ((i : ℕ) → i < n → f i ≡ g i) → total_below n f ≡ total_below n g
  unfolding total_below
  total_below-same zero f g h = refl
  total_below-same (suc n) f g h =
      ap₂ ◌⊙◌ (total_below-same n f g (λ i l. h i (omega arith))) (h n (omega arith))

  pub total_below-unit : (n : ℕ) (f : ℕ → carrier) → ((i : ℕ) → i < n → f i ≡ unit) → total_below n f ≡ unit
  unfolding total_below
  total_below-unit zero f h = refl
  total_below-unit (suc n) f h =
      ap₂ ◌⊙◌ (total_below-unit n f (λ i l. h i (omega arith))) (h n (omega arith)) ∙ M.times_unit unit

  pub total_below-times : (n : ℕ) (f g : ℕ → carrier) → total_below n (λ i. f i ⊙ g i) ≡ total_below n f ⊙ total_below n g
  unfolding total_below
  total_below-times zero f g = sym (M.times_unit unit)
  total_below-times (suc n) f g =
      ap (λ s. s ⊙ (f n ⊙ g n)) (total_below-times n f g) ∙ times_times_comm M (total_below n f) (total_below n g) (f n) (g n)

  pub total_below-total : {A : Type 0} (n : ℕ) (xs : List A) (f : ℕ → A → carrier) → total_below n (λ i. total xs (f i)) ≡ total xs (λ x. total_below n (λ i. f i x))
  unfolding total_below
  total_below-total zero xs f = sym (total-unit xs)
  total_below-total (suc n) xs f =
      ap (λ s. s ⊙ total xs (f n)) (total_below-total n xs f) ∙ sym (total-times xs (λ x. total_below n (λ i. f i x)) (f n))

  pub total_below-swap : (m n : ℕ) (f : ℕ → ℕ → carrier) → total_below m (λ i. total_below n (λ j. f i j)) ≡ total_below n (λ j. total_below m (λ i. f i j))
  unfolding total_below
  total_below-swap zero n f = sym (total_below-unit n (λ _. unit) (λ i l. refl))
  total_below-swap (suc m) n f =
      ap (λ s. s ⊙ total_below n (f m)) (total_below-swap m n f) ∙ sym (total_below-times n (λ j. total_below m (λ i. f i j)) (f m))

  -- a range in two pieces
  pub total_below-split : (m n : ℕ) (f : ℕ → carrier) → total_below (m + n) f ≡ total_below m f ⊙ total_below n (λ i. f (m + i))
  unfolding total_below
  total_below-split m zero f = ap (λ k. total_below k f) (add-zero m) ∙ sym (M.times_unit (total_below m f))
  total_below-split m (suc n) f =
      ap (λ k. total_below k f) (add-suc m n) ∙ ap (λ s. s ⊙ f (m + n)) (total_below-split m n f) ∙ M.times_assoc (total_below m f) (total_below n (λ i. f (m + i))) (f (m + n))

  -- a range in m blocks of n
  pub total_below-blocks : (m n : ℕ) (f : ℕ → carrier) → total_below (m * n) f ≡ total_below m (λ i. total_below n (λ j. f (i * n + j)))
  total_below-blocks zero n f = ap (λ k. total_below k f) (none n) ∙ total_below-zero f ∙ sym (total_below-zero (λ i. total_below n (λ j. f (i * n + j))))
    where
      none : (n : ℕ) → 0 * n ≡ 0
      none n = omega arith
  total_below-blocks (suc m) n f =
      ap (λ k. total_below k f) (more m n) ∙ total_below-split (m * n) n f ∙ ap (λ s. s ⊙ total_below n (λ j. f (m * n + j))) (total_below-blocks m n f)
      ∙ sym (total_below-suc m (λ i. total_below n (λ j. f (i * n + j))))
    where
      more : (m n : ℕ) → suc m * n ≡ m * n + n
      more m n = grind arith

  -- all factors but the one at k are the unit
  pub total_below-only : (n k : ℕ) (f : ℕ → carrier) → k < n → ((i : ℕ) → i < n → i ≢ k → f i ≡ unit) → total_below n f ≡ f k
  total_below-only zero k f l h = absurd (omega arith)
  total_below-only (suc n) k f l h =
      total_below-suc n f ∙ by_place (λ m. total_below-only n k f m (λ i b. h i (omega arith))) (nat_eq n k) refl
    where
      less : n ≢ k → k < n
      less ne = omega arith

      apart : (i : ℕ) → n ≡ k → i < n → i ≢ k
      apart i e b same = omega arith

      by_place : (k < n → total_below n f ≡ f k) → (b : Bool) → nat_eq n k ≡ b → total_below n f ⊙ f n ≡ f k
      by_place rest true e =
          let same : n ≡ k = eqb-true n k e in
          ap (λ s. s ⊙ f n) (total_below-unit n f (λ i b. h i (omega arith) (apart i same b))) ∙ unit_times M (f n) ∙ ap f same
      by_place rest false e =
          let ne : n ≢ k = λ same. true≢false (sym (eq-eqb n k same) ∙ e) in
          ap (λ s. total_below n f ⊙ s) (h n (omega arith) ne) ∙ M.times_unit (total_below n f) ∙ rest (less ne)

  -- ---- a list by its places

  pub total-by_place : {A : Type 0} (d : A) (xs : List A) (f : A → carrier) → total xs f ≡ total_below (length xs) (λ i. f (get_or xs i d))
  total-by_place d [] f = total-nil f ∙ sym (total_below-zero (λ i. f (get_or [] i d)))
  total-by_place d (x ∷ xs) f =
      total-cons x xs f ∙ ap (λ s. f x ⊙ s) (total-by_place d xs f) ∙ sym (total_below-first (length xs) (λ i. f (get_or (x ∷ xs) i d)))

  -- all factors but the one at place k are the unit
  pub total-only_at : {A : Type 0} (d : A) (xs : List A) (k : ℕ) (f : A → carrier) → k < length xs → ((i : ℕ) → i < length xs → i ≢ k → f (get_or xs i d) ≡ unit) → total xs f ≡ f (get_or xs k d)
  total-only_at d xs k f l h =
      total-by_place d xs f ∙ total_below-only (length xs) k (λ i. f (get_or xs i d)) l h

  -- in a list without repeats all factors but the one at k are the unit
  pub total-only : {A : Type 0} (xs : List A) (k : A) (f : A → carrier) → AllPairs (λ x y. x ≢ y) xs → Contains xs k → ((x : A) → x ≢ k → f x ≡ unit) → total xs f ≡ f k
  total-only xs k f distinct c h =
      total-only_at k xs c.0 f c.1 (λ i l ne. h (get_or xs i k) (apart i l ne)) ∙ ap f c.2
    where
      before_or_after : (i : ℕ) → i ≢ c.0 → (i < c.0) ⊎ (c.0 < i)
      before_or_after i ne = grind arith

      clash : (i : ℕ) → i < length xs → (i < c.0) ⊎ (c.0 < i) → get_or xs i k ≡ get_or xs c.0 k → ⊥
      clash i l (inl before) e = distinct i c.0 k before c.1 e
      clash i l (inr after) e = distinct c.0 i k after l (sym e)

      apart : (i : ℕ) → i < length xs → i ≢ c.0 → get_or xs i k ≢ k
      apart i l ne e = clash i l (before_or_after i ne) (e ∙ sym c.2)

  pub total-constant : {A : Type 0} (xs : List A) (c : carrier) → total xs (λ _. c) ≡ power (length xs) c
  total-constant [] c = total-nil (λ _. c) ∙ sym (total_below-zero (λ _. c))
  total-constant (x ∷ xs) c =
      total-cons x xs (λ _. c) ∙ ap (λ s. c ⊙ s) (total-constant xs c) ∙ sym (total_below-first (length xs) (λ _. c))

  pub power-add : (m n : ℕ) (c : carrier) → power (m + n) c ≡ power m c ⊙ power n c
  power-add m n c = total_below-split m n (λ _. c)

  pub power-mul : (m n : ℕ) (c : carrier) → power (m * n) c ≡ power m (power n c)
  power-mul m n c = total_below-blocks m n (λ _. c)

  pub power-times : (n : ℕ) (c d : carrier) → power n (c ⊙ d) ≡ power n c ⊙ power n d
  power-times n c d = total_below-times n (λ _. c) (λ _. d)

-- natural numbers as exponents
abbrev pub exponents : (M : CommutativeMonoid) → Action nat_semiring M
exponents M = record {
  act = λ n c. power M n c;
  act_add = λ m n c. power-add M m n c;
  act_zero = λ c. total_below-zero M (λ _. c);
}

-- ---- maps of monoids go under a product

module _ (M N : CommutativeMonoid) (h : M.carrier → N.carrier) (m : IsMonoidMap M N h) where
  pub at_total : {A : Type 0} (xs : List A) (f : A → M.carrier) → h (total M xs f) ≡ total N xs (λ x. h (f x))
  at_total [] f = ap h (total-nil M f) ∙ m.at_unit ∙ sym (total-nil N (λ x. h (f x)))
  at_total (x ∷ xs) f =
      ap h (total-cons M x xs f) ∙ m.at_times (f x) (total M xs f) ∙ ap (N.times (h (f x))) (at_total xs f) ∙ sym (total-cons N x xs (λ y. h (f y)))

  pub at_total_below : (n : ℕ) (f : ℕ → M.carrier) → h (total_below M n f) ≡ total_below N n (λ i. h (f i))
  at_total_below zero f = ap h (total_below-zero M f) ∙ m.at_unit ∙ sym (total_below-zero N (λ i. h (f i)))
  at_total_below (suc n) f =
      ap h (total_below-suc M n f) ∙ m.at_times (total_below M n f) (f n) ∙ ap (λ s. N.times s (h (f n))) (at_total_below n f) ∙ sym (total_below-suc N n (λ i. h (f i)))
