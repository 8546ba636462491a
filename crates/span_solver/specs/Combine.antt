-- Sums of values with fractions as factors, and how they change where a direction is taken out or put in.
use Rattle.std.proofs.Common.{◌≡◌, ℕ, zero, suc, ◌<◌, ◌≤◌, refl, sym, ◌∙◌, ap, ap₂, arith, List, [], ◌∷◌, length}
use Rattle.std.specs.Prelude.{map, ⊤}
use Rattle.exact_algebra.specs.Ring.{zero_add, zero_mul}
use Rattle.exact_algebra.specs.Solver.{identity}
use Rattle.exact_algebra.specs.Solver.Term.{var, nought, ◌⊕◌, ◌⊗◌, opposite}
use Rattle.frac128.specs.Rational.{ℚ, zero_ℚ, ◌*ℚ◌, ◌-ℚ◌}
use Rattle.span_solver.specs.Algebra.{Algebra, constant_zero, constant-step}

-- P holds of each element
abbrev pub Each : {X : Type 0} → (X → Type 0) → List X → Type 0
Each P [] = ⊤
Each P (x ∷ xs) = P x × Each P xs

-- a list without the element at a place
abbrev pub without : {X : Type 0} → ℕ → List X → List X
without j [] = []
without zero (x ∷ xs) = xs
without (suc j) (x ∷ xs) = x ∷ without j xs

-- a list with an element put in at a place
abbrev pub inserted : {X : Type 0} → ℕ → X → List X → List X
inserted zero y xs = y ∷ xs
inserted (suc j) y [] = y ∷ []
inserted (suc j) y (x ∷ xs) = x ∷ inserted j y xs

-- the entry at a place, 0 past the end
abbrev pub entry : ℕ → List ℚ → ℚ
entry j [] = zero_ℚ
entry zero (x ∷ xs) = x
entry (suc j) (x ∷ xs) = entry j xs

-- p times the first list minus a times the second; entries past the end are 0
abbrev pub mixed : ℚ → ℚ → List ℚ → List ℚ → List ℚ
mixed p a [] [] = []
mixed p a (b ∷ bs) [] = (p *ℚ b -ℚ a *ℚ zero_ℚ) ∷ mixed p a bs []
mixed p a [] (q ∷ qs) = (p *ℚ zero_ℚ -ℚ a *ℚ q) ∷ mixed p a [] qs
mixed p a (b ∷ bs) (q ∷ qs) = (p *ℚ b -ℚ a *ℚ q) ∷ mixed p a bs qs

abbrev pub AreZero : List ℚ → Type 0
AreZero e = Each (λ x. x ≡ zero_ℚ) e

pub length-without : {X : Type 0} (j n : ℕ) (xs : List X) → j < length xs → length xs ≡ suc n → length (without j xs) ≡ n
length-without j n [] l e = absurd (omega arith)
length-without zero n (x ∷ xs) l e = omega arith
length-without (suc j) zero (x ∷ xs) l e = absurd (omega arith)
length-without (suc j) (suc n) (x ∷ xs) l e = ap suc (length-without j n xs (omega arith) (omega arith))

pub length-inserted : {X : Type 0} (j : ℕ) (y : X) (xs : List X) → length (inserted j y xs) ≡ suc (length xs)
length-inserted zero y xs = refl
length-inserted (suc j) y [] = refl
length-inserted (suc j) y (x ∷ xs) = ap suc (length-inserted j y xs)

pub length-mixed : (p a : ℚ) (n : ℕ) (bs qs : List ℚ) → length bs ≡ n → length qs ≡ n → length (mixed p a bs qs) ≡ n
length-mixed p a n [] [] e f = e
length-mixed p a n (b ∷ bs) [] e f = absurd (omega arith)
length-mixed p a n [] (q ∷ qs) e f = absurd (omega arith)
length-mixed p a zero (b ∷ bs) (q ∷ qs) e f = absurd (omega arith)
length-mixed p a (suc n) (b ∷ bs) (q ∷ qs) e f = ap suc (length-mixed p a n bs qs (omega arith) (omega arith))

pub length-reduced : (p a : ℚ) (j n : ℕ) (bs qs : List ℚ) → length bs ≡ suc n → length qs ≡ suc n → j < suc n → length (without j (mixed p a bs qs)) ≡ n
length-reduced p a j n bs qs e f l =
    let m : length (mixed p a bs qs) ≡ suc n = length-mixed p a (suc n) bs qs e f in
    length-without j n (mixed p a bs qs) (omega arith) m

pub entry-mixed : (p a : ℚ) (j : ℕ) (bs qs : List ℚ) → j < length bs → j < length qs → entry j (mixed p a bs qs) ≡ p *ℚ entry j bs -ℚ a *ℚ entry j qs
entry-mixed p a j [] qs l m = absurd (omega arith)
entry-mixed p a j (b ∷ bs) [] l m = absurd (omega arith)
entry-mixed p a zero (b ∷ bs) (q ∷ qs) l m = refl
entry-mixed p a (suc j) (b ∷ bs) (q ∷ qs) l m = entry-mixed p a j bs qs (omega arith) (omega arith)

pub Each-without : {X : Type 0} (P : X → Type 0) (j : ℕ) (xs : List X) → Each P xs → Each P (without j xs)
Each-without P j [] h = tt
Each-without P zero (x ∷ xs) h = h.1
Each-without P (suc j) (x ∷ xs) h = (h.0, Each-without P j xs h.1)

pub Each-inserted : {X : Type 0} (P : X → Type 0) (j : ℕ) (y : X) (xs : List X) → Each P (inserted j y xs) → P y × Each P xs
Each-inserted P zero y xs h = h
Each-inserted P (suc j) y [] h = h
Each-inserted P (suc j) y (x ∷ xs) h = let k = Each-inserted P j y xs h.1 in (k.0, (h.0, k.1))

pub Each-map : {X Y : Type 0} (P : Y → Type 0) (f : X → Y) (xs : List X) → Each (λ x. P (f x)) xs → Each P (map f xs)
Each-map P f [] h = tt
Each-map P f (x ∷ xs) h = (h.0, Each-map P f xs h.1)

pub Each-of_map : {X Y : Type 0} (P : Y → Type 0) (f : X → Y) (xs : List X) → Each P (map f xs) → Each (λ x. P (f x)) xs
Each-of_map P f [] h = tt
Each-of_map P f (x ∷ xs) h = (h.0, Each-of_map P f xs h.1)

pub Each-implies : {X : Type 0} (P Q : X → Type 0) (xs : List X) → ((x : X) → P x → Q x) → Each P xs → Each Q xs
Each-implies P Q [] f h = tt
Each-implies P Q (x ∷ xs) f h = (f x h.0, Each-implies P Q xs f h.1)

module _ (A : Algebra) where
  open A.ring.semiring use {carrier, zero as none, add as ◌⊞◌, mul as ◌⊠◌}

  infixl 6 ◌⊞◌
  infixl 7 ◌⊠◌
  -- the sum of the values times the entries
  abbrev pub combine : List ℚ → List carrier → carrier
  combine [] xs = none
  combine (q ∷ qs) [] = none
  combine (q ∷ qs) (x ∷ xs) = (A.constant q ⊠ x) ⊞ combine qs xs

  -- the value at a place, 0 past the end
  abbrev pub value_at : ℕ → List carrier → carrier
  value_at j [] = none
  value_at zero (x ∷ xs) = x
  value_at (suc j) (x ∷ xs) = value_at j xs

  abbrev pub scaled : ℚ → List carrier → List carrier
  scaled p xs = map (λ x. A.constant p ⊠ x) xs

  -- each value is 0
  abbrev pub AreNone : List carrier → Type 0
  AreNone xs = Each (λ x. x ≡ none) xs

  -- the first list minus the second; values past the end are 0
  abbrev pub difference : List carrier → List carrier → List carrier
  difference [] [] = []
  difference (x ∷ xs) [] = (x ⊞ A.ring.neg none) ∷ difference xs []
  difference [] (y ∷ ys) = (none ⊞ A.ring.neg y) ∷ difference [] ys
  difference (x ∷ xs) (y ∷ ys) = (x ⊞ A.ring.neg y) ∷ difference xs ys

  pub combine-none_right : (qs : List ℚ) → combine qs [] ≡ none
  combine-none_right [] = refl
  combine-none_right (q ∷ qs) = refl

  constant_zero-times : (x : carrier) → A.constant zero_ℚ ⊠ x ≡ none
  constant_zero-times x = ap (λ c. c ⊠ x) (constant_zero A) ∙ zero_mul A.ring.semiring x

  pub combine-zeros : (qs : List ℚ) (xs : List carrier) → AreZero qs → combine qs xs ≡ none
  combine-zeros [] xs h = refl
  combine-zeros (q ∷ qs) [] h = refl
  combine-zeros (q ∷ qs) (x ∷ xs) h =
      ap₂ ◌⊞◌ (ap (λ c. A.constant c ⊠ x) h.0 ∙ constant_zero-times x) (combine-zeros qs xs h.1) ∙ A.ring.semiring.add_zero none

  pub combine-nones : (qs : List ℚ) (xs : List carrier) → AreNone xs → combine qs xs ≡ none
  combine-nones [] xs h = refl
  combine-nones (q ∷ qs) [] h = refl
  combine-nones (q ∷ qs) (x ∷ xs) h =
      ap₂ ◌⊞◌ (ap (λ y. A.constant q ⊠ y) h.0 ∙ A.ring.semiring.mul_zero (A.constant q)) (combine-nones qs xs h.1) ∙ A.ring.semiring.add_zero none

  -- the part of one direction
  pub combine-split : (j : ℕ) (qs : List ℚ) (xs : List carrier) → combine qs xs ≡ (A.constant (entry j qs) ⊠ value_at j xs) ⊞ combine (without j qs) (without j xs)
  combine-split j [] xs = sym (ap (λ y. y ⊞ none) (constant_zero-times (value_at j xs)) ∙ A.ring.semiring.add_zero none)
  combine-split j (q ∷ qs) [] =
      sym (ap₂ ◌⊞◌ (A.ring.semiring.mul_zero (A.constant (entry j (q ∷ qs)))) (combine-none_right (without j (q ∷ qs))) ∙ A.ring.semiring.add_zero none)
  combine-split zero (q ∷ qs) (x ∷ xs) = refl
  combine-split (suc j) (q ∷ qs) (x ∷ xs) =
      ap (λ y. (A.constant q ⊠ x) ⊞ y) (combine-split j qs xs)
      ∙ identity A.ring ((A.constant q ⊠ x) ∷ (A.constant (entry j qs) ⊠ value_at j xs) ∷ combine (without j qs) (without j xs) ∷ [])
      (var 0 ⊕ (var 1 ⊕ var 2)) (var 1 ⊕ (var 0 ⊕ var 2)) refl

  pub combine-mixed : (p a : ℚ) (bs qs : List ℚ) (xs : List carrier) → combine (mixed p a bs qs) xs ≡ (A.constant p ⊠ combine bs xs) ⊞ A.ring.neg (A.constant a ⊠ combine qs xs)
  combine-mixed p a [] [] xs = identity A.ring (A.constant p ∷ A.constant a ∷ []) nought (var 0 ⊗ nought ⊕ opposite (var 1 ⊗ nought)) refl
  combine-mixed p a (b ∷ bs) [] [] = identity A.ring (A.constant p ∷ A.constant a ∷ []) nought (var 0 ⊗ nought ⊕ opposite (var 1 ⊗ nought)) refl
  combine-mixed p a [] (q ∷ qs) [] = identity A.ring (A.constant p ∷ A.constant a ∷ []) nought (var 0 ⊗ nought ⊕ opposite (var 1 ⊗ nought)) refl
  combine-mixed p a (b ∷ bs) (q ∷ qs) [] = identity A.ring (A.constant p ∷ A.constant a ∷ []) nought (var 0 ⊗ nought ⊕ opposite (var 1 ⊗ nought)) refl
  combine-mixed p a (b ∷ bs) [] (x ∷ xs) =
      ap₂ ◌⊞◌ (ap (λ c. c ⊠ x) (constant-step A p b a zero_ℚ ∙ ap (λ z. (A.constant p ⊠ A.constant b) ⊞ A.ring.neg (A.constant a ⊠ z)) (constant_zero A))) (combine-mixed p a bs [] xs)
      ∙ identity A.ring (A.constant p ∷ A.constant b ∷ A.constant a ∷ x ∷ combine bs xs ∷ [])
      ((var 0 ⊗ var 1 ⊕ opposite (var 2 ⊗ nought)) ⊗ var 3 ⊕ (var 0 ⊗ var 4 ⊕ opposite (var 2 ⊗ nought)))
      (var 0 ⊗ (var 1 ⊗ var 3 ⊕ var 4) ⊕ opposite (var 2 ⊗ nought)) refl
  combine-mixed p a [] (q ∷ qs) (x ∷ xs) =
      ap₂ ◌⊞◌ (ap (λ c. c ⊠ x) (constant-step A p zero_ℚ a q ∙ ap (λ z. (A.constant p ⊠ z) ⊞ A.ring.neg (A.constant a ⊠ A.constant q)) (constant_zero A))) (combine-mixed p a [] qs xs)
      ∙ identity A.ring (A.constant p ∷ A.constant q ∷ A.constant a ∷ x ∷ combine qs xs ∷ [])
      ((var 0 ⊗ nought ⊕ opposite (var 2 ⊗ var 1)) ⊗ var 3 ⊕ (var 0 ⊗ nought ⊕ opposite (var 2 ⊗ var 4)))
      (var 0 ⊗ nought ⊕ opposite (var 2 ⊗ (var 1 ⊗ var 3 ⊕ var 4))) refl
  combine-mixed p a (b ∷ bs) (q ∷ qs) (x ∷ xs) =
      ap₂ ◌⊞◌ (ap (λ c. c ⊠ x) (constant-step A p b a q)) (combine-mixed p a bs qs xs)
      ∙ identity A.ring (A.constant p ∷ A.constant b ∷ A.constant a ∷ A.constant q ∷ x ∷ combine bs xs ∷ combine qs xs ∷ [])
      ((var 0 ⊗ var 1 ⊕ opposite (var 2 ⊗ var 3)) ⊗ var 4 ⊕ (var 0 ⊗ var 5 ⊕ opposite (var 2 ⊗ var 6)))
      (var 0 ⊗ (var 1 ⊗ var 4 ⊕ var 5) ⊕ opposite (var 2 ⊗ (var 3 ⊗ var 4 ⊕ var 6))) refl

  pub combine-scaled : (p : ℚ) (qs : List ℚ) (xs : List carrier) → combine qs (scaled p xs) ≡ A.constant p ⊠ combine qs xs
  combine-scaled p [] xs = sym (A.ring.semiring.mul_zero (A.constant p))
  combine-scaled p (q ∷ qs) [] = sym (A.ring.semiring.mul_zero (A.constant p))
  combine-scaled p (q ∷ qs) (x ∷ xs) =
      ap (λ y. (A.constant q ⊠ (A.constant p ⊠ x)) ⊞ y) (combine-scaled p qs xs)
      ∙ identity A.ring (A.constant p ∷ A.constant q ∷ x ∷ combine qs xs ∷ [])
      (var 1 ⊗ (var 0 ⊗ var 2) ⊕ var 0 ⊗ var 3) (var 0 ⊗ (var 1 ⊗ var 2 ⊕ var 3)) refl

  pub combine-difference : (qs : List ℚ) (xs ys : List carrier) → combine qs (difference xs ys) ≡ combine qs xs ⊞ A.ring.neg (combine qs ys)
  combine-difference [] xs ys = identity A.ring [] nought (nought ⊕ opposite nought) refl
  combine-difference (q ∷ qs) [] [] = identity A.ring [] nought (nought ⊕ opposite nought) refl
  combine-difference (q ∷ qs) (x ∷ xs) [] =
      ap (λ y. (A.constant q ⊠ (x ⊞ A.ring.neg none)) ⊞ y) (combine-difference qs xs [] ∙ ap (λ z. combine qs xs ⊞ A.ring.neg z) (combine-none_right qs))
      ∙ identity A.ring (A.constant q ∷ x ∷ combine qs xs ∷ []) (var 0 ⊗ (var 1 ⊕ opposite nought) ⊕ (var 2 ⊕ opposite nought)) ((var 0 ⊗ var 1 ⊕ var 2) ⊕ opposite nought) refl
  combine-difference (q ∷ qs) [] (y ∷ ys) =
      ap (λ z. (A.constant q ⊠ (none ⊞ A.ring.neg y)) ⊞ z) (combine-difference qs [] ys ∙ ap (λ z. z ⊞ A.ring.neg (combine qs ys)) (combine-none_right qs))
      ∙ identity A.ring (A.constant q ∷ y ∷ combine qs ys ∷ []) (var 0 ⊗ (nought ⊕ opposite (var 1)) ⊕ (nought ⊕ opposite (var 2))) (nought ⊕ opposite (var 0 ⊗ var 1 ⊕ var 2)) refl
  combine-difference (q ∷ qs) (x ∷ xs) (y ∷ ys) =
      ap (λ z. (A.constant q ⊠ (x ⊞ A.ring.neg y)) ⊞ z) (combine-difference qs xs ys)
      ∙ identity A.ring (A.constant q ∷ x ∷ y ∷ combine qs xs ∷ combine qs ys ∷ [])
      (var 0 ⊗ (var 1 ⊕ opposite (var 2)) ⊕ (var 3 ⊕ opposite (var 4))) ((var 0 ⊗ var 1 ⊕ var 3) ⊕ opposite (var 0 ⊗ var 2 ⊕ var 4)) refl

  -- with one value put in
  pub combine-inserted : (j : ℕ) (y : carrier) (qs : List ℚ) (xs : List carrier) → j ≤ length xs → combine qs (inserted j y xs) ≡ (A.constant (entry j qs) ⊠ y) ⊞ combine (without j qs) xs
  combine-inserted j y [] xs l = sym (ap (λ z. z ⊞ none) (constant_zero-times y) ∙ A.ring.semiring.add_zero none)
  combine-inserted zero y (q ∷ qs) xs l = refl
  combine-inserted (suc j) y (q ∷ qs) [] l = absurd (omega arith)
  combine-inserted (suc j) y (q ∷ qs) (x ∷ xs) l =
      ap (λ z. (A.constant q ⊠ x) ⊞ z) (combine-inserted j y qs xs (omega arith))
      ∙ identity A.ring ((A.constant q ⊠ x) ∷ (A.constant (entry j qs) ⊠ y) ∷ combine (without j qs) xs ∷ [])
      (var 0 ⊕ (var 1 ⊕ var 2)) (var 1 ⊕ (var 0 ⊕ var 2)) refl

  pub length-difference : (n : ℕ) (xs ys : List carrier) → length xs ≡ n → length ys ≡ n → length (difference xs ys) ≡ n
  length-difference n [] [] e f = e
  length-difference n (x ∷ xs) [] e f = absurd (omega arith)
  length-difference n [] (y ∷ ys) e f = absurd (omega arith)
  length-difference zero (x ∷ xs) (y ∷ ys) e f = absurd (omega arith)
  length-difference (suc n) (x ∷ xs) (y ∷ ys) e f = ap suc (length-difference n xs ys (omega arith) (omega arith))

  pub difference-none : (n : ℕ) (xs ys : List carrier) → length xs ≡ n → length ys ≡ n → AreNone (difference xs ys) → xs ≡ ys
  difference-none n [] [] e f h = refl
  difference-none n (x ∷ xs) [] e f h = absurd (omega arith)
  difference-none n [] (y ∷ ys) e f h = absurd (omega arith)
  difference-none zero (x ∷ xs) (y ∷ ys) e f h = absurd (omega arith)
  difference-none (suc n) (x ∷ xs) (y ∷ ys) e f h =
      ap₂ ◌∷◌ (identity A.ring (x ∷ y ∷ []) (var 0) ((var 0 ⊕ opposite (var 1)) ⊕ var 1) refl ∙ ap (λ z. z ⊞ y) h.0 ∙ zero_add A.ring.semiring y)
      (difference-none n xs ys (omega arith) (omega arith) h.1)
