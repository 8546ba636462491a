-- Identities of commutative rings, by computation: both sides are written as terms over a list of values, and the check
-- expands their difference and cancels it. `identity C values s t refl` proves `value C values s ≡ value C values t`.
--
-- `var i` is the value at place i of the list, counted from 0, `nought` and `single` are the ring's 0 and 1. The terms must
-- have the shape of the two sides, as they are bracketed there. There are no numerals: 2 x is written `var 0 ⊕ var 0`.
-- Where an identity is wrong, the refusal shows the products in which the two sides differ.
use Rattle.std.proofs.Common.{◌≡◌, ℕ, zero, suc, refl, sym, ◌∙◌, ap, Bool, true, false, cond, List, [], ◌∷◌, ◌++◌}
use Rattle.std.specs.Prelude.{nat_eq, nat_le}
use Rattle.std.proofs.lemmas.Bool.{eqb-true}
use Rattle.exact_algebra.specs.Ring.{CommutativeRing, zero_add, one_mul}

infixl 6 ◌⊕◌
infixl 7 ◌⊗◌
-- a term over numbered values
pub data Term : Type 0 where
  var : ℕ → Term
  nought : Term
  single : Term
  ◌⊕◌ : Term → Term → Term
  ◌⊗◌ : Term → Term → Term
  opposite : Term → Term

-- a product of values by their numbers in order, and whether it is added
abbrev Signed : Type 0
Signed = Bool × List ℕ

-- a product of one more value
abbrev insert : ℕ → List ℕ → List ℕ
insert i [] = i ∷ []
insert i (j ∷ m) = cond (nat_le i j) (i ∷ j ∷ m) (j ∷ insert i m)

-- the product of two products
abbrev merge : List ℕ → List ℕ → List ℕ
merge [] n = n
merge (i ∷ m) n = insert i (merge m n)

-- the sign of a product by the signs of its two parts
abbrev same_sign : Bool → Bool → Bool
same_sign true s = s
same_sign false true = false
same_sign false false = true

-- the sign of the opposite
abbrev other_sign : Bool → Bool
other_sign true = false
other_sign false = true

-- a sum of products, times one product
abbrev scale : Signed → List Signed → List Signed
scale s [] = []
scale s (t ∷ p) = (same_sign s.0 t.0, merge s.1 t.1) ∷ scale s p

-- the product of two sums
abbrev product : List Signed → List Signed → List Signed
product [] q = []
product (s ∷ p) q = scale s q ++ product p q

-- the sum with each sign turned
abbrev negated : List Signed → List Signed
negated [] = []
negated (s ∷ p) = (other_sign s.0, s.1) ∷ negated p

-- a term, as a sum of products
abbrev expand : Term → List Signed
expand (var i) = (true, i ∷ []) ∷ []
expand nought = []
expand single = (true, []) ∷ []
expand (s ⊕ t) = expand s ++ expand t
expand (s ⊗ t) = product (expand s) (expand t)
expand (opposite s) = negated (expand s)

-- whether two products are one
abbrev same_numbers : List ℕ → List ℕ → Bool
same_numbers [] [] = true
same_numbers [] (j ∷ n) = false
same_numbers (i ∷ m) [] = false
same_numbers (i ∷ m) (j ∷ n) = cond (nat_eq i j) (same_numbers m n) false

-- whether two products add up to 0
abbrev cancels : Signed → Signed → Bool
cancels s t = cond (same_sign s.0 t.0) false (same_numbers s.1 t.1)

-- adds one product, or cancels it with its opposite
abbrev put : Signed → List Signed → List Signed
put s [] = s ∷ []
put s (t ∷ p) = cond (cancels s t) p (t ∷ put s p)

-- what is left of a sum once its products have cancelled
abbrev settle : List Signed → List Signed
settle [] = []
settle (s ∷ p) = put s (settle p)

-- ---- what the tests say
both : (b c : Bool) → cond b c false ≡ true → (b ≡ true) × (c ≡ true)
both true c e = (refl, e)
both false c e = absurd (cc e)

same_numbers-true : (m n : List ℕ) → same_numbers m n ≡ true → m ≡ n
same_numbers-true [] [] e = refl
same_numbers-true [] (j ∷ n) e = absurd (cc e)
same_numbers-true (i ∷ m) [] e = absurd (cc e)
same_numbers-true (i ∷ m) (j ∷ n) e =
    let parts = both (nat_eq i j) (same_numbers m n) e in
    let heads : i ≡ j = eqb-true i j parts.0 in
    let tails : m ≡ n = same_numbers-true m n parts.1 in
    cc

module _ (C : CommutativeRing) where
  -- the value at a place: 0 past the end
  abbrev pub at : List C.semiring.carrier → ℕ → C.semiring.carrier
  at [] i = C.semiring.zero
  at (x ∷ xs) zero = x
  at (x ∷ xs) (suc i) = at xs i

  -- what a term stands for
  abbrev pub value : List C.semiring.carrier → Term → C.semiring.carrier
  value xs (var i) = at xs i
  value xs nought = C.semiring.zero
  value xs single = C.semiring.one
  value xs (s ⊕ t) = C.semiring.add (value xs s) (value xs t)
  value xs (s ⊗ t) = C.semiring.mul (value xs s) (value xs t)
  value xs (opposite s) = C.neg (value xs s)

  -- ---- consequences of the laws
  plus-none : (a : C.semiring.carrier) → C.semiring.add a C.semiring.zero ≡ a
  plus-none a = C.semiring.add_comm a C.semiring.zero ∙ zero_add C.semiring a

  plus_left_comm : (a b c : C.semiring.carrier) → C.semiring.add a (C.semiring.add b c) ≡ C.semiring.add b (C.semiring.add a c)
  plus_left_comm a b c = sym (C.semiring.add_assoc a b c) ∙ ap (λ x. C.semiring.add x c) (C.semiring.add_comm a b) ∙ C.semiring.add_assoc b a c

  times_left_comm : (a b c : C.semiring.carrier) → C.semiring.mul a (C.semiring.mul b c) ≡ C.semiring.mul b (C.semiring.mul a c)
  times_left_comm a b c = sym (C.semiring.mul_assoc a b c) ∙ ap (λ x. C.semiring.mul x c) (C.semiring.mul_comm a b) ∙ C.semiring.mul_assoc b a c

  plus-times : (a b c : C.semiring.carrier) → C.semiring.mul (C.semiring.add a b) c ≡ C.semiring.add (C.semiring.mul a c) (C.semiring.mul b c)
  plus-times a b c = C.semiring.mul_comm (C.semiring.add a b) c ∙ C.semiring.mul_add c a b ∙ ap (λ x. C.semiring.add x (C.semiring.mul c b)) (C.semiring.mul_comm c a) ∙ ap (C.semiring.add (C.semiring.mul a c)) (C.semiring.mul_comm c b)

  -- what is added to a and gives none is its opposite
  opposite_unique : (a b : C.semiring.carrier) → C.semiring.add a b ≡ C.semiring.zero → b ≡ C.neg a
  opposite_unique a b e =
      sym (zero_add C.semiring b) ∙ ap (λ x. C.semiring.add x b) (sym (C.add_neg a)) ∙ C.semiring.add_assoc a (C.neg a) b
      ∙ plus_left_comm a (C.neg a) b ∙ ap (C.semiring.add (C.neg a)) e ∙ plus-none (C.neg a)

  times-none : (a : C.semiring.carrier) → C.semiring.mul a C.semiring.zero ≡ C.semiring.zero
  times-none a =
      let twice : C.semiring.add (C.semiring.mul a C.semiring.zero) (C.semiring.mul a C.semiring.zero) ≡ C.semiring.mul a C.semiring.zero = sym (C.semiring.mul_add a C.semiring.zero C.semiring.zero) ∙ ap (C.semiring.mul a) (zero_add C.semiring C.semiring.zero) in
      sym (zero_add C.semiring (C.semiring.mul a C.semiring.zero)) ∙ C.semiring.add_comm C.semiring.zero (C.semiring.mul a C.semiring.zero) ∙ ap (C.semiring.add (C.semiring.mul a C.semiring.zero)) (sym (C.add_neg (C.semiring.mul a C.semiring.zero)))
      ∙ sym (C.semiring.add_assoc (C.semiring.mul a C.semiring.zero) (C.semiring.mul a C.semiring.zero) (C.neg (C.semiring.mul a C.semiring.zero)))
      ∙ ap (λ x. C.semiring.add x (C.neg (C.semiring.mul a C.semiring.zero))) twice ∙ C.add_neg (C.semiring.mul a C.semiring.zero)

  none-times : (a : C.semiring.carrier) → C.semiring.mul C.semiring.zero a ≡ C.semiring.zero
  none-times a = C.semiring.mul_comm C.semiring.zero a ∙ times-none a

  minus-none : C.neg C.semiring.zero ≡ C.semiring.zero
  minus-none = sym (opposite_unique C.semiring.zero C.semiring.zero (zero_add C.semiring C.semiring.zero))

  minus_minus : (a : C.semiring.carrier) → C.neg (C.neg a) ≡ a
  minus_minus a = sym (opposite_unique (C.neg a) a (C.semiring.add_comm (C.neg a) a ∙ C.add_neg a))

  plus_plus : (a b c d : C.semiring.carrier) → C.semiring.add (C.semiring.add a b) (C.semiring.add c d) ≡ C.semiring.add (C.semiring.add a c) (C.semiring.add b d)
  plus_plus a b c d = C.semiring.add_assoc a b (C.semiring.add c d) ∙ ap (C.semiring.add a) (plus_left_comm b c d) ∙ sym (C.semiring.add_assoc a c (C.semiring.add b d))

  minus-plus : (a b : C.semiring.carrier) → C.neg (C.semiring.add a b) ≡ C.semiring.add (C.neg a) (C.neg b)
  minus-plus a b = sym (opposite_unique (C.semiring.add a b) (C.semiring.add (C.neg a) (C.neg b))
      (plus_plus a b (C.neg a) (C.neg b) ∙ ap (λ x. C.semiring.add x (C.semiring.add b (C.neg b))) (C.add_neg a) ∙ zero_add C.semiring (C.semiring.add b (C.neg b)) ∙ C.add_neg b))

  times-minus : (a b : C.semiring.carrier) → C.semiring.mul a (C.neg b) ≡ C.neg (C.semiring.mul a b)
  times-minus a b = opposite_unique (C.semiring.mul a b) (C.semiring.mul a (C.neg b)) (sym (C.semiring.mul_add a b (C.neg b)) ∙ ap (C.semiring.mul a) (C.add_neg b) ∙ times-none a)

  minus-times : (a b : C.semiring.carrier) → C.semiring.mul (C.neg a) b ≡ C.neg (C.semiring.mul a b)
  minus-times a b = C.semiring.mul_comm (C.neg a) b ∙ times-minus b a ∙ ap C.neg (C.semiring.mul_comm b a)

  -- ---- what the lists stand for
  -- the value of a product
  abbrev of_product : List C.semiring.carrier → List ℕ → C.semiring.carrier
  of_product xs [] = C.semiring.one
  of_product xs (i ∷ m) = C.semiring.mul (at xs i) (of_product xs m)

  -- a value or its opposite
  abbrev with_sign : Bool → C.semiring.carrier → C.semiring.carrier
  with_sign true a = a
  with_sign false a = C.neg a

  -- the value of a sum of products
  abbrev of_sum : List C.semiring.carrier → List Signed → C.semiring.carrier
  of_sum xs [] = C.semiring.zero
  of_sum xs (s ∷ p) = C.semiring.add (with_sign s.0 (of_product xs s.1)) (of_sum xs p)

  insert_cases : (xs : List C.semiring.carrier) (b : Bool) (i j : ℕ) (m n : List ℕ) → of_product xs n ≡ C.semiring.mul (at xs i) (of_product xs m) → of_product xs (cond b (i ∷ j ∷ m) (j ∷ n)) ≡ C.semiring.mul (at xs i) (C.semiring.mul (at xs j) (of_product xs m))
  insert_cases xs true i j m n e = refl
  insert_cases xs false i j m n e = ap (C.semiring.mul (at xs j)) e ∙ times_left_comm (at xs j) (at xs i) (of_product xs m)

  of-insert : (xs : List C.semiring.carrier) (i : ℕ) (m : List ℕ) → of_product xs (insert i m) ≡ C.semiring.mul (at xs i) (of_product xs m)
  of-insert xs i [] = refl
  of-insert xs i (j ∷ m) = insert_cases xs (nat_le i j) i j m (insert i m) (of-insert xs i m)

  of-merge : (xs : List C.semiring.carrier) (m n : List ℕ) → of_product xs (merge m n) ≡ C.semiring.mul (of_product xs m) (of_product xs n)
  of-merge xs [] n = sym (one_mul C.semiring (of_product xs n))
  of-merge xs (i ∷ m) n = of-insert xs i (merge m n) ∙ ap (C.semiring.mul (at xs i)) (of-merge xs m n) ∙ sym (C.semiring.mul_assoc (at xs i) (of_product xs m) (of_product xs n))

  signs : (s t : Bool) (a b : C.semiring.carrier) → with_sign (same_sign s t) (C.semiring.mul a b) ≡ C.semiring.mul (with_sign s a) (with_sign t b)
  signs true true a b = refl
  signs true false a b = sym (times-minus a b)
  signs false true a b = sym (minus-times a b)
  signs false false a b = sym (minus-times a (C.neg b) ∙ ap C.neg (times-minus a b) ∙ minus_minus (C.semiring.mul a b))

  of-other : (s : Bool) (a : C.semiring.carrier) → with_sign (other_sign s) a ≡ C.neg (with_sign s a)
  of-other true a = refl
  of-other false a = sym (minus_minus a)

  of-scale : (xs : List C.semiring.carrier) (s : Signed) (p : List Signed) → of_sum xs (scale s p) ≡ C.semiring.mul (with_sign s.0 (of_product xs s.1)) (of_sum xs p)
  of-scale xs s [] = sym (times-none (with_sign s.0 (of_product xs s.1)))
  of-scale xs s (t ∷ p) =
      ap (λ x. C.semiring.add (with_sign (same_sign s.0 t.0) x) (of_sum xs (scale s p))) (of-merge xs s.1 t.1)
      ∙ ap (λ x. C.semiring.add x (of_sum xs (scale s p))) (signs s.0 t.0 (of_product xs s.1) (of_product xs t.1))
      ∙ ap (C.semiring.add (C.semiring.mul (with_sign s.0 (of_product xs s.1)) (with_sign t.0 (of_product xs t.1)))) (of-scale xs s p)
      ∙ sym (C.semiring.mul_add (with_sign s.0 (of_product xs s.1)) (with_sign t.0 (of_product xs t.1)) (of_sum xs p))

  of-append : (xs : List C.semiring.carrier) (p q : List Signed) → of_sum xs (p ++ q) ≡ C.semiring.add (of_sum xs p) (of_sum xs q)
  of-append xs [] q = sym (zero_add C.semiring (of_sum xs q))
  of-append xs (s ∷ p) q = ap (C.semiring.add (with_sign s.0 (of_product xs s.1))) (of-append xs p q) ∙ sym (C.semiring.add_assoc (with_sign s.0 (of_product xs s.1)) (of_sum xs p) (of_sum xs q))

  of-product : (xs : List C.semiring.carrier) (p q : List Signed) → of_sum xs (product p q) ≡ C.semiring.mul (of_sum xs p) (of_sum xs q)
  of-product xs [] q = sym (none-times (of_sum xs q))
  of-product xs (s ∷ p) q =
      of-append xs (scale s q) (product p q) ∙ ap (λ x. C.semiring.add x (of_sum xs (product p q))) (of-scale xs s q)
      ∙ ap (C.semiring.add (C.semiring.mul (with_sign s.0 (of_product xs s.1)) (of_sum xs q))) (of-product xs p q)
      ∙ sym (plus-times (with_sign s.0 (of_product xs s.1)) (of_sum xs p) (of_sum xs q))

  of-negated : (xs : List C.semiring.carrier) (p : List Signed) → of_sum xs (negated p) ≡ C.neg (of_sum xs p)
  of-negated xs [] = sym minus-none
  of-negated xs (s ∷ p) =
      ap (λ x. C.semiring.add x (of_sum xs (negated p))) (of-other s.0 (of_product xs s.1)) ∙ ap (C.semiring.add (C.neg (with_sign s.0 (of_product xs s.1)))) (of-negated xs p)
      ∙ sym (minus-plus (with_sign s.0 (of_product xs s.1)) (of_sum xs p))

  of-expand : (xs : List C.semiring.carrier) (t : Term) → of_sum xs (expand t) ≡ value xs t
  of-expand xs (var i) = plus-none (C.semiring.mul (at xs i) C.semiring.one) ∙ C.semiring.mul_comm (at xs i) C.semiring.one ∙ one_mul C.semiring (at xs i)
  of-expand xs nought = refl
  of-expand xs single = plus-none C.semiring.one
  of-expand xs (s ⊕ t) = of-append xs (expand s) (expand t) ∙ ap (λ x. C.semiring.add x (of_sum xs (expand t))) (of-expand xs s) ∙ ap (C.semiring.add (value xs s)) (of-expand xs t)
  of-expand xs (s ⊗ t) = of-product xs (expand s) (expand t) ∙ ap (λ x. C.semiring.mul x (of_sum xs (expand t))) (of-expand xs s) ∙ ap (C.semiring.mul (value xs s)) (of-expand xs t)
  of-expand xs (opposite s) = of-negated xs (expand s) ∙ ap C.neg (of-expand xs s)

  -- two products that cancel add up to none
  cancel_signs : (s t : Bool) (a b : C.semiring.carrier) (c : Bool) → cond (same_sign s t) false c ≡ true → (c ≡ true → a ≡ b) → C.semiring.add (with_sign s a) (with_sign t b) ≡ C.semiring.zero
  cancel_signs true true a b c e h = absurd (cc e)
  cancel_signs true false a b c e h = ap (λ x. C.semiring.add x (C.neg b)) (h e) ∙ C.add_neg b
  cancel_signs false true a b c e h = ap (λ x. C.semiring.add (C.neg x) b) (h e) ∙ C.semiring.add_comm (C.neg b) b ∙ C.add_neg b
  cancel_signs false false a b c e h = absurd (cc e)

  put_cases : (xs : List C.semiring.carrier) (b : Bool) (s t : Signed) (p q : List Signed) → cancels s t ≡ b → of_sum xs q ≡ C.semiring.add (with_sign s.0 (of_product xs s.1)) (of_sum xs p) → of_sum xs (cond b p (t ∷ q)) ≡ C.semiring.add (with_sign s.0 (of_product xs s.1)) (C.semiring.add (with_sign t.0 (of_product xs t.1)) (of_sum xs p))
  put_cases xs true s t p q e h =
      let none = cancel_signs s.0 t.0 (of_product xs s.1) (of_product xs t.1) (same_numbers s.1 t.1) e (λ k. ap (of_product xs) (same_numbers-true s.1 t.1 k)) in
      sym (zero_add C.semiring (of_sum xs p)) ∙ ap (λ x. C.semiring.add x (of_sum xs p)) (sym none) ∙ C.semiring.add_assoc (with_sign s.0 (of_product xs s.1)) (with_sign t.0 (of_product xs t.1)) (of_sum xs p)
  put_cases xs false s t p q e h =
      ap (C.semiring.add (with_sign t.0 (of_product xs t.1))) h ∙ plus_left_comm (with_sign t.0 (of_product xs t.1)) (with_sign s.0 (of_product xs s.1)) (of_sum xs p)

  of-put : (xs : List C.semiring.carrier) (s : Signed) (p : List Signed) → of_sum xs (put s p) ≡ C.semiring.add (with_sign s.0 (of_product xs s.1)) (of_sum xs p)
  of-put xs s [] = refl
  of-put xs s (t ∷ p) = put_cases xs (cancels s t) s t p (put s p) refl (of-put xs s p)

  of-settle : (xs : List C.semiring.carrier) (p : List Signed) → of_sum xs (settle p) ≡ of_sum xs p
  of-settle xs [] = refl
  of-settle xs (s ∷ p) = of-put xs s (settle p) ∙ ap (C.semiring.add (with_sign s.0 (of_product xs s.1))) (of-settle xs p)

  -- the identity holds where the difference of both sides cancels
  pub identity : (xs : List C.semiring.carrier) (s t : Term) → settle (expand (s ⊕ opposite t)) ≡ [] → value xs s ≡ value xs t
  identity xs s t e =
      let none : C.semiring.add (value xs s) (C.neg (value xs t)) ≡ C.semiring.zero = sym (of-expand xs (s ⊕ opposite t)) ∙ sym (of-settle xs (expand (s ⊕ opposite t))) ∙ ap (of_sum xs) e in
      sym (plus-none (value xs s)) ∙ ap (C.semiring.add (value xs s)) (sym (C.add_neg (value xs t)) ∙ C.semiring.add_comm (value xs t) (C.neg (value xs t)))
      ∙ sym (C.semiring.add_assoc (value xs s) (C.neg (value xs t)) (value xs t)) ∙ ap (λ x. C.semiring.add x (value xs t)) none ∙ zero_add C.semiring (value xs t)
