-- Commutative monoids, commutative semirings with cancellation (the natural numbers, the fractions, the polynomials) and
-- commutative rings, the laws that follow, and the maps that respect them.
--
-- This is the one hierarchy: a `CommutativeRing` is a `Semiring` with negation, and a `Semiring` has two monoids, `additive`
-- and `multiplicative`. Finite sums are over a monoid or a semiring, the two solvers work in a ring, and a new ring is made
-- by `ring_of` from the laws that one proves of it, `RingLaws`.
use Rattle.std.specs.Prelude.{◌≡◌, Bool, true}
use Rattle.std.proofs.Common.{sym, ap, ◌∙◌}

-- a set with a product of two that has a unit and doesn't see the order
pub record CommutativeMonoid : Type 1 where
  pub carrier : Type 0
  pub unit : carrier
  pub times : carrier → carrier → carrier
  pub times_assoc : (a b c : carrier) → times (times a b) c ≡ times a (times b c)
  pub times_comm : (a b : carrier) → times a b ≡ times b a
  pub times_unit : (a : carrier) → times a unit ≡ a

-- a map that respects unit and product
pub record IsMonoidMap (M N : CommutativeMonoid) (h : M.carrier → N.carrier) : Type 0 where
  pub at_unit : h M.unit ≡ N.unit
  pub at_times : (a b : M.carrier) → h (M.times a b) ≡ N.times (h a) (h b)

module _ (M : CommutativeMonoid) where
  open M use {carrier, unit, times as ◌⊙◌}

  infixl 6 ◌⊙◌
  pub unit_times : (a : carrier) → unit ⊙ a ≡ a
  unit_times a = M.times_comm unit a ∙ M.times_unit a

  pub times_left_comm : (a b c : carrier) → a ⊙ (b ⊙ c) ≡ b ⊙ (a ⊙ c)
  times_left_comm a b c = sym (M.times_assoc a b c) ∙ ap (λ x. x ⊙ c) (M.times_comm a b) ∙ M.times_assoc b a c

  pub times_times_comm : (a b c d : carrier) → (a ⊙ b) ⊙ (c ⊙ d) ≡ (a ⊙ c) ⊙ (b ⊙ d)
  times_times_comm a b c d = simp (M.times_assoc, times_left_comm)

-- an involution that respects products leaves the unit alone
pub involution_map : (M : CommutativeMonoid) (h : M.carrier → M.carrier) → ((a : M.carrier) → h (h a) ≡ a) → ((a b : M.carrier) → h (M.times a b) ≡ M.times (h a) (h b)) → IsMonoidMap M M h
involution_map M h back respects =
    record { at_unit = sym (M.times_unit (h M.unit)) ∙ ap (M.times (h M.unit)) (sym (back M.unit)) ∙ sym (respects M.unit (h M.unit)) ∙ ap h (unit_times M (h M.unit)) ∙ back M.unit; at_times = respects }

-- a commutative semiring in which a + b = a + c only where b = c
pub record Semiring : Type 1 where
  pub carrier : Type 0
  pub zero : carrier
  pub one : carrier
  pub add : carrier → carrier → carrier
  pub mul : carrier → carrier → carrier
  pub add_assoc : (a b c : carrier) → add (add a b) c ≡ add a (add b c)
  pub add_comm : (a b : carrier) → add a b ≡ add b a
  pub add_zero : (a : carrier) → add a zero ≡ a
  pub add_cancel : (a b c : carrier) → add a b ≡ add a c → b ≡ c
  pub mul_assoc : (a b c : carrier) → mul (mul a b) c ≡ mul a (mul b c)
  pub mul_comm : (a b : carrier) → mul a b ≡ mul b a
  pub mul_one : (a : carrier) → mul a one ≡ a
  pub mul_zero : (a : carrier) → mul a zero ≡ zero
  pub mul_add : (a b c : carrier) → mul a (add b c) ≡ add (mul a b) (mul a c)

-- a test that finds 0, and finds nothing else
pub record ZeroTest (R : Semiring) : Type 0 where
  pub is_zero : R.carrier → Bool
  pub yes : (a : R.carrier) → is_zero a ≡ true → a ≡ R.zero
  pub at_zero : is_zero R.zero ≡ true

-- a commutative ring: a semiring with negation
pub record CommutativeRing : Type 1 where
  pub semiring : Semiring
  pub neg : semiring.carrier → semiring.carrier
  pub add_neg : (a : semiring.carrier) → semiring.add a (neg a) ≡ semiring.zero

-- the numbers of a semiring under addition
abbrev pub additive : Semiring → CommutativeMonoid
additive R = record {
  carrier = R.carrier;
  unit = R.zero;
  times = R.add;
  times_assoc = R.add_assoc;
  times_comm = R.add_comm;
  times_unit = R.add_zero;
}

-- the numbers of a semiring under multiplication
abbrev pub multiplicative : Semiring → CommutativeMonoid
multiplicative R = record {
  carrier = R.carrier;
  unit = R.one;
  times = R.mul;
  times_assoc = R.mul_assoc;
  times_comm = R.mul_comm;
  times_unit = R.mul_one;
}

-- a map that respects 0, 1, sums and products
pub record IsSemiringMap (R S : Semiring) (h : R.carrier → S.carrier) : Type 0 where
  pub at_zero : h R.zero ≡ S.zero
  pub at_one : h R.one ≡ S.one
  pub at_add : (a b : R.carrier) → h (R.add a b) ≡ S.add (h a) (h b)
  pub at_mul : (a b : R.carrier) → h (R.mul a b) ≡ S.mul (h a) (h b)

-- it is a map of the monoids under addition
pub map_additive : (R S : Semiring) (h : R.carrier → S.carrier) → IsSemiringMap R S h → IsMonoidMap (additive R) (additive S) h
map_additive R S h m = record { at_unit = m.at_zero; at_times = m.at_add }

-- and of those under multiplication
pub map_multiplicative : (R S : Semiring) (h : R.carrier → S.carrier) → IsSemiringMap R S h → IsMonoidMap (multiplicative R) (multiplicative S) h
map_multiplicative R S h m = record { at_unit = m.at_one; at_times = m.at_mul }

-- between rings it respects negation too
pub map_neg : (A B : CommutativeRing) (h : A.semiring.carrier → B.semiring.carrier) → IsSemiringMap A.semiring B.semiring h → (a : A.semiring.carrier) → h (A.neg a) ≡ B.neg (h a)
map_neg A B h m a =
    B.semiring.add_cancel (h a) (h (A.neg a)) (B.neg (h a))
    (sym (m.at_add a (A.neg a)) ∙ ap h (A.add_neg a) ∙ m.at_zero ∙ sym (B.add_neg (h a)))

module _ (R : Semiring) where
  open R use {carrier, zero, one, add as ◌⊕◌, mul as ◌⊗◌}

  infixl 6 ◌⊕◌
  infixl 7 ◌⊗◌
  pub zero_add : (a : carrier) → zero ⊕ a ≡ a
  zero_add = unit_times (additive R)

  pub add_left_comm : (a b c : carrier) → a ⊕ (b ⊕ c) ≡ b ⊕ (a ⊕ c)
  add_left_comm = times_left_comm (additive R)

  pub add_add_comm : (a b c d : carrier) → (a ⊕ b) ⊕ (c ⊕ d) ≡ (a ⊕ c) ⊕ (b ⊕ d)
  add_add_comm = times_times_comm (additive R)

  pub mul_left_comm : (a b c : carrier) → a ⊗ (b ⊗ c) ≡ b ⊗ (a ⊗ c)
  mul_left_comm = times_left_comm (multiplicative R)

  pub one_mul : (a : carrier) → one ⊗ a ≡ a
  one_mul = unit_times (multiplicative R)

  pub add_mul : (a b c : carrier) → (a ⊕ b) ⊗ c ≡ (a ⊗ c) ⊕ (b ⊗ c)
  add_mul a b c = simp (R.mul_comm, R.mul_add)

  pub zero_mul : (a : carrier) → zero ⊗ a ≡ zero
  zero_mul a = R.mul_comm zero a ∙ R.mul_zero a

-- numbers of a semiring as factors of a commutative monoid written as a sum: (c + d) m = c m + d m and 0 m = 0
pub record Action (R : Semiring) (M : CommutativeMonoid) : Type 0 where
  pub act : R.carrier → M.carrier → M.carrier
  pub act_add : (c d : R.carrier) (m : M.carrier) → act (R.add c d) m ≡ M.times (act c m) (act d m)
  pub act_zero : (m : M.carrier) → act R.zero m ≡ M.unit

-- the numbers of R as factors of the numbers of S, by a map of semirings
abbrev pub along : (R S : Semiring) (h : R.carrier → S.carrier) → IsSemiringMap R S h → Action R (additive S)
along R S h m = record {
  act = λ c s. S.mul (h c) s;
  act_add = λ c d s. ap (λ k. S.mul k s) (m.at_add c d) ∙ add_mul S (h c) (h d) s;
  act_zero = λ s. ap (λ k. S.mul k s) m.at_zero ∙ zero_mul S s;
}

-- the numbers of a semiring as factors of themselves
abbrev pub regular : (R : Semiring) → Action R (additive R)
regular R = record { act = R.mul; act_add = add_mul R; act_zero = zero_mul R }

-- the laws of a commutative ring as one proves them: cancellation and a * 0 = 0 follow
pub record RingLaws : Type 1 where
  pub carrier : Type 0
  pub zero : carrier
  pub one : carrier
  pub add : carrier → carrier → carrier
  pub mul : carrier → carrier → carrier
  pub neg : carrier → carrier
  pub add_assoc : (a b c : carrier) → add (add a b) c ≡ add a (add b c)
  pub add_comm : (a b : carrier) → add a b ≡ add b a
  pub zero_add : (a : carrier) → add zero a ≡ a
  pub add_neg : (a : carrier) → add a (neg a) ≡ zero
  pub mul_assoc : (a b c : carrier) → mul (mul a b) c ≡ mul a (mul b c)
  pub mul_comm : (a b : carrier) → mul a b ≡ mul b a
  pub one_mul : (a : carrier) → mul one a ≡ a
  pub mul_add : (a b c : carrier) → mul a (add b c) ≡ add (mul a b) (mul a c)

module _ (L : RingLaws) where
  pub laws-add_zero : (a : L.carrier) → L.add a L.zero ≡ a
  laws-add_zero a = L.add_comm a L.zero ∙ L.zero_add a

  pub laws-mul_one : (a : L.carrier) → L.mul a L.one ≡ a
  laws-mul_one a = L.mul_comm a L.one ∙ L.one_mul a

  neg_add : (a : L.carrier) → L.add (L.neg a) a ≡ L.zero
  neg_add a = L.add_comm (L.neg a) a ∙ L.add_neg a

  pub laws-add_cancel : (a b c : L.carrier) → L.add a b ≡ L.add a c → b ≡ c
  laws-add_cancel a b c e =
      sym (L.zero_add b) ∙ ap (λ x. L.add x b) (sym (neg_add a)) ∙ L.add_assoc (L.neg a) a b ∙ ap (L.add (L.neg a)) e
      ∙ sym (L.add_assoc (L.neg a) a c) ∙ ap (λ x. L.add x c) (neg_add a) ∙ L.zero_add c

  pub laws-mul_zero : (a : L.carrier) → L.mul a L.zero ≡ L.zero
  laws-mul_zero a =
      laws-add_cancel (L.mul a L.zero) (L.mul a L.zero) L.zero
      (sym (L.mul_add a L.zero L.zero) ∙ ap (L.mul a) (L.zero_add L.zero) ∙ sym (laws-add_zero (L.mul a L.zero)))

-- the semiring that a ring is without its negation
abbrev pub semiring_of : RingLaws → Semiring
semiring_of L = record {
  carrier = L.carrier;
  zero = L.zero;
  one = L.one;
  add = L.add;
  mul = L.mul;
  add_assoc = L.add_assoc;
  add_comm = L.add_comm;
  add_zero = laws-add_zero L;
  add_cancel = laws-add_cancel L;
  mul_assoc = L.mul_assoc;
  mul_comm = L.mul_comm;
  mul_one = laws-mul_one L;
  mul_zero = laws-mul_zero L;
  mul_add = L.mul_add;
}

-- the ring with these laws
abbrev pub ring_of : RingLaws → CommutativeRing
ring_of L = record { semiring = semiring_of L; neg = L.neg; add_neg = L.add_neg }
