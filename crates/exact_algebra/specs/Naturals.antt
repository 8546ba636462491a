-- The natural numbers as a semiring with a test for 0: the exponents of monomials.
use Rattle.std.specs.Prelude.{◌≡◌, ℕ, ◌+◌, ◌*◌, true, eqb}
use Rattle.std.proofs.Common.{refl, arith, eqb-true, mul_assoc, mul_comm, mul-one, mul-zero, mul-add, add_assoc, add_comm, add-zero}
use Rattle.exact_algebra.specs.Ring.{Semiring, ZeroTest}

pub nat_cancel : (a b c : ℕ) → a + b ≡ a + c → b ≡ c
nat_cancel a b c h = omega arith

-- the natural numbers
abbrev pub nat_semiring : Semiring
nat_semiring = record {
  carrier = ℕ;
  zero = 0;
  one = 1;
  add = ◌+◌;
  mul = ◌*◌;
  add_assoc = add_assoc;
  add_comm = add_comm;
  add_zero = add-zero;
  add_cancel = nat_cancel;
  mul_assoc = mul_assoc;
  mul_comm = mul_comm;
  mul_one = mul-one;
  mul_zero = mul-zero;
  mul_add = mul-add;
}

pub nat_is_zero : (a : ℕ) → eqb a 0 ≡ true → a ≡ 0
nat_is_zero a h = eqb-true a 0 h

-- the test for the natural number 0
abbrev pub nat_zero : ZeroTest nat_semiring
nat_zero = record { is_zero = λ a. eqb a 0; yes = nat_is_zero; at_zero = refl }
