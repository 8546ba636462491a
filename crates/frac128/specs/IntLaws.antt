-- Laws of whole numbers: the ring of them, in which `identity` calculates, and a positive factor on both sides.
use Rattle.std.proofs.Common.{◌≡◌, ℕ, ◌+◌, ◌*◌, ◌<◌, ap, arith, ℤ, pos, negsuc}
use Rattle.std.specs.Prelude.{◌+ℤ◌, ◌*ℤ◌, neg_ℤ, unsigned_abs}
use Rattle.std.proofs.lemmas.Int.{ints}
use borrow.Author.Differences.{up, down, same_in, sum_is_lem, product_is}
use native.Mathlib.Nat.{eq_of_mul-eq-mul_right}
use lib.IntN.{+ℤ_assoc, +ℤ_comm, +ℤ_idl, +ℤ_invr, *ℤ_comm}
use Rattle.exact_algebra.specs.Ring.{CommutativeRing, ring_of}

pub *ℤ-+ℤ : (a b c : ℤ) → a *ℤ (b +ℤ c) ≡ a *ℤ b +ℤ a *ℤ c
*ℤ-+ℤ a b c = omega (arith, ints, ap (λ n. up a * n) (sum_is_lem b c), ap (λ n. down a * n) (sum_is_lem b c))

pub *ℤ_assoc : (a b c : ℤ) → a *ℤ b *ℤ c ≡ a *ℤ (b *ℤ c)
*ℤ_assoc a b c = omega (arith, ints, ap (λ n. n * up c) (product_is a b).0, ap (λ n. n * down c) (product_is a b).0, ap (λ n. n * up c) (product_is a b).1, ap (λ n. n * down c) (product_is a b).1, ap (λ n. up a * n) (product_is b c).0, ap (λ n. down a * n) (product_is b c).0, ap (λ n. up a * n) (product_is b c).1, ap (λ n. down a * n) (product_is b c).1)

pub one-*ℤ : (a : ℤ) → pos 1 *ℤ a ≡ a
one-*ℤ a = omega (arith, ints)

-- identities of whole numbers, by computation
abbrev pub ring_ℤ : CommutativeRing
ring_ℤ = ring_of (record {
  carrier = ℤ;
  add = ◌+ℤ◌;
  mul = ◌*ℤ◌;
  neg = neg_ℤ;
  zero = pos 0;
  one = pos 1;
  add_assoc = +ℤ_assoc;
  add_comm = +ℤ_comm;
  zero_add = +ℤ_idl;
  add_neg = +ℤ_invr;
  mul_assoc = *ℤ_assoc;
  mul_comm = *ℤ_comm;
  one_mul = one-*ℤ;
  mul_add = *ℤ-+ℤ;
})

-- the same positive factor on both sides
pub cancel_ℤ : (a b : ℤ) (d : ℕ) → 0 < d → a *ℤ pos d ≡ b *ℤ pos d → a ≡ b
cancel_ℤ a b d h e =
    let same : (up a + down b) * d ≡ (up b + down a) * d = omega (arith, ints) in
    same_in a b (eq_of_mul-eq-mul_right d h (up a + down b) (up b + down a) same)

-- a whole number of size 0 is 0
pub zero_or : (a : ℤ) → unsigned_abs a ≡ 0 → a ≡ pos 0
zero_or (pos n) e = ap pos e
zero_or (negsuc n) e = absurd (cc e)
