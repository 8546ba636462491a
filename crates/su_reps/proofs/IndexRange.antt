-- The values of an index, from 1 to n, as the solver of sums over index values wants them.
use Rattle.std.proofs.Common.{ℕ, ◌≤◌, pos}
use Rattle.exact_algebra.specs.Contraction.{Range}
use Rattle.frac128.specs.Rational.{whole, reciprocal}
use Rattle.frac128.specs.RationalLaws.{ring_ℚ, *ℚ-reciprocal}
use Rattle.frac128.specs.Whole.{counted, whole_nonzero}

abbrev pub values_to : (n : ℕ) → 1 ≤ n → Range ring_ℚ
values_to n h = record {
  size = n;
  count = whole (pos n);
  share = reciprocal (whole (pos n));
  counted = counted n;
  shared = *ℚ-reciprocal (whole (pos n)) (whole_nonzero n h);
}
