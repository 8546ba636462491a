use Rattle.frac128.specs.Rational.{ratio_self, ratio-same}
use Rattle.frac128.specs.RationalLaws.{add-ratio, mul-ratio, +ℚ_assoc, +ℚ_comm, zero-+ℚ, +ℚ-neg, *ℚ_assoc, *ℚ_comm, one-*ℚ, *ℚ-+ℚ, product-zero, *ℚ-reciprocal, /ℚ-*ℚ_cancel, *ℚ-/ℚ_cancel, reciprocal-*ℚ, cross_of_same}
use Rattle.frac128.specs.RationalOrder.{cmp_ℚ_total, ≤ℚ_refl, ≤ℚ_antisymm, ≤ℚ_trans, <ℚ-≤ℚ, <ℚ-≢, ≤ℚ-<ℚ, ≤ℚ-ratio, +ℚ-≤ℚ, +ℚ-≤ℚ-both, neg_ℚ-≤ℚ, *ℚ-≤ℚ, *ℚ-<ℚ, reciprocal-positive, whole-≤ℚ}
use Rattle.frac128.specs.Absolute.{abs_ℚ_up, abs_ℚ-neg, abs_ℚ-*ℚ, abs_ℚ-+ℚ, abs_ℚ-≥, abs_ℚ-zero, ≤ℚ-abs}
use Rattle.frac128.specs.Whole.{whole-+ℤ, whole-*ℤ, whole-neg}
use Rattle.frac128.proofs.laws.rational_numbers_are_an_ordered_field.Goals as goal

pub returns : goal.returns
returns c = record {
  ratios = record {
    own = ratio_self;
    same = λ n m d e p q. (cross_of_same n m d e p q, ratio-same n m d e p q);
    sum = add-ratio;
    product = mul-ratio;
    order = ≤ℚ-ratio;
  };
  field = record {
    sum_assoc = +ℚ_assoc;
    sum_comm = +ℚ_comm;
    sum_zero = zero-+ℚ;
    sum_negation = +ℚ-neg;
    product_assoc = *ℚ_assoc;
    product_comm = *ℚ_comm;
    product_one = one-*ℚ;
    product_sum = *ℚ-+ℚ;
    product_zero = product-zero;
    product_reciprocal = *ℚ-reciprocal;
    quotient_product = /ℚ-*ℚ_cancel;
    product_quotient = *ℚ-/ℚ_cancel;
    reciprocal_product = reciprocal-*ℚ;
  };
  order = record {
    total = cmp_ℚ_total;
    reflexive = ≤ℚ_refl;
    antisymmetric = ≤ℚ_antisymm;
    transitive = ≤ℚ_trans;
    strict = λ x y. (λ h. (<ℚ-≤ℚ x y h, <ℚ-≢ x y h), λ h. ≤ℚ-<ℚ x y h.0 h.1);
    sum = +ℚ-≤ℚ;
    sums = +ℚ-≤ℚ-both;
    negation = neg_ℚ-≤ℚ;
    product = *ℚ-≤ℚ;
    product_strict = *ℚ-<ℚ;
    reciprocal = reciprocal-positive;
  };
  size = record {
    positive = abs_ℚ_up;
    negation = abs_ℚ-neg;
    product = abs_ℚ-*ℚ;
    sum = abs_ℚ-+ℚ;
    not_negative = abs_ℚ-≥;
    zero = abs_ℚ-zero;
    above = ≤ℚ-abs;
  };
  whole = record {
    sum = whole-+ℤ;
    product = whole-*ℤ;
    negation = whole-neg;
    order = whole-≤ℚ;
  };
}
