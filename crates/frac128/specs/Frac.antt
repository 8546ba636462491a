-- What a `Frac` stands for, and where its operations fit.
use Rattle.std.specs.Prelude.{◌≡◌, ℕ, ◌*◌, ◌/◌, ◌^◌, ◌<◌, ◌≤◌, ℤ, pos, negsuc, ◌+ℤ◌, ◌*ℤ◌, ◌<ℤ◌, unsigned_abs, int_div, neg_ℤ, List, ◌++◌, ◌==◌, if◌then◌else◌, codes}
use Rattle.std.specs.Fmt.{decimal, signed_decimal}
use Rattle.frac128.specs.Gcd.{gcd}
use Rattle.frac128.specs.Rational.{ℚ, IsLowest, ratio}

-- the numbers of a `Frac`
pub record IsFrac (num den : ℤ) : Type 0 where
  pub positive : pos 0 <ℤ den
  pub lowest : IsLowest num (unsigned_abs den)
  pub num_small : unsigned_abs num < 2 ^ 127
  pub den_small : unsigned_abs den < 2 ^ 127

-- both numbers are at most 2^127 - 1 in size
pub record IsSmall (x : ℚ) : Type 0 where
  pub num : unsigned_abs x.num < 2 ^ 127
  pub den : x.den < 2 ^ 127

-- the greatest common divisor of the denominators
abbrev pub den_gcd : ℚ → ℚ → ℕ
den_gcd x y = gcd x.den y.den

-- the first numerator, raised to the least common denominator
abbrev pub raised : ℚ → ℚ → ℤ
raised x y = x.num *ℤ pos (y.den / den_gcd x y)

-- the second numerator, raised to the least common denominator
abbrev pub raised_other : ℚ → ℚ → ℤ
raised_other x y = y.num *ℤ pos (x.den / den_gcd x y)

-- the sum's numerator over the least common denominator
abbrev pub raised_sum : ℚ → ℚ → ℤ
raised_sum x y = raised x y +ℤ raised_other x y

-- the sum's denominator; 1 where the sum is 0
abbrev pub sum_den : ℚ → ℚ → ℕ
sum_den x y = (x.den / den_gcd x y) * (y.den / gcd (unsigned_abs (raised_sum x y)) (den_gcd x y))

-- each number that is formed on the way to the sum is at most 2^127 - 1 in size
pub record SumFits (x y : ℚ) : Type 0 where
  pub left : unsigned_abs (raised x y) < 2 ^ 127
  pub right : unsigned_abs (raised_other x y) < 2 ^ 127
  pub sum : unsigned_abs (raised_sum x y) < 2 ^ 127
  pub den : sum_den x y < 2 ^ 127

-- what the first numerator and the second denominator share
abbrev pub crossed : ℚ → ℚ → ℕ
crossed x y = gcd (unsigned_abs x.num) y.den

-- the product's numbers, where what is shared is divided out first
abbrev pub product_num : ℚ → ℚ → ℤ
product_num x y = int_div x.num (pos (crossed x y)) *ℤ int_div y.num (pos (crossed y x))

abbrev pub product_den : ℚ → ℚ → ℕ
product_den x y = (x.den / crossed y x) * (y.den / crossed x y)

-- the numbers that are formed on the way to the product are at most 2^127 - 1 in size
pub record ProductFits (x y : ℚ) : Type 0 where
  pub num : unsigned_abs (product_num x y) < 2 ^ 127
  pub den : product_den x y < 2 ^ 127

-- a multiple of 1 / unit that is at most 2^126 / unit in size
pub record IsOnGrid (unit : ℕ) (x : ℚ) : Type 0 where
  pub multiple : ℤ
  pub is : x ≡ ratio multiple unit
  pub small : unsigned_abs multiple ≤ 2 ^ 126

-- three numbers on the grid of the multiples of 1 / unit, for a unit of at most 2^126
pub record ShareGrid (unit : ℕ) (x y z : ℚ) : Type 0 where
  pub positive : 1 ≤ unit
  pub bound : unit ≤ 2 ^ 126
  pub first : IsOnGrid unit x
  pub second : IsOnGrid unit y
  pub third : IsOnGrid unit z

-- a size with the sign of a quotient
abbrev pub signed_as : ℤ → ℤ → ℕ → ℤ
signed_as (pos n) (pos d) size = pos size
signed_as (pos n) (negsuc d) size = neg_ℤ (pos size)
signed_as (negsuc n) (pos d) size = neg_ℤ (pos size)
signed_as (negsuc n) (negsuc d) size = pos size

-- both numbers of n / d in lowest terms are at most 2^127 - 1 in size
pub record QuotientFits (n d : ℤ) : Type 0 where
  pub num : unsigned_abs n / gcd (unsigned_abs n) (unsigned_abs d) < 2 ^ 127
  pub den : unsigned_abs d / gcd (unsigned_abs n) (unsigned_abs d) < 2 ^ 127

-- the text: a whole number as it is, and else both numbers with a slash between them
abbrev pub fraction_text : ℚ → List ℕ
fraction_text x = if x.den == 1 then signed_decimal x.num else signed_decimal x.num ++ codes "/" ++ decimal x.den
