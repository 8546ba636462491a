-- The fractions that a file may write: an integer, or a text such as `-3/4`.
use Rattle.std.specs.Prelude.{ℕ, ◌+◌, Bool, ◌&&◌, ◌==◌, nat_lt, nat_le, if◌then◌else◌, ℤ, pos, unsigned_abs, List, length, take, drop, position, Option, Some, None, option_map, option_and_then}
use Rattle.std.specs.Char.{is_ascii_digit}
use Rattle.std.specs.List.{list_all}
use Rattle.std.specs.Str.Parse.{digits_value, starts_with_minus}
use Rattle.toml.specs.Data.{Data, string, integer}
use Rattle.frac128.specs.Rational.{ℚ, whole, neg_ℚ, ◌/ℚ◌}
use Rattle.model_core.specs.Groups.{is_between}

-- one decimal digit or more
abbrev pub are_digits : List ℕ → Bool
are_digits text = nat_lt 0 (length text) && list_all is_ascii_digit text

-- a number from low to high
abbrev pub within : ℕ → ℕ → ℕ → Option ℕ
within low high n = if is_between low high n then Some n else None

-- the number from low to high that decimal digits stand for, after any number of zeros
unfoldable pub number_between : ℕ → ℕ → List ℕ → Option ℕ
number_between low high digits = if are_digits digits then within low high (digits_value 10 digits) else None

-- a numerator is at most 10^9, and a denominator from 1 to 10^6
abbrev pub numerator : List ℕ → Option ℕ
numerator digits = number_between 0 1000000000 digits

abbrev pub denominator : List ℕ → Option ℕ
denominator digits = number_between 1 1000000 digits

-- a numerator alone
abbrev pub whole_of : List ℕ → Option ℚ
whole_of digits = option_map (λ n. whole (pos n)) (numerator digits)

-- a numerator over a denominator, in lowest terms or not
abbrev pub quotient_of : List ℕ → List ℕ → Option ℚ
quotient_of above below = option_and_then (λ n. option_map (λ d. whole (pos n) /ℚ whole (pos d)) (denominator below)) (numerator above)

-- what stands before the first `/` and after it
unfoldable pub around_slash : List ℕ → Option (List ℕ × List ℕ)
around_slash text = option_map (λ i. (take i text, drop (i + 1) text)) (position (λ byte. byte == 47) text)

abbrev pub fraction_of_parts : List ℕ → Option (List ℕ × List ℕ) → Option ℚ
fraction_of_parts text None = whole_of text
fraction_of_parts text (Some parts) = quotient_of parts.0 parts.1

-- a fraction without a sign: digits, and maybe `/` and digits
unfoldable pub unsigned_fraction : List ℕ → Option ℚ
unsigned_fraction text = fraction_of_parts text (around_slash text)

-- the fraction that a text is: one without a sign, or `-` and such a one
unfoldable pub text_fraction : List ℕ → Option ℚ
text_fraction text = if starts_with_minus text then option_map neg_ℚ (unsigned_fraction (drop 1 text)) else unsigned_fraction text

-- the fraction that an integer is: one of at most 10^9 in size
abbrev pub whole_fraction : ℤ → Option ℚ
whole_fraction number = if nat_le (unsigned_abs number) 1000000000 then Some (whole number) else None

-- the fraction that a value is
abbrev pub fraction_in : Data → Option ℚ
fraction_in (integer number) = whole_fraction number
fraction_in (string text) = text_fraction text
fraction_in _ = None
