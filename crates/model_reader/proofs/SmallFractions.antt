-- The fractions that a file writes have small numbers in lowest terms too.
use Rattle.std.proofs.Common.{◌≡◌, ℕ, ◌≤◌, ◌/◌, Bool, true, false, cond, List, Option, Some, None, ℤ, pos, refl, ap, subst, ◌∙◌, arith}
use Rattle.std.specs.Prelude.{◌&&◌, ◌≢◌, nat_le, unsigned_abs, unwrap_or, option_map, option_and_then}
use Rattle.std.specs.Str.Parse.{digits_value, starts_with_minus}
use Rattle.std.proofs.lemmas.Bool.{le-leb}
use native.Mathlib.Nat.{div-le_self}
use Rattle.toml.specs.Data.{Data, string, integer, float, boolean, datetime, array, table}
use Rattle.frac128.specs.Rational.{ℚ, whole, zero_ℚ, neg_ℚ, ◌/ℚ◌}
use Rattle.frac128.proofs.Divisors.{abs-neg}
use Rattle.frac128.proofs.Negation.{negation_is}
use Rattle.frac128.proofs.Quotients.{common, quotient_is}
use Rattle.model_core.specs.declared.sum.Span.{Span}
use Rattle.model_core.specs.declared.sum.WrittenLiteral.{WrittenLiteral}
use Rattle.model_core.specs.declared.sum.WrittenMonomial.{WrittenMonomial}
use Rattle.model_core.specs.Groups.{is_between}
use Rattle.model_core.specs.Literal.{are_digits, within, number_between, numerator, denominator, whole_of, quotient_of, around_slash, fraction_of_parts, unsigned_fraction, text_fraction, whole_fraction, fraction_in}
use Rattle.model_core.specs.Document.{fraction_of}
use Rattle.model_core.specs.FileValues.{is_file_fraction}
use Rattle.model_core.specs.TermText.{bytes_at}
use Rattle.model_core.specs.TermMeaning.{literal_over, literal_fraction, size_of, coefficient_of}
use Rattle.model_core.proofs.BoolLaws.{both_hold}
use Rattle.model_core.proofs.ValidLaws.{between}

-- ---- numbers

inside_of : (low high m n : ℕ) → within low high m ≡ Some n → is_between low high n ≡ true
inside_of low high m n found = by_test (is_between low high m) refl found
  where
    by_test : (b : Bool) → is_between low high m ≡ b → cond b (Some m) None ≡ Some n → is_between low high n ≡ true
    by_test true is some = let same : m ≡ n = cc in subst (λ k. is_between low high k ≡ true) same is
    by_test false is some = let never : ⊥ = cc in absurd never

digits_inside : (low high n : ℕ) (text : List ℕ) (digits : Bool) → cond digits (within low high (digits_value 10 text)) None ≡ Some n → is_between low high n ≡ true
digits_inside low high n text true found = inside_of low high (digits_value 10 text) n found
digits_inside low high n text false found = let never : ⊥ = cc in absurd never

number_inside : (low high n : ℕ) (text : List ℕ) → number_between low high text ≡ Some n → (low ≤ n) × (n ≤ high)
unfolding number_between
number_inside low high n text found = between low high n (digits_inside low high n text (are_digits text) found)

-- ---- lowest terms

whole_small : (n : ℕ) → n ≤ 1000000000 → is_file_fraction (whole (pos n)) ≡ true
whole_small n small = both_hold (nat_le n 1000000000) (nat_le 1 1000000) (le-leb n 1000000000 small) refl

-- lowest terms keep both bounds
quotient_small : (n d : ℕ) → n ≤ 1000000000 → 1 ≤ d → d ≤ 1000000 → is_file_fraction (whole (pos n) /ℚ whole (pos d)) ≡ true
quotient_small n d small some few =
    let other : pos d ≢ pos 0 = λ same. let none : d ≡ 0 = ap unsigned_abs same in omega arith in
    let g = common (pos n) (pos d) in
    let above : n / g ≤ 1000000000 = omega (arith, div-le_self n g) in
    let below : d / g ≤ 1000000 = omega (arith, div-le_self d g) in
    ap is_file_fraction (quotient_is (pos n) (pos d) other)
    ∙ both_hold (nat_le (n / g) 1000000000) (nat_le (d / g) 1000000) (le-leb (n / g) 1000000000 above) (le-leb (d / g) 1000000 below)

-- a negation has the same sizes
negation_small : (x : ℚ) → is_file_fraction x ≡ true → is_file_fraction (neg_ℚ x) ≡ true
negation_small x small =
    ap is_file_fraction (negation_is x) ∙ ap (λ k. nat_le k 1000000000 && nat_le x.den 1000000) (abs-neg x.num) ∙ small

-- ---- fractions that may be there

abbrev is_small_or_none : Option ℚ → Bool
is_small_or_none None = true
is_small_or_none (Some x) = is_file_fraction x

or_zero : (found : Option ℚ) → is_small_or_none found ≡ true → is_file_fraction (unwrap_or found zero_ℚ) ≡ true
or_zero None small = refl
or_zero (Some x) small = small

negation_or_none : (found : Option ℚ) → is_small_or_none found ≡ true → is_small_or_none (option_map neg_ℚ found) ≡ true
negation_or_none None small = refl
negation_or_none (Some x) small = negation_small x small

whole_or_none : (digits : List ℕ) → is_small_or_none (whole_of digits) ≡ true
whole_or_none digits = by_number (numerator digits) refl
  where
    by_number : (found : Option ℕ) → numerator digits ≡ found → is_small_or_none (option_map (λ n. whole (pos n)) found) ≡ true
    by_number None is = refl
    by_number (Some n) is = whole_small n (number_inside 0 1000000000 n digits is).1

quotient_or_none : (above below : List ℕ) → is_small_or_none (quotient_of above below) ≡ true
quotient_or_none above below = by_above (numerator above) refl
  where
    by_below : (n : ℕ) → n ≤ 1000000000 → (found : Option ℕ) → denominator below ≡ found → is_small_or_none (option_map (λ d. whole (pos n) /ℚ whole (pos d)) found) ≡ true
    by_below n small None is = refl
    by_below n small (Some d) is = let inside = number_inside 1 1000000 d below is in quotient_small n d small inside.0 inside.1

    by_above : (found : Option ℕ) → numerator above ≡ found
        → is_small_or_none (option_and_then (λ n. option_map (λ d. whole (pos n) /ℚ whole (pos d)) (denominator below)) found) ≡ true
    by_above None is = refl
    by_above (Some n) is = by_below n (number_inside 0 1000000000 n above is).1 (denominator below) refl

-- ---- fractions as values

parts_or_none : (text : List ℕ) (parts : Option (List ℕ × List ℕ)) → is_small_or_none (fraction_of_parts text parts) ≡ true
parts_or_none text None = whole_or_none text
parts_or_none text (Some parts) = quotient_or_none parts.0 parts.1

unsigned_or_none : (text : List ℕ) → is_small_or_none (unsigned_fraction text) ≡ true
unfolding unsigned_fraction
unsigned_or_none text = parts_or_none text (around_slash text)

by_sign : (negative : Bool) (rest whole : Option ℚ) → is_small_or_none rest ≡ true → is_small_or_none whole ≡ true → is_small_or_none (cond negative (option_map neg_ℚ rest) whole) ≡ true
by_sign true rest whole first second = negation_or_none rest first
by_sign false rest whole first second = second

text_or_none : (text : List ℕ) → is_small_or_none (text_fraction text) ≡ true
unfolding text_fraction
text_or_none text = by_sign (starts_with_minus text) _ (unsigned_fraction text) (unsigned_or_none _) (unsigned_or_none text)

integer_or_none : (number : ℤ) → is_small_or_none (whole_fraction number) ≡ true
integer_or_none number = by_size (nat_le (unsigned_abs number) 1000000000) refl
  where
    by_size : (b : Bool) → nat_le (unsigned_abs number) 1000000000 ≡ b → is_small_or_none (cond b (Some (whole number)) None) ≡ true
    by_size true small = both_hold (nat_le (unsigned_abs number) 1000000000) (nat_le 1 1000000) small refl
    by_size false large = refl

value_or_none : (value : Data) → is_small_or_none (fraction_in value) ≡ true
value_or_none (integer number) = integer_or_none number
value_or_none (string text) = text_or_none text
value_or_none (float x) = refl
value_or_none (boolean b) = refl
value_or_none (datetime when) = refl
value_or_none (array items) = refl
value_or_none (table pairs) = refl

-- what a value stands for, where it is a fraction
pub fraction_small : (value : Data) → is_file_fraction (fraction_of value) ≡ true
fraction_small value = or_zero (fraction_in value) (value_or_none value)

-- ---- coefficients

over_or_none : (text above : List ℕ) (below : Option Span) → is_small_or_none (literal_over text above below) ≡ true
over_or_none text above None = whole_or_none above
over_or_none text above (Some below) = quotient_or_none above (bytes_at text below)

literal_or_none : (text : List ℕ) (literal : WrittenLiteral) → is_small_or_none (literal_fraction text literal) ≡ true
unfolding literal_fraction
literal_or_none text literal = over_or_none text (bytes_at text literal.numerator) literal.denominator

size_small : (text : List ℕ) (literal : Option WrittenLiteral) → is_file_fraction (size_of text literal) ≡ true
size_small text None = refl
size_small text (Some literal) = or_zero (literal_fraction text literal) (literal_or_none text literal)

signed_small : (negative : Bool) (x : ℚ) → is_file_fraction x ≡ true → is_file_fraction (cond negative (neg_ℚ x) x) ≡ true
signed_small true x small = negation_small x small
signed_small false x small = small

pub coefficient_small : (text : List ℕ) (monomial : WrittenMonomial) → is_file_fraction (coefficient_of text monomial) ≡ true
coefficient_small text monomial = signed_small monomial.negative (size_of text monomial.literal) (size_small text monomial.literal)
