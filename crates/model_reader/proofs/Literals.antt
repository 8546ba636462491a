-- How the parts of a fraction's text are told.
use Rattle.std.proofs.Common.{◌≡◌, ℕ, ◌+◌, ◌<◌, ◌^◌, Bool, true, false, cond, List, [], ◌∷◌, length, drop, Option, Some, None, Result, Ok, Err, Bor, refl, sym, ap, ◌∙◌, arith, inl, inr}
use Rattle.std.specs.Prelude.{◌&&◌, ◌==◌, nat_lt, option_map, MatchResult}
use Rattle.std.specs.Char.{is_ascii_digit}
use Rattle.std.specs.List.{list_all, position_or_len}
use Rattle.std.specs.Option.{MatchOption}
use Rattle.std.specs.Str.{all_ascii_digits, IsAscii, IsUtf8}
use Rattle.std.proofs.lemmas.Str.{IsUtf8-from_ascii}
use Rattle.std.proofs.lemmas.Str.Ascii.{IsAscii-nil, IsAscii-cons}
use Rattle.std.specs.Str.Parse.{digits_value, ParsesUnsigned, starts_with_minus}
use Rattle.std.specs.Str.Pattern.{FindsCharPrefix}
use Rattle.std.proofs.lemmas.Bool.{cases_Bool}
use Rattle.std.proofs.lemmas.Bool.Decides.{nat_tests, leb_tells}
use Rattle.std.proofs.lemmas.Str.Parse.{parse_digits, numerals_by_value, tells_all_ascii_digits}
use Rattle.std.proofs.lemmas.Str.Pattern.{IsSplitOnceResult, split_once_first, strip_prefix_char}
use Rattle.frac128.specs.Rational.{neg_ℚ}
use Rattle.model_core.specs.Groups.{is_between}
use Rattle.model_core.specs.Literal.{are_digits, within, number_between, around_slash, fraction_of_parts, whole_of, quotient_of, unsigned_fraction, text_fraction}

all_digits : (text : List ℕ) → list_all is_ascii_digit text ≡ all_ascii_digits text
all_digits [] = refl
all_digits (c ∷ cs) = ap (λ rest. is_ascii_digit c && rest) (all_digits cs)

not_some : (n : ℕ) → (0 < n → ⊥) → nat_lt 0 n ≡ false
not_some n none = grind (arith, nat_tests)

above_all : (low high n : ℕ) → high < n → within low high n ≡ None
above_all low high n large = grind (arith, nat_tests)

either_none : {A : Type 0} (test : Bool) → cond {A = Option A} test None None ≡ None
either_none true = refl
either_none false = refl

-- what parsing answers at digits
pub parsed_between : {E : Type 0} (low high : ℕ) (text : List ℕ) (r : Result ℕ E) → high < 2 ^ 32 → ParsesUnsigned 32 10 text r
    → list_all is_ascii_digit text ≡ true → MatchResult r (λ n. number_between low high text ≡ within low high n) (λ _. number_between low high text ≡ None)
unfolding number_between
parsed_between {E} low high text (Ok n) fits parses digits =
    let given = parse_digits (numerals_by_value _ tells_all_ascii_digits) {E = E} 32 text (Ok n) parses (sym (all_digits text) ∙ digits) in
    let some : nat_lt 0 (length text) ≡ true = grind (arith, nat_tests, given.0.0) in
    rw (some, digits, ← given.1) refl
parsed_between {E} low high text (Err e) fits parses digits =
    let none = parse_digits (numerals_by_value _ tells_all_ascii_digits) {E = E} 32 text (Err e) parses (sym (all_digits text) ∙ digits) in
    elim (leb_tells (2 ^ 32) (digits_value 10 text)) [
      | inl large ↦ rw (digits, above_all low high (digits_value 10 text) (omega (arith, large.1))) (either_none _)
      | inr small ↦ rw (not_some (length text) (λ some. none (some, omega (arith, small.1)))) refl
    ]

pub not_digits : (low high : ℕ) (text : List ℕ) → list_all is_ascii_digit text ≡ false → number_between low high text ≡ None
unfolding number_between
not_digits low high text other = elim (cases_Bool (nat_lt 0 (length text))) [
  | inl some ↦ rw (some, other) refl
  | inr none ↦ rw none refl
]

digits_are_ascii : (text : List ℕ) → all_ascii_digits text ≡ true → IsAscii text
digits_are_ascii [] digits = IsAscii-nil
digits_are_ascii (c ∷ cs) digits =
    let parts = tells_all_ascii_digits.parts c cs digits in
    let small : c < 128 = omega (arith, parts.0) in
    IsAscii-cons c cs small (digits_are_ascii cs parts.1)

-- what isn't UTF-8 has another byte
pub not_text : (low high : ℕ) (text : List ℕ) → (IsUtf8 text → ⊥) → number_between low high text ≡ None
not_text low high text other = elim (cases_Bool (list_all is_ascii_digit text)) [
  | inl digits ↦ absurd (other (IsUtf8-from_ascii text (digits_are_ascii text (sym (all_digits text) ∙ digits))))
  | inr differs ↦ not_digits low high text differs
]

some_within : (low high n value : ℕ) → within low high n ≡ Some value → value ≡ n
some_within low high n value found = by_test (is_between low high n) found
  where
    by_test : (test : Bool) → cond test (Some n) None ≡ Some value → value ≡ n
    by_test true found = cc
    by_test false found = let never : ⊥ = cc in absurd never

some_number : (low high value : ℕ) (text : List ℕ) (digits : Bool) → cond digits (within low high (digits_value 10 text)) None ≡ Some value → value ≡ digits_value 10 text
some_number low high value text true found = some_within low high (digits_value 10 text) value found
some_number low high value text false found = let never : ⊥ = cc in absurd never

-- the number is the digits' value
pub value_of_number : (low high value : ℕ) (text : List ℕ) → number_between low high text ≡ Some value → value ≡ digits_value 10 text
unfolding number_between
value_of_number low high value text found = some_number low high value text (are_digits text) found

-- what stands around the first slash
split_at_slash : (text : List ℕ) (r : Option (Bor (List ℕ) × Bor (List ℕ))) → IsSplitOnceResult 47 text r
    → MatchOption r (around_slash text ≡ None) (λ x. around_slash text ≡ Some (x.0.now, x.1.now))
unfolding around_slash
split_at_slash text None given =
    let last = split_once_first 47 text None given (omega arith) in
    let outside : nat_lt (position_or_len (λ byte. byte == 47) text) (length text) ≡ false = grind (arith, nat_tests) in
    rw outside refl
split_at_slash text (Some x) given =
    let first = split_once_first 47 text (Some x) given (omega arith) in
    let inside : nat_lt (position_or_len (λ byte. byte == 47) text) (length text) ≡ true = grind (arith, nat_tests, first.0) in
    rw (inside, first.1, first.2) refl

pub sized : (text : List ℕ) (r : Option (Bor (List ℕ) × Bor (List ℕ))) → IsSplitOnceResult 47 text r
    → MatchOption r (unsigned_fraction text ≡ whole_of text) (λ x. unsigned_fraction text ≡ quotient_of x.0.now x.1.now)
unfolding unsigned_fraction
sized text None given = ap (fraction_of_parts text) (split_at_slash text None given)
sized text (Some x) given = ap (fraction_of_parts text) (split_at_slash text (Some x) given)

starts_other : (text : List ℕ) → ((rest : List ℕ) → text ≡ 45 ∷ rest → ⊥) → starts_with_minus text ≡ false
starts_other [] other = refl
starts_other (c ∷ cs) other = elim (cases_Bool (c == 45)) [
  | inl same ↦ let c_is : c ≡ 45 = grind (arith, nat_tests) in absurd (other cs (ap (λ d. d ∷ cs) c_is))
  | inr differs ↦ differs
]

-- what stands after the sign
pub stripped : (text : List ℕ) (r : Option (Bor (List ℕ)))
    → MatchOption r (FindsCharPrefix 45 text None) (λ x. (n : ℕ) × FindsCharPrefix 45 text (Some n) × (x.now ≡ drop n text) × (length x.now + n ≡ length text))
    → MatchOption r (text_fraction text ≡ unsigned_fraction text) (λ x. text_fraction text ≡ option_map neg_ℚ (unsigned_fraction x.now))
unfolding text_fraction
stripped text None given = rw (starts_other text (strip_prefix_char 45 text None given (omega arith))) refl
stripped text (Some x) given = rw (strip_prefix_char 45 text (Some x) given (omega arith)) refl
