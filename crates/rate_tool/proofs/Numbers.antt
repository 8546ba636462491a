-- The numbers that words stand for.
use Rattle.std.proofs.Common.{◌≡◌, ℕ, ◌<◌, ◌≤◌, ◌^◌, true, false, List, Some, None, Result, Ok, refl, sym, ap, subst, ◌∙◌, arith, inl, inr}
use Rattle.std.specs.Prelude.{not, decimal, nat_le, Option, option_and_then}
use Rattle.std.specs.Str.{bytes_eq}
use Rattle.std.specs.Str.Parse.{digits_value, ParsesUnsigned}
use Rattle.std.proofs.lemmas.Fmt.{decimal_is_IsNumeral, parse-decimal}
use Rattle.std.proofs.lemmas.Slice.Eq.{bytes_eq-Decides}
use Rattle.std.proofs.lemmas.Bool.{cases_Bool, false≢true}
use Rattle.std.proofs.lemmas.Bool.Decides.{nat_tests, leb_tells}
use Rattle.rate_tool.specs.Words.{number_of, number_in, within}

-- the decimal digits of a number stand for it
pub number_of-decimal : (word : List ℕ) (n : ℕ) → n < 2 ^ 64 → word ≡ decimal n → number_of word ≡ Some n
number_of-decimal word n small is =
    let value : digits_value 10 word ≡ n = ap (digits_value 10) is ∙ (decimal_is_IsNumeral n small).1 in
    let own : bytes_eq word (decimal (digits_value 10 word)) ≡ true = (bytes_eq-Decides word (decimal (digits_value 10 word))).1 (is ∙ ap decimal (sym value)) in
    rw own (ap Some value)

within-above : (low high n : ℕ) → high < n → within low high n ≡ None
within-above low high n above = grind (arith, nat_tests)

-- a word that isn't the decimal digits of what parsing gives stands for no number of 64 bits
pub number_in-none : {E : Type 0} (low high : ℕ) (word : List ℕ) (r : Result ℕ E) → high < 2 ^ 64 → ParsesUnsigned 64 10 word r
    → ((n : ℕ) → r ≡ Ok n → word ≡ decimal n → ⊥) → number_in low high word ≡ None
number_in-none low high word r bound parses other =
    let m = digits_value 10 word in
    let large : word ≡ decimal m → high < m = λ is. elim (leb_tells (2 ^ 64) m) [
      | inl above ↦ omega (arith, above.1)
      | inr below ↦ absurd (other m (parse-decimal 64 m word r below.1 below.1 is parses) is)
    ] in
    elim (cases_Bool (bytes_eq word (decimal m))) [
      | inl same ↦ rw same (within-above low high m (large ((bytes_eq-Decides word (decimal m)).0 same)))
      | inr differs ↦ rw differs refl
    ]

-- what a comparison of two texts says
pub same-text : (a b : List ℕ) → false ≡ not (bytes_eq a b) → a ≡ b
same-text a b tested = elim (cases_Bool (bytes_eq a b)) [
  | inl same ↦ (bytes_eq-Decides a b).0 same
  | inr differs ↦ absurd (false≢true (tested ∙ ap not differs))
]

pub other-text : (a b : List ℕ) → true ≡ not (bytes_eq a b) → a ≡ b → ⊥
other-text a b tested same = false≢true (sym (tested ∙ ap not ((bytes_eq-Decides a b).1 same)))

-- a word that is the decimal digits of a number of 64 bits stands for it where it is within the bounds
pub number_in-decimal : (low high : ℕ) (word : List ℕ) (n : ℕ) → n < 2 ^ 64 → word ≡ decimal n → number_in low high word ≡ within low high n
number_in-decimal low high word n small is = ap (λ found. option_and_then (within low high) found) (number_of-decimal word n small is)

-- a number that parsing gives fits
pub parsed-small : {E : Type 0} (word : List ℕ) (n : ℕ) (r : Result ℕ E) → r ≡ Ok n → ParsesUnsigned 64 10 word r → n < 2 ^ 64
parsed-small {E} word n r is parses =
    let P : Result ℕ E → Type 0 = λ s. ParsesUnsigned 64 10 word s in
    let h : P (Ok n) = subst P is parses in
    omega (arith, h.0.1, h.1)

-- what lies between narrower bounds
narrower : (low high most : ℕ) (found : Option ℕ) → high ≤ most → option_and_then (within 0 most) found ≡ None → option_and_then (within low high) found ≡ None
narrower low high most None below none = refl
narrower low high most (Some n) below none = elim (cases_Bool (nat_le n most)) [
  | inl is ↦ let some : within 0 most n ≡ Some n = grind (arith, nat_tests, is) in let never : ⊥ = cc in absurd never
  | inr above ↦ grind (arith, nat_tests, above, below)
]

-- a word that stands for no number of 64 bits stands for none between narrower bounds
pub narrower-none : (low high : ℕ) (word : List ℕ) → high ≤ 18446744073709551615 → number_in 0 18446744073709551615 word ≡ None → number_in low high word ≡ None
narrower-none low high word below none = narrower low high 18446744073709551615 (number_of word) below none

kept : (most n : ℕ) (found : Option ℕ) → option_and_then (within 0 most) found ≡ Some n → found ≡ Some n
kept most n None some = let never : ⊥ = cc in absurd never
kept most n (Some m) some = elim (cases_Bool (nat_le m most)) [
  | inl is ↦ let own : within 0 most m ≡ Some m = grind (arith, nat_tests, is) in cc
  | inr above ↦ let none : within 0 most m ≡ None = grind (arith, nat_tests, above) in let never : ⊥ = cc in absurd never
]

-- a word that stands for a number stands for it where this is within other bounds
pub narrower-some : (low high : ℕ) (word : List ℕ) (n : ℕ) → number_in 0 18446744073709551615 word ≡ Some n → number_in low high word ≡ within low high n
narrower-some low high word n some = ap (λ found. option_and_then (within low high) found) (kept 18446744073709551615 n (number_of word) some)
