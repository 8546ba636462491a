-- A monomial has no more labels than its text has tokens.
use Rattle.std.proofs.Common.{◌≡◌, ℕ, ◌≤◌, true, List, [], ◌∷◌, ◌++◌, length, refl, ap, length-append, arith}
use Rattle.std.specs.List.{flat_map, list_all}
use Rattle.std.proofs.lemmas.Bool.Decides.{nat_tests}
use Rattle.model_core.specs.declared.sum.Span.{Span}
use Rattle.model_core.specs.declared.sum.Token.TheVariants.{Mark}
use Rattle.model_core.specs.declared.sum.WrittenFactor.{WrittenFactor}
use Rattle.model_core.specs.declared.sum.WrittenMonomial.{WrittenMonomial}
use Rattle.model_core.specs.TermText.{right, tokens, comma_tokens, label_tokens, bracket_tokens, tilde_tokens, factor_tokens, literal_tokens, monomial_tokens, first_sign, signed_tokens, spelling}
use Rattle.model_core.specs.TermMeaning.{labels_in, written_labels}
use Rattle.model_core.proofs.ValidLaws.{both}
use Rattle.model_core.proofs.BoolLaws.{both_hold}
use Rattle.model_core.proofs.TermPrefixes.{few_tokens}
use Rattle.model_reader.specs.Parsing.{has_labels_within}

of_commas : (labels : List Span) → length labels ≤ length (flat_map comma_tokens labels)
of_commas [] = omega arith
of_commas (label ∷ labels) = let few = of_commas labels in omega arith

of_labels : (labels : List Span) → length labels ≤ length (label_tokens labels)
of_labels [] = omega arith
of_labels (label ∷ labels) =
    let few = of_commas labels in
    let joined = length-append (flat_map comma_tokens labels) (Mark right ∷ []) in
    omega arith

of_factor : (factor : WrittenFactor) → length factor.labels ≤ length (factor_tokens factor)
of_factor factor =
    let few = of_labels factor.labels in
    let first = length-append (tilde_tokens factor.tilde) (bracket_tokens factor.bracket ++ label_tokens factor.labels) in
    let second = length-append (bracket_tokens factor.bracket) (label_tokens factor.labels) in
    omega arith

of_factors : (factors : List WrittenFactor) → length (flat_map labels_in factors) ≤ length (flat_map factor_tokens factors)
of_factors [] = omega arith
of_factors (factor ∷ factors) =
    let few = of_factor factor in
    let others = of_factors factors in
    let labels = length-append factor.labels (flat_map labels_in factors) in
    let all = length-append (factor_tokens factor) (flat_map factor_tokens factors) in
    omega arith

of_monomial : (monomial : WrittenMonomial) → length (written_labels monomial) ≤ length (monomial_tokens monomial)
of_monomial monomial =
    let few = of_factors monomial.factors in
    let all = length-append (literal_tokens monomial.literal) (flat_map factor_tokens monomial.factors) in
    omega arith

within : (count : ℕ) (monomial : WrittenMonomial) → length (written_labels monomial) ≤ count → has_labels_within count monomial ≡ true
within count monomial few = grind (arith, nat_tests)

of_monomials : (count : ℕ) (sum : List WrittenMonomial) → length (flat_map signed_tokens sum) ≤ count → list_all (has_labels_within count) sum ≡ true
of_monomials count [] most = refl
of_monomials count (monomial ∷ sum) most =
    let few = of_monomial monomial in
    let all = length-append (signed_tokens monomial) (flat_map signed_tokens sum) in
    both_hold (has_labels_within count monomial) (list_all (has_labels_within count) sum) (within count monomial (omega arith)) (of_monomials count sum (omega arith))

of_spelling : (count : ℕ) (sum : List WrittenMonomial) → length (spelling sum) ≤ count → list_all (has_labels_within count) sum ≡ true
of_spelling count [] most = refl
of_spelling count (monomial ∷ sum) most =
    let few = of_monomial monomial in
    let first = length-append (first_sign monomial.negative) (monomial_tokens monomial) in
    let all = length-append (first_sign monomial.negative ++ monomial_tokens monomial) (flat_map signed_tokens sum) in
    both_hold (has_labels_within count monomial) (list_all (has_labels_within count) sum) (within count monomial (omega arith)) (of_monomials count sum (omega arith))

pub few_labels : (text : List ℕ) (sum : List WrittenMonomial) → tokens text ≡ spelling sum → list_all (has_labels_within (length text)) sum ≡ true
few_labels text sum spelled =
    let same : length (tokens text) ≡ length (spelling sum) = ap length spelled in
    let few = few_tokens text in
    of_spelling (length text) sum (omega arith)

-- ---- a greater bound

more_within : (count most : ℕ) (monomial : WrittenMonomial) → count ≤ most → has_labels_within count monomial ≡ true → has_labels_within most monomial ≡ true
more_within count most monomial less few =
    let labels : length (written_labels monomial) ≤ count = grind (arith, nat_tests) in
    within most monomial (omega arith)

pub few_of_more : (count most : ℕ) (sum : List WrittenMonomial) → count ≤ most → list_all (has_labels_within count) sum ≡ true → list_all (has_labels_within most) sum ≡ true
few_of_more count most [] less few = refl
few_of_more count most (monomial ∷ sum) less few =
    let parts = both (has_labels_within count monomial) (list_all (has_labels_within count) sum) few in
    both_hold (has_labels_within most monomial) (list_all (has_labels_within most) sum) (more_within count most monomial less parts.0) (few_of_more count most sum less parts.1)
