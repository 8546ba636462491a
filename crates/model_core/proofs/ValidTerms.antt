-- What the terms of a valid model meet.
use Rattle.std.proofs.Common.{◌≡◌, ◌≤◌, true, length, arith}
use Rattle.std.specs.Prelude.{nat_le, sum_by}
use Rattle.std.specs.List.{list_all}
use Rattle.std.proofs.lemmas.Bool.Decides.{nat_tests}
use Rattle.model_core.specs.declared.model.Model.{Model}
use Rattle.model_core.specs.declared.term.Term.{Term}
use Rattle.model_core.specs.Groups.{is_between}
use Rattle.model_core.specs.Content.{symbol_count}
use Rattle.model_core.specs.TermRules.{has_monomials, has_shape, has_one_content, has_good_monomials, has_good_coupling, has_small_sizes, is_term, has_few_symbols}
use Rattle.model_core.specs.Valid.{IsValid}
use Rattle.model_core.proofs.ValidLaws.{both, between, terms_meet}

-- few enough terms, each of which meets its rules, with few enough symbols
valid_terms : (model : Model) → IsValid model → ((nat_le (length model.terms) 64 ≡ true) × (list_all (is_term model) model.terms ≡ true)) × (has_few_symbols model.terms ≡ true)
valid_terms model valid =
    let all = terms_meet model valid in
    let counted = both _ (has_few_symbols model.terms) (both _ _ all).0 in
    (both (nat_le (length model.terms) 64) (list_all (is_term model) model.terms) counted.0, counted.1)

pub few_terms : (model : Model) → IsValid model → length model.terms ≤ 64
few_terms model valid =
    let test = (valid_terms model valid).0.0 in
    grind (arith, nat_tests)

pub all_terms : (model : Model) → IsValid model → list_all (is_term model) model.terms ≡ true
all_terms model valid = (valid_terms model valid).0.1

pub few_symbols : (model : Model) → IsValid model → sum_by symbol_count model.terms ≤ 400
few_symbols model valid =
    let test : nat_le (sum_by symbol_count model.terms) 400 ≡ true = (valid_terms model valid).1 in
    grind (arith, nat_tests)

-- at most 6 rows and columns
pub term_sizes : (model : Model) (term : Term) → is_term model term ≡ true → (term.rows ≤ 6) × (term.columns ≤ 6)
term_sizes model term is =
    let shape = (both (has_monomials model term) (has_shape model term) (both _ (has_one_content term) (both (has_good_monomials model term) (has_good_coupling model term) is).0).0).1 in
    let sizes = (both (has_small_sizes term) _ (both _ _ shape).0).0 in
    let each = both (is_between 1 6 term.rows) (is_between 1 6 term.columns) sizes in
    ((between 1 6 term.rows each.0).1, (between 1 6 term.columns each.1).1)
