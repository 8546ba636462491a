-- Blocks that have few directions still have few after those of a further term, where these have few; and all rules on terms.
use Rattle.std.proofs.Common.{◌≡◌, ◌≤◌, true, List, [], ◌++◌, length, refl}
use Rattle.std.specs.Prelude.{◌&&◌, nat_le, sum_by}
use Rattle.std.specs.List.{flat_map, list_all}
use Rattle.std.proofs.lemmas.Bool.{le-leb}
use Rattle.model_core.specs.declared.fault.FaultPlace.{FaultPlace}
use Rattle.model_core.specs.declared.model.Model.{Model}
use Rattle.model_core.specs.declared.term.Term.{Term}
use Rattle.model_core.specs.declared.content.SymbolBlock.{SymbolBlock}
use Rattle.model_core.specs.Content.{symbol_count, term_blocks, has_small_directions, have_few_directions}
use Rattle.model_core.specs.TermRules.{is_term, has_few_symbols, are_terms}
use Rattle.model_core.specs.TermWalk.{block_places}
use Rattle.model_core.proofs.ValidLaws.{both}
use Rattle.model_core.proofs.BoolLaws.{both_hold}
use Rattle.model_core.proofs.DirectionLaws.{few_after}
use Rattle.model_reader.specs.TermSteps.{are_small}
use Rattle.model_reader.proofs.TermLaws.{all_append}

pub small_none : are_small [] ≡ true
unfolding are_small
small_none = refl

pub small_pushed : (earlier own : List SymbolBlock) (place : FaultPlace) → are_small earlier ≡ true → list_all has_small_directions own ≡ true → block_places earlier place own ≡ [] → are_small (earlier ++ own) ≡ true
unfolding are_small
small_pushed earlier own place old gives none =
    let parts = both (list_all has_small_directions earlier) (have_few_directions earlier) old in
    both_hold (list_all has_small_directions (earlier ++ own)) (have_few_directions (earlier ++ own)) (all_append earlier own parts.0 gives) (few_after earlier place own parts.1 none)

pub gives_pushed : (earlier own : List SymbolBlock) → are_small earlier ≡ true → list_all has_small_directions own ≡ true → list_all has_small_directions (earlier ++ own) ≡ true
unfolding are_small
gives_pushed earlier own old gives = all_append earlier own (both (list_all has_small_directions earlier) (have_few_directions earlier) old).0 gives

pub small_few : (blocks : List SymbolBlock) → are_small blocks ≡ true → have_few_directions blocks ≡ true
unfolding are_small
small_few blocks small = (both (list_all has_small_directions blocks) (have_few_directions blocks) small).1

-- ---- all terms

pub terms_valid : (model : Model) (terms : List Term) → length terms ≤ 64 → list_all (is_term model) terms ≡ true → sum_by symbol_count terms ≤ 400
    → have_few_directions (flat_map (term_blocks model) terms) ≡ true → are_terms model terms ≡ true
terms_valid model terms few each symbols directions =
    let some = both_hold (nat_le (length terms) 64) (list_all (is_term model) terms) (le-leb (length terms) 64 few) each in
    let counted = both_hold (nat_le (length terms) 64 && list_all (is_term model) terms) (has_few_symbols terms) some (le-leb (sum_by symbol_count terms) 400 symbols) in
    both_hold ((nat_le (length terms) 64 && list_all (is_term model) terms) && has_few_symbols terms) (have_few_directions (flat_map (term_blocks model) terms)) counted directions
