use Rattle.std.proofs.Common.{◌≡◌, ◌<◌, ◌+◌, ℕ, List, get_or, length, ap, refl, subst, ◌∙◌, arith}
use Rattle.model_core.specs.declared.term.Term.{Term}
use Rattle.model_core.specs.Content.{symbol_count}
use Rattle.model_core.specs.Directions.{numbered, cells}
use Rattle.model_core.specs.TermRules.{is_term}
use Rattle.model_core.proofs.ValidTerms.{term_sizes}
use Rattle.term_expand.specs.declared.expansion.Place.{Place}
use Rattle.term_expand.specs.Expansion.{Adds}
use Rattle.term_expand.proofs.Added.{adds_none}
use Rattle.term_expand.proofs.NumberedTerms.{terms_step, terms_count, term_meets, ids_fit}
use Rattle.term_expand.proofs.expansion.add_terms.Goals as goal

pub loop-place-init : goal.loop-place-init
loop-place-init c = record { added = adds_none c.args.model.now c.args.sums.now; numbered = omega (arith, c.len-id.ensures) }

-- the term at the place is the model's
here : (terms all : List Term) (place : ℕ) (term : Term) → terms ≡ all → term ≡ get_or terms place term → term ≡ get_or all place term
here terms all place term same is = is ∙ ap (λ xs. get_or xs place term) same

within : (terms all : List Term) (place : ℕ) → terms ≡ all → place < length terms → place < length all
within terms all place same inside = omega (arith, inside, ap length same)

pub add_term-requires-clause-term : goal.add_term-requires-clause-term
add_term-requires-clause-term c =
    let model = c.args.model.now in
    let term = c.index-terms-place.result in
    let at = here c.as_slice-terms.result.now model.terms c.loop-place.place term c.as_slice-terms.ensures c.index-terms-place.is in
    ap (is_term model) at ∙ term_meets model c.loop-place.place term c.requires.valid (within c.as_slice-terms.result.now model.terms c.loop-place.place c.as_slice-terms.ensures c.loop-place-test.true)

pub add_term-requires-clause-rows : goal.add_term-requires-clause-rows
add_term-requires-clause-rows c =
    let model = c.args.model.now in
    let term = c.index-terms-place.result in
    let at = here c.as_slice-terms.result.now model.terms c.loop-place.place term c.as_slice-terms.ensures c.index-terms-place.is in
    let inside = within c.as_slice-terms.result.now model.terms c.loop-place.place c.as_slice-terms.ensures c.loop-place-test.true in
    (term_sizes model term (ap (is_term model) at ∙ term_meets model c.loop-place.place term c.requires.valid inside)).0

pub add_term-requires-clause-columns : goal.add_term-requires-clause-columns
add_term-requires-clause-columns c =
    let model = c.args.model.now in
    let term = c.index-terms-place.result in
    let at = here c.as_slice-terms.result.now model.terms c.loop-place.place term c.as_slice-terms.ensures c.index-terms-place.is in
    let inside = within c.as_slice-terms.result.now model.terms c.loop-place.place c.as_slice-terms.ensures c.loop-place-test.true in
    (term_sizes model term (ap (is_term model) at ∙ term_meets model c.loop-place.place term c.requires.valid inside)).1

pub add_term-requires-clause-ids : goal.add_term-requires-clause-ids
add_term-requires-clause-ids c =
    let model = c.args.model.now in
    let term = c.index-terms-place.result in
    let at = here c.as_slice-terms.result.now model.terms c.loop-place.place term c.as_slice-terms.ensures c.index-terms-place.is in
    let inside = within c.as_slice-terms.result.now model.terms c.loop-place.place c.as_slice-terms.ensures c.loop-place-test.true in
    omega (arith, c.loop-place.invariant.numbered, ap symbol_count at, ids_fit model c.loop-place.place term c.requires.valid inside)

pub loop-place-preserved : goal.loop-place-preserved
loop-place-preserved c =
    let model = c.args.model.now in
    let term = c.index-terms-place.result in
    let place = c.loop-place.place in
    let at = here c.as_slice-terms.result.now model.terms place term c.as_slice-terms.ensures c.index-terms-place.is in
    let inside = within c.as_slice-terms.result.now model.terms place c.as_slice-terms.ensures c.loop-place-test.true in
    let next : Place = record { term = place + 1; id = c.loop-place.id } in
    let added = subst (λ t. Adds model (numbered (place + 1) c.loop-place.id t (cells t)) c.loop-place.sums c.add_term.new.sums) at c.in_ok-id.ensures.value in
    record {
      added = terms_step model next place term c.args.sums.now c.loop-place.sums c.add_term.new.sums inside refl c.loop-place.invariant.numbered c.loop-place.invariant.added added;
      numbered = omega (arith, c.in_ok-id.ensures.id, c.loop-place.invariant.numbered, ap symbol_count at, terms_count model.terms place term inside);
    }
