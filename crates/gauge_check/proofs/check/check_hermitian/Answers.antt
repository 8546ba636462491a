use Rattle.std.proofs.Common.{◌∷◌, sym, ap, subst, ◌∙◌}
use Rattle.std.specs.List.{flat_map}
use Rattle.model_core.specs.declared.term.TermKind.TheVariants.{Scalar}
use Rattle.model_core.specs.Invariance.{component_legs}
use Rattle.term_expand.specs.Multiples.{HasCoordinates}
use Rattle.gauge_check.specs.Steps.{any_differs_at, IsFirstKey}
use Rattle.gauge_check.proofs.FirstFailures.{is_first_of}
use Rattle.gauge_check.proofs.Hermiticity.{entry_wholes, are_whole, none_differs, one_differs, not_asked, hermitian_fault, scalar_alone}
use Rattle.gauge_check.proofs.check.check_hermitian.Goals as goal

pub returns-then-moves_both : goal.returns-then-moves_both
returns-then-moves_both c es are = not_asked c.args.model.now c.args.place c.args.term.now es (sym c.moves_both.ensures ∙ c.if-moves_both.true)

pub first_difference-requires-clause-wholes : goal.first_difference-requires-clause-wholes
first_difference-requires-clause-wholes c =
    let some = c.requires.directions in
    let alone = sym c.moves_both.ensures ∙ c.if-moves_both.false in
    record {
      wholes = flat_map (entry_wholes c.args.model.now) some.entries;
      are = are_whole c.args.model.now c.args.place c.args.term.now (scalar_alone c.args.term.now alone) alone some.entries c.args.directions.now some.are;
    }

pub component_at-requires-clause-inside : goal.component_at-requires-clause-inside
component_at-requires-clause-inside c =
    let model = c.args.model.now in
    let some = c.requires.directions in
    let alone = sym c.moves_both.ensures ∙ c.if-moves_both.false in
    let fs = flat_map (entry_wholes model) some.entries in
    let whole = are_whole model c.args.place c.args.term.now (scalar_alone c.args.term.now alone) alone some.entries c.args.directions.now some.are in
    let first = subst (IsFirstKey model (any_differs_at model fs)) c.in-Some.is (c.in_ok-first_difference.ensures.value fs whole) in
    subst (HasCoordinates model Scalar) (sym c.as_slice.ensures) first.inside

pub returns-in-None : goal.returns-in-None
returns-in-None c es are =
    let model = c.args.model.now in
    let term = c.args.term.now in
    let alone = sym c.moves_both.ensures ∙ c.if-moves_both.false in
    let scalar = scalar_alone term alone in
    let fs = flat_map (entry_wholes model) es in
    let whole = are_whole model c.args.place term scalar alone es c.args.directions.now are in
    none_differs model c.args.place term es scalar alone are.entries (subst (IsFirstKey model (any_differs_at model fs)) c.in-None.is (c.in_ok-first_difference.ensures.value fs whole))

pub returns-in-Some : goal.returns-in-Some
returns-in-Some c es are =
    let model = c.args.model.now in
    let term = c.args.term.now in
    let alone = sym c.moves_both.ensures ∙ c.if-moves_both.false in
    let scalar = scalar_alone term alone in
    let fs = flat_map (entry_wholes model) es in
    let whole = are_whole model c.args.place term scalar alone es c.args.directions.now are in
    let first = subst (IsFirstKey model (any_differs_at model fs)) c.in-Some.is (c.in_ok-first_difference.ensures.value fs whole) in
    is_first_of model _ _ _ (one_differs model c.args.place term es scalar alone are.entries c.in-Some.key first)
    (hermitian_fault model c.args.place term c.in-Some.key c.copy.result c.component_at.result c.copy.ensures (c.component_at.ensures ∙ ap (λ key. component_legs model Scalar (0 ∷ key)) c.as_slice.ensures))
