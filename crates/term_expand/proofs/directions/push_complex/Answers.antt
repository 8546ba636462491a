use Rattle.std.proofs.Common.{◌≡◌, ◌+◌, ◌++◌, ◌∷◌, [], length, subst, sym, ap, ◌∙◌}
use Rattle.std.specs.List.{All}
use Rattle.std.proofs.lemmas.List.{append_assoc}
use Rattle.std.proofs.lemmas.Result.{on_ok_weaker}
use Rattle.beta_poly.specs.Symbol.{conj_symbol}
use Rattle.model_core.specs.Directions.{symbol_of, plain_part, conjugate_part, direction_of}
use Rattle.term_expand.specs.Texts.{leg_count}
use Rattle.term_expand.specs.Expansion.{AreDirections}
use Rattle.term_expand.specs.Moves.{plain_values, conjugate_values}
use Rattle.term_expand.proofs.Sides.{plain_keys, conjugate_keys, plain_meant, conjugate_meant, complex_directions}
use Rattle.term_expand.proofs.directions.push_complex.Goals as goal

pub push_direction-requires : goal.push_direction-requires
push_direction-requires c =
    subst (All (λ v. length v.key ≡ 1 + leg_count c.args.term.now.kind)) (sym (c.in_ok-plain.ensures ∙ ap plain_values c.as_slice.ensures)) (plain_keys c.args.term.now.kind c.args.moves.now.texts c.requires)

pub push_direction-requires-2 : goal.push_direction-requires-2
push_direction-requires-2 c =
    subst (All (λ v. length v.key ≡ 1 + leg_count c.args.term.now.kind)) (sym (c.in_ok-other.ensures ∙ ap conjugate_values c.as_slice-2.ensures)) (conjugate_keys c.args.term.now.kind c.args.moves.now.texts c.requires)

pub returns-clause-value : goal.returns-clause-value
returns-clause-value c model e before terms places symbols real is so_far =
    let term = c.args.term.now in
    let moves = c.args.moves.now in
    let block = c.as_slice-block.result.now in
    let first = plain_meant model e moves is c.args.place term block c.in_ok-plain.plain places terms c.as_slice-block.ensures c.args.symbol symbols (c.in_ok-plain.ensures ∙ ap plain_values c.as_slice.ensures) in
    let second = conjugate_meant model e moves is c.args.place term block c.in_ok-other.other places terms c.as_slice-block.ensures c.conjugate.result (ap conj_symbol symbols ∙ sym c.conjugate.ensures) (c.in_ok-other.ensures ∙ ap conjugate_values c.as_slice-2.ensures) in
    let plain = direction_of model e (symbol_of e) (plain_part model e) in
    let other = direction_of model e (conj_symbol (symbol_of e)) (conjugate_part model e) in
    let directions = ap (λ ds. before ++ ds) (complex_directions model e term terms (sym (ap (λ t. t.real) terms) ∙ real)) ∙ sym (append_assoc before (plain ∷ []) (other ∷ [])) in
    on_ok_weaker c.push_direction-2.result
    (λ pushed. subst (λ ds. AreDirections ds c.push_direction-2.new.found) (sym directions) (pushed other (before ++ plain ∷ []) second (c.in_ok-push_direction.ensures.value plain before first so_far)))
    c.push_direction-2.ensures.value
