use Rattle.std.proofs.Common.{◌≡◌, ◌+◌, ◌++◌, length, subst, sym, ap, ◌∙◌}
use Rattle.std.specs.List.{All}
use Rattle.std.proofs.lemmas.Result.{on_ok_weaker}
use Rattle.model_core.specs.Directions.{symbol_of, real_part, direction_of}
use Rattle.term_expand.specs.Texts.{leg_count}
use Rattle.term_expand.specs.Expansion.{AreDirections}
use Rattle.term_expand.specs.Moves.{real_values}
use Rattle.term_expand.proofs.Sides.{real_keys, real_meant, real_directions}
use Rattle.term_expand.proofs.directions.push_real.Goals as goal

pub push_direction-requires : goal.push_direction-requires
push_direction-requires c =
    subst (All (λ v. length v.key ≡ 1 + leg_count c.args.term.now.kind)) (sym (c.in_ok-values.ensures ∙ ap (real_values c.args.term.now) c.as_slice.ensures)) (real_keys c.args.term.now c.args.moves.now.texts c.requires)

pub returns-clause-value : goal.returns-clause-value
returns-clause-value c model e before terms places symbols real is so_far =
    let values = c.in_ok-values.values in
    let meant = real_meant model e c.args.moves.now is c.args.place c.args.term.now c.as_slice-2.result.now values places terms c.as_slice-2.ensures c.args.symbol symbols (c.in_ok-values.ensures ∙ ap (real_values c.args.term.now) c.as_slice.ensures) in
    on_ok_weaker c.push_direction.result
    (λ pushed. subst (λ ds. AreDirections (before ++ ds) c.push_direction.new.found) (sym (real_directions model e c.args.term.now terms (sym (ap (λ t. t.real) terms) ∙ real))) (pushed (direction_of model e (symbol_of e) (real_part model e)) before meant so_far))
    c.push_direction.ensures.value
