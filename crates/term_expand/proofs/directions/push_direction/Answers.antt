use Rattle.std.proofs.Common.{◌++◌, ◌∷◌, [], subst, sym, refl}
use Rattle.term_expand.specs.declared.directions.Direction.{Direction}
use Rattle.term_expand.specs.Expansion.{AreDirections}
use Rattle.term_expand.proofs.Sides.{directions_push, is_direction}
use Rattle.term_expand.proofs.directions.push_direction.Goals as goal

pub returns-clause-value : goal.returns-clause-value
returns-clause-value c meant before is so_far =
    let next : Direction = record { term = c.args.term; symbol = c.args.symbol; block = c.in_ok-block_name.field-0; tensor = c.in_ok-gather.field-0 } in
    let found = is_direction c.args.term c.args.kind c.args.symbol c.args.block.now c.args.values meant next c.leg_count-legs.result is c.leg_count-legs.ensures refl refl c.in_ok-block_name.ensures c.in_ok-gather.ensures.value in
    subst (AreDirections (before ++ meant ∷ [])) (sym c.in_ok-push.ensures.ok) (directions_push before c.args.found.now meant next so_far found)
