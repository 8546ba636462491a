use Rattle.std.proofs.Common.{◌∷◌}
use Rattle.gauge_check.proofs.TermDirections.{rank_known, two_places, part_numbers}
use Rattle.gauge_check.proofs.check.check_direction.Goals as goal

pub side_part-requires : goal.side_part-requires
side_part-requires c =
    let some = c.requires.direction in
    two_places c.args.model.now c.args.place c.args.term.now some.meant c.args.direction.now some.is

pub side_part-requires-2 : goal.side_part-requires-2
side_part-requires-2 c =
    let some = c.requires.direction in
    two_places c.args.model.now c.args.place c.args.term.now some.meant c.args.direction.now some.is

pub check_parts-requires-clause-plain : goal.check_parts-requires-clause-plain
check_parts-requires-clause-plain c =
    let some = c.requires.direction in
    let ranked = rank_known c.args.model.now c.args.place c.args.term.now some.meant c.args.direction.now some.is in
    record {
      numbers = λ key. some.meant.numbers (0 ∷ key);
      has = part_numbers c.args.model.now c.args.place c.args.term.now some.meant c.args.direction.now some.is 0 c.in_ok-plain.plain (c.in_ok-plain.ensures.value _ ranked);
    }

pub check_parts-requires-clause-conjugate : goal.check_parts-requires-clause-conjugate
check_parts-requires-clause-conjugate c =
    let some = c.requires.direction in
    let ranked = rank_known c.args.model.now c.args.place c.args.term.now some.meant c.args.direction.now some.is in
    record {
      numbers = λ key. some.meant.numbers (1 ∷ key);
      has = part_numbers c.args.model.now c.args.place c.args.term.now some.meant c.args.direction.now some.is 1 c.in_ok-conjugate.conjugate (c.in_ok-conjugate.ensures.value _ ranked);
    }

pub returns : goal.returns
returns c meant is =
    let ranked = rank_known c.args.model.now c.args.place c.args.term.now meant c.args.direction.now is in
    let part = part_numbers c.args.model.now c.args.place c.args.term.now meant c.args.direction.now is in
    c.check_parts.ensures meant is.place_is is.kind_is (part 0 c.in_ok-plain.plain (c.in_ok-plain.ensures.value _ ranked)) (part 1 c.in_ok-conjugate.conjugate (c.in_ok-conjugate.ensures.value _ ranked))
