use Rattle.std.proofs.Common.{◌∷◌}
use Rattle.gauge_check.proofs.Changes.{has_change, changes}
use Rattle.gauge_check.proofs.check.check_side.Goals as goal

pub check_change-requires-clause-numbers : goal.check_change-requires-clause-numbers
check_change-requires-clause-numbers c =
    let some = c.requires.part in
    record {
      numbers = _;
      has = has_change c.args.model.now c.args.action.now.generator c.args.action.now c.args.term.now.kind c.args.side some.numbers c.args.part.now c.in_ok-changed.changed c.requires.action some.has c.in_ok-changed.ensures.value;
    }

pub returns : goal.returns
returns c meant places kinds has =
    let given = has_change c.args.model.now c.args.action.now.generator c.args.action.now c.args.term.now.kind c.args.side (λ key. meant.numbers (c.args.side ∷ key)) c.args.part.now c.in_ok-changed.changed c.requires.action has c.in_ok-changed.ensures.value in
    c.check_change.ensures meant places kinds (changes c.args.model.now c.args.action.now.generator c.args.term.now.kind c.args.side meant c.in_ok-changed.changed kinds given)
