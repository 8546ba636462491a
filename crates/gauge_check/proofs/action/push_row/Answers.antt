use Rattle.std.proofs.Common.{arith}
use Rattle.gauge_check.proofs.ActionRuns.{group_small, row_more}
use Rattle.gauge_check.proofs.action.push_row.Goals as goal

pub overflow_cast-generator : goal.overflow_cast-generator
overflow_cast-generator c =
    let small = group_small c.args.model.now c.args.place c.args.group.now c.requires.valid c.requires.group in
    omega (arith, small, c.loop-j-test.true)

pub overflow_add-generator : goal.overflow_add-generator
overflow_add-generator c =
    let small = group_small c.args.model.now c.args.place c.args.group.now c.requires.valid c.requires.group in
    omega (arith, small, c.loop-j-test.true)

pub loop-j-preserved : goal.loop-j-preserved
loop-j-preserved c =
    row_more c.args.model.now c.args.place c.args.i c.loop-j.j c.args.actions.now c.loop-j.actions c.push_action.new.actions c.loop-j.invariant c.in_ok-push_action.ensures
