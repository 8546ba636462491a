use Rattle.std.proofs.Common.{arith}
use Rattle.gauge_check.proofs.ActionRuns.{group_small, rows_more}
use Rattle.gauge_check.proofs.action.push_special.Goals as goal

pub overflow_cast-i : goal.overflow_cast-i
overflow_cast-i c =
    let small = group_small c.args.model.now c.args.place c.args.group.now c.requires.valid c.requires.group in
    omega (arith, small, c.loop-i-test.true)

pub overflow_add-i : goal.overflow_add-i
overflow_add-i c =
    let small = group_small c.args.model.now c.args.place c.args.group.now c.requires.valid c.requires.group in
    omega (arith, small, c.loop-i-test.true)

pub loop-i-preserved : goal.loop-i-preserved
loop-i-preserved c =
    rows_more c.args.model.now c.args.place c.args.group.now.n c.loop-i.i c.args.actions.now c.loop-i.actions c.push_row.new.actions c.loop-i.invariant c.in_ok-push_row.ensures
