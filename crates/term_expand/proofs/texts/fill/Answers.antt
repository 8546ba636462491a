use Rattle.std.proofs.Common.{arith, ◌<◌, length}
use Rattle.std.proofs.lemmas.Grind.{common_steps}
use Rattle.term_expand.proofs.Keys.{fill_smaller, fill_step}
use Rattle.term_expand.proofs.texts.fill.Goals as goal

pub loop-key-smaller : goal.loop-key-smaller
loop-key-smaller c =
    let inside : length c.loop-key.key < c.args.legs = grind (arith, common_steps) in
    fill_smaller c.loop-key.key c.push.new.self c.args.legs c.args.dummy c.in_ok-push.ensures.ok inside

pub loop-key-preserved : goal.loop-key-preserved
loop-key-preserved c =
    let inside : length c.loop-key.key < c.args.legs = grind (arith, common_steps) in
    fill_step c.loop-key.key c.push.new.self _ c.args.legs c.args.dummy c.in_ok-push.ensures.ok inside c.loop-key.invariant
