use Rattle.std.proofs.Common.{arith}
use Rattle.derive_core.proofs.FoundLines.{found_all}
use Rattle.derive_core.proofs.coupling_lines.push_couplings.Goals as goal

pub returns : goal.returns
returns c model all =
    found_all c.args.told.now c.args.directions.now c.loop-place.place c.loop-place.lines c.args.lines.now model
    (omega (arith, c.loop-place-test.false)) c.loop-place.invariant all
