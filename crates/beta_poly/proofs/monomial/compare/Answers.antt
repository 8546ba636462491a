use Rattle.std.proofs.Common.{◌≤◌, length, arith}
use Rattle.beta_poly.proofs.Views.{longer_first, shorter_later}
use Rattle.beta_poly.proofs.monomial.compare.Goals as goal
use Rattle.beta_poly.proofs.monomial.compare.Goals.{then-loop-i-test+else-i-b, else-loop-i-test}

pub returns-then-i-a : goal.returns-then-i-a
returns-then-i-a c =
    let used : length c.args.b.now ≤ c.loop-i.i = elim c.loop-i-test.branch [ then-loop-i-test+else-i-b w ↦ omega arith | else-loop-i-test w ↦ omega arith ] in
    let e = longer_first c.args.a.now c.args.b.now c.loop-i.i (omega arith) used in
    cc

pub returns-then-i-b-2 : goal.returns-then-i-b-2
returns-then-i-b-2 c =
    let e = shorter_later c.args.a.now c.args.b.now c.loop-i.i (omega arith) (omega arith) in
    cc
