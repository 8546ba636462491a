use Rattle.std.proofs.Common.{◌<◌, ◌∙◌, sym, ap, ap₂, arith, length, subst}
use Rattle.frac128.specs.Rational.{reciprocal}
use Rattle.sparse_tensor.specs.Tensor.{value, rank_of}
use Rattle.span_solver.specs.Algebra.{polynomials}
use Rattle.span_solver.specs.Combine.{scaled}
use Rattle.span_solver.specs.Scanned.{valued}
use Rattle.span_solver.specs.Systems.{SolvesRow}
use Rattle.span_solver.proofs.Scans.{solves-more, fails-at, valued-at, solves-all, length-valued, rank-there, length-there}
use Rattle.span_solver.proofs.scan.first_failing.Goals as goal

pub holds-requires-clause-rank : goal.holds-requires-clause-rank
holds-requires-clause-rank c =
    let many : c.loop-i.i < length c.args.keys.now = omega (arith, c.requires.same, c.loop-i-test.true) in
    ap length c.as_slice.ensures ∙ rank-there (rank_of c.args.tensor.now) c.args.keys.now c.loop-i.i c.index-keys-i.result c.requires.rank many c.index-keys-i.is

pub holds-requires-clause-many : goal.holds-requires-clause-many
holds-requires-clause-many c =
    ap length c.as_slice-in-loop-i.ensures ∙ length-there (length c.args.solution.now.multiples) c.args.rows.now c.loop-i.i c.index-rows-i.result c.requires.many c.loop-i-test.true c.index-rows-i.is

pub returns-then-not-branch-clause-value : goal.returns-then-not-branch-clause-value
returns-then-not-branch-clause-value c =
    let rows = valued (value c.args.tensor.now) c.args.keys.now c.args.rows.now in
    let xs = scaled polynomials (reciprocal c.args.solution.now.number) c.args.solution.now.multiples in
    let many : c.loop-i.i < length rows = omega (arith, length-valued (value c.args.tensor.now) c.args.keys.now c.args.rows.now c.requires.same, c.loop-i-test.true) in
    let same = ap₂ (λ e k. SolvesRow polynomials xs (e, value c.args.tensor.now k)) c.as_slice-in-loop-i.ensures c.as_slice.ensures in
    fails-at xs rows c.loop-i.i (c.index-rows-i.result, value c.args.tensor.now c.index-keys-i.result) many
    (valued-at (value c.args.tensor.now) c.args.keys.now c.args.rows.now c.loop-i.i c.index-keys-i.result c.index-rows-i.result c.requires.same c.loop-i-test.true c.index-keys-i.is c.index-rows-i.is)
    c.loop-i.invariant (λ s. let t = c.in_ok-holds.ensures.value.1 (subst (λ X. X) (sym same) s) in absurd (cc (t, c.if-not-branch.true)))

pub loop-i-preserved : goal.loop-i-preserved
loop-i-preserved c =
    let rows = valued (value c.args.tensor.now) c.args.keys.now c.args.rows.now in
    let xs = scaled polynomials (reciprocal c.args.solution.now.number) c.args.solution.now.multiples in
    let many : c.loop-i.i < length rows = omega (arith, length-valued (value c.args.tensor.now) c.args.keys.now c.args.rows.now c.requires.same, c.loop-i-test.true) in
    let same = ap₂ (λ e k. SolvesRow polynomials xs (e, value c.args.tensor.now k)) c.as_slice-in-loop-i.ensures c.as_slice.ensures in
    solves-more xs rows c.loop-i.i (c.index-rows-i.result, value c.args.tensor.now c.index-keys-i.result) many
    (valued-at (value c.args.tensor.now) c.args.keys.now c.args.rows.now c.loop-i.i c.index-keys-i.result c.index-rows-i.result c.requires.same c.loop-i-test.true c.index-keys-i.is c.index-rows-i.is)
    c.loop-i.invariant (subst (λ X. X) same (c.in_ok-holds.ensures.value.0 c.if-not-branch.false))

pub returns-clause-value : goal.returns-clause-value
returns-clause-value c =
    solves-all (value c.args.tensor.now) (scaled polynomials (reciprocal c.args.solution.now.number) c.args.solution.now.multiples) c.args.keys.now c.args.rows.now c.loop-i.i c.requires.same c.loop-i-test.false c.loop-i.invariant
