use Rattle.std.proofs.Common.{◌∙◌, sym}
use Rattle.span_solver.proofs.Firsts.{first_dependent-at, independent-more}
use Rattle.span_solver.proofs.prefixes.first_dependent.Goals as goal

pub returns-then-not-branch-clause-value : goal.returns-then-not-branch-clause-value
returns-then-not-branch-clause-value c =
    (c.loop-n-test.true, first_dependent-at c.loop-n.n c.args.count c.args.rows.now c.requires c.loop-n-test.true c.loop-n.invariant.independent c.loop-n.invariant.found (sym c.in_ok-have_pivots.ensures.value ∙ c.if-not-branch.true))

pub loop-n-preserved : goal.loop-n-preserved
loop-n-preserved c = record {
  independent = independent-more c.loop-n.n c.args.count c.args.rows.now c.requires c.loop-n-test.true c.loop-n.invariant.independent (sym c.in_ok-have_pivots.ensures.value ∙ c.if-not-branch.false);
  found = sym c.in_ok-have_pivots.ensures.value ∙ c.if-not-branch.false;
}
