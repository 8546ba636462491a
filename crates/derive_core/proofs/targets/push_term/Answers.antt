use Rattle.std.proofs.Common.{◌+◌, ◌++◌, ◌∙◌, sym, ap, map}
use Rattle.derive_core.specs.Targets.{cell_target}
use Rattle.derive_core.proofs.TargetLists.{rows_from, term_step, term_end}
use Rattle.derive_core.proofs.targets.push_term.Goals as goal

pub loop-row-preserved : goal.loop-row-preserved
loop-row-preserved c =
    let term = c.args.term.now in
    let row = c.loop-row.row in
    ap (λ ts. ts ++ map (cell_target term) (rows_from term (row + 1))) c.in_ok-push_row.ensures ∙ term_step term row c.loop-row.targets c.loop-row-test.true ∙ c.loop-row.invariant

pub returns : goal.returns
returns c = sym (term_end c.args.term.now c.loop-row.row c.loop-row.targets c.loop-row-test.false) ∙ c.loop-row.invariant
