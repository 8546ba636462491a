use Rattle.std.proofs.Common.{◌∙◌}
use Rattle.span_solver.proofs.Firsts.{have_pivots-requires}
use Rattle.span_solver.proofs.prefixes.have_pivots.Goals as goal

pub pivots-requires : goal.pivots-requires
pivots-requires c = have_pivots-requires c.args.n c.args.count c.args.rows.now c.as_slice.result.now c.requires.few c.requires.many (c.as_slice.ensures.value ∙ c.in_ok-front.ensures)
