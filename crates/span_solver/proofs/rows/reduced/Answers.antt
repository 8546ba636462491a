use Rattle.std.proofs.Common.{◌∙◌, ap, arith, length, refl}
use Rattle.span_solver.specs.Combine.{length-mixed}
use Rattle.span_solver.proofs.Steps.{reduced-is}
use Rattle.span_solver.proofs.rows.reduced.Goals as goal

pub remove-requires : goal.remove-requires
remove-requires c =
    omega (arith, ap length c.in_ok-items.ensures.value, length-mixed c.index-pivot-j.result c.index-row-j.result (length c.args.pivot.now) c.args.row.now c.args.pivot.now c.requires.same refl)

pub returns-clause-value : goal.returns-clause-value
returns-clause-value c =
    c.from_vec.ensures ∙ c.remove.ensures.items
    ∙ reduced-is c.args.pivot.now c.args.row.now c.in_ok-items.items.items c.args.j c.index-pivot-j.result c.index-row-j.result c.requires.within c.requires.same c.index-pivot-j.is c.index-row-j.is c.in_ok-items.ensures.value
