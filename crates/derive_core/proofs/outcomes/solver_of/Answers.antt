use Rattle.std.proofs.Common.{◌≡◌, false, Some, sym, ap, ◌∙◌}
use Rattle.std.proofs.lemmas.Option.{slice_get-get_or}
use Rattle.span_solver.specs.BlockDirections.{same_name}
use Rattle.derive_core.proofs.NameOrder.{name_same}
use Rattle.derive_core.proofs.Solvers.{not_yet}
use Rattle.derive_core.proofs.outcomes.solver_of.Goals as goal

pub returns-then-same_name : goal.returns-then-same_name
returns-then-same_name c =
    let name = c.args.name.now in
    record {
      named = sym c.as_slice.ensures ∙ name_same c.as_slice.result.now name (sym c.same_name.ensures ∙ c.if-same_name.true);
      place = c.loop-solver.solver-index;
      there = slice_get-get_or c.args.solvers.now c.loop-solver.solver-index c.solver-item.result c.loop-solver-test.true ∙ ap Some (sym c.solver-item.is);
    }

pub loop-solver-preserved : goal.loop-solver-preserved
loop-solver-preserved c =
    let name = c.args.name.now in
    let other : same_name c.solver-item.result.name name ≡ false = ap (λ n. same_name n name) (sym c.as_slice.ensures) ∙ sym c.same_name.ensures ∙ c.if-same_name.false in
    not_yet name c.args.solvers.now c.loop-solver.solver-index c.solver-item.result c.loop-solver-test.true c.solver-item.is c.loop-solver.invariant other
