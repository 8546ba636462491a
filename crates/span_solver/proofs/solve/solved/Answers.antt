use Rattle.std.proofs.Common.{◌∙◌, sym, subst}
use Rattle.frac128.specs.Rational.{reciprocal}
use Rattle.sparse_tensor.specs.Tensor.{value}
use Rattle.span_solver.specs.Algebra.{polynomials}
use Rattle.span_solver.specs.Combine.{scaled}
use Rattle.span_solver.specs.Coordinate.{AreCoordinates}
use Rattle.span_solver.specs.Elimination.{pivots-are, HaveLength}
use Rattle.span_solver.proofs.Answered.{IsScanned, not_spanned_is, coordinates_are}
use Rattle.span_solver.proofs.Scans.{gaps-fit, system-of, steps-of, found-of}
use Rattle.span_solver.proofs.solve.solved.Goals as goal

pub selected-requires-clause-fit : goal.selected-requires-clause-fit
selected-requires-clause-fit c =
    gaps-fit (pivots-are c.args.count c.args.rows.now c.args.gaps.now c.requires.pivots)

pub steps-requires-clause-regular : goal.steps-requires-clause-regular
steps-requires-clause-regular c =
    let system = system-of (value c.args.tensor.now) c.args.count c.args.gaps.now c.args.keys.now c.args.rows.now c.as_slice.result.now c.requires.pivots c.requires.many c.requires.same (c.as_slice.ensures.value ∙ c.in_ok-system.ensures) in
    system.regular

pub steps-requires-clause-many : goal.steps-requires-clause-many
steps-requires-clause-many c =
    let system = system-of (value c.args.tensor.now) c.args.count c.args.gaps.now c.args.keys.now c.args.rows.now c.as_slice.result.now c.requires.pivots c.requires.many c.requires.same (c.as_slice.ensures.value ∙ c.in_ok-system.ensures) in
    system.many

pub first_failing-requires-clause-many : goal.first_failing-requires-clause-many
first_failing-requires-clause-many c =
    let system = system-of (value c.args.tensor.now) c.args.count c.args.gaps.now c.args.keys.now c.args.rows.now c.as_slice.result.now c.requires.pivots c.requires.many c.requires.same (c.as_slice.ensures.value ∙ c.in_ok-system.ensures) in
    let solved = steps-of c.args.count c.as_slice.result.now c.in_ok-solution.solution.number c.in_ok-solution.solution.multiples system c.in_ok-solution.ensures.value in
    subst (λ n. HaveLength n c.args.rows.now) (sym solved.many) c.requires.many

pub first_failing-requires-clause-other : goal.first_failing-requires-clause-other
first_failing-requires-clause-other c =
    let system = system-of (value c.args.tensor.now) c.args.count c.args.gaps.now c.args.keys.now c.args.rows.now c.as_slice.result.now c.requires.pivots c.requires.many c.requires.same (c.as_slice.ensures.value ∙ c.in_ok-system.ensures) in
    let solved = steps-of c.args.count c.as_slice.result.now c.in_ok-solution.solution.number c.in_ok-solution.solution.multiples system c.in_ok-solution.ensures.value in
    solved.other

pub coordinates_of-requires : goal.coordinates_of-requires
coordinates_of-requires c =
    let system = system-of (value c.args.tensor.now) c.args.count c.args.gaps.now c.args.keys.now c.args.rows.now c.as_slice.result.now c.requires.pivots c.requires.many c.requires.same (c.as_slice.ensures.value ∙ c.in_ok-system.ensures) in
    let solved = steps-of c.args.count c.as_slice.result.now c.in_ok-solution.solution.number c.in_ok-solution.solution.multiples system c.in_ok-solution.ensures.value in
    solved.other

pub returns-in-Some-clause-answer : goal.returns-in-Some-clause-answer
returns-in-Some-clause-answer c =
    let system = system-of (value c.args.tensor.now) c.args.count c.args.gaps.now c.args.keys.now c.args.rows.now c.as_slice.result.now c.requires.pivots c.requires.many c.requires.same (c.as_slice.ensures.value ∙ c.in_ok-system.ensures) in
    let solved = steps-of c.args.count c.as_slice.result.now c.in_ok-solution.solution.number c.in_ok-solution.solution.multiples system c.in_ok-solution.ensures.value in
    let found = found-of (value c.args.tensor.now) c.args.count c.args.gaps.now c.args.keys.now c.args.rows.now c.as_slice.result.now c.in_ok-solution.solution.number c.in_ok-solution.solution.multiples (c.as_slice.ensures.value ∙ c.in_ok-system.ensures) solved in
    let xs = scaled polynomials (reciprocal c.in_ok-solution.solution.number) c.in_ok-solution.solution.multiples in
    let scanned : IsScanned c.args.tensor.now c.args.count c.args.gaps.now c.args.keys.now c.args.rows.now xs c.in_ok-failing.failing c.first_stray-stray.result = record {
      pivots_are = c.requires.pivots;
      ascend = c.requires.ascend;
      ranks = c.requires.rank;
      found = found;
      fails = c.in_ok-failing.ensures.value;
      strays = c.first_stray-stray.ensures.value;
    } in
    λ ds b. not_spanned_is c.args.tensor.now c.args.count c.args.gaps.now c.args.keys.now c.args.rows.now xs ds b c.in_ok-failing.failing c.first_stray-stray.result scanned c.in-Some.key (rw c.in-Some.is at c.in_ok-key.ensures)

pub returns-clause-answer : goal.returns-clause-answer
returns-clause-answer c =
    let system = system-of (value c.args.tensor.now) c.args.count c.args.gaps.now c.args.keys.now c.args.rows.now c.as_slice.result.now c.requires.pivots c.requires.many c.requires.same (c.as_slice.ensures.value ∙ c.in_ok-system.ensures) in
    let solved = steps-of c.args.count c.as_slice.result.now c.in_ok-solution.solution.number c.in_ok-solution.solution.multiples system c.in_ok-solution.ensures.value in
    let found = found-of (value c.args.tensor.now) c.args.count c.args.gaps.now c.args.keys.now c.args.rows.now c.as_slice.result.now c.in_ok-solution.solution.number c.in_ok-solution.solution.multiples (c.as_slice.ensures.value ∙ c.in_ok-system.ensures) solved in
    let xs = scaled polynomials (reciprocal c.in_ok-solution.solution.number) c.in_ok-solution.solution.multiples in
    let scanned : IsScanned c.args.tensor.now c.args.count c.args.gaps.now c.args.keys.now c.args.rows.now xs c.in_ok-failing.failing c.first_stray-stray.result = record {
      pivots_are = c.requires.pivots;
      ascend = c.requires.ascend;
      ranks = c.requires.rank;
      found = found;
      fails = c.in_ok-failing.ensures.value;
      strays = c.first_stray-stray.ensures.value;
    } in
    λ ds b. subst (AreCoordinates ds (value c.args.tensor.now)) (sym c.in_ok-coordinates-in-None.ensures.value)
    (coordinates_are c.args.tensor.now c.args.count c.args.gaps.now c.args.keys.now c.args.rows.now xs ds b c.in_ok-failing.failing c.first_stray-stray.result scanned (rw c.in-None.is at c.in_ok-key.ensures))
