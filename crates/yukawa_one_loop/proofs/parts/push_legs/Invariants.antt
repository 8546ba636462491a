use Rattle.beta_poly.specs.Polynomial.{scale_poly}
use Rattle.su_reps.specs.Operators.{fraction}
use Rattle.beta_formulas.specs.YukawaBeta.{leg_line}
use Rattle.yukawa_one_loop.specs.Matrices.{AddsMatrix, over_first}
use Rattle.yukawa_one_loop.specs.Parts.{coordinate_at}
use Rattle.yukawa_one_loop.proofs.parts.push_legs.Given as goal

abbrev pub invariant-loop-b : goal.invariant-loop-b
invariant-loop-b l = AddsMatrix l.lines.model.now (λ j k. scale_poly (fraction 1 2) (over_first l.b l.lines.model.now (leg_line l.lines.model.now (coordinate_at l.lines.model.now l.a)) j k)) l.initial.values l.values
