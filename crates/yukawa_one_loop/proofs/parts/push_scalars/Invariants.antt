use Rattle.yukawa_one_loop.proofs.PartSums.{scalar_line}
use Rattle.yukawa_one_loop.specs.Matrices.{AddsMatrix, over_first}
use Rattle.yukawa_one_loop.specs.Parts.{coordinate_at}
use Rattle.yukawa_one_loop.proofs.parts.push_scalars.Given as goal

abbrev pub invariant-loop-b : goal.invariant-loop-b
invariant-loop-b l = AddsMatrix l.lines.model.now (over_first l.b l.lines.model.now (scalar_line l.lines.model.now (coordinate_at l.lines.model.now l.a))) l.initial.values l.values
