use Rattle.yukawa_one_loop.specs.Matrices.{AddsMatrix}
use Rattle.yukawa_one_loop.specs.Parts.{coordinate_at, first_groups}
use Rattle.yukawa_one_loop.proofs.parts.push_gauge.Given as goal

abbrev pub invariant-loop-place : goal.invariant-loop-place
invariant-loop-place l = AddsMatrix l.lines.model.now (first_groups l.place l.lines.model.now (coordinate_at l.lines.model.now l.a)) l.initial.values l.values
