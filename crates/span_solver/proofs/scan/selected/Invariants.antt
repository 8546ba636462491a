use Rattle.sparse_tensor.specs.Tensor.{value}
use Rattle.span_solver.specs.Scanned.{valued}
use Rattle.span_solver.proofs.Scans.{AreSelected}
use Rattle.span_solver.proofs.scan.selected.Given as goal

abbrev pub invariant-loop-gap : goal.invariant-loop-gap
invariant-loop-gap l = AreSelected l.gaps (valued (value l.tensor) l.keys l.rows) l.out.items l.gap-index l.place
