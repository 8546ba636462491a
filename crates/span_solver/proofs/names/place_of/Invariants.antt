use Rattle.std.proofs.Common.{◌≡◌, ◌≤◌, length, take}
use Rattle.span_solver.specs.BlockDirections.{block_directions}
use Rattle.span_solver.proofs.names.place_of.Given as goal

abbrev pub invariant-loop-direction : goal.invariant-loop-direction
invariant-loop-direction l = record {
  counted : l.place ≡ l.direction-index;
  seen : l.seen ≡ length (block_directions (take l.direction-index l.directions) l.name);
  before : l.seen ≤ l.number;
}
