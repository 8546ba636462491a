use Rattle.std.proofs.Common.{◌≡◌, ◌≤◌, ◌*◌, take}
use Rattle.std.specs.Prelude.{sum_by}
use Rattle.model_core.specs.Content.{directions_in}
use Rattle.model_core.proofs.block.block_directions.Given as goal

abbrev pub invariant-loop-other : goal.invariant-loop-other
invariant-loop-other l = record {
  counted : l.count ≡ sum_by (directions_in l.block) (take l.other-index l.blocks);
  bound : l.count ≤ 2 * l.other-index;
}
