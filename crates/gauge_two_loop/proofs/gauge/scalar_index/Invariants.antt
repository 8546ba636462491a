use Rattle.std.proofs.Common.{◌≡◌, ◌≤◌, ◌*◌, ◌^◌, take}
use Rattle.model_core.specs.Multiplet.{scalar_copies, doubled_index_sum}
use Rattle.gauge_two_loop.proofs.gauge.scalar_index.Given as goal

abbrev pub invariant-loop-field : goal.invariant-loop-field
invariant-loop-field l = record {
  so_far : l.sum ≡ doubled_index_sum scalar_copies l.groups l.place l.group (take l.field-index l.fields);
  bound : l.sum ≤ l.field-index * 2 ^ 51;
}
