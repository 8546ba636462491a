use Rattle.std.proofs.Common.{◌≡◌, ◌≤◌, ◌*◌, ◌^◌, take}
use Rattle.model_core.specs.Multiplet.{fermion_copies, doubled_index_sum}
use Rattle.model_core.proofs.multiplets.fermion_index.Given as goal

abbrev pub invariant-loop-field : goal.invariant-loop-field
invariant-loop-field l = record {
  so_far : l.sum ≡ doubled_index_sum fermion_copies l.groups l.place l.group (take l.field-index l.fields);
  bound : l.sum ≤ l.field-index * 2 ^ 50;
}
