use Rattle.std.proofs.Common.{◌≡◌, ◌≤◌, ◌*◌, length, take}
use Rattle.std.specs.List.{flat_map}
use Rattle.model_core.specs.Scalar.{coordinates_of}
use Rattle.model_core.proofs.component.coordinate_count.Given as goal

abbrev pub invariant-loop-field : goal.invariant-loop-field
invariant-loop-field l = record {
  counted : l.count ≡ length (flat_map (coordinates_of l.groups) (take l.field-index l.fields));
  bound : l.count ≤ l.field-index * 20155392;
}
