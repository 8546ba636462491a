use Rattle.std.proofs.Common.{◌≡◌, ◌≤◌, length, take}
use Rattle.std.specs.List.{flat_map}
use Rattle.model_core.specs.Scalar.{coordinates_of}
use Rattle.model_core.proofs.component.partner.Given as goal

abbrev pub invariant-loop-field : goal.invariant-loop-field
invariant-loop-field l = record {
  counted : l.before ≡ length (flat_map (coordinates_of l.groups) (take l.field-index l.field-items));
  behind : l.before ≤ l.place;
}
