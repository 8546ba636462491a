use Rattle.std.proofs.Common.{◌≡◌, ◌+◌, length, take}
use Rattle.std.specs.List.{flat_map}
use Rattle.model_core.specs.Scalar.{coordinates_of}
use Rattle.model_core.proofs.component.scalar_leg.Given as goal

abbrev pub invariant-loop-field : goal.invariant-loop-field
invariant-loop-field l =
    l.place ≡ length (flat_map (coordinates_of l.groups) (take l.field-index l.field-items)) + l.rest
