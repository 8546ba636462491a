use Rattle.std.proofs.Common.{◌≡◌, List, drop}
use Rattle.std.specs.List.{flat_map}
use Rattle.model_core.specs.Directions.{CouplingEntry, entry_directions}
use Rattle.model_core.specs.Invariance.{direction_failures}
use Rattle.gauge_check.specs.Steps.{AreDirectionsOf}
use Rattle.gauge_check.proofs.check.check_directions.Given as goal

abbrev pub invariant-loop-direction : goal.invariant-loop-direction
invariant-loop-direction l =
    (es : List CouplingEntry) → AreDirectionsOf l.model l.place l.term es l.directions
    → flat_map (direction_failures l.model l.term) (drop l.direction-index (flat_map (entry_directions l.model) es)) ≡ flat_map (direction_failures l.model l.term) (flat_map (entry_directions l.model) es)
