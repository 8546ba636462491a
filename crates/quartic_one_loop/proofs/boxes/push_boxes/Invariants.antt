use Rattle.model_core.specs.Component.{fermion_components}
use Rattle.model_core.specs.GaugeTwoLoop.{negative}
use Rattle.quartic_one_loop.specs.Boxes.{box_from}
use Rattle.quartic_one_loop.specs.FourLegs.{AddsFour, first_of}
use Rattle.quartic_one_loop.proofs.boxes.push_boxes.Given as goal

abbrev pub invariant-loop-place : goal.invariant-loop-place
invariant-loop-place l = AddsFour l.model (λ a b c d. negative (first_of l.place (fermion_components l.model) (box_from l.model) a b c d)) l.initial.values l.values
