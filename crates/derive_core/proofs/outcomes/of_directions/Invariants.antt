use Rattle.derive_core.specs.Works.{AreDirectionsTold}
use Rattle.derive_core.proofs.outcomes.of_directions.Given as goal

abbrev pub invariant-loop-place : goal.invariant-loop-place
invariant-loop-place g l = AreDirectionsTold l.accepted.model l.place l.told
