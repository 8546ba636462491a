use Rattle.derive_core.specs.Works.{AreEntriesTold}
use Rattle.derive_core.proofs.outcomes.with_entries.Given as goal

abbrev pub invariant-loop-place : goal.invariant-loop-place
invariant-loop-place g l = AreEntriesTold l.accepted.model l.side l.entries l.place l.fn.before l.told
