use Rattle.std.proofs.Common.{◌≡◌, take, map}
use Rattle.derive_core.specs.Targets.{gauge_target}
use Rattle.derive_core.proofs.targets.gauge_targets.Given as goal

abbrev pub invariant-loop-group : goal.invariant-loop-group
invariant-loop-group l = l.targets ≡ map gauge_target (take l.group-index l.groups)
