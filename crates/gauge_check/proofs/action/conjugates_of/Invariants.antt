use Rattle.std.proofs.Common.{◌≡◌, map, take}
use Rattle.gauge_check.specs.Actions.{conjugate_of}
use Rattle.gauge_check.proofs.action.conjugates_of.Given as goal

-- those of the components so far
abbrev pub invariant-loop-component : goal.invariant-loop-component
invariant-loop-component l = l.found ≡ map conjugate_of (take l.component-index l.components)
