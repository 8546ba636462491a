use Rattle.std.proofs.Common.{◌≡◌, ◌++◌, take}
use Rattle.std.specs.List.{flat_map}
use Rattle.derive_core.specs.Targets.{term_targets}
use Rattle.derive_core.proofs.targets.push_terms.Given as goal

abbrev pub invariant-loop-place : goal.invariant-loop-place
invariant-loop-place l = l.targets ≡ l.initial.targets ++ flat_map term_targets (take l.place l.model.terms)
