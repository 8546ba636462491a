use Rattle.std.proofs.Common.{◌≡◌, ◌∷◌, drop}
use Rattle.std.specs.List.{flat_map}
use Rattle.model_core.specs.Directions.{Direction}
use Rattle.model_core.specs.Generators.{generators}
use Rattle.model_core.specs.Invariance.{failures_under}
use Rattle.gauge_check.specs.Steps.{HasKeyNumbers}
use Rattle.gauge_check.proofs.check.check_generators.Given as goal

abbrev pub invariant-loop-action : goal.invariant-loop-action
invariant-loop-action l =
    (meant : Direction) → meant.place ≡ l.place → meant.kind ≡ l.term.kind → HasKeyNumbers l.model l.term.kind (λ key. meant.numbers (0 ∷ key)) l.plain → HasKeyNumbers l.model l.term.kind (λ key. meant.numbers (1 ∷ key)) l.conjugate
    → flat_map (failures_under l.model l.term meant) (drop l.action-index (generators l.model)) ≡ flat_map (failures_under l.model l.term meant) (generators l.model)
