use Rattle.std.proofs.Common.{◌≡◌, ◌∷◌, drop}
use Rattle.std.specs.List.{flat_map}
use Rattle.model_core.specs.Directions.{Direction}
use Rattle.model_core.specs.Generators.{generators}
use Rattle.gauge_check.specs.Steps.{HasKeyNumbers, near_failures}
use Rattle.gauge_check.proofs.check.are_invariant.Given as goal

abbrev pub invariant-loop-action : goal.invariant-loop-action
invariant-loop-action l =
    (meant : Direction) → meant.place ≡ l.place → meant.kind ≡ l.term.kind → HasKeyNumbers l.model l.term.kind (λ key. meant.numbers (0 ∷ key)) l.plain → HasKeyNumbers l.model l.term.kind (λ key. meant.numbers (1 ∷ key)) l.conjugate
    → flat_map (near_failures l.model l.term meant) (drop l.action-index (generators l.model)) ≡ flat_map (near_failures l.model l.term meant) (generators l.model)
