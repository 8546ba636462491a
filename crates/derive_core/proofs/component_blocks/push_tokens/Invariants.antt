use Rattle.std.proofs.Common.{◌≡◌, ◌++◌, drop}
use Rattle.model_core.specs.BlockSide.{tokens_at}
use Rattle.derive_core.proofs.component_blocks.push_tokens.Given as goal

abbrev pub invariant-loop-place : goal.invariant-loop-place
invariant-loop-place l = l.tokens ++ tokens_at l.kind l.components (drop l.place-index l.places) ≡ l.initial.tokens ++ tokens_at l.kind l.components l.places
