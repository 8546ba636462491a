use Rattle.std.proofs.Common.{◌≡◌, ◌++◌, map, drop}
use Rattle.model_core.specs.Content.{token_at}
use Rattle.derive_core.proofs.component_blocks.sorted.Given as goal

abbrev pub invariant-loop-token : goal.invariant-loop-token
invariant-loop-token l = map (token_at 1 1) l.used ++ drop l.token-index l.tokens ≡ l.tokens
