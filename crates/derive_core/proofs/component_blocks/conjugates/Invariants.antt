use Rattle.std.proofs.Common.{◌≡◌, ◌++◌, map, drop}
use Rattle.model_core.specs.Content.{conjugate_token}
use Rattle.derive_core.proofs.component_blocks.conjugates.Given as goal

abbrev pub invariant-loop-token : goal.invariant-loop-token
invariant-loop-token l = l.found ++ map (conjugate_token l.model) (drop l.token-index l.tokens) ≡ map (conjugate_token l.model) l.tokens
