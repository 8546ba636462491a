use Rattle.std.proofs.Common.{◌≡◌, take, map}
use Rattle.derive_core.specs.Lines.{token_leg}
use Rattle.derive_core.proofs.block_lines.block_legs.Given as goal

abbrev pub invariant-loop-token : goal.invariant-loop-token
invariant-loop-token l = l.legs ≡ map (token_leg l.model) (take l.token-index l.name)
