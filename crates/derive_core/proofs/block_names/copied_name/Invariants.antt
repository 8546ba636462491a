use Rattle.std.proofs.Common.{◌≡◌, take}
use Rattle.derive_core.proofs.block_names.copied_name.Given as goal

abbrev pub invariant-loop-token : goal.invariant-loop-token
invariant-loop-token l = l.copy ≡ take l.token-index l.name
