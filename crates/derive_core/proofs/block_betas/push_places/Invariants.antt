use Rattle.std.proofs.Common.{◌≡◌, ◌++◌, take}
use Rattle.derive_core.proofs.block_betas.push_places.Given as goal

abbrev pub invariant-loop-place : goal.invariant-loop-place
invariant-loop-place l = l.key ≡ l.initial.key ++ take l.place-index l.places
