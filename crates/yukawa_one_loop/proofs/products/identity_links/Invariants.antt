use Rattle.std.proofs.Common.{◌≡◌}
use Rattle.yukawa_one_loop.specs.Matrices.{identity_links}
use Rattle.yukawa_one_loop.proofs.products.identity_links.Given as goal

abbrev pub invariant-loop-place : goal.invariant-loop-place
invariant-loop-place l = l.links ≡ identity_links l.place
