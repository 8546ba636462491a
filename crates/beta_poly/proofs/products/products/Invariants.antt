use Rattle.std.proofs.Common.{◌≡◌, take}
use Rattle.beta_poly.specs.Polynomial.{all_products}
use Rattle.beta_poly.proofs.products.products.Given as goal

abbrev pub invariant-loop-term : goal.invariant-loop-term
invariant-loop-term l = l.out.items ≡ all_products (take l.term-index l.a) l.b
