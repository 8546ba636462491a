use Rattle.std.proofs.Common.{◌≡◌, ◌++◌, ◌∷◌, [], take}
use Rattle.beta_poly.specs.Polynomial.{all_products}
use Rattle.beta_poly.proofs.products.push_products.Given as goal

abbrev pub invariant-loop-b : goal.invariant-loop-b
invariant-loop-b l = l.out.items ≡ l.initial.out.items ++ all_products (l.a ∷ []) (take l.b-index l.terms)
