use Rattle.std.proofs.Common.{◌≡◌, drop}
use Rattle.std.specs.List.{list_all}
use Rattle.model_core.specs.Flavour.{monomial_has_flavour}
use Rattle.model_core.proofs.flavour.monomials_have_flavour.Given as goal

abbrev pub invariant-loop-monomial : goal.invariant-loop-monomial
invariant-loop-monomial l =
    list_all (monomial_has_flavour l.shape) (drop l.monomial-index l.monomials) ≡ list_all (monomial_has_flavour l.shape) l.monomials
