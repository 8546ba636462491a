use Rattle.std.proofs.Common.{◌≡◌, drop}
use Rattle.std.specs.List.{list_all}
use Rattle.model_core.specs.Flavour.{has_sizes}
use Rattle.model_core.proofs.flavour.monomials_have_sizes.Given as goal

abbrev pub invariant-loop-monomial : goal.invariant-loop-monomial
invariant-loop-monomial l =
    list_all (has_sizes l.model l.rows l.columns) (drop l.monomial-index l.monomials)
    ≡ list_all (has_sizes l.model l.rows l.columns) l.monomials
