use Rattle.std.proofs.Common.{◌≡◌, ◌++◌, drop}
use Rattle.std.specs.List.{flat_map}
use Rattle.term_expand.specs.Texts.{monomial_values, text_values}
use Rattle.term_expand.proofs.texts.push_text.Given as goal

-- the values so far, and those of the monomials that are left
abbrev pub invariant-loop-monomial : goal.invariant-loop-monomial
invariant-loop-monomial l =
    l.fn.values ++ text_values l.model l.term l.row l.column ≡ l.values ++ flat_map (monomial_values l.model l.term l.row l.column) (drop l.monomial-index l.term.monomials)
