use Rattle.std.proofs.Common.{◌≡◌, ◌++◌, drop, map}
use Rattle.term_expand.specs.Texts.{monomial_values, value_of_assignment}
use Rattle.term_expand.proofs.texts.push_monomial.Given as goal

-- the values so far, and those of the assignments that are left
abbrev pub invariant-loop-given : goal.invariant-loop-given
invariant-loop-given l =
    l.fn.values ++ monomial_values l.model l.term l.row l.column l.monomial ≡ l.values ++ map (value_of_assignment l.model l.term l.monomial) (drop l.given-index l.given-items)
