use Rattle.std.proofs.Common.{◌≡◌, drop}
use Rattle.std.specs.List.{flat_map}
use Rattle.model_core.specs.TermWalk.{monomial_mark_places}
use Rattle.model_reader.proofs.term_words.checked_marks.Given as goal

-- the bad places are those of the monomials that are left
abbrev pub invariant-loop-monomial : goal.invariant-loop-monomial
invariant-loop-monomial l =
    flat_map (monomial_mark_places l.model l.text l.place) l.sum ≡ flat_map (monomial_mark_places l.model l.text l.place) (drop l.monomial-index l.sum)
