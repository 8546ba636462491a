use Rattle.std.proofs.Common.{◌≡◌, drop}
use Rattle.std.specs.List.{flat_map}
use Rattle.model_core.specs.TermWalk.{mark_places}
use Rattle.model_reader.proofs.term_words.monomial_marks.Given as goal

-- the bad places are those of the factors that are left
abbrev pub invariant-loop-factor : goal.invariant-loop-factor
invariant-loop-factor l =
    flat_map (mark_places l.model l.text l.place) l.factors ≡ flat_map (mark_places l.model l.text l.place) (drop l.factor-index l.factors)
