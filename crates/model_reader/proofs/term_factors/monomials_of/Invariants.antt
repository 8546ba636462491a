use Rattle.std.proofs.Common.{◌≡◌, ◌++◌, true, map, drop}
use Rattle.std.specs.List.{flat_map, list_all}
use Rattle.model_core.specs.TermMeaning.{monomial_of}
use Rattle.model_core.specs.TermWalk.{monomial_places}
use Rattle.model_reader.specs.Parsing.{has_labels_within}
use Rattle.model_reader.specs.Tables.{texts}
use Rattle.model_reader.proofs.term_factors.monomials_of.Given as goal

-- the monomials so far, and those that are left, whose bad places are all that there are
abbrev pub invariant-loop-written : goal.invariant-loop-written
invariant-loop-written l =
    (list_all (has_labels_within 4096) (drop l.written-index l.sum) ≡ true)
    × (map (monomial_of l.model (texts l.flavour) l.text) l.sum ≡ l.monomials ++ map (monomial_of l.model (texts l.flavour) l.text) (drop l.written-index l.sum))
    × (flat_map (monomial_places l.model (texts l.flavour) l.text l.place) l.sum
    ≡ flat_map (monomial_places l.model (texts l.flavour) l.text l.place) (drop l.written-index l.sum))
