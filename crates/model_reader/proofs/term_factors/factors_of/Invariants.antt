use Rattle.std.proofs.Common.{◌≡◌, ◌++◌, map, drop}
use Rattle.std.specs.List.{flat_map}
use Rattle.model_core.specs.TermMeaning.{factor_of}
use Rattle.model_core.specs.TermWalk.{factor_places}
use Rattle.model_reader.specs.Tables.{texts}
use Rattle.model_reader.proofs.term_factors.factors_of.Given as goal

-- the factors so far, and those that are left, whose bad places are all that there are
abbrev pub invariant-loop-factor : goal.invariant-loop-factor
invariant-loop-factor l =
    (map (factor_of l.model (texts l.flavour) l.text l.labels) l.written
    ≡ l.factors ++ map (factor_of l.model (texts l.flavour) l.text l.labels) (drop l.factor-index l.written))
    × (flat_map (factor_places l.model (texts l.flavour) l.text l.place) l.written
    ≡ flat_map (factor_places l.model (texts l.flavour) l.text l.place) (drop l.factor-index l.written))
