-- The lines of directions as they are found, which are those of the directions that are meant, and the lines of blocks by
-- their outcomes.
use Rattle.std.specs.Prelude.{Bool, not, if◌then◌else◌, List, [], ◌∷◌, ◌++◌, length}
use Rattle.span_solver.specs.BlockDirections.{block_directions}
use Rattle.term_expand.specs.declared.token.Token.{Token}
use Rattle.term_expand.specs.declared.directions.Direction.{Direction as Found}
use Rattle.model_core.specs.declared.model.Model.{Model}
use Rattle.derive_core.specs.Lines.{outcome_in, coordinate_line, block_legs, key_legs}
use Rattle.derive_core.specs.declared.betas.Line.{Line}
use Rattle.derive_core.specs.declared.betas.Line.TheVariants.{NotSpanned, Generated}
use Rattle.derive_core.specs.declared.outcomes.Outcome.{Outcome}
use Rattle.derive_core.specs.declared.outcomes.Outcome.TheVariants.{Spanned, Unspanned}
use Rattle.derive_core.specs.declared.outcomes.Told.{Told}

-- a plain direction
abbrev pub found_has_line : Found → Bool
found_has_line found = not found.symbol.conj

-- the line of a direction behind earlier ones
abbrev pub found_line : List Told → List Found → Found → List Line
found_line told earlier found =
    if found_has_line found then coordinate_line found.symbol.id (length (block_directions earlier found.block)) (outcome_in found.block told) else []

-- those of directions behind earlier ones
abbrev pub found_lines_after : List Told → List Found → List Found → List Line
found_lines_after told earlier [] = []
found_lines_after told earlier (found ∷ others) = found_line told earlier found ++ found_lines_after told (earlier ++ found ∷ []) others

-- ---- blocks without coordinates

-- the line of an open block, where it has no coordinates
abbrev pub open_of : Model → List Token → Outcome → List Line
open_of model name (Unspanned key value) = NotSpanned (block_legs model name) (key_legs model key) ∷ []
open_of model name (Spanned coordinates) = []

-- that of a generated block
abbrev pub generated_of : Model → List Token → Outcome → List Line
generated_of model name (Unspanned key value) = Generated (block_legs model name) (key_legs model key) value ∷ []
generated_of model name (Spanned coordinates) = []
