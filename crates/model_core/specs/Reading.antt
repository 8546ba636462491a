-- What the bytes of a file stand for: a model, or the first bad place.
use Rattle.std.specs.Prelude.{ℕ, List, [], ◌∷◌, map, Option, Some, None, Result, Ok, Err, codes}
use Rattle.toml.specs.Data.{Members}
use Rattle.model_core.specs.declared.model.Model.{Model}
use Rattle.model_core.specs.declared.fault.ReadFault.{ReadFault}
use Rattle.model_core.specs.declared.fault.ReadKind.TheVariants.{NotToml}
use Rattle.model_core.specs.declared.fault.Part.TheVariants.{File}
use Rattle.model_core.specs.Fault.{fault}
use Rattle.model_core.specs.Document.{document, tables_at, parts_of}
use Rattle.model_core.specs.TermMeaning.{term_of}
use Rattle.model_core.specs.Walk.{bad_places}

-- the model that a document names: its parts, and the terms that speak of these
unfoldable pub model_of : Members → Model
model_of members = record (parts_of members) { terms = map (term_of (parts_of members)) (tables_at (codes "term") members) }

-- the model, where there is no bad place
abbrev pub model_unless : List ReadFault → Model → Result Model ReadFault
model_unless [] model = Ok model
model_unless (first ∷ others) model = Err first

abbrev pub reading_of : Option Members → Result Model ReadFault
reading_of None = Err (fault (record { part = File; index = 0; at = 0 }) NotToml)
reading_of (Some members) = model_unless (bad_places members) (model_of members)

-- the model that the bytes stand for, or the first bad place
unfoldable pub reading : List ℕ → Result Model ReadFault
reading bytes = reading_of (document bytes)
