use Rattle.std.proofs.Common.{◌≡◌, ◌++◌, map, drop}
use Rattle.toml.specs.View.{view}
use Rattle.model_core.specs.Document.{text_of}
use Rattle.model_reader.specs.Tables.{texts}
use Rattle.model_reader.proofs.term_keys.texts_of.Given as goal

-- the texts so far, and those of the values that are left
abbrev pub invariant-loop-value : goal.invariant-loop-value
invariant-loop-value l = map text_of (map view l.values) ≡ texts l.found.items ++ map text_of (map view (drop l.value-index l.values))
