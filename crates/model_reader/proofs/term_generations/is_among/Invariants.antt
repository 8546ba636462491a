use Rattle.std.proofs.Common.{◌≡◌, drop}
use Rattle.std.specs.List.{list_any}
use Rattle.std.specs.Str.{bytes_eq}
use Rattle.model_reader.specs.Tables.{texts}
use Rattle.model_reader.proofs.term_generations.is_among.Given as goal

-- no label so far is the word
abbrev pub invariant-loop-label : goal.invariant-loop-label
invariant-loop-label l = list_any (bytes_eq l.word) (texts l.flavour) ≡ list_any (bytes_eq l.word) (texts (drop l.label-index l.flavour))
