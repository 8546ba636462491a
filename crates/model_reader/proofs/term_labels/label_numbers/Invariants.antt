use Rattle.std.proofs.Common.{◌≡◌, ◌++◌, drop, map}
use Rattle.model_core.specs.TermMeaning.{label_number}
use Rattle.model_reader.proofs.term_labels.label_numbers.Given as goal

-- the numbers so far, and those of the labels that are left
abbrev pub invariant-loop-label : goal.invariant-loop-label
invariant-loop-label l =
    map (label_number l.text l.labels) l.written ≡ l.numbers ++ map (label_number l.text l.labels) (drop l.label-index l.written)
