use Rattle.std.proofs.Common.{◌≡◌, drop}
use Rattle.model_core.specs.TermMeaning.{first_labels}
use Rattle.model_reader.proofs.term_labels.add_labels.Given as goal

-- the labels so far, and those that are left
abbrev pub invariant-loop-label : goal.invariant-loop-label
invariant-loop-label l =
    first_labels l.text l.initial.first l.labels ≡ first_labels l.text l.first (drop l.label-index l.labels)
