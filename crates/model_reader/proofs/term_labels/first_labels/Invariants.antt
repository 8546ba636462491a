use Rattle.std.proofs.Common.{◌≡◌, [], drop}
use Rattle.std.specs.List.{flat_map}
use Rattle.model_core.specs.TermMeaning.{first_labels, labels_in}
use Rattle.model_reader.proofs.term_labels.first_labels.Given as goal

-- the labels so far, and those of the factors that are left
abbrev pub invariant-loop-factor : goal.invariant-loop-factor
invariant-loop-factor l =
    first_labels l.text [] (flat_map labels_in l.factors) ≡ first_labels l.text l.labels (flat_map labels_in (drop l.factor-index l.factors))
