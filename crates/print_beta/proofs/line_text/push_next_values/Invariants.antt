use Rattle.std.proofs.Common.{◌≡◌, ◌+◌, ◌*◌, ◌≤◌, ◌++◌, length, take}
use Rattle.std.specs.List.{flat_map}
use Rattle.print_beta.specs.ComponentText.{next_value_text}
use Rattle.print_beta.proofs.line_text.push_next_values.Given as goal

abbrev pub invariant-loop-value : goal.invariant-loop-value
invariant-loop-value l =
    (l.line ≡ l.initial.line ++ flat_map next_value_text (take l.value-index l.values)) × (length l.line ≤ length l.initial.line + 41 * l.value-index)
