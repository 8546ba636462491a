use Rattle.std.proofs.Common.{◌≡◌, ◌+◌, ◌*◌, ◌≤◌, ◌++◌, length, take}
use Rattle.std.specs.List.{flat_map}
use Rattle.print_beta.specs.ComponentText.{next_leg_text}
use Rattle.print_beta.proofs.line_text.push_next_legs.Given as goal

abbrev pub invariant-loop-leg : goal.invariant-loop-leg
invariant-loop-leg l =
    (l.line ≡ l.initial.line ++ flat_map next_leg_text (take l.leg-index l.legs)) × (length l.line ≤ length l.initial.line + 602 * l.leg-index)
