use Rattle.std.proofs.Common.{◌≡◌, take}
use Rattle.std.specs.List.{flat_map}
use Rattle.rate_tool.specs.Lines.{count_text}
use Rattle.rate_tool.proofs.lines.print_counts.Given as goal

-- the text of the entries so far
abbrev pub invariant-loop-entry : goal.invariant-loop-entry
invariant-loop-entry l = l.text ≡ flat_map count_text (take l.entry-index l.entry-items)
