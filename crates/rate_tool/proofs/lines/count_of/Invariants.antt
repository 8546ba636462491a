use Rattle.std.proofs.Common.{◌≡◌, ◌≤◌, ◌+◌, drop}
use Rattle.rate_tool.specs.Lines.{count_of}
use Rattle.rate_tool.proofs.lines.count_of.Given as goal

-- what was counted and what is left, and how great the count can be
abbrev pub invariant-loop-line : goal.invariant-loop-line
invariant-loop-line l = (l.count + count_of l.kind (drop l.line-index l.lines) ≡ count_of l.kind l.lines) × (l.count ≤ l.line-index)
