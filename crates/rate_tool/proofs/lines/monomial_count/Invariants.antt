use Rattle.std.proofs.Common.{◌≡◌, ◌≤◌, ◌+◌, ◌*◌, drop}
use Rattle.rate_tool.specs.Lines.{monomial_count}
use Rattle.rate_tool.proofs.lines.monomial_count.Given as goal

-- what was counted and what is left, and how great the count can be
abbrev pub invariant-loop-line : goal.invariant-loop-line
invariant-loop-line l = (l.count + monomial_count (drop l.line-index l.lines) ≡ monomial_count l.lines) × (l.count ≤ l.line-index * 18446744073709551615)
