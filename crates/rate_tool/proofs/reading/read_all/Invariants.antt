use Rattle.std.proofs.Common.{◌≡◌, ◌-◌, ◌≤◌, vec_len}
use Rattle.rate_tool.specs.Stream.{Gave}
use Rattle.rate_tool.proofs.reading.read_all.Given as goal

-- the source gave the bytes so far, and no read failed
abbrev pub invariant-loop-buf : goal.invariant-loop-buf
invariant-loop-buf g l =
    (vec_len l.bytes ≤ 1048577)
    × Gave (g.S.Source.left l.initial.source) (g.S.Source.left l.source) l.bytes.items
    × (g.S.Source.faults l.source ≡ g.S.Source.faults l.initial.source)

abbrev pub decreases-loop-buf : goal.decreases-loop-buf
decreases-loop-buf g l = 1048577 - vec_len l.bytes
