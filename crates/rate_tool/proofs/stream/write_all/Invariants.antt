use Rattle.std.proofs.Common.{◌≡◌, ◌-◌, ◌≤◌, length, take}
use Rattle.rate_tool.specs.Stream.{Took}
use Rattle.rate_tool.proofs.stream.write_all.Given as goal

-- the front up to `at` was taken, and no write failed
abbrev pub invariant-loop-at : goal.invariant-loop-at
invariant-loop-at g l =
    (l.at ≤ length l.bytes)
    × Took (g.O.Sink.taken l.initial.out) (g.O.Sink.taken l.out) (take l.at l.bytes)
    × (g.O.Sink.faults l.out ≡ g.O.Sink.faults l.initial.out)

abbrev pub decreases-loop-at : goal.decreases-loop-at
decreases-loop-at g l = length l.bytes - l.at
