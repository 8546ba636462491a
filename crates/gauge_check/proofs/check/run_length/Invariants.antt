use Rattle.std.proofs.Common.{◌≡◌, ◌==◌, ◌+◌, drop}
use Rattle.std.specs.List.{prefix_len}
use Rattle.gauge_check.proofs.check.run_length.Given as goal

abbrev pub invariant-loop-direction : goal.invariant-loop-direction
invariant-loop-direction l = record {
  counted : l.count ≡ l.direction-index;
  left : l.count + prefix_len (λ d. d.term == l.place) (drop l.direction-index l.directions) ≡ prefix_len (λ d. d.term == l.place) l.directions;
}
