use Rattle.std.proofs.Common.{◌≡◌, map, take}
use Rattle.std.specs.List.{enumerate_from}
use Rattle.model_core.specs.GaugeTwoLoop.{gauge_two_loop}
use Rattle.gauge_two_loop.proofs.two_loop.gauge_two.Given as goal

abbrev pub invariant-loop-place : goal.invariant-loop-place
invariant-loop-place g l = record {
  so_far : l.found ≡ map (gauge_two_loop l.model) (take l.place (enumerate_from 0 l.model.groups));
}
