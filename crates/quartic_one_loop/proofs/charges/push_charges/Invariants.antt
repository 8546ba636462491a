use Rattle.std.specs.List.{enumerate_from}
use Rattle.quartic_one_loop.specs.ChargeParts.{group_share}
use Rattle.quartic_one_loop.specs.FourLegs.{AddsFour, first_of}
use Rattle.quartic_one_loop.proofs.charges.push_charges.Given as goal

abbrev pub invariant-loop-place : goal.invariant-loop-place
invariant-loop-place l = AddsFour l.model (first_of l.place (enumerate_from 0 l.model.groups) (group_share l.model)) l.initial.values l.values
