use Rattle.std.proofs.Common.{◌≡◌}
use Rattle.std.specs.List.{All}
use Rattle.beta_poly.specs.Exponents.{AllWithin}
use Rattle.quartic_one_loop.specs.LegParts.{energy_rows}
use Rattle.quartic_one_loop.proofs.legs.self_energies.Given as goal

abbrev pub invariant-loop-a : goal.invariant-loop-a
invariant-loop-a l = record {
  rows : l.values ≡ energy_rows l.lines.model.now l.lines.dummy l.a;
  within : All (λ v. AllWithin 2 v.value) l.values;
}
