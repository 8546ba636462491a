use Rattle.std.proofs.Common.{◌≡◌, ◌++◌}
use Rattle.std.specs.List.{All}
use Rattle.beta_poly.specs.Exponents.{AllWithin}
use Rattle.quartic_one_loop.specs.LegParts.{energy_row}
use Rattle.quartic_one_loop.proofs.legs.push_row.Given as goal

abbrev pub invariant-loop-e : goal.invariant-loop-e
invariant-loop-e l = record {
  row : l.values ≡ l.initial.values ++ energy_row l.lines.model.now l.e l.a;
  within : All (λ v. AllWithin 2 v.value) l.initial.values → All (λ v. AllWithin 2 v.value) l.values;
}
