use Rattle.std.proofs.Common.{◌≡◌, take}
use Rattle.std.specs.Prelude.{map}
use Rattle.beta_poly.specs.Symbol.{conj_symbol}
use Rattle.beta_poly.proofs.monomial.conjugate_powers.Given as goal

abbrev pub invariant-loop-power : goal.invariant-loop-power
invariant-loop-power l = l.out.items ≡ map (λ p. (conj_symbol p.0, p.1)) (take l.power-index l.powers)
