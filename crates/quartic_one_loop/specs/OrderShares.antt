-- What one order of the four legs gives: the beta function is the sum of these over the 24 orders.
use Rattle.frac128.specs.Rational.{neg_ℚ}
use Rattle.beta_poly.specs.Polynomial.{add_poly, scale_poly}
use Rattle.su_reps.specs.Operators.{fraction}
use Rattle.model_core.specs.declared.model.Model.{Model}
use Rattle.model_core.specs.GaugeTwoLoop.{negative}
use Rattle.beta_formulas.specs.ScalarBeta.{FourLegs, quartic, loop_line, box_line, leg_line, charge_line, gauge_line}

module _ (model : Model) where
  -- 1/8 sum_ef L(a,b,e,f) L(e*,f*,c,d)
  abbrev pub loop_share : FourLegs
  loop_share a b c d = scale_poly (fraction 1 8) (loop_line model a b c d)

  -- - Tr(Y[a] Yd[b] Y[c] Yd[d])
  abbrev pub box_share : FourLegs
  box_share a b c d = negative (box_line model a b c d)

  -- the first leg's self-energy: each leg is the first in 6 orders, and L is symmetric in the others
  abbrev pub leg_share : FourLegs
  leg_share a b c d = scale_poly (fraction 1 6) (leg_line model a (λ e. quartic model e b c d))

  -- the first leg's Casimirs, likewise
  abbrev pub charge_share : FourLegs
  charge_share a b c d = scale_poly (neg_ℚ (fraction 1 2)) (charge_line model a (λ e. quartic model e b c d))

  -- 3/8 sum_kl g_k^2 g_l^2 A_kl(a,b,c,d)
  abbrev pub gauge_share : FourLegs
  gauge_share a b c d = scale_poly (fraction 3 8) (gauge_line model a b c d)

  abbrev pub order_share : FourLegs
  order_share a b c d =
      add_poly (add_poly (add_poly (add_poly (loop_share a b c d) (box_share a b c d)) (leg_share a b c d)) (charge_share a b c d)) (gauge_share a b c d)
