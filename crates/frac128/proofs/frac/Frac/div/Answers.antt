use Rattle.std.proofs.Common.{sym, subst}
use Rattle.frac128.specs.Frac.{ProductFits}
use Rattle.frac128.specs.Rational.{reciprocal}
use Rattle.frac128.proofs.Sums.{product_fits}
use Rattle.frac128.proofs.frac.Frac.div.Goals as goal

pub returns-in-None-clause-fits : goal.returns-in-None-clause-fits
returns-in-None-clause-fits c =
    (λ e. absurd (cc e), λ h. absurd (c.in-None.ensures (subst (ProductFits c.args.self.now) (sym c.reciprocal.ensures) (product_fits c.args.self.now (reciprocal c.args.other.now) h))))
