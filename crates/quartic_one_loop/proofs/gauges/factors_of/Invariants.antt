use Rattle.std.proofs.Common.{take}
use Rattle.model_core.specs.Generators.{generators}
use Rattle.quartic_one_loop.specs.GaugePairs.{AreGaugeFactors}
use Rattle.quartic_one_loop.proofs.gauges.factors_of.Given as goal

abbrev pub invariant-loop-place : goal.invariant-loop-place
invariant-loop-place l = AreGaugeFactors l.model (take l.place (generators l.model)) l.factors
