use Rattle.std.proofs.Common.{take}
use Rattle.model_core.specs.Scalar.{scalar_coordinates}
use Rattle.term_expand.proofs.Conjugates.{ArePartners}
use Rattle.term_expand.proofs.multiples.partners.Given as goal

abbrev pub invariant-loop-leg : goal.invariant-loop-leg
invariant-loop-leg l = ArePartners (scalar_coordinates l.model) (take l.leg l.key) l.found l.first
