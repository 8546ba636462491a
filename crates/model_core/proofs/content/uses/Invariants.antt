use Rattle.std.proofs.Common.{◌≡◌, ◌++◌, drop}
use Rattle.model_core.specs.Factors.{uses}
use Rattle.model_core.proofs.content.uses.Given as goal

abbrev pub invariant-loop-factor : goal.invariant-loop-factor
invariant-loop-factor l = l.found ++ uses (drop l.factor-index l.factors) ≡ uses l.factors
