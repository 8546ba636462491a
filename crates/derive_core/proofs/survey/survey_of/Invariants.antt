use Rattle.derive_core.specs.SurveySteps.{IsSurveyed}
use Rattle.derive_core.proofs.survey.survey_of.Given as goal

abbrev pub invariant-loop-place : goal.invariant-loop-place
invariant-loop-place l = IsSurveyed l.model l.place l.survey
