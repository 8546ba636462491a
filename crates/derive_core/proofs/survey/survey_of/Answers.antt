use Rattle.std.proofs.Common.{arith}
use Rattle.derive_core.proofs.Surveyed.{found_name, surveyed_more, survey_end}
use Rattle.derive_core.proofs.survey.survey_of.Goals as goal

pub survey_block-requires-clause-named : goal.survey_block-requires-clause-named
survey_block-requires-clause-named c =
    found_name c.args.model.now c.args.directions.now c.loop-place.place c.item-direction.result.now c.requires.directions c.item-direction.ensures

pub loop-place-preserved : goal.loop-place-preserved
loop-place-preserved c =
    surveyed_more c.args.model.now c.args.directions.now c.loop-place.place c.item-direction.result.now c.loop-place.survey c.survey_block.new.survey
    c.requires.directions c.item-direction.ensures c.in_ok-survey_block.ensures.step c.loop-place.invariant

pub returns-clause-value : goal.returns-clause-value
returns-clause-value c =
    survey_end c.args.model.now c.args.directions.now c.loop-place.place c.loop-place.survey c.requires.directions
    (omega (arith, c.loop-place-test.false, c.len-place-end.ensures)) c.loop-place.invariant
