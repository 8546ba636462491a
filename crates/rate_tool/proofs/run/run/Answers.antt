use Rattle.std.proofs.Common.{◌≡◌, Some, refl, sym, ap, ◌∙◌}
use Rattle.rate_tool.specs.Words.{command_of, texts}
use Rattle.rate_tool.proofs.RunLaws.{command_run, noticed, register_same, usage_run}
use Rattle.rate_tool.proofs.run.run.Goals as goal

pub returns-in-Some-clause-ends : goal.returns-in-Some-clause-ends
returns-in-Some-clause-ends g c =
    let asked : command_of (texts c.args.words.now) ≡ Some c.in-Some.command = sym c.command_of.ensures.value ∙ c.in-Some.is in
    command_run _ (texts c.args.words.now) c.in-Some.command _ _ _ asked _ _ c.answer.result
    (λ known silent. register_same g.K.Keeper.is_told g.K.Keeper.tables c.args.keeper.now c.answer.new.keeper c.in-Some.command known (c.answer.ensures.same silent) c.answer.ensures.unasked)
    c.answer.ensures.silent (λ silent. ap g.O.Sink.taken (c.answer.ensures.silent silent)) c.answer.ensures.same c.answer.ensures.ended

pub returns-in-Some-clause-noticed : goal.returns-in-Some-clause-noticed
returns-in-Some-clause-noticed g c =
    noticed _ c.in-Some.command _ _ _ c.answer.result (λ silent. ap g.O.Sink.faults (c.answer.ensures.silent silent)) c.answer.ensures.ended

pub returns-in-None-clause-ends : goal.returns-in-None-clause-ends
returns-in-None-clause-ends g c =
    usage_run _ _ _ (texts c.args.words.now) _ _ _ _ _ (sym c.command_of.ensures.value ∙ c.in-None.is) refl refl (λ told. (told, refl))
