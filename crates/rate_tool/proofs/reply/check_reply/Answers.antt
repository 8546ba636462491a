use Rattle.rate_tool.specs.Reply.{IsAcceptance}
use Rattle.rate_tool.proofs.ReplyLaws.{refused_source_exit}
use Rattle.rate_tool.proofs.reply.check_reply.Goals as goal

pub returns-in_err-text-clause-ended : goal.returns-in_err-text-clause-ended
returns-in_err-text-clause-ended g c =
    refused_source_exit IsAcceptance _ _ _ _ c.in_ok-file.file.items c.as_slice.result.now c.in_err-text.field-0.0 c.from_residual-in_err-text.result
    c.in_ok-file.ensures.ended c.as_slice.ensures.value c.in_err-text.ensures c.from_residual-in_err-text.ensures.1
