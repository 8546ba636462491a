use Rattle.rate_tool.proofs.ReplyLaws.{refused_store_exit, did_store_line}
use Rattle.rate_tool.proofs.reply.store_reply.Goals as goal

pub returns-in_err-version-clause-ended : goal.returns-in_err-version-clause-ended
returns-in_err-version-clause-ended g c =
    refused_store_exit _ _ _ _ c.in_ok-file.file.items c.as_slice.result.now c.as_slice-2.result.now c.in_ok-read_model.field-0 c.in_err-version.field-0.0
    c.from_residual-in_err-version.result c.in_ok-file.ensures.ended c.as_slice.ensures.value c.as_slice-2.ensures.value c.in_ok-read_model.ensures.value
    c.in_err-version.ensures.answer c.in_err-version.ensures.numbers c.in_err-version.ensures.cause c.from_residual-in_err-version.ensures.1

pub returns-clause-ended : goal.returns-clause-ended
returns-clause-ended g c =
    did_store_line _ _ _ _ c.in_ok-file.file.items c.as_slice.result.now c.as_slice-2.result.now c.in_ok-read_model.field-0 c.in_ok-version.version
    c.stored_line.result c.in_ok-file.ensures.ended c.as_slice.ensures.value c.as_slice-2.ensures.value c.in_ok-read_model.ensures.value
    c.in_ok-version.ensures.answer c.in_ok-version.ensures.numbers c.in_ok-version.ensures.cause c.stored_line.ensures
