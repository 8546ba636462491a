use Rattle.std.proofs.Common.{refl}
use Rattle.rate_tool.proofs.ReplyLaws.{derive_exit, check_exit}
use Rattle.rate_tool.proofs.reply.reply_to.Goals as goal

pub returns-in-Derive-clause-ended : goal.returns-in-Derive-clause-ended
returns-in-Derive-clause-ended g c =
    derive_exit _ _ c.in-Derive.loops c.in-Derive.format c.in-Derive.workers _ _ c.derive_reply.result _ c.in-Derive.is c.derive_reply.ensures.ended refl refl c.text_of.ensures

pub returns-in-Check-clause-ended : goal.returns-in-Check-clause-ended
returns-in-Check-clause-ended g c =
    check_exit _ _ _ _ c.check_reply.result _ c.in-Check.is c.check_reply.ensures.ended refl refl c.text_of-in-Check.ensures
