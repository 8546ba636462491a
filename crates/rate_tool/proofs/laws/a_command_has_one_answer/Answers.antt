use Rattle.rate_tool.proofs.OneAnswer.{one_reply, one_status}
use Rattle.rate_tool.proofs.laws.a_command_has_one_answer.Goals as goal

pub returns-clause-reply : goal.returns-clause-reply
returns-clause-reply c = one_reply

pub returns-clause-status : goal.returns-clause-status
returns-clause-status c = one_status
