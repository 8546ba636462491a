use Rattle.std.proofs.Common.{arith}
use Rattle.std.proofs.lemmas.Grind.{common_steps}
use Rattle.rate_tool.proofs.StreamLaws.{few_more}
use Rattle.rate_tool.proofs.reading.read_all.Goals as goal

pub returns-in-Err-clause-few : goal.returns-in-Err-clause-few
returns-in-Err-clause-few g c =
    few_more _ (g.S.Source.left c.loop-buf.source) _ c.loop-buf.bytes.items _ c.loop-buf.invariant.1 c.read_piece.ensures.few (grind (arith, common_steps))
