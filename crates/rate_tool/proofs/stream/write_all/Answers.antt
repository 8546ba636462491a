use Rattle.std.proofs.Common.{◌∙◌, arith}
use Rattle.rate_tool.proofs.StreamLaws.{Took-more}
use Rattle.rate_tool.proofs.stream.write_all.Goals as goal

pub loop-at-preserved : goal.loop-at-preserved
loop-at-preserved g c = (
  omega (arith, c.in_ok-at.ensures.bound.1),
  Took-more _ (g.O.Sink.taken c.loop-at.out) _ c.args.bytes.now c.loop-at.at c.in_ok-at.field-0 c.loop-at.invariant.1 c.in_ok-at.ensures.bytes,
  c.in_ok-at.ensures.cause.kept ∙ c.loop-at.invariant.2,
)
