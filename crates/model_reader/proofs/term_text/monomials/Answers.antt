use Rattle.model_reader.proofs.Spellings.{next_monomial, whole_push}
use Rattle.model_reader.proofs.term_text.monomials.Goals as goal

pub loop-negative-preserved : goal.loop-negative-preserved
loop-negative-preserved c = rw c.in_ok-push-2.ensures.ok (
  whole_push c.loop-negative.sum c.in_ok-next.next c.loop-negative.invariant.0 c.in_ok-next.ensures.some,
  next_monomial c.args.tokens.now c.loop-negative.left.now c.in-Some.rest.now c.in_ok-next.rest.now c.loop-negative.sum c.in-Some.negative c.in_ok-next.next c.loop-negative.invariant.0 c.loop-negative.invariant.1 c.in-Some.ensures c.in_ok-next.ensures.parsed c.in_ok-next.ensures.negative,
)
