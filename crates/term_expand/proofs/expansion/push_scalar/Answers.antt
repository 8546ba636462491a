use Rattle.term_expand.proofs.Added.{conjugate_plain}
use Rattle.term_expand.proofs.expansion.push_scalar.Goals as goal

pub push_multiples-requires-then-hc : goal.push_multiples-requires-then-hc
push_multiples-requires-then-hc c = conjugate_plain c.args.symbol c.conjugate.result c.requires c.conjugate.ensures
