use Rattle.std.proofs.Common.{◌≤◌, ◌*◌, ◌^◌, length, arith, ◌∙◌, ap₂}
use Rattle.model_core.proofs.TupleLaws.{tuple_count-step, first_small, product_bound, twelve_fit}
use Rattle.exact_algebra.specs.Slices.{length-tail}
use Rattle.model_core.proofs.component.+tuple_count.Goals as goal

pub returns-in-len1-up-clause-bound : goal.returns-in-len1-up-clause-bound
returns-in-len1-up-clause-bound t c =
    let sizes = c.args.sizes.now in
    let some : 1 ≤ length sizes = c.in-len1-up.len_at_least in
    let first = first_small sizes some c.requires.small in
    product_bound c.from.result c.tuple_count.result _ (length sizes) (omega (arith, c.from.ensures, first.1)) c.tuple_count.ensures.bound (length-tail sizes some)

pub overflow_mul-result : goal.overflow_mul-result
overflow_mul-result t c =
    let bound : c.from.result * c.tuple_count.result ≤ 6 ^ length c.args.sizes.now = returns-in-len1-up-clause-bound t c in
    omega (arith, bound, twelve_fit (length c.args.sizes.now) c.requires.few)

pub returns-in-len1-up-clause-value : goal.returns-in-len1-up-clause-value
returns-in-len1-up-clause-value t c =
    ap₂ ◌*◌ c.from.ensures c.tuple_count.ensures.value ∙ tuple_count-step c.args.sizes.now c.in-len1-up.len_at_least
