use Rattle.std.proofs.lemmas.Result.{IfOk-at_ok, IfOk-weaker}
use Rattle.beta_formulas.specs.ScalarBeta.{pair_entry}
use Rattle.quartic_one_loop.specs.GaugePairs.{HasNumbers, product_at, sum_at}
use Rattle.quartic_one_loop.proofs.NumberMatrices.{numbers_same}
use Rattle.quartic_one_loop.proofs.PairEntries.{pair_is}
use Rattle.quartic_one_loop.proofs.pairs.pair_matrix.Goals as goal

pub returns-clause-value : goal.returns-clause-value
returns-clause-value c model x z are left right =
    let f = product_at model x z in
    let g = product_at model z x in
    IfOk-weaker c.sum_of.result (HasNumbers model (sum_at f g)) (HasNumbers model (pair_entry model x z))
    (λ t has. numbers_same model (sum_at f g) (pair_entry model x z) t (pair_is model x z) has)
    (c.sum_of.ensures.value model f g
    (IfOk-at_ok (HasNumbers model f) c.in_ok-one.was (c.product.ensures.value model x z are left right))
    (IfOk-at_ok (HasNumbers model g) c.in_ok-other.was (c.product-2.ensures.value model z x are right left)))
