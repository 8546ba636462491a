use Rattle.std.proofs.Common.{◌≡◌, [], ◌∷◌, sym, ap, subst, ◌∙◌, arith}
use Rattle.beta_poly.specs.Exponents.{AllWithin}
use Rattle.beta_poly.specs.Polynomial.{add_poly}
use Rattle.sparse_tensor.specs.Tensor.{value}
use Rattle.yukawa_one_loop.proofs.Bounds.{below_within, value_within}
use Rattle.yukawa_one_loop.proofs.MatrixProducts.{diagonal_sum, diagonal_none, diagonal_more, diagonal_trace}
use Rattle.yukawa_one_loop.proofs.products.trace.Goals as goal

pub loop-place-init : goal.loop-place-init
loop-place-init c = c.zero-sum.ensures ∙ diagonal_none c.args.matrix.now

pub loop-place-preserved : goal.loop-place-preserved
loop-place-preserved c =
    let t = c.args.matrix.now in
    let i = c.loop-place.place in
    c.in_ok-sum.ensures.value ∙ ap (λ s. add_poly s (value t (i ∷ i ∷ []))) c.loop-place.invariant ∙ sym (diagonal_more t i)

pub returns-clause-value : goal.returns-clause-value
returns-clause-value c model a is has =
    let t = c.args.matrix.now in
    let ended : c.loop-place.place ≡ c.args.count = omega (arith, c.loop-place.auto.place-end, c.loop-place-test.false) in
    c.loop-place.invariant ∙ ap (diagonal_sum t) ended ∙ diagonal_trace model a t c.args.count is has

pub returns-clause-within : goal.returns-clause-within
returns-clause-within c within =
    let t = c.args.matrix.now in
    subst (AllWithin 2) (sym c.loop-place.invariant) (below_within 2 c.loop-place.place (λ i. value t (i ∷ i ∷ [])) (λ i. value_within 2 t within (i ∷ i ∷ [])))
