use Rattle.std.proofs.Common.{◌+◌, ◌-◌, get_or, arith}
use Rattle.std.proofs.lemmas.Result.{IfOk-weaker}
use Rattle.beta_poly.proofs.ExponentLaws.{products_fit_within}
use Rattle.sparse_tensor.specs.Tensor.{HasValues, rank_of, entries_of, value}
use Rattle.sparse_tensor.specs.Operations.{contracted_at}
use Rattle.beta_formulas.specs.YukawaBeta.{times}
use Rattle.yukawa_one_loop.specs.Matrices.{IsMatrix, AreWithin}
use Rattle.yukawa_one_loop.proofs.Bounds.{product_within}
use Rattle.yukawa_one_loop.proofs.MatrixProducts.{product_is}
use Rattle.yukawa_one_loop.proofs.products.times.Goals as goal

pub contract-requires-clause-fits : goal.contract-requires-clause-fits
contract-requires-clause-fits c i d first j e second =
    products_fit_within 2 2 (get_or (entries_of c.args.left.now) i d).1 (get_or (entries_of c.args.right.now) j e).1 (omega arith) (c.requires.left i d first) (c.requires.right j e second)

pub returns-clause-value : goal.returns-clause-value
returns-clause-value c model a b is first second =
    let s = c.args.left.now in
    let t = c.args.right.now in
    IfOk-weaker c.contract.result (HasValues (rank_of s + rank_of t - 2) (contracted_at (rank_of s - 1) 1 0 c.args.links.now (value s) (value t))) (IsMatrix model (times model a b))
    (λ u has. product_is model a b s t u c.args.links.now is first second has)
    c.contract.ensures.value

pub returns-clause-within : goal.returns-clause-within
returns-clause-within c first second =
    let s = c.args.left.now in
    let t = c.args.right.now in
    IfOk-weaker c.contract.result (HasValues (rank_of s + rank_of t - 2) (contracted_at (rank_of s - 1) 1 0 c.args.links.now (value s) (value t))) (AreWithin 2)
    (λ u has. product_within s t u c.args.links.now first second has)
    c.contract.ensures.value
