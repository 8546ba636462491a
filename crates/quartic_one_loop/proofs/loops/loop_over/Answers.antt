use Rattle.std.proofs.Common.{◌+◌, ◌-◌, get_or, arith}
use Rattle.std.proofs.lemmas.Result.{IfOk-weaker}
use Rattle.beta_poly.proofs.ExponentLaws.{products_fit_within}
use Rattle.sparse_tensor.specs.Tensor.{HasValues, rank_of, entries_of, value}
use Rattle.sparse_tensor.specs.Operations.{contracted_at}
use Rattle.yukawa_one_loop.specs.Parts.{coordinate_at}
use Rattle.quartic_one_loop.specs.FourLegs.{four_at}
use Rattle.quartic_one_loop.specs.LoopSums.{loop_over}
use Rattle.quartic_one_loop.proofs.LoopProducts.{loop_over_is}
use Rattle.quartic_one_loop.proofs.loops.loop_over.Goals as goal

pub contract-requires-clause-fits : goal.contract-requires-clause-fits
contract-requires-clause-fits c i d first j e second =
    products_fit_within 1 1 (get_or (entries_of c.in_ok-left.left) i d).1 (get_or (entries_of c.in_ok-right.right) j e).1 (omega arith) (c.in_ok-left.ensures.within 1 c.requires.quartic.within i d first) (c.in_ok-right.ensures.within 1 c.requires.quartic.within j e second)

pub returns-clause-value : goal.returns-clause-value
returns-clause-value c =
    let model = c.args.model.now in
    let t = c.args.quartic.now in
    let s = c.in_ok-left.left in
    let u = c.in_ok-right.right in
    IfOk-weaker c.contract.result (HasValues (rank_of s + rank_of u - 2) (contracted_at (rank_of s - 1) 2 0 c.args.links.now (value s) (value u))) (HasValues 4 (four_at model (loop_over model (coordinate_at model c.args.place))))
    (λ v has. loop_over_is model t s u v c.args.links.now c.args.place c.partner-other.result c.requires.place c.partner-other.ensures c.requires.quartic.values c.requires.links c.in_ok-left.ensures.value c.in_ok-right.ensures.value has)
    c.contract.ensures.value
