use Rattle.std.proofs.Common.{◌≡◌, ◌+◌, ◌-◌, get_or, arith}
use Rattle.std.proofs.lemmas.Result.{IfOk-at_ok, IfOk-weaker}
use Rattle.beta_poly.proofs.ExponentLaws.{products_fit_within}
use Rattle.sparse_tensor.specs.Tensor.{HasValues, rank_of, entries_of, value}
use Rattle.sparse_tensor.specs.Operations.{contracted_at}
use Rattle.quartic_one_loop.specs.Boxes.{half_from_at}
use Rattle.quartic_one_loop.specs.FourLegs.{AreWithin}
use Rattle.quartic_one_loop.proofs.BoxHalves.{is_half_from}
use Rattle.quartic_one_loop.proofs.IdentityContractions.{contraction_within}
use Rattle.quartic_one_loop.proofs.boxes.half_from.Goals as goal

pub slice_of-requires-clause-low : goal.slice_of-requires-clause-low
slice_of-requires-clause-low c = omega (arith, c.requires.vertices.yukawa.values.rank_is)

pub slice_of-requires-clause-leg : goal.slice_of-requires-clause-leg
slice_of-requires-clause-leg c = omega (arith, c.requires.vertices.yukawa.values.rank_is)

pub contract-requires-clause-leg : goal.contract-requires-clause-leg
contract-requires-clause-leg c = omega (arith, c.in_ok-slice.ensures.value.rank_is, c.requires.vertices.yukawa.values.rank_is)

pub contract-requires-clause-other_leg : goal.contract-requires-clause-other_leg
contract-requires-clause-other_leg c = omega (arith, c.requires.vertices.conjugate.values.rank_is)

pub contract-requires-clause-low : goal.contract-requires-clause-low
contract-requires-clause-low c = omega (arith, c.requires.vertices.conjugate.values.rank_is)

pub contract-requires-clause-high : goal.contract-requires-clause-high
contract-requires-clause-high c =
    omega (arith, c.in_ok-slice.ensures.value.rank_is, c.requires.vertices.yukawa.values.rank_is, c.requires.vertices.conjugate.values.rank_is)

pub contract-requires-clause-fits : goal.contract-requires-clause-fits
contract-requires-clause-fits c i d first j e second =
    let s = c.in_ok-slice.slice in
    let within : AreWithin 1 s = IfOk-at_ok (AreWithin 1) c.in_ok-slice.was (c.slice_of.ensures.within 1 c.requires.vertices.yukawa.within) in
    products_fit_within 1 1 (get_or (entries_of s) i d).1 (get_or (entries_of c.args.vertices.now.conjugate) j e).1 (omega arith) (within i d first) (c.requires.vertices.conjugate.within j e second)

pub returns-clause-rank : goal.returns-clause-rank
returns-clause-rank c =
    let v = c.args.vertices.now in
    let s = c.in_ok-slice.slice in
    IfOk-weaker c.contract.result (HasValues (rank_of s + rank_of v.conjugate - 2) (contracted_at (rank_of s - 1) 0 0 v.links (value s) (value v.conjugate))) (λ half. rank_of half ≡ 3)
    (λ u has. omega (arith, has.rank_is, c.in_ok-slice.ensures.value.rank_is, c.requires.vertices.yukawa.values.rank_is, c.requires.vertices.conjugate.values.rank_is))
    c.contract.ensures.value

pub returns-clause-value : goal.returns-clause-value
returns-clause-value c i there =
    let v = c.args.vertices.now in
    let model = v.model.now in
    let s = c.in_ok-slice.slice in
    IfOk-weaker c.contract.result (HasValues (rank_of s + rank_of v.conjugate - 2) (contracted_at (rank_of s - 1) 0 0 v.links (value s) (value v.conjugate))) (HasValues 3 (half_from_at model i))
    (λ u has. is_half_from model v.links c.requires.vertices.links i c.args.place there v.yukawa.now v.conjugate c.requires.vertices.yukawa.values c.requires.vertices.conjugate.values s u c.in_ok-slice.ensures.value has)
    c.contract.ensures.value

pub returns-clause-within : goal.returns-clause-within
returns-clause-within c =
    let v = c.args.vertices.now in
    let s = c.in_ok-slice.slice in
    let within : AreWithin 1 s = IfOk-at_ok (AreWithin 1) c.in_ok-slice.was (c.slice_of.ensures.within 1 c.requires.vertices.yukawa.within) in
    IfOk-weaker c.contract.result (HasValues (rank_of s + rank_of v.conjugate - 2) (contracted_at (rank_of s - 1) 0 0 v.links (value s) (value v.conjugate))) (AreWithin 2)
    (λ u has. contraction_within 1 1 (rank_of s - 1) 0 0 (rank_of s + rank_of v.conjugate - 2) s v.conjugate u v.links within c.requires.vertices.conjugate.within has)
    c.contract.ensures.value
