use Rattle.std.proofs.Common.{◌≡◌, ◌+◌, ◌-◌, get_or, length, subst, ap, ◌∙◌, arith}
use Rattle.std.proofs.lemmas.Result.{on_ok_weaker}
use Rattle.beta_poly.specs.Polynomial.{scale_poly}
use Rattle.beta_poly.proofs.ExponentLaws.{products_fit_within}
use Rattle.sparse_tensor.specs.Tensor.{rank_of, entries_of}
use Rattle.model_core.specs.Scalar.{scalar_components}
use Rattle.yukawa_one_loop.specs.Matrices.{identity_links}
use Rattle.quartic_one_loop.specs.FourLegs.{AddsFour}
use Rattle.quartic_one_loop.specs.LegParts.{AreEnergies}
use Rattle.quartic_one_loop.proofs.LegSums.{first_leg, contraction_is}
use Rattle.quartic_one_loop.proofs.legs.push_legs.Goals as goal

pub lines_of-requires-clause-yukawa : goal.lines_of-requires-clause-yukawa
lines_of-requires-clause-yukawa c = c.requires.yukawa.values

pub contract-requires-clause-leg : goal.contract-requires-clause-leg
contract-requires-clause-leg c = let two = c.in_ok-energies.ensures.value.rank_is in omega (arith, two)

pub contract-requires-clause-other_leg : goal.contract-requires-clause-other_leg
contract-requires-clause-other_leg c = let four = c.requires.quartic.values.rank_is in omega (arith, four)

pub contract-requires-clause-low : goal.contract-requires-clause-low
contract-requires-clause-low c =
    let two = c.in_ok-energies.ensures.value.rank_is in
    let four = c.requires.quartic.values.rank_is in
    omega (arith, two, four)

pub contract-requires-clause-high : goal.contract-requires-clause-high
contract-requires-clause-high c =
    let two = c.in_ok-energies.ensures.value.rank_is in
    let four = c.requires.quartic.values.rank_is in
    omega (arith, two, four)

pub contract-requires-clause-fits : goal.contract-requires-clause-fits
contract-requires-clause-fits c i d first j e second =
    products_fit_within 2 1 (get_or (entries_of c.in_ok-energies.energies) i d).1 (get_or (entries_of c.args.quartic.now) j e).1 (omega arith)
    (c.in_ok-energies.ensures.within i d first) (c.requires.quartic.within j e second)

pub push_scaled-requires : goal.push_scaled-requires
push_scaled-requires c =
    let two = c.in_ok-energies.ensures.value.rank_is in
    let four = c.requires.quartic.values.rank_is in
    let rank : rank_of c.in_ok-energies.energies + rank_of c.args.quartic.now - 2 ≡ 4 = omega (arith, two, four) in
    record { rank = c.in_ok-tensor.ensures.value.rank_is ∙ rank }

pub returns-clause-value : goal.returns-clause-value
returns-clause-value c =
    let model = c.args.model.now in
    let same = c.in_ok-lines.ensures.model in
    let t = c.in_ok-energies.energies in
    let energies : AreEnergies model t = subst (λ m. AreEnergies m t) same c.in_ok-energies.ensures.value in
    let links : c.in_ok-links.links ≡ identity_links (length (scalar_components model)) =
    c.in_ok-links.ensures ∙ ap identity_links (c.in_ok-lines.ensures.value.dummy ∙ ap (λ m. length (scalar_components m)) same) in
    let has = contraction_is model t energies c.args.quartic.now c.requires.quartic c.in_ok-links.links c.in_ok-tensor.tensor links c.in_ok-tensor.ensures.value in
    on_ok_weaker c.push_scaled.result
    (λ more. subst (λ n. AddsFour model (λ x y z w. scale_poly n (first_leg model x y z w)) c.args.values.now c.push_scaled.new.values) c.sixth.ensures more)
    (c.push_scaled.ensures.value model (first_leg model) has)
