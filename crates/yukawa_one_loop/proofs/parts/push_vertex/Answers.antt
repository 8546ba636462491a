use Rattle.std.proofs.Common.{subst}
use Rattle.std.proofs.lemmas.Result.{on_ok_weaker}
use Rattle.beta_poly.specs.Polynomial.{scale_poly}
use Rattle.model_core.specs.Scalar.{partner}
use Rattle.yukawa_one_loop.specs.Matrices.{AddsMatrix, IsMatrix}
use Rattle.yukawa_one_loop.specs.Parts.{chain, coordinate_at}
use Rattle.yukawa_one_loop.proofs.Coordinates.{partner_inside, partner_is}
use Rattle.yukawa_one_loop.proofs.parts.push_vertex.Goals as goal

pub partner-other-requires-clause-valid : goal.partner-other-requires-clause-valid
partner-other-requires-clause-valid c = c.requires.lines.valid

pub chain-requires-clause-last : goal.chain-requires-clause-last
chain-requires-clause-last c =
    partner_inside c.args.lines.now.model.now c.args.b c.partner-other.result c.requires.b c.partner-other.ensures

pub push_scaled-requires : goal.push_scaled-requires
push_scaled-requires c = record { rank = c.in_ok-product.ensures.value.rank_is }

pub returns-clause-value : goal.returns-clause-value
returns-clause-value c =
    let model = c.args.lines.now.model.now in
    let a = coordinate_at model c.args.a in
    let b = coordinate_at model c.args.b in
    let is = partner_is model c.args.b c.partner-other.result c.requires.b c.partner-other.ensures in
    let A = chain model b a (partner b) in
    let old = c.args.values.now in
    let new = c.push_scaled.new.values in
    let product : IsMatrix model A c.in_ok-product.product = subst (λ o. IsMatrix model (chain model b a o) c.in_ok-product.product) is c.in_ok-product.ensures.value in
    on_ok_weaker c.push_scaled.result
    (λ more. subst (λ n. AddsMatrix model (λ j k. scale_poly n (A j k)) old new) c.two.ensures more)
    (c.push_scaled.ensures.value model A product)
