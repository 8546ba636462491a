use Rattle.std.proofs.Common.{subst, ap, ◌∙◌}
use Rattle.std.proofs.lemmas.Result.{on_ok_weaker}
use Rattle.beta_poly.specs.Polynomial.{mul_poly}
use Rattle.beta_formulas.specs.YukawaBeta.{scalar_square, yukawa}
use Rattle.yukawa_one_loop.specs.Matrices.{AddsMatrix}
use Rattle.yukawa_one_loop.specs.Parts.{coordinate_at}
use Rattle.yukawa_one_loop.proofs.Coordinates.{partner_inside, partner_is}
use Rattle.yukawa_one_loop.proofs.LineMatrices.{within_two, plain_inside, plain_there}
use Rattle.yukawa_one_loop.proofs.parts.push_scalar.Goals as goal

pub partner-other-requires-clause-valid : goal.partner-other-requires-clause-valid
partner-other-requires-clause-valid c = c.requires.lines.valid

pub scalar_square-requires-clause-second : goal.scalar_square-requires-clause-second
scalar_square-requires-clause-second c =
    partner_inside c.args.lines.now.model.now c.args.b c.partner-other.result c.requires.b c.partner-other.ensures

pub item-matrix-requires : goal.item-matrix-requires
item-matrix-requires c = plain_inside c.args.lines.now c.requires.lines c.args.b c.requires.b

pub push_multiple-requires-clause-rank : goal.push_multiple-requires-clause-rank
push_multiple-requires-clause-rank c =
    (plain_there c.args.lines.now c.requires.lines c.args.b c.item-matrix.result.now c.item-matrix.ensures).entries.rank_is

pub push_multiple-requires-clause-matrix : goal.push_multiple-requires-clause-matrix
push_multiple-requires-clause-matrix c =
    within_two c.item-matrix.result.now (plain_there c.args.lines.now c.requires.lines c.args.b c.item-matrix.result.now c.item-matrix.ensures).within

pub returns-clause-value : goal.returns-clause-value
returns-clause-value c =
    let model = c.args.lines.now.model.now in
    let a = coordinate_at model c.args.a in
    let b = coordinate_at model c.args.b in
    let here = plain_there c.args.lines.now c.requires.lines c.args.b c.item-matrix.result.now c.item-matrix.ensures in
    let square = c.in_ok-square.ensures.value ∙ ap (scalar_square model a) (partner_is model c.args.b c.partner-other.result c.requires.b c.partner-other.ensures) in
    on_ok_weaker c.push_multiple.result
    (λ more. subst (λ s. AddsMatrix model (λ j k. mul_poly s (yukawa model b j k)) c.args.values.now c.push_multiple.new.values) square more)
    (c.push_multiple.ensures.value model (yukawa model b) here.entries)
