use Rattle.std.proofs.Common.{subst}
use Rattle.std.proofs.lemmas.Result.{IfOk-at_ok, on_ok_weaker}
use Rattle.beta_poly.specs.Polynomial.{scale_poly}
use Rattle.su_reps.specs.Operators.{fraction}
use Rattle.model_core.specs.Scalar.{partner}
use Rattle.yukawa_one_loop.specs.Matrices.{AddsMatrix, IsMatrix}
use Rattle.yukawa_one_loop.specs.Parts.{chain, coordinate_at}
use Rattle.yukawa_one_loop.proofs.Coordinates.{partner_inside, partner_is}
use Rattle.yukawa_one_loop.proofs.PartSums.{adds_pair}
use Rattle.yukawa_one_loop.proofs.parts.push_leg.Goals as goal

pub partner-other-requires-clause-valid : goal.partner-other-requires-clause-valid
partner-other-requires-clause-valid c = c.requires.lines.valid

pub chain-requires-clause-middle : goal.chain-requires-clause-middle
chain-requires-clause-middle c =
    partner_inside c.args.lines.now.model.now c.args.b c.partner-other.result c.requires.b c.partner-other.ensures

pub chain-requires-2-clause-middle : goal.chain-requires-2-clause-middle
chain-requires-2-clause-middle c =
    partner_inside c.args.lines.now.model.now c.args.b c.partner-other.result c.requires.b c.partner-other.ensures

pub push_scaled-requires : goal.push_scaled-requires
push_scaled-requires c = record { rank = c.in_ok-first.ensures.value.rank_is }

pub push_scaled-requires-2 : goal.push_scaled-requires-2
push_scaled-requires-2 c = record { rank = c.in_ok-second.ensures.value.rank_is }

pub returns-clause-value : goal.returns-clause-value
returns-clause-value c =
    let model = c.args.lines.now.model.now in
    let a = coordinate_at model c.args.a in
    let b = coordinate_at model c.args.b in
    let is = partner_is model c.args.b c.partner-other.result c.requires.b c.partner-other.ensures in
    let A = chain model b (partner b) a in
    let B = chain model a (partner b) b in
    let old = c.args.values.now in
    let now = c.push_scaled.new.values in
    let new = c.push_scaled-2.new.values in
    let first : IsMatrix model A c.in_ok-first.first = subst (λ o. IsMatrix model (chain model b o a) c.in_ok-first.first) is c.in_ok-first.ensures.value in
    let second : IsMatrix model B c.in_ok-second.second = subst (λ o. IsMatrix model (chain model a o b) c.in_ok-second.second) is c.in_ok-second.ensures.value in
    let pushed : AddsMatrix model (λ j k. scale_poly (fraction 1 2) (A j k)) old now =
    subst (λ n. AddsMatrix model (λ j k. scale_poly n (A j k)) old now) c.half.ensures
    (IfOk-at_ok (λ _. AddsMatrix model (λ j k. scale_poly c.half.result (A j k)) old now) c.in_ok-push_scaled.was (c.push_scaled.ensures.value model A first)) in
    on_ok_weaker c.push_scaled-2.result
    (λ more. adds_pair model (fraction 1 2) A B old now new pushed (subst (λ n. AddsMatrix model (λ j k. scale_poly n (B j k)) now new) c.half-2.ensures more))
    (c.push_scaled-2.ensures.value model B second)
