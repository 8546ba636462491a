use Rattle.std.proofs.Common.{subst}
use Rattle.std.proofs.lemmas.Result.{on_ok_weaker}
use Rattle.beta_poly.specs.Polynomial.{scale_poly}
use Rattle.yukawa_one_loop.specs.Parts.{coordinate_at}
use Rattle.quartic_one_loop.specs.FourLegs.{AddsFour}
use Rattle.quartic_one_loop.specs.LoopSums.{loop_over}
use Rattle.quartic_one_loop.proofs.loops.push_loop.Goals as goal

pub push_scaled-requires : goal.push_scaled-requires
push_scaled-requires c = record { rank = c.in_ok-product.ensures.value.rank_is }

pub returns-clause-value : goal.returns-clause-value
returns-clause-value c =
    let model = c.args.model.now in
    let line = loop_over model (coordinate_at model c.args.place) in
    on_ok_weaker c.push_scaled.result
    (λ more. subst (λ n. AddsFour model (λ x y z w. scale_poly n (line x y z w)) c.args.values.now c.push_scaled.new.values) c.one_eighth.ensures more)
    (c.push_scaled.ensures.value model line c.in_ok-product.ensures.value)
