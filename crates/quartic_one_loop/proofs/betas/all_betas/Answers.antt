use Rattle.std.proofs.Common.{◌≡◌, ◌-◌, length, arith}
use Rattle.std.proofs.lemmas.Result.{IfOk-weaker}
use Rattle.sparse_tensor.specs.Tensor.{HasValues, rank_of, value}
use Rattle.model_core.specs.Scalar.{scalar_components}
use Rattle.beta_formulas.specs.ScalarBeta.{scalar_beta_at}
use Rattle.yukawa_one_loop.proofs.Coordinates.{coordinates_count}
use Rattle.quartic_one_loop.specs.FewDummies.{formed_at}
use Rattle.quartic_one_loop.proofs.BetaValues.{four_inside, share_keys, has_scalar_betas}
use Rattle.quartic_one_loop.proofs.betas.all_betas.Goals as goal

pub gather-requires-clause-keys : goal.gather-requires-clause-keys
gather-requires-clause-keys c = share_keys c.args.model.now c.in_ok-values.values c.in_ok-values.ensures.value

pub symmetrise-requires-clause-inside : goal.symmetrise-requires-clause-inside
symmetrise-requires-clause-inside c = four_inside (rank_of c.in_ok-shares.shares) c.in_ok-shares.ensures.value.rank_is

pub returns-clause-value : goal.returns-clause-value
returns-clause-value c =
    let model = c.args.model.now in
    let sums = c.in_ok-sums.sums in
    let dummy = c.scalar_count-dummy.result - 1 in
    let last : dummy ≡ length (scalar_components model) = omega (arith, c.scalar_count-dummy.ensures, coordinates_count model) in
    IfOk-weaker c.formed_of.result (HasValues (rank_of sums) (formed_at dummy (value sums))) (HasValues 4 (scalar_beta_at model))
    (has_scalar_betas model c.in_ok-values.values c.in_ok-values.ensures.value c.in_ok-shares.shares c.in_ok-shares.ensures.value sums c.in_ok-sums.ensures.value dummy last) c.formed_of.ensures.value
