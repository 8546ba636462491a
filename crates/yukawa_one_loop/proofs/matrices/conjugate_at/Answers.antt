use Rattle.std.proofs.Common.{◌≡◌, Some}
use Rattle.std.specs.Prelude.{slice_get}
use Rattle.std.proofs.lemmas.Result.{IfOk-weaker}
use Rattle.beta_poly.specs.Polynomial.{conj_poly}
use Rattle.sparse_tensor.specs.Tensor.{HasValues, rank_of, value}
use Rattle.model_core.specs.Scalar.{Coordinate, scalar_coordinates}
use Rattle.beta_formulas.specs.YukawaBeta.{conjugate}
use Rattle.yukawa_one_loop.specs.Matrices.{IsLinear}
use Rattle.yukawa_one_loop.proofs.Slices.{conjugate_linear}
use Rattle.yukawa_one_loop.proofs.matrices.conjugate_at.Goals as goal

pub returns-clause-value : goal.returns-clause-value
returns-clause-value c =
    let model = c.args.model.now in
    let s = c.in_ok-slice.slice in
    IfOk-weaker c.conjugated.result (HasValues (rank_of s) (λ key. conj_poly (value s key)))
    (λ found. (a : Coordinate) → slice_get (scalar_coordinates model) c.args.place ≡ Some a → IsLinear model (conjugate model a) found)
    (λ u has a there. conjugate_linear model c.args.yukawa.now c.requires.yukawa c.args.place c.partner.result a s u there c.partner.ensures c.in_ok-slice.ensures.value has)
    c.conjugated.ensures.value
