use Rattle.std.proofs.Common.{◌≡◌, [], map, length, sym, subst, arith}
use Rattle.std.specs.List.{All}
use Rattle.std.proofs.lemmas.Result.{IfOk-weaker}
use Rattle.sparse_tensor.specs.declared.values.Value.{Value}
use Rattle.sparse_tensor.specs.Tensor.{HasValues}
use Rattle.sparse_tensor.specs.Operations.{entry, gathered_at}
use Rattle.term_expand.proofs.Expanded.{first_values}
use Rattle.beta_formulas.specs.YukawaBeta.{beta_matrix}
use Rattle.yukawa_one_loop.specs.Matrices.{AddsMatrix, IsMatrix, matrix_at}
use Rattle.yukawa_one_loop.specs.Parts.{coordinate_at}
use Rattle.yukawa_one_loop.proofs.PartSums.{parts_all}
use Rattle.yukawa_one_loop.proofs.parts.beta_matrix.Goals as goal

no_keys : All {X = Value} (λ v. length v.key ≡ 2) []
no_keys i d within = absurd (omega (arith, within))

pub gather-requires-clause-keys : goal.gather-requires-clause-keys
gather-requires-clause-keys c =
    let model = c.args.lines.now.model.now in
    let a = coordinate_at model c.args.a in
    let vs = c.push_gauge.new.values in
    let adds = parts_all model a c.new-values.result c.push_legs.new.values c.push_vertices.new.values c.push_scalars.new.values vs c.in_ok-push_legs.ensures.value c.in_ok-push_vertices.ensures.value c.in_ok-push_scalars.ensures.value c.in_ok-push_gauge.ensures.value in
    adds.keys (subst (All (λ v. length v.key ≡ 2)) (sym c.new-values.ensures) no_keys)

pub returns-clause-value : goal.returns-clause-value
returns-clause-value c =
    let model = c.args.lines.now.model.now in
    let a = coordinate_at model c.args.a in
    let vs = c.push_gauge.new.values in
    let adds = parts_all model a c.new-values.result c.push_legs.new.values c.push_vertices.new.values c.push_scalars.new.values vs c.in_ok-push_legs.ensures.value c.in_ok-push_vertices.ensures.value c.in_ok-push_scalars.ensures.value c.in_ok-push_gauge.ensures.value in
    let first = subst (λ old. AddsMatrix model (beta_matrix model a) old vs) c.new-values.ensures adds in
    IfOk-weaker c.gather.result (HasValues 2 (gathered_at (map entry vs))) (IsMatrix model (beta_matrix model a))
    (λ t has. first_values 2 (matrix_at model (beta_matrix model a)) vs t first has) c.gather.ensures.value
