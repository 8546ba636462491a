use Rattle.std.proofs.Common.{refl, ◌∷◌, []}
use Rattle.std.proofs.lemmas.Result.{IfOk-weaker}
use Rattle.sparse_tensor.specs.Tensor.{HasValues, rank_of, value}
use Rattle.sparse_tensor.specs.Operations.{Values, projected_at, symmetrised_at}
use Rattle.sparse_tensor.proofs.Parts.{other_values}
use Rattle.term_expand.specs.Steps.{scalar_steps}
use Rattle.term_expand.proofs.Projections.{projected_tensor}
use Rattle.term_expand.proofs.texts.scalar_tensor.Goals as goal

pub returns-clause-value : goal.returns-clause-value
returns-clause-value c =
    let links = c.args.basis.now.scalar_links in
    let start : Values = symmetrised_at (0 ∷ 1 ∷ 2 ∷ 3 ∷ []) (value c.args.raw.now) in
    let middle : Values = projected_at 2 links (projected_at 3 links start) in
    let all : HasValues 4 start c.in_ok-all.all = other_values (rank_of c.args.raw.now) 4 start start c.in_ok-all.all c.requires (λ key l. refl) c.in_ok-all.ensures.value in
    let first : HasValues 4 (projected_at 3 links start) c.in_ok-first.first = projected_tensor 3 4 links start c.in_ok-all.all c.in_ok-first.first all c.in_ok-first.ensures.value in
    let second : HasValues 4 middle c.in_ok-second.second = projected_tensor 2 4 links (projected_at 3 links start) c.in_ok-first.first c.in_ok-second.second first c.in_ok-second.ensures.value in
    let third : HasValues 4 (projected_at 1 links middle) c.in_ok-third.third = projected_tensor 1 4 links middle c.in_ok-second.second c.in_ok-third.third second c.in_ok-third.ensures.value in
    IfOk-weaker c.project-4.result (HasValues (rank_of c.in_ok-third.third) (projected_at 0 links (value c.in_ok-third.third))) (HasValues 4 (scalar_steps c.args.basis.now (value c.args.raw.now))) (λ t h. projected_tensor 0 4 links (projected_at 1 links middle) c.in_ok-third.third t third h) c.project-4.ensures.value
