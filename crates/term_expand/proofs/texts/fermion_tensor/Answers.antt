use Rattle.std.proofs.Common.{refl, ◌∷◌, []}
use Rattle.std.proofs.lemmas.Result.{IfOk-weaker}
use Rattle.sparse_tensor.specs.Tensor.{HasValues, rank_of, value}
use Rattle.sparse_tensor.specs.Operations.{Values, projected_at, symmetrised_at}
use Rattle.sparse_tensor.proofs.Parts.{other_values}
use Rattle.term_expand.specs.Steps.{fermion_steps}
use Rattle.term_expand.proofs.Projections.{projected_tensor}
use Rattle.term_expand.proofs.texts.fermion_tensor.Goals as goal

pub returns-clause-value : goal.returns-clause-value
returns-clause-value c =
    let links = c.args.basis.now.fermion_links in
    let start : Values = symmetrised_at (0 ∷ 1 ∷ []) (value c.args.raw.now) in
    let middle : Values = projected_at 2 c.args.basis.now.scalar_links start in
    let all : HasValues 3 start c.in_ok-all.all = other_values (rank_of c.args.raw.now) 3 start start c.in_ok-all.all c.requires (λ key l. refl) c.in_ok-all.ensures.value in
    let first : HasValues 3 middle c.in_ok-first.first = projected_tensor 2 3 c.args.basis.now.scalar_links start c.in_ok-all.all c.in_ok-first.first all c.in_ok-first.ensures.value in
    let second : HasValues 3 (projected_at 1 links middle) c.in_ok-second.second = projected_tensor 1 3 links middle c.in_ok-first.first c.in_ok-second.second first c.in_ok-second.ensures.value in
    IfOk-weaker c.project-3.result (HasValues (rank_of c.in_ok-second.second) (projected_at 0 links (value c.in_ok-second.second))) (HasValues 3 (fermion_steps c.args.basis.now (value c.args.raw.now))) (λ t h. projected_tensor 0 3 links (projected_at 1 links middle) c.in_ok-second.second t second h) c.project-3.ensures.value
