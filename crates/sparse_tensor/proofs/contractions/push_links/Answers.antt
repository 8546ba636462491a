use Rattle.std.specs.Prelude.{◌==◌, map, get_or}
use Rattle.std.specs.List.{All}
use Rattle.std.proofs.Common.{subst, sym, ap, ◌∙◌, arith}
use Rattle.sparse_tensor.specs.Collected.{CanMeet, met, with_place}
use Rattle.sparse_tensor.proofs.Lists.{flat_step}
use Rattle.sparse_tensor.proofs.Joining.{all_filter, run_met}
use Rattle.sparse_tensor.proofs.contractions.push_links.Goals as goal

pub push_run-requires-clause-others : goal.push_run-requires-clause-others
push_run-requires-clause-others c =
    subst (All (λ b. CanMeet c.args.legs.second c.args.a.now b.now)) (sym c.with_place-run.ensures)
    (all_filter (λ b. CanMeet c.args.legs.second c.args.a.now b.now) (λ b. get_or b.now.0 c.args.legs.second 0 == c.link-item.result.to) c.args.order.now c.requires.others)

pub loop-link-preserved : goal.loop-link-preserved
loop-link-preserved c =
    flat_step c.args.out.now.items c.loop-link.out.items c.push_run.new.out.items (map (λ b. met c.args.legs.first c.args.legs.second c.args.a.now c.link-item.result b.now) c.with_place-run.result.now)
    (λ l. map (met c.args.legs.first c.args.legs.second c.args.a.now l) (with_place c.args.legs.second l.to (map (λ b. b.now) c.args.order.now)))
    c.args.links.now c.loop-link.link-index c.link-item.result (omega arith) c.link-item.is c.loop-link.invariant c.in_ok-push_run.ensures.value
    (ap (map (λ b. met c.args.legs.first c.args.legs.second c.args.a.now c.link-item.result b.now)) c.with_place-run.ensures
    ∙ run_met c.args.legs.first c.args.legs.second c.link-item.result.to c.args.a.now c.link-item.result c.args.order.now)
