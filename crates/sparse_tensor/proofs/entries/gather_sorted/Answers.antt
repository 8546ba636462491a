use Rattle.std.specs.Prelude.{[]}
use Rattle.std.specs.Vec.Iter.{into_iter_items, into_iter_len}
use Rattle.std.proofs.Common.{◌≡◌, length, sym, subst, ap, ◌∙◌, rules}
use Rattle.beta_poly.proofs.Neighbours.{counted_none, counted_step}
use Rattle.sparse_tensor.specs.Tensor.{IsMap, HasRank, value_in}
use Rattle.sparse_tensor.proofs.Neighbours.{end_run, gathered_of, next_run, same_run, start_run}
use Rattle.sparse_tensor.proofs.Parts.{value_none, value_in-gathered, map_gathered, rank_gathered}
use Rattle.sparse_tensor.proofs.entries.gather_sorted.Goals as goal

pub returns-in_default-clause-value : goal.returns-in_default-clause-value
returns-in_default-clause-value c =
    let whole : into_iter_len c.into_iter-rest.result ≡ length c.args.entries.items = search rules in
    let zero : into_iter_len c.into_iter-rest.result ≡ 0 = search rules in
    let none : c.args.entries.items ≡ [] = counted_none c.args.entries.items (into_iter_len c.into_iter-rest.result) whole zero in
    λ key. value_none c.args.entries.items c.new-out.result.items key none c.new-out.ensures.items

pub loop-next-init : goal.loop-next-init
loop-next-init c =
    let whole : into_iter_len c.into_iter-rest.result ≡ length c.args.entries.items = search rules in
    record {
      counted = counted_step c.args.entries.items (into_iter_items c.next.new.self) c.in-Some.start (into_iter_len c.into_iter-rest.result) (into_iter_len c.next.new.self) whole (sym c.into_iter-rest.ensures.rest ∙ c.in-Some.ensures.items) c.in-Some.ensures.len;
      collected = start_run c.args.entries.items (into_iter_items c.next.new.self) c.new-out.result.items c.in-Some.start c.new-more.result.items (sym c.into_iter-rest.ensures.rest ∙ c.in-Some.ensures.items) c.new-out.ensures.items c.new-more.ensures.items;
    }

pub loop-next-preserved-in_ok-push-in-Equal : goal.loop-next-preserved-in_ok-push-in-Equal
loop-next-preserved-in_ok-push-in-Equal c = record {
  counted = counted_step (into_iter_items c.loop-next.rest) (into_iter_items c.next-in-loop-next.new.self) c.in-Some-next.next (into_iter_len c.loop-next.rest) (into_iter_len c.next-in-loop-next.new.self) c.loop-next.invariant.counted c.in-Some-next.ensures.items c.in-Some-next.ensures.len;
  collected = same_run c.loop-next.out.items (into_iter_items c.loop-next.rest) (into_iter_items c.next-in-loop-next.new.self) _ c.loop-next.key c.loop-next.first c.in-Some-next.next c.loop-next.more.items c.push.new.self.items c.in-Some-next.ensures.items (sym c.in-Equal.ensures) c.in_ok-push-in-Equal.ensures.items c.loop-next.invariant.collected;
}

pub loop-next-preserved-in_ok-push-in-Equal-2 : goal.loop-next-preserved-in_ok-push-in-Equal-2
loop-next-preserved-in_ok-push-in-Equal-2 c = record {
  counted = counted_step (into_iter_items c.loop-next.rest) (into_iter_items c.next-in-loop-next.new.self) c.in-Some-next.next (into_iter_len c.loop-next.rest) (into_iter_len c.next-in-loop-next.new.self) c.loop-next.invariant.counted c.in-Some-next.ensures.items c.in-Some-next.ensures.len;
  collected = same_run c.loop-next.out.items (into_iter_items c.loop-next.rest) (into_iter_items c.next-in-loop-next.new.self) _ c.loop-next.key c.loop-next.first c.in-Some-next.next c.loop-next.more.items c.push.new.self.items c.in-Some-next.ensures.items (sym c.in-Equal.ensures) c.in_ok-push-in-Equal.ensures.items c.loop-next.invariant.collected;
}

pub loop-next-preserved : goal.loop-next-preserved
loop-next-preserved c = record {
  counted = counted_step (into_iter_items c.loop-next.rest) (into_iter_items c.next-in-loop-next.new.self) c.in-Some-next.next (into_iter_len c.loop-next.rest) (into_iter_len c.next-in-loop-next.new.self) c.loop-next.invariant.counted c.in-Some-next.ensures.items c.in-Some-next.ensures.len;
  collected = next_run c.loop-next.out.items c.push_kept.new.out.items (into_iter_items c.loop-next.rest) (into_iter_items c.next-in-loop-next.new.self) _ c.loop-next.key c.loop-next.first c.in_ok-value-in_default-cmp.value c.in-Some-next.next c.loop-next.more.items c.new-more-in_default-cmp.result.items c.in-Some-next.ensures.items (λ e. c.in_default-cmp.not-Equal (c.cmp.ensures ∙ e)) c.in_ok-value-in_default-cmp.ensures.value c.in_ok-push_kept-in_default-cmp.ensures c.new-more-in_default-cmp.ensures.items c.loop-next.invariant.collected;
}

out_is : (c : goal.After-drop-rest-2) → c.push_kept-2.new.out.items ≡ gathered_of c.args.entries.items
out_is c =
    let zero : into_iter_len c.loop-next.rest ≡ 0 = search rules in
    let none = counted_none (into_iter_items c.loop-next.rest) (into_iter_len c.loop-next.rest) c.loop-next.invariant.counted zero in
    end_run c.loop-next.out.items c.push_kept-2.new.out.items (into_iter_items c.loop-next.rest) _ c.loop-next.key c.loop-next.first c.in_ok-value.value c.loop-next.more.items none c.in_ok-value.ensures.value c.in_ok-push_kept.ensures c.loop-next.invariant.collected

pub returns-clause-value : goal.returns-clause-value
returns-clause-value c = λ key. ap (λ r. value_in r key) (out_is c) ∙ value_in-gathered c.args.entries.items key

pub returns-clause-is_map : goal.returns-clause-is_map
returns-clause-is_map c = subst IsMap (sym (out_is c)) (map_gathered c.args.entries.items c.requires)

pub returns-clause-keys : goal.returns-clause-keys
returns-clause-keys c = λ rank h. subst (HasRank rank) (sym (out_is c)) (rank_gathered c.args.entries.items rank h)
