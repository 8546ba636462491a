use Rattle.std.specs.Prelude.{get_or}
use Rattle.std.proofs.Common.{rules, leb, ltb}
use Rattle.std.proofs.lemmas.List.Sorted.{IsPartitionPoint-from_clause, IsPartitionedBy-leb, IsPartitionedBy-ltb}
use Rattle.sparse_tensor.proofs.Runs.{points_ordered, run_is}
use Rattle.sparse_tensor.proofs.contractions.with_place.Goals as goal

pub slice_bounds-result-count : goal.slice_bounds-result-count
slice_bounds-result-count c =
    let start = IsPartitionPoint-from_clause (λ e. ltb (get_or e.now.0 c.args.leg 0) c.args.place) _ _ c.partition_point-start.ensures.partitioned (IsPartitionedBy-ltb (λ e. get_or e.now.0 c.args.leg 0) _ c.args.place c.requires) (λ a r q k. search rules) in
    let end = IsPartitionPoint-from_clause (λ e. leb (get_or e.now.0 c.args.leg 0) c.args.place) _ _ c.partition_point-end.ensures.partitioned (IsPartitionedBy-leb (λ e. get_or e.now.0 c.args.leg 0) _ c.args.place c.requires) (λ a r q k. search rules) in
    points_ordered (λ e. get_or e.now.0 c.args.leg 0) c.args.place c.args.order.now c.partition_point-start.result c.partition_point-end.result start end c.partition_point-start.ensures.bound c.partition_point-end.ensures.bound

pub slice_bounds-result-start : goal.slice_bounds-result-start
slice_bounds-result-start c =
    let ordered = slice_bounds-result-count c in
    search rules

pub returns : goal.returns
returns c =
    let start = IsPartitionPoint-from_clause (λ e. ltb (get_or e.now.0 c.args.leg 0) c.args.place) _ _ c.partition_point-start.ensures.partitioned (IsPartitionedBy-ltb (λ e. get_or e.now.0 c.args.leg 0) _ c.args.place c.requires) (λ a r q k. search rules) in
    let end = IsPartitionPoint-from_clause (λ e. leb (get_or e.now.0 c.args.leg 0) c.args.place) _ _ c.partition_point-end.ensures.partitioned (IsPartitionedBy-leb (λ e. get_or e.now.0 c.args.leg 0) _ c.args.place c.requires) (λ a r q k. search rules) in
    let ordered = points_ordered (λ e. get_or e.now.0 c.args.leg 0) c.args.place c.args.order.now c.partition_point-start.result c.partition_point-end.result start end c.partition_point-start.ensures.bound c.partition_point-end.ensures.bound in
    run_is (λ e. get_or e.now.0 c.args.leg 0) c.args.place c.args.order.now c.partition_point-start.result c.partition_point-end.result start end c.partition_point-start.ensures.bound c.partition_point-end.ensures.bound ordered
