use Rattle.std.proofs.Common.{rules, leb, ltb}
use Rattle.std.proofs.lemmas.List.Sorted.{IsPartitionPoint-from_clause, IsPartitionedBy-leb, IsPartitionedBy-ltb}
use Rattle.sparse_tensor.proofs.LinkLaws.{froms_rise}
use Rattle.sparse_tensor.proofs.Runs.{points_ordered, run_is}
use Rattle.sparse_tensor.proofs.links.run_from.Goals as goal

pub slice_bounds-result-count : goal.slice_bounds-result-count
slice_bounds-result-count c =
    let up = froms_rise c.args.links.now c.requires in
    let start = IsPartitionPoint-from_clause (λ l. ltb l.from c.args.place) _ _ c.partition_point-start.ensures.partitioned (IsPartitionedBy-ltb (λ l. l.from) _ c.args.place up) (λ a r q k. search rules) in
    let end = IsPartitionPoint-from_clause (λ l. leb l.from c.args.place) _ _ c.partition_point-end.ensures.partitioned (IsPartitionedBy-leb (λ l. l.from) _ c.args.place up) (λ a r q k. search rules) in
    points_ordered (λ l. l.from) c.args.place c.args.links.now c.partition_point-start.result c.partition_point-end.result start end c.partition_point-start.ensures.bound c.partition_point-end.ensures.bound

pub slice_bounds-result-start : goal.slice_bounds-result-start
slice_bounds-result-start c =
    let ordered = slice_bounds-result-count c in
    search rules

pub returns : goal.returns
returns c =
    let up = froms_rise c.args.links.now c.requires in
    let start = IsPartitionPoint-from_clause (λ l. ltb l.from c.args.place) _ _ c.partition_point-start.ensures.partitioned (IsPartitionedBy-ltb (λ l. l.from) _ c.args.place up) (λ a r q k. search rules) in
    let end = IsPartitionPoint-from_clause (λ l. leb l.from c.args.place) _ _ c.partition_point-end.ensures.partitioned (IsPartitionedBy-leb (λ l. l.from) _ c.args.place up) (λ a r q k. search rules) in
    let ordered = points_ordered (λ l. l.from) c.args.place c.args.links.now c.partition_point-start.result c.partition_point-end.result start end c.partition_point-start.ensures.bound c.partition_point-end.ensures.bound in
    run_is (λ l. l.from) c.args.place c.args.links.now c.partition_point-start.result c.partition_point-end.result start end c.partition_point-start.ensures.bound c.partition_point-end.ensures.bound ordered
