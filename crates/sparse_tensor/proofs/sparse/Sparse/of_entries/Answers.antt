use Rattle.sparse_tensor.specs.Operations.{gathered_at}
use Rattle.sparse_tensor.proofs.Parts.{has_values, parts_of}
use Rattle.sparse_tensor.proofs.sparse.Sparse.of_entries.Goals as goal

pub invariant_of-result : goal.invariant_of-result
invariant_of-result c =
    parts_of c.args.rank c.in_ok-entries.entries.items c.requires.low c.requires.high c.in_ok-entries.ensures.is_map (c.in_ok-entries.ensures.keys c.args.rank c.requires.keys)

pub returns-clause-value : goal.returns-clause-value
returns-clause-value c =
    has_values c.args.rank c.in_ok-entries.entries.items (gathered_at c.args.all.items)
    (parts_of c.args.rank c.in_ok-entries.entries.items c.requires.low c.requires.high c.in_ok-entries.ensures.is_map (c.in_ok-entries.ensures.keys c.args.rank c.requires.keys))
    (λ key l. c.in_ok-entries.ensures.value key)
