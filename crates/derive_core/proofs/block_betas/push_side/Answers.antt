use Rattle.std.proofs.Common.{◌++◌, ℕ, List, ap, ◌∙◌}
use Rattle.beta_poly.specs.Polynomial.{Polynomial}
use Rattle.sparse_tensor.specs.Tensor.{entries_of}
use Rattle.derive_core.specs.SideBetas.{where_it_belongs, named_value}
use Rattle.derive_core.proofs.TensorEntries.{joined_step}
use Rattle.derive_core.proofs.block_betas.push_side.Goals as goal

pub loop-place-preserved : goal.loop-place-preserved
loop-place-preserved c =
    let e : List ℕ × Polynomial = (c.item.result.0.now, c.item.result.1.now) in
    joined_step (named_value c.args.model.now c.args.name.now c.args.side) (entries_of c.args.tensor.now) c.loop-place.place e c.args.values.now c.loop-place.values c.push_where.new.values c.item.ensures c.loop-place.invariant
    (c.in_ok-push_where.ensures ∙ ap (λ belongs. c.loop-place.values ++ where_it_belongs belongs c.args.side e) c.in_ok-belongs.ensures)
