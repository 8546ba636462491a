use Rattle.std.proofs.Common.{ℕ, List}
use Rattle.beta_poly.specs.Polynomial.{Polynomial}
use Rattle.sparse_tensor.specs.Tensor.{entries_of}
use Rattle.gauge_check.specs.Actions.{side_value}
use Rattle.gauge_check.proofs.Gathers.{flat_step, key_filled}
use Rattle.gauge_check.proofs.parts.push_side.Goals as goal

pub push_from_side-requires : goal.push_from_side-requires
push_from_side-requires c = key_filled c.args.tensor.now c.loop-place.place c.item.result.0.now c.item.result.1.now c.item.ensures

pub loop-place-preserved : goal.loop-place-preserved
loop-place-preserved c =
    let e : List ℕ × Polynomial = (c.item.result.0.now, c.item.result.1.now) in
    flat_step (side_value c.args.side) (entries_of c.args.tensor.now) c.loop-place.place e c.args.values.now c.loop-place.values c.push_from_side.new.values c.item.ensures c.loop-place.invariant c.in_ok-push_from_side.ensures
