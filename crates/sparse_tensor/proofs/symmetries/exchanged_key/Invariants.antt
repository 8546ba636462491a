use Rattle.std.proofs.Common.{◌≡◌, ◌≤◌, ◌-◌, length, drop}
use Rattle.sparse_tensor.specs.Operations.{places_at, put_back}
use Rattle.sparse_tensor.proofs.symmetries.exchanged_key.Given as goal

abbrev pub invariant-loop-i : goal.invariant-loop-i
invariant-loop-i l = record {
  in_range : l.i ≤ length l.legs;
  long : length l.moved ≡ length l.key;
  collected : put_back l.moved (drop l.i l.legs) (places_at (drop l.i l.order) l.key) ≡ put_back l.key l.legs (places_at l.order l.key);
}

abbrev pub decreases-loop-i : goal.decreases-loop-i
decreases-loop-i l = length l.legs - l.i
