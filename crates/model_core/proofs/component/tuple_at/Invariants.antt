use Rattle.std.proofs.Common.{◌≡◌, ◌<◌, ◌++◌, length, drop}
use Rattle.model_core.specs.Component.{tuples}
use Rattle.model_core.specs.Place.{tuple_at}
use Rattle.model_core.proofs.component.tuple_at.Given as goal

abbrev pub invariant-loop-size : goal.invariant-loop-size
invariant-loop-size l = record {
  so_far : l.values ++ tuple_at (drop l.size-index l.sizes) l.rest ≡ tuple_at l.sizes l.place;
  counted : l.count ≡ length (tuples (drop l.size-index l.sizes));
  within : l.rest < l.count;
  filled : length l.values ≡ l.size-index;
}
