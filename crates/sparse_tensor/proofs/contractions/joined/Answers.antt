use Rattle.std.specs.Prelude.{◌<◌, length}
use Rattle.std.specs.List.{All}
use Rattle.std.proofs.Common.{arith}
use Rattle.sparse_tensor.specs.Collected.{CanMeet}
use Rattle.sparse_tensor.proofs.Lists.{item_of}
use Rattle.sparse_tensor.proofs.contractions.joined.Goals as goal

pub push_links-requires-clause-others : goal.push_links-requires-clause-others
push_links-requires-clause-others c =
    (item_of (λ a. (c.args.legs.first < length a.0) × All (λ b. CanMeet c.args.legs.second a b.now) c.args.order.now) c.args.entries.now c.loop-a.a-index c.a-item.result (omega arith) c.a-item.is c.requires.can_meet).1
