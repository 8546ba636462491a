use Rattle.std.proofs.Common.{◌≡◌, drop}
use Rattle.std.specs.List.{filter}
use Rattle.model_core.specs.TermWalk.{is_overfull, first_after}
use Rattle.model_core.proofs.block.first_overfull_after.Given as goal

abbrev pub invariant-loop-block : goal.invariant-loop-block
invariant-loop-block l =
    first_after l.first (filter (is_overfull l.all) (drop l.block-index l.blocks)) ≡ first_after l.initial.first (filter (is_overfull l.all) l.blocks)
