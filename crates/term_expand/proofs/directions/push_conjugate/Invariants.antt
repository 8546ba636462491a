use Rattle.std.proofs.Common.{◌≡◌, ◌++◌, drop}
use Rattle.std.specs.List.{flat_map}
use Rattle.term_expand.specs.Moves.{conjugate_on_side}
use Rattle.term_expand.proofs.directions.push_conjugate.Given as goal

-- the values so far, and those of the texts that are left
abbrev pub invariant-loop-text : goal.invariant-loop-text
invariant-loop-text l = l.fn.values ++ flat_map conjugate_on_side l.texts ≡ l.values ++ flat_map conjugate_on_side (drop l.text-index l.texts)
