use Rattle.std.proofs.Common.{◌≡◌, ◌++◌, drop}
use Rattle.std.specs.List.{flat_map}
use Rattle.term_expand.specs.Moves.{plain_on_side}
use Rattle.term_expand.proofs.directions.push_plain.Given as goal

-- the values so far, and those of the texts that are left
abbrev pub invariant-loop-text : goal.invariant-loop-text
invariant-loop-text l = l.fn.values ++ flat_map plain_on_side l.texts ≡ l.values ++ flat_map plain_on_side (drop l.text-index l.texts)
