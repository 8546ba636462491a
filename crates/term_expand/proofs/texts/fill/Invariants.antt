use Rattle.std.proofs.Common.{◌≡◌, ◌++◌, ◌-◌, length}
use Rattle.std.specs.Prelude.{replicate}
use Rattle.term_expand.proofs.texts.fill.Given as goal

-- the key so far, and the dummies that are left
abbrev pub invariant-loop-key : goal.invariant-loop-key
invariant-loop-key l = l.key ++ replicate (l.legs - length l.key) l.dummy ≡ l.fn.key ++ replicate (l.legs - length l.fn.key) l.dummy

abbrev pub decreases-loop-key : goal.decreases-loop-key
decreases-loop-key l = l.legs - length l.key
