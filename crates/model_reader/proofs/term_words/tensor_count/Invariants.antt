use Rattle.std.proofs.Common.{◌≡◌, ◌≤◌, ◌+◌, drop}
use Rattle.std.specs.List.{count_by}
use Rattle.model_core.specs.TermWalk.{names_tensor}
use Rattle.model_reader.proofs.term_words.tensor_count.Given as goal

-- the count so far and that of the factors that are left
abbrev pub invariant-loop-factor : goal.invariant-loop-factor
invariant-loop-factor l =
    (l.count ≤ l.factor-index)
    × (count_by (names_tensor l.model l.text) l.factors ≡ l.count + count_by (names_tensor l.model l.text) (drop l.factor-index l.factors))
