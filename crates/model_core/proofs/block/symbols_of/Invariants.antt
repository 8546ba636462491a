use Rattle.std.proofs.Common.{◌≡◌, ◌*◌, ◌+◌, ◌≤◌, true, drop}
use Rattle.std.specs.Prelude.{sum_by}
use Rattle.std.specs.List.{list_all}
use Rattle.model_core.specs.Content.{symbol_count}
use Rattle.model_core.specs.TermRules.{has_small_sizes}
use Rattle.model_core.proofs.block.symbols_of.Given as goal

-- the symbols so far, and those of the terms that are left
abbrev pub invariant-loop-term : goal.invariant-loop-term
invariant-loop-term l =
    (sum_by symbol_count l.terms ≡ l.count + sum_by symbol_count (drop l.term-index l.terms))
    × (l.count ≤ 36 * l.term-index)
    × (list_all has_small_sizes (drop l.term-index l.terms) ≡ true)
