use Rattle.std.proofs.Common.{◌≡◌, ◌++◌, length}
use Rattle.term_expand.specs.LinkSteps.{row_links, all_links}
use Rattle.gauge_check.specs.Actions.{place_generator}
use Rattle.gauge_check.proofs.links.push_links_from.Given as goal

-- the links of the rows before, and those of the row so far
abbrev pub invariant-loop-to : goal.invariant-loop-to
invariant-loop-to l =
    let at = place_generator l.groups l.fields l.components l.generator in
    l.links ≡ all_links at (length l.components) l.from ++ row_links at l.from l.to
