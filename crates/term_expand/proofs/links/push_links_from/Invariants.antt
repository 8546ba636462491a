use Rattle.std.proofs.Common.{◌≡◌, ◌++◌, length}
use Rattle.term_expand.specs.LinkSteps.{place_projectors, row_links, all_links}
use Rattle.term_expand.proofs.links.push_links_from.Given as goal

-- the links of the rows before, and those of the row so far
abbrev pub invariant-loop-to : goal.invariant-loop-to
invariant-loop-to l =
    let at = place_projectors l.groups l.fields l.components in
    l.links ≡ all_links at (length l.components) l.from ++ row_links at l.from l.to
