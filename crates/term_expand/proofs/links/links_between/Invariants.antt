use Rattle.std.proofs.Common.{◌≡◌, length}
use Rattle.term_expand.specs.LinkSteps.{place_projectors, all_links}
use Rattle.term_expand.proofs.links.links_between.Given as goal

-- the links of the rows so far
abbrev pub invariant-loop-from : goal.invariant-loop-from
invariant-loop-from l =
    l.links ≡ all_links (place_projectors l.groups l.fields l.components) (length l.components) l.from
