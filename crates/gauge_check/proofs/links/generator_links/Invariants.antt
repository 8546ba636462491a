use Rattle.std.proofs.Common.{◌≡◌, length}
use Rattle.term_expand.specs.LinkSteps.{all_links}
use Rattle.gauge_check.specs.Actions.{place_generator}
use Rattle.gauge_check.proofs.links.generator_links.Given as goal

-- the links of the rows so far
abbrev pub invariant-loop-from : goal.invariant-loop-from
invariant-loop-from l =
    l.links ≡ all_links (place_generator l.groups l.fields l.components l.generator) (length l.components) l.from
