use Rattle.std.proofs.Common.{◌≡◌, ◌++◌, drop}
use Rattle.std.specs.List.{flat_map}
use Rattle.print_beta.specs.Styles.{style_of}
use Rattle.print_beta.specs.Sums.{next_term}
use Rattle.print_beta.proofs.sums.push_terms_from.Given as goal

-- the text so far, and then that of the terms that are left
abbrev pub invariant-loop-place : goal.invariant-loop-place
invariant-loop-place l =
    l.text ++ flat_map (next_term (style_of l.notation) l.targets) (drop l.place l.value.0)
    ≡ l.initial.text ++ flat_map (next_term (style_of l.notation) l.targets) (drop l.start l.value.0)
