use Rattle.std.proofs.Common.{◌≡◌, ◌++◌, take}
use Rattle.std.specs.List.{flat_map}
use Rattle.print_beta.specs.Latex.{latex_line, latex_head}
use Rattle.print_beta.proofs.latex_lines.print_latex.Given as goal

abbrev pub invariant-loop-line : goal.invariant-loop-line
invariant-loop-line l = l.text ≡ latex_head l.betas.model l.betas.loops ++ flat_map (latex_line l.betas.targets) (take l.line-index l.line-items)
