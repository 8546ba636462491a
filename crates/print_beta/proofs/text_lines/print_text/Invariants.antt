use Rattle.std.proofs.Common.{◌≡◌, ◌++◌, take}
use Rattle.std.specs.List.{flat_map}
use Rattle.print_beta.specs.Text.{line_text, head_text}
use Rattle.print_beta.proofs.text_lines.print_text.Given as goal

abbrev pub invariant-loop-line : goal.invariant-loop-line
invariant-loop-line l = l.text ≡ head_text l.betas.model l.betas.loops ++ flat_map (line_text l.betas.targets) (take l.line-index l.line-items)
