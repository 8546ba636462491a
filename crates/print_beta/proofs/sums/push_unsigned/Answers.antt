use Rattle.std.proofs.Common.{rules, arith}
use Rattle.std.proofs.lemmas.Grind.{common_steps}
use Rattle.print_beta.specs.Styles.{style_of}
use Rattle.print_beta.proofs.TermTexts.{unsigned_first}
use Rattle.print_beta.proofs.sums.push_unsigned.Goals as goal

pub returns : goal.returns
returns c =
    rw (unsigned_first (style_of c.args.notation) c.args.targets.now c.args.value.now c.args.mono.now.0 c.item.result.now c.item.ensures)
    (first_of (search rules, grind (arith, common_steps)))
