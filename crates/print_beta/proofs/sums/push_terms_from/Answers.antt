use Rattle.std.proofs.Common.{◌∙◌}
use Rattle.print_beta.specs.Styles.{style_of}
use Rattle.print_beta.specs.Sums.{next_term}
use Rattle.print_beta.proofs.TermTexts.{text_step}
use Rattle.print_beta.proofs.sums.push_terms_from.Goals as goal

pub loop-place-preserved : goal.loop-place-preserved
loop-place-preserved c =
    text_step (next_term (style_of c.args.notation) c.args.targets.now) c.args.value.now.0 c.loop-place.place c.item.result.now c.loop-place.text c.push_next_term.new.text c.item.ensures c.in_ok-push_next_term.ensures
    ∙ c.loop-place.invariant
