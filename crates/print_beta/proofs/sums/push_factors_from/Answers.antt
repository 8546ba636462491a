use Rattle.std.proofs.Common.{◌++◌, ◌∙◌, ap, append_assoc}
use Rattle.print_beta.specs.Styles.{style_of}
use Rattle.print_beta.specs.Sums.{next_factor}
use Rattle.print_beta.proofs.TermTexts.{text_step}
use Rattle.print_beta.proofs.sums.push_factors_from.Goals as goal

pub loop-place-preserved : goal.loop-place-preserved
loop-place-preserved c =
    let style = style_of c.args.notation in
    let targets = c.args.targets.now in
    let power = c.item.result.now in
    let old = c.loop-place.text in
    let added = c.in_ok-push_power_of.ensures ∙ ap (λ t. t ++ style.factor targets power) c.in_ok-push_times.ensures ∙ append_assoc old style.times (style.factor targets power) in
    text_step (next_factor style targets) c.args.mono.now.0 c.loop-place.place power old c.push_power_of.new.text c.item.ensures added ∙ c.loop-place.invariant
