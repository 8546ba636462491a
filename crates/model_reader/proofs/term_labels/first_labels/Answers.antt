use Rattle.std.proofs.Common.{ap, ◌∙◌}
use Rattle.model_core.specs.TermMeaning.{first_labels}
use Rattle.model_reader.proofs.LabelLaws.{labels_next}
use Rattle.model_reader.proofs.term_labels.first_labels.Goals as goal

pub loop-factor-preserved : goal.loop-factor-preserved
loop-factor-preserved c =
    labels_next c.args.text.now c.loop-factor.labels c.args.factors.now c.loop-factor.factor-index c.factor-item.result _ c.add_labels.new.first c.loop-factor-test.true
    c.factor-item.is c.loop-factor.invariant (c.in_ok-add_labels.ensures ∙ ap (first_labels c.args.text.now c.loop-factor.labels) c.as_slice.ensures)
