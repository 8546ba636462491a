use Rattle.model_core.specs.TermMeaning.{label_number}
use Rattle.model_reader.proofs.LabelLaws.{map_next}
use Rattle.model_reader.proofs.term_labels.label_numbers.Goals as goal

pub loop-label-preserved : goal.loop-label-preserved
loop-label-preserved c =
    map_next c.args.written.now (label_number c.args.text.now c.args.labels.now) c.loop-label.label-index (record { start = 0; end = 0 }) c.loop-label.numbers c.push.new.self
    c.label_number.result c.loop-label-test.true c.loop-label.invariant c.label_number.ensures c.in_ok-push.ensures.ok
