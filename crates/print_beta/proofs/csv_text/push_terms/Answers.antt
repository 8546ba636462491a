use Rattle.std.proofs.Common.{◌++◌, ◌∙◌}
use Rattle.csv.specs.Writing.{row_text, default_writer}
use Rattle.print_beta.specs.Csv.{term_fields}
use Rattle.print_beta.proofs.TermTexts.{text_step}
use Rattle.print_beta.proofs.csv_text.push_terms.Goals as goal

pub loop-place-preserved : goal.loop-place-preserved
loop-place-preserved c =
    text_step (λ e. row_text default_writer (c.args.front.now ++ term_fields c.args.targets.now e)) c.args.value.now.0 c.loop-place.place c.item.result.now c.loop-place.text c.push_term.new.text c.item.ensures c.in_ok-push_term.ensures
    ∙ c.loop-place.invariant
