use Rattle.std.proofs.Common.{rules, sym, ap, ◌∙◌}
use Rattle.toml.specs.View.{view, table_view}
use Rattle.model_reader.specs.Tables.{texts}
use Rattle.model_reader.specs.TermValues.{head_places}
use Rattle.model_reader.proofs.TermPlaces.{term_walked}
use Rattle.model_reader.proofs.terms.term_of.Goals as goal

pub returns-clause-walked : goal.returns-clause-walked
returns-clause-walked c =
    let head = c.in_ok-coupling.ensures.walked in
    term_walked c.args.model.now c.args.blocks.now c.args.index c.args.names.now (table_view c.args.table.now) c.in_ok-coupling.field-0.coupling
    (texts c.as_slice.result.now) (view c.in_ok-values.values.text.now) c.in_ok-term.term
    (search rules) (ap (λ place. head_places place c.args.names.now (table_view c.args.table.now)) (sym c.new-place.ensures) ∙ head.0) (search rules) (search rules) c.in_ok-values.ensures.values.text (search rules) c.in_ok-term.ensures.walked.1
