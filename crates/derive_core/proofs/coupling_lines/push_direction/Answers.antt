use Rattle.std.proofs.Common.{length, Some, None, sym, ap, ◌∙◌}
use Rattle.span_solver.specs.BlockDirections.{block_directions}
use Rattle.derive_core.specs.Lines.{outcome_in, coordinate_line}
use Rattle.derive_core.proofs.FoundLines.{nothing_more, no_line, line_with}
use Rattle.derive_core.proofs.coupling_lines.push_direction.Goals as goal

pub returns-then-not-has_line : goal.returns-then-not-has_line
returns-then-not-has_line c =
    nothing_more c.args.lines.now _ (no_line c.args.told.now c.args.earlier.now c.args.direction.now (sym c.has_line.ensures ∙ c.if-not-has_line.true))

pub returns-in-Some : goal.returns-in-Some
returns-in-Some c =
    let told = c.args.told.now in
    let earlier = c.args.earlier.now in
    let direction = c.args.direction.now in
    let outcome = Some c.in-Some.outcome.now in
    rw (line_with told earlier direction outcome (sym c.has_line.ensures ∙ c.if-not-has_line.false) (sym (ap (λ name. outcome_in name told) c.as_slice-name.ensures) ∙ c.in-Some.ensures)
    ∙ ap (λ count. coordinate_line direction.symbol.id count outcome) (sym (c.count_of-place.ensures ∙ ap (λ name. length (block_directions earlier name)) c.as_slice-name.ensures)))
    c.push_spanned.ensures

pub returns-in-None : goal.returns-in-None
returns-in-None c =
    let told = c.args.told.now in
    nothing_more c.args.lines.now _
    (line_with told c.args.earlier.now c.args.direction.now None (sym c.has_line.ensures ∙ c.if-not-has_line.false) (sym (ap (λ name. outcome_in name told) c.as_slice-name.ensures) ∙ c.in-None.ensures))
