use Rattle.std.specs.List.{list_any}
use Rattle.std.proofs.Common.{sym, ap, ◌∙◌}
use Rattle.span_solver.specs.BlockDirections.{is_named}
use Rattle.derive_core.proofs.BlockLegs.{generated_some, generated_none}
use Rattle.derive_core.proofs.FoundLines.{nothing_more}
use Rattle.derive_core.proofs.block_lines.push_generated.Goals as goal

pub returns-then-has_block : goal.returns-then-has_block
returns-then-has_block c =
    let some = sym (c.has_block.ensures ∙ ap (λ name. list_any (is_named name) c.args.directions.now) c.as_slice.ensures) ∙ c.if-has_block.true in
    nothing_more c.args.lines.now _ (generated_some c.args.model.now c.args.directions.now c.args.told.now c.requires.directions some)

pub returns : goal.returns
returns c =
    let none = sym (c.has_block.ensures ∙ ap (λ name. list_any (is_named name) c.args.directions.now) c.as_slice.ensures) ∙ c.if-has_block.false in
    rw (generated_none c.args.model.now c.args.directions.now c.args.told.now c.requires.directions none) c.push_value.ensures
