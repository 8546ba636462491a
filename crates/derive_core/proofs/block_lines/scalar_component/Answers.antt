use Rattle.std.proofs.Common.{sym, ◌∙◌}
use Rattle.derive_core.proofs.BlockLegs.{have_scalar_coordinates, scalar_legs_outside}
use Rattle.derive_core.proofs.block_lines.scalar_component.Goals as goal

pub component_at-requires-clause-inside : goal.component_at-requires-clause-inside
component_at-requires-clause-inside c =
    have_scalar_coordinates c.args.model.now c.args.a c.args.b c.args.c c.args.d (sym c.are_scalar_places.ensures ∙ c.if-are_scalar_places.true)

pub returns : goal.returns
returns c =
    c.new.ensures
    ∙ sym (scalar_legs_outside c.args.model.now c.args.side c.args.a c.args.b c.args.c c.args.d (sym c.are_scalar_places.ensures ∙ c.if-are_scalar_places.false))
