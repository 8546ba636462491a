use Rattle.std.proofs.Common.{sym, ◌∙◌}
use Rattle.derive_core.proofs.BlockLegs.{have_coordinates, legs_outside}
use Rattle.derive_core.proofs.block_lines.fermion_component.Goals as goal

pub component_at-requires-clause-inside : goal.component_at-requires-clause-inside
component_at-requires-clause-inside c =
    have_coordinates c.args.model.now c.args.j c.args.k c.args.a (sym c.are_places.ensures ∙ c.if-are_places.true)

pub returns : goal.returns
returns c =
    c.new.ensures ∙ sym (legs_outside c.args.model.now c.args.side c.args.j c.args.k c.args.a (sym c.are_places.ensures ∙ c.if-are_places.false))
