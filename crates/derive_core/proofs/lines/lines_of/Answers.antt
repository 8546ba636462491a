use Rattle.std.specs.List.{All}
use Rattle.std.proofs.Common.{sym, subst, ap, ◌∙◌, ◌++◌}
use Rattle.model_core.specs.Directions.{directions}
use Rattle.term_expand.specs.Expansion.{AreDirections}
use Rattle.derive_core.specs.Lines.{block_lines}
use Rattle.derive_core.specs.Works.{HasLegs}
use Rattle.derive_core.proofs.AllLines.{are_lines}
use Rattle.derive_core.proofs.lines.lines_of.Goals as goal

pub push_told-requires-clause-directions : goal.push_told-requires-clause-directions
push_told-requires-clause-directions g c =
    subst (AreDirections (directions c.args.accepted.now.model)) (sym c.as_slice-directions.ensures) c.requires.tensors.directions

pub push_told-requires-clause-legs : goal.push_told-requires-clause-legs
push_told-requires-clause-legs g c = subst (All HasLegs) (sym c.as_slice-blocks.ensures) c.in_ok-told.ensures.legs

pub returns : goal.returns
returns g c =
    are_lines c.args.loops c.args.accepted.now.model c.in_ok-told.told c.in_ok-lines.lines c.push_told.new.lines c.in_ok-lines.ensures c.in_ok-told.ensures
    (c.in_ok-push_told.ensures ∙ ap (λ told. c.in_ok-lines.lines ++ block_lines c.args.accepted.now.model told) c.as_slice-blocks.ensures)
