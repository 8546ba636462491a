use Rattle.std.proofs.Common.{ap, ◌∙◌}
use Rattle.std.proofs.lemmas.Result.{IfOk-at_ok}
use Rattle.model_core.specs.BlockSide.{side_of}
use Rattle.model_core.specs.Content.{conjugate_content}
use Rattle.model_core.specs.Directions.{conjugated, cell_tensor}
use Rattle.term_expand.specs.Multiples.{HasNumbers}
use Rattle.term_expand.proofs.moves.text_at.Goals as goal

pub returns-clause-value : goal.returns-clause-value
returns-clause-value c =
    let model = c.args.model.now in
    let term = c.args.term.now in
    let block = c.args.block.now in
    let f = cell_tensor model term (c.args.row, c.args.column) in
    record {
      plain_side = c.side_of-plain_side.ensures ∙ ap (side_of block) (c.as_slice-2.ensures ∙ c.in_ok-content.ensures);
      plain = c.in_ok-plain.ensures.value;
      conjugate_side = c.side_of-conjugate_side.ensures ∙ ap (side_of block) (c.as_slice-3.ensures ∙ c.in_ok-other.ensures ∙ ap (conjugate_content model) (c.as_slice.ensures ∙ c.in_ok-content.ensures));
      conjugate = IfOk-at_ok (HasNumbers model term.kind (conjugated term.kind f)) c.in_ok-conjugate.was (c.conjugate.ensures.value f c.in_ok-plain.ensures.value);
    }
