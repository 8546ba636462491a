use Rattle.std.proofs.Common.{◌≡◌, ◌+◌, ◌++◌, drop, sym, ap, ◌∙◌, append_assoc, length, arith}
use Rattle.std.specs.List.{flat_map, list_all}
use Rattle.std.proofs.lemmas.List.{append-nil}
use Rattle.model_core.specs.Content.{row_blocks, rows_of, term_blocks, has_small_directions}
use Rattle.model_core.proofs.ContentLaws.{drop-rows, drop-all_rows, term_blocks-small, term_blocks-few}
use Rattle.model_core.proofs.block.term_blocks.Goals as goal

pub loop-place-preserved : goal.loop-place-preserved
loop-place-preserved c =
    let term = c.args.term.now in
    let place = c.loop-place.place in
    let blocks = row_blocks c.args.model.now term in
    let rest = flat_map blocks (drop (place + 1) (rows_of term)) in
    let next : flat_map blocks (drop place (rows_of term)) ≡ blocks (place + 1) ++ rest = ap (flat_map blocks) (drop-rows term place c.loop-place-test.true) in
    ap (λ built. built ++ rest) c.in_ok-push_row.ensures
    ∙ append_assoc c.loop-place.blocks (blocks (place + 1)) rest
    ∙ ap (λ others. c.loop-place.blocks ++ others) (sym next)
    ∙ c.loop-place.invariant

pub returns : goal.returns
returns c =
    let term = c.args.term.now in
    let model = c.args.model.now in
    let value : c.loop-place.blocks ≡ term_blocks model term = sym (append-nil c.loop-place.blocks)
    ∙ ap (λ others. c.loop-place.blocks ++ flat_map (row_blocks c.args.model.now term) others) (sym (drop-all_rows term c.loop-place.place c.loop-place-test.false))
    ∙ c.loop-place.invariant in
    record {
      value = value;
      small = ap (list_all has_small_directions) value ∙ term_blocks-small model term;
      few = λ rows columns. omega (arith, ap length value, term_blocks-few model term rows columns);
    }
