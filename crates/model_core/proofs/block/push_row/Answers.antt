use Rattle.std.proofs.Common.{◌≡◌, ◌+◌, ◌-◌, ◌<◌, ◌++◌, [], ◌∷◌, suc, map, drop, sym, ap, ◌∙◌, arith, append_assoc}
use Rattle.model_core.specs.Content.{symbol_block, columns_at, first_column}
use Rattle.model_core.proofs.ContentLaws.{drop-columns}
use Rattle.model_core.proofs.block.push_row.Goals as goal

pub loop-place-preserved : goal.loop-place-preserved
loop-place-preserved c =
    let term = c.args.term.now in
    let row = c.args.row in
    let place = c.loop-place.place in
    let first = first_column term row in
    let block = symbol_block c.args.model.now term row in
    let rest = map block (drop (place + 1) (columns_at term row)) in
    let within : place < suc term.columns - first = omega (arith, c.symbols_at-place-end.ensures.count, c.loop-place-test.true) in
    let given : c.in_ok-symbol_block.field-0 ≡ block (first + place) = c.in_ok-symbol_block.ensures ∙ ap (λ f. block (f + place)) c.first_column-first.ensures.value in
    let next : map block (drop place (columns_at term row)) ≡ block (first + place) ∷ rest = ap (map block) (drop-columns term row place within) in
    ap (λ blocks. blocks ++ rest) (c.in_ok-push.ensures.ok ∙ ap (λ b. c.loop-place.blocks ++ b ∷ []) given)
    ∙ append_assoc c.loop-place.blocks (block (first + place) ∷ []) rest
    ∙ ap (λ blocks. c.loop-place.blocks ++ blocks) (sym next)
    ∙ c.loop-place.invariant
