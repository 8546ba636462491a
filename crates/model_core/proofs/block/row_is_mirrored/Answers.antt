use Rattle.std.proofs.Common.{◌≡◌, ◌+◌, ◌-◌, ◌<◌, suc, true, false, sym, ap, ◌∙◌, arith}
use Rattle.model_core.specs.Content.{is_mirrored, first_column}
use Rattle.model_core.proofs.ContentLaws.{drop-columns, all_from, not_all_from}
use Rattle.model_core.proofs.block.row_is_mirrored.Goals as goal

pub returns-then-not-branch : goal.returns-then-not-branch
returns-then-not-branch c =
    let term = c.args.term.now in
    let test = is_mirrored c.args.model.now c.args.used.now c.args.row in
    let first = first_column term c.args.row in
    let within : c.loop-place.place < suc term.columns - first = omega (arith, c.symbols_at-place-end.ensures.count, c.loop-place-test.true) in
    let fails : test (first + c.loop-place.place) ≡ false = ap (λ f. test (f + c.loop-place.place)) (sym c.first_column-first.ensures.value) ∙ sym c.in_ok-is_mirrored.ensures ∙ c.if-not-branch.true in
    sym (not_all_from test _ _ _ (drop-columns term c.args.row c.loop-place.place within) fails) ∙ c.loop-place.invariant

pub loop-place-preserved : goal.loop-place-preserved
loop-place-preserved c =
    let term = c.args.term.now in
    let test = is_mirrored c.args.model.now c.args.used.now c.args.row in
    let first = first_column term c.args.row in
    let within : c.loop-place.place < suc term.columns - first = omega (arith, c.symbols_at-place-end.ensures.count, c.loop-place-test.true) in
    let passes : test (first + c.loop-place.place) ≡ true = ap (λ f. test (f + c.loop-place.place)) (sym c.first_column-first.ensures.value) ∙ sym c.in_ok-is_mirrored.ensures ∙ c.if-not-branch.false in
    sym (all_from test _ _ _ (drop-columns term c.args.row c.loop-place.place within) passes) ∙ c.loop-place.invariant
