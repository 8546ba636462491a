use Rattle.std.proofs.Common.{◌≡◌, ◌+◌, ◌-◌, ◌<◌, ◌≤◌, suc, ◌++◌, ◌∷◌, [], ◌∙◌, sym, ap, map, arith}
use Rattle.model_core.specs.Content.{first_column}
use Rattle.derive_core.specs.Targets.{cell_target}
use Rattle.derive_core.proofs.TargetLists.{cells_from, row_step, row_end}
use Rattle.derive_core.proofs.targets.push_row.Goals as goal

pub loop-step-preserved : goal.loop-step-preserved
loop-step-preserved c =
    let term = c.args.term.now in
    let row = c.args.row in
    let step = c.loop-step.step in
    let first = c.first_column-first.ensures.value in
    let inside : step < suc term.columns - first_column term row = omega (arith, c.loop-step-test.true, c.saturating_sub-count.ensures, first) in
    let pushed : c.push.new.self ≡ c.loop-step.targets ++ cell_target term (row, first_column term row + step) ∷ [] =
    c.in_ok-push.ensures.ok ∙ ap (λ t. c.loop-step.targets ++ t ∷ []) (c.cell_target.ensures ∙ ap (λ f. cell_target term (row, f + step)) first) in
    ap (λ ts. ts ++ map (cell_target term) (cells_from term row (step + 1))) pushed ∙ row_step term row step c.loop-step.targets inside ∙ c.loop-step.invariant

pub returns : goal.returns
returns c =
    let term = c.args.term.now in
    let over : suc term.columns - first_column term c.args.row ≤ c.loop-step.step = omega (arith, c.loop-step-test.false, c.saturating_sub-count.ensures, c.first_column-first.ensures.value) in
    sym (row_end term c.args.row c.loop-step.step c.loop-step.targets over) ∙ c.loop-step.invariant
