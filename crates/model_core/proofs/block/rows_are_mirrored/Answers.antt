use Rattle.std.proofs.Common.{sym, ap, ◌∙◌}
use Rattle.std.specs.List.{list_all}
use Rattle.model_core.specs.Content.{row_is_mirrored}
use Rattle.model_core.proofs.ContentLaws.{drop-rows, drop-all_rows, all_from, not_all_from}
use Rattle.model_core.proofs.block.rows_are_mirrored.Goals as goal

pub returns-then-not-branch : goal.returns-then-not-branch
returns-then-not-branch c =
    let test = row_is_mirrored c.args.model.now c.args.used.now c.args.term.now in
    sym (not_all_from test _ _ _ (drop-rows c.args.term.now c.loop-place.place c.loop-place-test.true) (sym c.in_ok-row_is_mirrored.ensures ∙ c.if-not-branch.true)) ∙ c.loop-place.invariant

pub loop-place-preserved : goal.loop-place-preserved
loop-place-preserved c =
    let test = row_is_mirrored c.args.model.now c.args.used.now c.args.term.now in
    sym (all_from test _ _ _ (drop-rows c.args.term.now c.loop-place.place c.loop-place-test.true) (sym c.in_ok-row_is_mirrored.ensures ∙ c.if-not-branch.false)) ∙ c.loop-place.invariant

pub returns : goal.returns
returns c =
    let test = row_is_mirrored c.args.model.now c.args.used.now c.args.term.now in
    sym (ap (list_all test) (drop-all_rows c.args.term.now c.loop-place.place c.loop-place-test.false)) ∙ c.loop-place.invariant
