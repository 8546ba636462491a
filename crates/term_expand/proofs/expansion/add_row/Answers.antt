use Rattle.std.proofs.Common.{◌+◌, ap, refl, arith}
use Rattle.term_expand.specs.declared.expansion.Place.{Place}
use Rattle.term_expand.proofs.Added.{adds_none}
use Rattle.term_expand.proofs.Numbered.{row_step, row_end, row_count}
use Rattle.term_expand.proofs.expansion.add_row.Goals as goal

pub loop-step-init : goal.loop-step-init
loop-step-init c = record { added = adds_none c.args.model.now c.args.sums.now; numbered = omega arith }

pub overflow_add-id : goal.overflow_add-id
overflow_add-id c =
    let cells = row_count c.args.term.now c.args.row c.first_column-first.result c.saturating_sub-count.result c.first_column-first.ensures.value c.saturating_sub-count.ensures in
    let id = c.loop-step.invariant.numbered in
    omega (arith, cells, id, c.requires.ids, c.loop-step-test.true)

pub loop-step-preserved : goal.loop-step-preserved
loop-step-preserved c =
    let cells = row_count c.args.term.now c.args.row c.first_column-first.result c.saturating_sub-count.result c.first_column-first.ensures.value c.saturating_sub-count.ensures in
    let id = c.loop-step.invariant.numbered in
    let next : Place = record { term = c.args.place.now.term; id = c.loop-step.id } in
    record {
      added = row_step c.args.model.now c.args.place.now next c.args.term.now c.args.row c.loop-step.step _ c.args.sums.now c.loop-step.sums c.add_entry.new.sums (omega (arith, cells, c.loop-step-test.true)) refl id (ap (λ n. n + c.loop-step.step) c.first_column-first.ensures.value) c.loop-step.invariant.added c.in_ok-add_entry.ensures.value;
      numbered = omega (arith, id);
    }

pub returns-clause-id : goal.returns-clause-id
returns-clause-id c =
    let cells = row_count c.args.term.now c.args.row c.first_column-first.result c.saturating_sub-count.result c.first_column-first.ensures.value c.saturating_sub-count.ensures in
    let id = c.loop-step.invariant.numbered in
    omega (arith, cells, id, c.loop-step-test.false, c.loop-step.auto.step-end)

pub returns-clause-value : goal.returns-clause-value
returns-clause-value c =
    let cells = row_count c.args.term.now c.args.row c.first_column-first.result c.saturating_sub-count.result c.first_column-first.ensures.value c.saturating_sub-count.ensures in
    row_end c.args.model.now c.args.place.now c.args.term.now c.args.row c.loop-step.step c.args.sums.now c.loop-step.sums (omega (arith, cells, c.loop-step-test.false)) c.loop-step.invariant.added
