use Rattle.std.proofs.Common.{ℕ, List, ap, ◌∙◌}
use Rattle.beta_poly.specs.Polynomial.{Polynomial, coefficient_of}
use Rattle.sparse_tensor.specs.Tensor.{entries_of}
use Rattle.gauge_check.proofs.FirstKeys.{first_entry}
use Rattle.gauge_check.proofs.FirstFailures.{is_first_of, no_items, no_change, first_change, first_value, change_fault}
use Rattle.gauge_check.proofs.check.check_change.Goals as goal

pub returns-then-len-eq0 : goal.returns-then-len-eq0
returns-then-len-eq0 c meant places kinds has =
    no_change c.args.model.now c.args.term.now meant c.args.generator c.args.side c.args.term.now.kind kinds c.args.changed.now has
    (no_items (entries_of c.args.changed.now) c.len.result c.len.ensures c.if-len-eq0.true)

pub component_at-requires-clause-inside : goal.component_at-requires-clause-inside
component_at-requires-clause-inside c =
    let some = c.requires.numbers in
    (first_entry c.args.model.now c.args.term.now.kind some.numbers c.args.changed.now some.has (c.item.result.0.now, c.item.result.1.now) c.item.ensures).inside

pub returns : goal.returns
returns c meant places kinds has =
    let model = c.args.model.now in
    let term = c.args.term.now in
    let x = c.args.generator in
    let side = c.args.side in
    let changed = c.args.changed.now in
    let e : List ℕ × Polynomial = (c.item.result.0.now, c.item.result.1.now) in
    is_first_of model _ _ _ (first_change model term meant x side term.kind kinds changed has e c.item.ensures)
    (change_fault model term meant x side e.0 c.args.place c.copy.result c.item-2.result.now c.copy-2.result c.component_at.result c.coefficient.result places c.copy.ensures c.item-2.ensures c.copy-2.ensures c.component_at.ensures
    (first_value model term meant x side term.kind kinds changed has e c.coefficient.result c.item.ensures (c.coefficient.ensures ∙ ap (coefficient_of c.item.result.1.now) c.in_ok-one.ensures)))
