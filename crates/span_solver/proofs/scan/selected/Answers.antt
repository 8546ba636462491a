use Rattle.std.proofs.Common.{◌<◌, ◌+◌, sym, arith, length, get_or, rules, subst}
use Rattle.sparse_tensor.specs.Tensor.{value, rank_of}
use Rattle.span_solver.specs.Scanned.{valued}
use Rattle.span_solver.specs.Elimination.{GapsFit}
use Rattle.span_solver.proofs.Scans.{gap-fits, selected-more, selected-start, selected-end, row-selected, length-valued, rank-there}
use Rattle.span_solver.proofs.scan.selected.Goals as goal

pub loop-gap-init : goal.loop-gap-init
loop-gap-init c =
    selected-start c.args.gaps.now (valued (value c.args.tensor.now) c.args.keys.now c.args.rows.now) c.new-out.result.items
    (subst (GapsFit c.args.gaps.now) (sym (length-valued (value c.args.tensor.now) c.args.keys.now c.args.rows.now c.requires.same)) c.requires.fit) c.new-out.ensures.items

pub overflow_add-at : goal.overflow_add-at
overflow_add-at c =
    let f = gap-fits c.args.gaps.now (valued (value c.args.tensor.now) c.args.keys.now c.args.rows.now) c.loop-gap.out.items c.loop-gap.gap-index c.loop-gap.place c.loop-gap-test.true c.loop-gap.invariant in
    let h : c.loop-gap.place + get_or c.args.gaps.now c.loop-gap.gap-index 0 < length c.args.rows.now = omega (arith, f, length-valued (value c.args.tensor.now) c.args.keys.now c.args.rows.now c.requires.same) in
    search (rules, h)

pub bounds-rows-at : goal.bounds-rows-at
bounds-rows-at c =
    let f = gap-fits c.args.gaps.now (valued (value c.args.tensor.now) c.args.keys.now c.args.rows.now) c.loop-gap.out.items c.loop-gap.gap-index c.loop-gap.place c.loop-gap-test.true c.loop-gap.invariant in
    omega (arith, f, length-valued (value c.args.tensor.now) c.args.keys.now c.args.rows.now c.requires.same)

pub offset_bounds-rows-at : goal.offset_bounds-rows-at
offset_bounds-rows-at c =
    let f = gap-fits c.args.gaps.now (valued (value c.args.tensor.now) c.args.keys.now c.args.rows.now) c.loop-gap.out.items c.loop-gap.gap-index c.loop-gap.place c.loop-gap-test.true c.loop-gap.invariant in
    let h : c.loop-gap.place + get_or c.args.gaps.now c.loop-gap.gap-index 0 < length c.args.rows.now = omega (arith, f, length-valued (value c.args.tensor.now) c.args.keys.now c.args.rows.now c.requires.same) in
    search (rules, h)

pub bounds-keys-at : goal.bounds-keys-at
bounds-keys-at c =
    let f = gap-fits c.args.gaps.now (valued (value c.args.tensor.now) c.args.keys.now c.args.rows.now) c.loop-gap.out.items c.loop-gap.gap-index c.loop-gap.place c.loop-gap-test.true c.loop-gap.invariant in
    omega (arith, f, length-valued (value c.args.tensor.now) c.args.keys.now c.args.rows.now c.requires.same, c.requires.same)

pub offset_bounds-keys-at : goal.offset_bounds-keys-at
offset_bounds-keys-at c =
    let f = gap-fits c.args.gaps.now (valued (value c.args.tensor.now) c.args.keys.now c.args.rows.now) c.loop-gap.out.items c.loop-gap.gap-index c.loop-gap.place c.loop-gap-test.true c.loop-gap.invariant in
    let h : c.loop-gap.place + get_or c.args.gaps.now c.loop-gap.gap-index 0 < length c.args.keys.now = omega (arith, f, length-valued (value c.args.tensor.now) c.args.keys.now c.args.rows.now c.requires.same, c.requires.same) in
    search (rules, h)

pub overflow_add-place : goal.overflow_add-place
overflow_add-place c =
    let f = gap-fits c.args.gaps.now (valued (value c.args.tensor.now) c.args.keys.now c.args.rows.now) c.loop-gap.out.items c.loop-gap.gap-index c.loop-gap.place c.loop-gap-test.true c.loop-gap.invariant in
    let h : c.loop-gap.place + get_or c.args.gaps.now c.loop-gap.gap-index 0 < length c.args.rows.now = omega (arith, f, length-valued (value c.args.tensor.now) c.args.keys.now c.args.rows.now c.requires.same) in
    search (rules, h)

pub loop-gap-preserved : goal.loop-gap-preserved
loop-gap-preserved c =
    let rows = valued (value c.args.tensor.now) c.args.keys.now c.args.rows.now in
    let at = c.loop-gap.place + get_or c.args.gaps.now c.loop-gap.gap-index 0 in
    let f = gap-fits c.args.gaps.now rows c.loop-gap.out.items c.loop-gap.gap-index c.loop-gap.place c.loop-gap-test.true c.loop-gap.invariant in
    let h : at < length c.args.rows.now = omega (arith, f, length-valued (value c.args.tensor.now) c.args.keys.now c.args.rows.now c.requires.same) in
    selected-more c.args.gaps.now rows c.loop-gap.out.items c.push.new.self.items c.loop-gap.gap-index c.loop-gap.place c.in_ok-row.row c.loop-gap-test.true c.loop-gap.invariant
    (row-selected (value c.args.tensor.now) c.args.keys.now c.args.rows.now at c.in_ok-row.row c.index-keys-at.result c.index-rows-at.result c.requires.same h c.index-keys-at.is c.index-rows-at.is c.in_ok-row.ensures)
    c.in_ok-push.ensures.items

pub returns : goal.returns
returns c = selected-end c.args.gaps.now (valued (value c.args.tensor.now) c.args.keys.now c.args.rows.now) c.loop-gap.out.items c.loop-gap.gap-index c.loop-gap.place c.loop-gap-test.false c.loop-gap.invariant

pub row_of-requires : goal.row_of-requires
row_of-requires c =
    let f = gap-fits c.args.gaps.now (valued (value c.args.tensor.now) c.args.keys.now c.args.rows.now) c.loop-gap.out.items c.loop-gap.gap-index c.loop-gap.place c.loop-gap-test.true c.loop-gap.invariant in
    let h : c.loop-gap.place + get_or c.args.gaps.now c.loop-gap.gap-index 0 < length c.args.keys.now = omega (arith, f, length-valued (value c.args.tensor.now) c.args.keys.now c.args.rows.now c.requires.same, c.requires.same) in
    rank-there (rank_of c.args.tensor.now) c.args.keys.now (c.loop-gap.place + get_or c.args.gaps.now c.loop-gap.gap-index 0) c.index-keys-at.result c.requires.rank h c.index-keys-at.is
