use Rattle.std.proofs.Common.{Some, sym, ◌∙◌, ap, arith, length, subst, map, ◌-◌, ◌<◌}
use Rattle.std.specs.Option.{option_map}
use Rattle.std.specs.Prelude.{◌∷◌}
use Rattle.span_solver.specs.Elimination.{HaveLength, pivots, reduced}
use Rattle.span_solver.proofs.Steps.{pivots-passed, pivots-at, pivot_row}
use Rattle.span_solver.proofs.pivots.+pivots.Goals as goal

pub returns-in-None-clause-value : goal.returns-in-None-clause-value
returns-in-None-clause-value t c = pivots-passed c.args.k c.args.rows.now c.if-k-eq0.false c.in-None.ensures.found

pub reduced_rows-requires : goal.reduced_rows-requires
reduced_rows-requires t c =
    let row = pivot_row c.args.k c.args.rows.now c.in-Some.found.0 c.in-Some.found.1 c.index-rows-i.result c.requires c.in-Some.ensures.found c.index-rows-i.is in
    record {
      within = row.within;
      same = subst (HaveLength (length c.index-rows-i.result)) (sym c.split_at.ensures.back) row.later;
    }

pub pivots-requires : goal.pivots-requires
pivots-requires t c =
    let row = pivot_row c.args.k c.args.rows.now c.in-Some.found.0 c.in-Some.found.1 c.index-rows-i.result c.requires c.in-Some.ensures.found c.index-rows-i.is in
    let less : c.args.k - 1 < t = omega arith in
    (less, subst (HaveLength (c.args.k - 1)) (sym (c.as_slice.ensures.value ∙ c.in_ok-smaller.ensures.value ∙ ap (map (reduced c.index-rows-i.result c.in-Some.found.1)) c.split_at.ensures.back)) row.smaller)

pub returns-in-None-2-clause-value : goal.returns-in-None-2-clause-value
returns-in-None-2-clause-value t c =
    pivots-at c.args.k c.args.rows.now c.in-Some.found.0 c.in-Some.found.1 c.index-rows-i.result c.if-k-eq0.false c.in-Some.ensures.found c.index-rows-i.is
    ∙ ap (option_map (λ gs. c.in-Some.found.0 ∷ gs))
    (ap (pivots (c.args.k - 1)) (sym (c.as_slice.ensures.value ∙ c.in_ok-smaller.ensures.value ∙ ap (map (reduced c.index-rows-i.result c.in-Some.found.1)) c.split_at.ensures.back))
    ∙ rw c.in-None-2.is at c.in_ok-gaps.ensures.value)

pub returns-clause-value : goal.returns-clause-value
returns-clause-value t c =
    pivots-at c.args.k c.args.rows.now c.in-Some.found.0 c.in-Some.found.1 c.index-rows-i.result c.if-k-eq0.false c.in-Some.ensures.found c.index-rows-i.is
    ∙ ap (option_map (λ gs. c.in-Some.found.0 ∷ gs))
    (ap (pivots (c.args.k - 1)) (sym (c.as_slice.ensures.value ∙ c.in_ok-smaller.ensures.value ∙ ap (map (reduced c.index-rows-i.result c.in-Some.found.1)) c.split_at.ensures.back))
    ∙ rw c.in-Some-2.is at c.in_ok-gaps.ensures.value)
    ∙ ap (λ gs. Some gs) (sym c.in_ok-insert.ensures.items)
