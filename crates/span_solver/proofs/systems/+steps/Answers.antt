use Rattle.std.proofs.Common.{◌≡◌, ◌∙◌, sym, ap, subst, arith, length, suc, ◌<◌, ◌-◌, map, drop}
use Rattle.span_solver.specs.Algebra.{polynomials}
use Rattle.span_solver.specs.Elimination.{leading, HaveLength}
use Rattle.span_solver.specs.Systems.{entries, IsRegular, steps, step_back, reduced_row, steps-solve}
use Rattle.span_solver.proofs.SystemSteps.{first_pivot-of, steps-at}
use Rattle.span_solver.proofs.systems.+steps.Goals as goal

pub steps-requires : goal.steps-requires
steps-requires t c =
    let leads = ap leading (sym c.as_slice.ensures) ∙ sym c.leading.ensures.value ∙ c.unwrap-j.ensures in
    let first = first_pivot-of c.args.k c.args.rows.now c.index-rows-0-2.result c.unwrap-j.result (let h : 0 < c.args.k = omega arith in h) c.requires.regular c.requires.many c.index-rows-0-2.is leads in
    let rows = c.as_slice-2.ensures.value ∙ c.in_ok-smaller.ensures.value ∙ ap (map (reduced_row polynomials c.index-rows-0-2.result c.unwrap-j.result)) c.split_at.ensures.back in
    let less : c.args.k - 1 < t = omega arith in
    (less, (subst (λ rs. IsRegular (c.args.k - 1) (entries polynomials rs)) (sym rows) first.regular, subst (λ rs. HaveLength (c.args.k - 1) (entries polynomials rs)) (sym rows) first.smaller))

pub step_back-requires-clause-many : goal.step_back-requires-clause-many
step_back-requires-clause-many t c =
    let leads = ap leading (sym c.as_slice.ensures) ∙ sym c.leading.ensures.value ∙ c.unwrap-j.ensures in
    let first = first_pivot-of c.args.k c.args.rows.now c.index-rows-0-2.result c.unwrap-j.result (let h : 0 < c.args.k = omega arith in h) c.requires.regular c.requires.many c.index-rows-0-2.is leads in
    let rows = c.as_slice-2.ensures.value ∙ c.in_ok-smaller.ensures.value ∙ ap (map (reduced_row polynomials c.index-rows-0-2.result c.unwrap-j.result)) c.split_at.ensures.back in
    let solved = steps-solve polynomials (c.args.k - 1) (map (reduced_row polynomials c.index-rows-0-2.result c.unwrap-j.result) (drop 1 c.args.rows.now)) first.regular first.smaller in
    let many = ap (λ n. length n.1) (c.in_ok-rest.ensures.value ∙ ap (steps polynomials (c.args.k - 1)) rows) ∙ solved.many in
    ap suc many ∙ (let e : suc (c.args.k - 1) ≡ c.args.k = omega arith in e) ∙ sym first.many

pub returns-clause-value : goal.returns-clause-value
returns-clause-value t c =
    let leads = ap leading (sym c.as_slice.ensures) ∙ sym c.leading.ensures.value ∙ c.unwrap-j.ensures in
    let rows = c.as_slice-2.ensures.value ∙ c.in_ok-smaller.ensures.value ∙ ap (map (reduced_row polynomials c.index-rows-0-2.result c.unwrap-j.result)) c.split_at.ensures.back in
    let large : 2 < c.args.k = omega arith in
    let some : 0 < length c.args.rows.now = omega arith in
    c.in_ok-all.ensures.value ∙ ap (step_back polynomials c.index-rows-0-2.result c.unwrap-j.result) (c.in_ok-rest.ensures.value ∙ ap (steps polynomials (c.args.k - 1)) rows)
    ∙ sym (steps-at c.args.k c.args.rows.now c.index-rows-0-2.result c.unwrap-j.result large some c.index-rows-0-2.is leads)
