use Rattle.std.proofs.Common.{◌∙◌, sym, ap, ap₂, get_or, length}
use Rattle.span_solver.specs.Algebra.{polynomials}
use Rattle.span_solver.specs.Combine.{without, combine, scaled, length-without}
use Rattle.span_solver.proofs.SystemSteps.{step_back-is, poly_step}
use Rattle.span_solver.proofs.systems.step_back.Goals as goal

pub combine-requires : goal.combine-requires
combine-requires c =
    let others = ap length (c.as_slice.ensures.value ∙ c.in_ok-others.ensures ∙ ap (without c.args.j) c.as_slice-entries.ensures) in
    let left = length-without c.args.j (length c.args.rest.now.multiples) c.args.row.now.0 c.requires.within (sym c.requires.many) in
    others ∙ left ∙ sym (ap length c.as_slice-2.ensures)

pub returns-clause-value : goal.returns-clause-value
returns-clause-value c =
    ap (λ xs. (c.in_ok-number.number, xs)) c.from_vec.ensures
    ∙ step_back-is c.args.row.now c.args.j c.in_ok-number.number c.args.rest.now.number c.index-entries-j.result c.in_ok-own.own c.in_ok-total.total
    c.args.rest.now.multiples c.in_ok-others.others.items c.in_ok-multiples.multiples.items c.insert.new.self.items
    c.requires.within
    (c.index-entries-j.is ∙ ap (λ xs. get_or xs c.args.j c.index-entries-j.result) c.as_slice-entries.ensures)
    c.in_ok-number.ensures.value
    (c.in_ok-others.ensures ∙ ap (without c.args.j) c.as_slice-entries.ensures)
    (c.in_ok-total.ensures.value ∙ ap₂ (λ x y. combine polynomials x y) c.as_slice.ensures.value c.as_slice-2.ensures)
    (c.in_ok-own.ensures.value ∙ ap (λ x. poly_step c.args.rest.now.number c.args.row.now.1 x c.in_ok-total.total) c.one.ensures)
    (c.in_ok-multiples.ensures.value ∙ ap (scaled polynomials c.index-entries-j.result) c.as_slice-3.ensures)
    c.in_ok-insert.ensures.items
