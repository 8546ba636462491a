use Rattle.std.proofs.Common.{◌+◌, ◌^◌, sym, subst, arith}
use Rattle.std.proofs.lemmas.Option.{slice_get_within}
use Rattle.std.proofs.lemmas.Result.{err_from_is_err_and}
use Rattle.beta_poly.specs.Monomial.{power, times_monomial}
use Rattle.model_core.specs.GaugeTwoLoop.{gauge_symbol}
use Rattle.model_core.proofs.ValidLaws.{valid_parts, parts_groups, group_limit}
use Rattle.gauge_two_loop.specs.Pieces.{AllShares}
use Rattle.gauge_two_loop.proofs.Terms.{term_shares, add_shares, sums_fit, plain_refusal}
use Rattle.gauge_two_loop.proofs.pieces.add_mixed.Goals as goal

pub gauge_piece-requires-clause-k : goal.gauge_piece-requires-clause-k
gauge_piece-requires-clause-k c =
    let groups = c.args.model.now.groups in
    omega (arith, slice_get_within groups c.args.k c.args.first.now c.requires.first, group_limit groups (parts_groups c.args.model.now (valid_parts c.args.model.now c.requires.valid)))

pub gauge_piece-requires-clause-l : goal.gauge_piece-requires-clause-l
gauge_piece-requires-clause-l c =
    let groups = c.args.model.now.groups in
    omega (arith, slice_get_within groups c.args.l c.args.second.now c.requires.second, group_limit groups (parts_groups c.args.model.now (valid_parts c.args.model.now c.requires.valid)))

pub returns-in_err-add-clause-refused : goal.returns-in_err-add-clause-refused
returns-in_err-add-clause-refused c =
    let given = err_from_is_err_and c.from_residual-in_err-add.result c.from_residual-in_err-add.ensures.1 in
    let model = c.args.model.now in
    let sum = c.args.sum.now in
    let piece = c.in_ok-piece.piece in
    let mono = times_monomial (power (gauge_symbol c.args.k) 3) (power (gauge_symbol c.args.l) 2) in
    rw (given.1, given.2) (plain_refusal model sum piece c.in_err-add.field-0.0 (λ plain.
    sums_fit (2 ^ 100) (2 ^ 91) sum piece (omega arith) (c.requires.small plain)
    (subst (AllShares (2 ^ 91)) (sym c.in_ok-piece.ensures) (term_shares (2 ^ 91) mono c.in_ok-number.number (c.in_ok-number.ensures.bound plain)))) c.in_err-add.ensures.refused)

pub returns-clause-bound : goal.returns-clause-bound
returns-clause-bound c = λ bound plain on.
    let sum = c.args.sum.now in
    let piece = c.in_ok-piece.piece in
    let mono = times_monomial (power (gauge_symbol c.args.k) 3) (power (gauge_symbol c.args.l) 2) in
    let small = subst (AllShares (2 ^ 91)) (sym c.in_ok-piece.ensures) (term_shares (2 ^ 91) mono c.in_ok-number.number (c.in_ok-number.ensures.bound plain)) in
    subst (AllShares (bound + 2 ^ 91)) (sym c.in_ok-add.ensures.value) (add_shares bound (2 ^ 91) sum piece on small)
