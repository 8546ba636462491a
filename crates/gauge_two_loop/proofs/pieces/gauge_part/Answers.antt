use Rattle.std.proofs.Common.{◌≡◌, ℕ, ◌+◌, ◌*◌, ◌^◌, length, Some, sym, subst, ap, ◌∙◌, arith}
use Rattle.std.specs.Prelude.{slice_get}
use Rattle.std.specs.List.{enumerate_from}
use Rattle.std.proofs.lemmas.List.{take_all}
use Rattle.std.proofs.lemmas.List.FromFn.{length-enumerate_from}
use Rattle.std.proofs.lemmas.Option.{slice_get_read}
use Rattle.exact_algebra.specs.Sums.{sum-nil}
use Rattle.frac128.specs.Rational.{neg_ℚ}
use Rattle.beta_poly.specs.Monomial.{power, times_monomial}
use Rattle.beta_poly.specs.Polynomial.{poly_ring, add_poly}
use Rattle.model_core.specs.declared.group.Group.{Group}
use Rattle.model_core.specs.GaugeTwoLoop.{gauge_symbol, own_number, mixed_number}
use Rattle.model_core.proofs.ValidLaws.{valid_parts, parts_groups, group_limit}
use Rattle.gauge_two_loop.specs.Pieces.{AllShares, gauge_piece, mixed_pieces}
use Rattle.gauge_two_loop.proofs.PieceLaws.{mixed_pieces-more}
use Rattle.gauge_two_loop.proofs.Terms.{term_shares, shares_weaker}
use Rattle.gauge_two_loop.proofs.pieces.gauge_part.Goals as goal

pub loop-l-init : goal.loop-l-init
loop-l-init c =
    let k = c.args.k in
    let own = gauge_piece k k (neg_ℚ (own_number c.args.model.now (k, c.args.group.now))) in
    let mono = times_monomial (power (gauge_symbol k) 3) (power (gauge_symbol k) 2) in
    record {
      so_far = c.in_ok-sum.ensures ∙ ap (gauge_piece k k) c.own_of.ensures.value ∙ sym (poly_ring.semiring.add_zero own) ∙ ap (add_poly own) (sym (sum-nil poly_ring.semiring _));
      bound = λ plain. subst (AllShares (2 ^ 91)) (sym c.in_ok-sum.ensures) (term_shares (2 ^ 91) mono c.own_of.result c.own_of.ensures.bound);
    }

pub add_mixed-requires-clause-second : goal.add_mixed-requires-clause-second
add_mixed-requires-clause-second c =
    let groups = c.as_slice-groups.result.now in
    ap (λ gs. slice_get gs c.loop-l.l) (sym c.as_slice-groups.ensures)
    ∙ slice_get_read groups (length groups) c.loop-l.l c.index-groups-l.result (omega arith) c.loop-l-test.true c.index-groups-l.is

pub add_mixed-requires-clause-small : goal.add_mixed-requires-clause-small
add_mixed-requires-clause-small c = λ plain.
    let groups = c.args.model.now.groups in
    let l = c.loop-l.l in
    let few = group_limit groups (parts_groups c.args.model.now (valid_parts c.args.model.now c.requires.valid)) in
    let inside = ap length c.as_slice-groups.ensures in
    shares_weaker (2 ^ 91 + l * 2 ^ 91) (2 ^ 100) c.loop-l.sum (omega (arith, few, inside, c.loop-l-test.true)) (c.loop-l.invariant.bound plain)

pub loop-l-preserved : goal.loop-l-preserved
loop-l-preserved c =
    let model = c.args.model.now in
    let k : ℕ × Group = (c.args.k, c.args.group.now) in
    let l = c.loop-l.l in
    let second = c.index-groups-l.result in
    let groups = c.as_slice-groups.result.now in
    let there : slice_get model.groups l ≡ Some second =
    ap (λ gs. slice_get gs l) (sym c.as_slice-groups.ensures) ∙ slice_get_read groups (length groups) l second (omega arith) c.loop-l-test.true c.index-groups-l.is in
    let own = gauge_piece k.0 k.0 (neg_ℚ (own_number model k)) in
    let one = gauge_piece k.0 l (mixed_number model k (l, second)) in
    record {
      so_far =
          c.in_ok-sum-2.ensures.value ∙ ap (λ s. add_poly s one) c.loop-l.invariant.so_far
          ∙ poly_ring.semiring.add_assoc own _ one
          ∙ ap (add_poly own) (sym (mixed_pieces-more model k l second there));
      bound = λ plain.
          shares_weaker (2 ^ 91 + l * 2 ^ 91 + 2 ^ 91) (2 ^ 91 + (l + 1) * 2 ^ 91) c.in_ok-sum-2.sum (omega arith)
          (c.in_ok-sum-2.ensures.bound (2 ^ 91 + l * 2 ^ 91) plain (c.loop-l.invariant.bound plain));
    }

pub returns-clause-value : goal.returns-clause-value
returns-clause-value c =
    let model = c.args.model.now in
    let k : ℕ × Group = (c.args.k, c.args.group.now) in
    let all = enumerate_from 0 model.groups in
    let past = ap length c.as_slice-groups.ensures in
    c.loop-l.invariant.so_far
    ∙ ap (λ ls. add_poly (gauge_piece k.0 k.0 (neg_ℚ (own_number model k))) (mixed_pieces model k ls))
    (take_all c.loop-l.l all (omega (arith, length-enumerate_from 0 model.groups, past, c.loop-l-test.false)))
