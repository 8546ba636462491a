use Rattle.std.proofs.Common.{rules, ◌≡◌, ◌∙◌, sym, subst, pos, to_z, of_z}
use Rattle.std.specs.Prelude.{unsigned_abs, int_div, ◌<◌, ◌^◌}
use Rattle.std.specs.Int.{w128}
use Rattle.frac128.specs.Frac.{den_gcd, raised, raised_other, raised_sum, sum_den}
use Rattle.frac128.proofs.Sums.{shared, sum_lowest, sum_found, lowest_at}
use Rattle.frac128.proofs.frac.Frac.checked_sum.Goals as goal

pub from_lowest_terms-requires-clause-lowest : goal.from_lowest_terms-requires-clause-lowest
from_lowest_terms-requires-clause-lowest c =
    let x = c.args.self.now in
    let y = c.args.other.now in
    let common : c.gcd-common.result ≡ den_gcd x y = cc in
    let read_signed : to_z w128 (of_z w128 c.signed.result) ≡ c.signed.result = search rules in
    let read_signed-2 : to_z w128 (of_z w128 c.signed-2.result) ≡ c.signed-2.result = search rules in
    let read_num : to_z w128 (of_z w128 c.num.result) ≡ c.num.result = search rules in
    let read_num-2 : to_z w128 (of_z w128 c.num-2.result) ≡ c.num-2.result = search rules in
    let left : c.in_ok-left.left ≡ raised x y = cc c.in_ok-left.ensures.1 in
    let right : c.in_ok-right.right ≡ raised_other x y = cc c.in_ok-right.ensures.1 in
    let read_left : to_z w128 (of_z w128 c.in_ok-left.left) ≡ c.in_ok-left.left = search rules in
    let read_right : to_z w128 (of_z w128 c.in_ok-right.right) ≡ c.in_ok-right.right = search rules in
    let top : c.in_ok-top.top ≡ raised_sum x y = cc c.in_ok-top.ensures.1 in
    let read_top : to_z w128 (of_z w128 c.in_ok-top.top) ≡ c.in_ok-top.top = search rules in
    let divisor : c.gcd-shared.result ≡ shared x y = cc in
    let den : c.in_ok-den.den ≡ sum_den x y = cc c.in_ok-den.ensures.1 in
    let quotient : c.quotient-num.result ≡ int_div (raised_sum x y) (pos (shared x y)) = cc in
    let read_quotient : to_z w128 (of_z w128 c.quotient-num.result) ≡ c.quotient-num.result = search rules in
    lowest_at _ _ _ _ (read_quotient ∙ quotient) den (sum_lowest x y)

pub returns : goal.returns
returns c =
    let x = c.args.self.now in
    let y = c.args.other.now in
    let common : c.gcd-common.result ≡ den_gcd x y = cc in
    let read_signed : to_z w128 (of_z w128 c.signed.result) ≡ c.signed.result = search rules in
    let read_signed-2 : to_z w128 (of_z w128 c.signed-2.result) ≡ c.signed-2.result = search rules in
    let read_num : to_z w128 (of_z w128 c.num.result) ≡ c.num.result = search rules in
    let read_num-2 : to_z w128 (of_z w128 c.num-2.result) ≡ c.num-2.result = search rules in
    let left : c.in_ok-left.left ≡ raised x y = cc c.in_ok-left.ensures.1 in
    let right : c.in_ok-right.right ≡ raised_other x y = cc c.in_ok-right.ensures.1 in
    let read_left : to_z w128 (of_z w128 c.in_ok-left.left) ≡ c.in_ok-left.left = search rules in
    let read_right : to_z w128 (of_z w128 c.in_ok-right.right) ≡ c.in_ok-right.right = search rules in
    let top : c.in_ok-top.top ≡ raised_sum x y = cc c.in_ok-top.ensures.1 in
    let read_top : to_z w128 (of_z w128 c.in_ok-top.top) ≡ c.in_ok-top.top = search rules in
    let divisor : c.gcd-shared.result ≡ shared x y = cc in
    let den : c.in_ok-den.den ≡ sum_den x y = cc c.in_ok-den.ensures.1 in
    let quotient : c.quotient-num.result ≡ int_div (raised_sum x y) (pos (shared x y)) = cc in
    let read_quotient : to_z w128 (of_z w128 c.quotient-num.result) ≡ c.quotient-num.result = search rules in (
      record {
        left = subst (λ z. unsigned_abs z < 2 ^ 127) (sym c.in_ok-left.ensures.1 ∙ left) c.in_ok-left.ensures.0;
        right = subst (λ z. unsigned_abs z < 2 ^ 127) (sym c.in_ok-right.ensures.1 ∙ right) c.in_ok-right.ensures.0;
        sum = subst (λ z. unsigned_abs z < 2 ^ 127) (sym c.in_ok-top.ensures.1 ∙ top) c.in_ok-top.ensures.0;
        den = subst (λ n. n < 2 ^ 127) (sym c.in_ok-den.ensures.1 ∙ den) c.in_ok-den.ensures.0;
      },
      sum_found x y _ (c.from_lowest_terms.ensures.num ∙ read_quotient ∙ quotient) (c.from_lowest_terms.ensures.den ∙ den),
    )
