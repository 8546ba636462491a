use Rattle.std.proofs.Common.{rules, ◌≡◌, ◌∙◌, sym, subst, pos, to_z, of_z}
use Rattle.std.specs.Prelude.{unsigned_abs, int_div, ◌<◌, ◌^◌}
use Rattle.std.specs.Int.{w128}
use Rattle.frac128.specs.Frac.{crossed, product_num, product_den}
use Rattle.frac128.proofs.Sums.{product_lowest, product_found, lowest_at}
use Rattle.frac128.proofs.frac.Frac.checked_product.Goals as goal

pub from_lowest_terms-requires-clause-lowest : goal.from_lowest_terms-requires-clause-lowest
from_lowest_terms-requires-clause-lowest c =
    let x = c.args.self.now in
    let y = c.args.other.now in
    let down : c.gcd-down.result ≡ crossed x y = cc in
    let up : c.gcd-up.result ≡ crossed y x = cc in
    let read_num : to_z w128 (of_z w128 c.num.result) ≡ c.num.result = search rules in
    let read_num-2 : to_z w128 (of_z w128 c.num-2.result) ≡ c.num-2.result = search rules in
    let read_left : to_z w128 (of_z w128 c.quotient-left.result) ≡ c.quotient-left.result = search rules in
    let read_right : to_z w128 (of_z w128 c.quotient-right.result) ≡ c.quotient-right.result = search rules in
    let left : c.quotient-left.result ≡ int_div x.num (pos (crossed x y)) = cc in
    let right : c.quotient-right.result ≡ int_div y.num (pos (crossed y x)) = cc in
    let num : c.in_ok-num.num ≡ product_num x y = cc c.in_ok-num.ensures.1 in
    let read_product : to_z w128 (of_z w128 c.in_ok-num.num) ≡ c.in_ok-num.num = search rules in
    let den : c.in_ok-den.den ≡ product_den x y = cc c.in_ok-den.ensures.1 in
    lowest_at _ _ _ _ (read_product ∙ num) den (product_lowest x y)

pub returns : goal.returns
returns c =
    let x = c.args.self.now in
    let y = c.args.other.now in
    let down : c.gcd-down.result ≡ crossed x y = cc in
    let up : c.gcd-up.result ≡ crossed y x = cc in
    let read_num : to_z w128 (of_z w128 c.num.result) ≡ c.num.result = search rules in
    let read_num-2 : to_z w128 (of_z w128 c.num-2.result) ≡ c.num-2.result = search rules in
    let read_left : to_z w128 (of_z w128 c.quotient-left.result) ≡ c.quotient-left.result = search rules in
    let read_right : to_z w128 (of_z w128 c.quotient-right.result) ≡ c.quotient-right.result = search rules in
    let left : c.quotient-left.result ≡ int_div x.num (pos (crossed x y)) = cc in
    let right : c.quotient-right.result ≡ int_div y.num (pos (crossed y x)) = cc in
    let num : c.in_ok-num.num ≡ product_num x y = cc c.in_ok-num.ensures.1 in
    let read_product : to_z w128 (of_z w128 c.in_ok-num.num) ≡ c.in_ok-num.num = search rules in
    let den : c.in_ok-den.den ≡ product_den x y = cc c.in_ok-den.ensures.1 in (
      record {
        num = subst (λ z. unsigned_abs z < 2 ^ 127) (sym c.in_ok-num.ensures.1 ∙ num) c.in_ok-num.ensures.0;
        den = subst (λ n. n < 2 ^ 127) (sym c.in_ok-den.ensures.1 ∙ den) c.in_ok-den.ensures.0;
      },
      product_found x y _ (c.from_lowest_terms.ensures.num ∙ read_product ∙ num) (c.from_lowest_terms.ensures.den ∙ den),
    )
