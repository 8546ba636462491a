use Rattle.std.proofs.Common.{rules, ◌≡◌, ◌∙◌, sym, subst, to_z, of_z}
use Rattle.std.specs.Prelude.{unsigned_abs, ◌<◌, ◌^◌, ◌/◌}
use Rattle.std.specs.Int.{w128}
use Rattle.std.proofs.lemmas.Int.{to_z-of_z}
use Rattle.frac128.specs.Frac.{signed_as}
use Rattle.frac128.proofs.Quotients.{common, quotient_lowest, quotient_found}
use Rattle.frac128.proofs.Sums.{lowest_at}
use Rattle.frac128.proofs.frac.Frac.checked_quotient.Goals as goal

pub from_lowest_terms-requires-clause-lowest : goal.from_lowest_terms-requires-clause-lowest
from_lowest_terms-requires-clause-lowest c =
    let n = c.args.num in
    let d = c.args.den in
    let read_num : to_z w128 (of_z w128 n) ≡ n = to_z-of_z w128 n c.ranges.num in
    let read_den : to_z w128 (of_z w128 d) ≡ d = to_z-of_z w128 d c.ranges.den in
    let divisor : c.gcd-common.result ≡ common n d = cc in
    let size : c.in_ok-size.size ≡ unsigned_abs n / common n d = cc c.in_ok-size.ensures.1 in
    let den : c.in_ok-den_size.den_size ≡ unsigned_abs d / common n d = cc c.in_ok-den_size.ensures.1 in
    let num : c.signed_as-num_signed.result ≡ signed_as n d (unsigned_abs n / common n d) = cc in
    let read_signed : to_z w128 (of_z w128 c.signed_as-num_signed.result) ≡ c.signed_as-num_signed.result = search rules in
    lowest_at _ _ _ _ (read_signed ∙ num) den (quotient_lowest n d c.requires)

pub returns : goal.returns
returns c =
    let n = c.args.num in
    let d = c.args.den in
    let read_num : to_z w128 (of_z w128 n) ≡ n = to_z-of_z w128 n c.ranges.num in
    let read_den : to_z w128 (of_z w128 d) ≡ d = to_z-of_z w128 d c.ranges.den in
    let divisor : c.gcd-common.result ≡ common n d = cc in
    let size : c.in_ok-size.size ≡ unsigned_abs n / common n d = cc c.in_ok-size.ensures.1 in
    let den : c.in_ok-den_size.den_size ≡ unsigned_abs d / common n d = cc c.in_ok-den_size.ensures.1 in
    let num : c.signed_as-num_signed.result ≡ signed_as n d (unsigned_abs n / common n d) = cc in
    let read_signed : to_z w128 (of_z w128 c.signed_as-num_signed.result) ≡ c.signed_as-num_signed.result = search rules in (
      record {
        num = subst (λ k. k < 2 ^ 127) (sym c.in_ok-size.ensures.1 ∙ size) c.in_ok-size.ensures.0;
        den = subst (λ k. k < 2 ^ 127) (sym c.in_ok-den_size.ensures.1 ∙ den) c.in_ok-den_size.ensures.0;
      },
      quotient_found n d _ c.requires (c.from_lowest_terms.ensures.num ∙ read_signed ∙ num) (c.from_lowest_terms.ensures.den ∙ den),
    )
