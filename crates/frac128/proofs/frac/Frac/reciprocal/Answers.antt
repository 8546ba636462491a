use Rattle.std.proofs.Common.{◌≡◌, ◌∙◌, ap, arith, pos, to_z, of_z, ◌-ℤ◌}
use Rattle.std.specs.Prelude.{neg_ℤ, ◌<ℤ◌, ◌≤ℤ◌}
use Rattle.std.specs.Int.{w128}
use Rattle.std.proofs.lemmas.Int.{ints}
use Rattle.frac128.proofs.Negation.{turned_lowest, neg_lowest, reciprocal_up, reciprocal_down}
use Rattle.frac128.proofs.Sums.{lowest_at}
use Rattle.frac128.proofs.frac.Frac.reciprocal.Goals as goal

pub from_lowest_terms-requires-clause-lowest : goal.from_lowest_terms-requires-clause-lowest
from_lowest_terms-requires-clause-lowest c =
    let x = c.args.self.now in
    let read : to_z w128 (of_z w128 (pos 0 -ℤ to_z w128 (of_z w128 c.signed-num.result))) ≡ neg_ℤ c.signed-num.result = omega (arith, ints) in
    lowest_at _ _ _ _ (read ∙ ap neg_ℤ c.signed-num.ensures ∙ ap (λ n. neg_ℤ (pos n)) c.den_size.ensures.value) c.num_size.ensures.value
    (neg_lowest (pos x.den) _ (turned_lowest x c.requires))

pub from_lowest_terms-requires-else-num-lt0-clause-lowest : goal.from_lowest_terms-requires-else-num-lt0-clause-lowest
from_lowest_terms-requires-else-num-lt0-clause-lowest c =
    let x = c.args.self.now in
    let read : to_z w128 (of_z w128 c.signed-num.result) ≡ c.signed-num.result = omega (arith, ints) in
    lowest_at _ _ _ _ (read ∙ c.signed-num.ensures ∙ ap pos c.den_size.ensures.value) c.num_size-else-num-lt0.ensures.value (turned_lowest x c.requires)

pub returns-then-num-lt0 : goal.returns-then-num-lt0
returns-then-num-lt0 c =
    let x = c.args.self.now in
    let below : x.num <ℤ pos 0 = omega (arith, ints, c.num.ensures.value) in
    let read : to_z w128 (of_z w128 (pos 0 -ℤ to_z w128 (of_z w128 c.signed-num.result))) ≡ neg_ℤ c.signed-num.result = omega (arith, ints) in
    reciprocal_down x _ below (c.from_lowest_terms.ensures.num ∙ read ∙ ap neg_ℤ c.signed-num.ensures ∙ ap (λ n. neg_ℤ (pos n)) c.den_size.ensures.value)
    (c.from_lowest_terms.ensures.den ∙ c.num_size.ensures.value)

pub returns-else-num-lt0 : goal.returns-else-num-lt0
returns-else-num-lt0 c =
    let x = c.args.self.now in
    let up : pos 0 ≤ℤ x.num = omega (arith, ints, c.num.ensures.value) in
    let read : to_z w128 (of_z w128 c.signed-num.result) ≡ c.signed-num.result = omega (arith, ints) in
    reciprocal_up x _ up (c.from_lowest_terms-else-num-lt0.ensures.num ∙ read ∙ c.signed-num.ensures ∙ ap pos c.den_size.ensures.value)
    (c.from_lowest_terms-else-num-lt0.ensures.den ∙ c.num_size-else-num-lt0.ensures.value)
