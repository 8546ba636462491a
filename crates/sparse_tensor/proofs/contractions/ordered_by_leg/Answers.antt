use Rattle.std.specs.Prelude.{map, get_or, IsPermutation}
use Rattle.std.proofs.Common.{subst, rules}
use Rattle.std.proofs.lemmas.Fn.{always_returns_same}
use Rattle.std.proofs.lemmas.List.Sorted.{IsPermutation-map, IsNonDecreasingBy-from_sort}
use Rattle.sparse_tensor.proofs.contractions.ordered_by_leg.Goals as goal

pub returns-clause-permutation : goal.returns-clause-permutation
returns-clause-permutation c =
    subst (λ es. IsPermutation es (map (λ e. e.now) c.sort_by_key.new.self.items)) c.in_ok-order.ensures
    (IsPermutation-map (λ e. e.now) c.in_ok-order.order.items c.sort_by_key.new.self.items c.in_ok-sort_by_key.ensures.permutation)

pub returns-clause-sorted : goal.returns-clause-sorted
returns-clause-sorted c =
    IsNonDecreasingBy-from_sort (λ e. get_or e.now.0 c.args.leg 0) c.sort_by_key.new.self.items
    (c.in_ok-sort_by_key.ensures.sorted (λ e. get_or e.now.0 c.args.leg 0) (always_returns_same _ _ _ (λ a r g called. (search rules, search rules))))
