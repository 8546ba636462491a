use Rattle.std.specs.Prelude.{◌<◌, ◌+◌, ◌-◌, map, length, IsPermutation}
use Rattle.std.specs.List.{All}
use Rattle.std.proofs.Common.{subst, sym, ap, ap₂, ◌∙◌, arith, rules}
use Rattle.sparse_tensor.specs.Tensor.{HasRank, rank_of, entries_of, value}
use Rattle.sparse_tensor.specs.Operations.{gathered_at, contracted_at}
use Rattle.sparse_tensor.specs.Collected.{CanMeet, all_met}
use Rattle.sparse_tensor.specs.Refusals.{IsRefusalOf}
use Rattle.sparse_tensor.proofs.Parts.{ranks_are, entries_are, other_values, refusal_of, refusal_by_sum}
use Rattle.sparse_tensor.proofs.Joining.{can_meet, order_empty, met_none}
use Rattle.sparse_tensor.proofs.Contracted.{ranks_order, contracted-permuted}
use Rattle.sparse_tensor.proofs.sparse.Sparse.contract.Goals as goal

pub joined-requires-clause-can_meet : goal.joined-requires-clause-can_meet
joined-requires-clause-can_meet c =
    let first = c.as_slice-2.ensures.value ∙ entries_are c.self.inside.rank c.self.inside.entries.items c.args.self.now c.self.invariant c.self.view_is in
    let perm = subst (λ r. IsPermutation (entries_of c.args.other.now) (map (λ b. b.now) r)) (sym c.as_slice-3.ensures.value) (subst (λ es. IsPermutation es (map (λ b. b.now) c.in_ok-order.order.items)) (c.as_slice.ensures.value ∙ entries_are c.other.inside.rank c.other.inside.entries.items c.args.other.now c.other.invariant c.other.view_is) c.in_ok-order.ensures.permutation) in
    subst (All (λ a. (c.args.leg < length a.0) × All (λ b. CanMeet c.args.other_leg a b.now) c.as_slice-3.result.now)) (sym first)
    (can_meet (rank_of c.args.self.now) (rank_of c.args.other.now) c.args.leg c.args.other_leg (entries_of c.args.self.now) (entries_of c.args.other.now) c.as_slice-3.result.now c.requires.leg c.requires.other_leg c.args.self.now.1.keys c.args.other.now.1.keys perm c.requires.fits)

pub returns-in_err-all-clause-refused : goal.returns-in_err-all-clause-refused
returns-in_err-all-clause-refused c =
    let first = c.as_slice-2.ensures.value ∙ entries_are c.self.inside.rank c.self.inside.entries.items c.args.self.now c.self.invariant c.self.view_is in
    let refused : IsRefusalOf (entries_of c.args.self.now) c.in_err-all.field-0.0 = subst (λ es. IsRefusalOf es c.in_err-all.field-0.0) first c.in_err-all.ensures.refused in
    search rules

pub returns-in_err-all-clause-refused_by_other : goal.returns-in_err-all-clause-refused_by_other
returns-in_err-all-clause-refused_by_other c =
    let perm = subst (λ r. IsPermutation (entries_of c.args.other.now) (map (λ b. b.now) r)) (sym c.as_slice-3.ensures.value) (subst (λ es. IsPermutation es (map (λ b. b.now) c.in_ok-order.order.items)) (c.as_slice.ensures.value ∙ entries_are c.other.inside.rank c.other.inside.entries.items c.args.other.now c.other.invariant c.other.view_is) c.in_ok-order.ensures.permutation) in
    let refused : IsRefusalOf (entries_of c.args.other.now) c.in_err-all.field-0.0 = refusal_of (entries_of c.args.other.now) c.as_slice-3.result.now c.in_err-all.field-0.0 (order_empty (entries_of c.args.other.now) c.as_slice-3.result.now perm) c.in_err-all.ensures.refused_by_other in
    search rules

pub of_entries-requires-clause-low : goal.of_entries-requires-clause-low
of_entries-requires-clause-low c =
    let m_is = ranks_are c.self.inside.rank c.self.inside.entries.items c.args.self.now c.self.invariant c.self.view_is in
    let n_is = ranks_are c.other.inside.rank c.other.inside.entries.items c.args.other.now c.other.invariant c.other.view_is in
    let low = c.requires.low in
    omega (arith, m_is, n_is, low)

pub of_entries-requires-clause-high : goal.of_entries-requires-clause-high
of_entries-requires-clause-high c =
    let m_is = ranks_are c.self.inside.rank c.self.inside.entries.items c.args.self.now c.self.invariant c.self.view_is in
    let n_is = ranks_are c.other.inside.rank c.other.inside.entries.items c.args.other.now c.other.invariant c.other.view_is in
    let high = c.requires.high in
    omega (arith, m_is, n_is, high)

pub of_entries-requires-clause-keys : goal.of_entries-requires-clause-keys
of_entries-requires-clause-keys c =
    let first = c.as_slice-2.ensures.value ∙ entries_are c.self.inside.rank c.self.inside.entries.items c.args.self.now c.self.invariant c.self.view_is in
    let perm = subst (λ r. IsPermutation (entries_of c.args.other.now) (map (λ b. b.now) r)) (sym c.as_slice-3.ensures.value) (subst (λ es. IsPermutation es (map (λ b. b.now) c.in_ok-order.order.items)) (c.as_slice.ensures.value ∙ entries_are c.other.inside.rank c.other.inside.entries.items c.args.other.now c.other.invariant c.other.view_is) c.in_ok-order.ensures.permutation) in
    let m_is = ranks_are c.self.inside.rank c.self.inside.entries.items c.args.self.now c.self.invariant c.self.view_is in
    let n_is = ranks_are c.other.inside.rank c.other.inside.entries.items c.args.other.now c.other.invariant c.other.view_is in
    let all_is = c.in_ok-all.ensures.value ∙ ap (all_met c.args.leg c.args.other_leg c.args.links.now (map (λ b. b.now) c.as_slice-3.result.now)) first in
    subst (λ n. HasRank n c.in_ok-all.all.items) (sym (ap₂ (λ m n. m + n - 2) m_is n_is))
    (subst (HasRank (rank_of c.args.self.now + rank_of c.args.other.now - 2)) (sym all_is)
    (ranks_order (rank_of c.args.self.now) (rank_of c.args.other.now) c.args.leg c.args.other_leg c.args.links.now (entries_of c.args.self.now) (entries_of c.args.other.now) (map (λ b. b.now) c.as_slice-3.result.now) c.requires.leg c.requires.other_leg perm c.args.self.now.1.keys c.args.other.now.1.keys))

pub returns-in_err-tensor-clause-refused : goal.returns-in_err-tensor-clause-refused
returns-in_err-tensor-clause-refused c =
    let first = c.as_slice-2.ensures.value ∙ entries_are c.self.inside.rank c.self.inside.entries.items c.args.self.now c.self.invariant c.self.view_is in
    let all_is = c.in_ok-all.ensures.value ∙ ap (all_met c.args.leg c.args.other_leg c.args.links.now (map (λ b. b.now) c.as_slice-3.result.now)) first in
    let refused : IsRefusalOf (entries_of c.args.self.now) c.in_err-tensor.field-0.0 = refusal_by_sum (entries_of c.args.self.now) c.in_ok-all.all.items c.in_err-tensor.field-0.0 (λ e. all_is ∙ ap (all_met c.args.leg c.args.other_leg c.args.links.now (map (λ b. b.now) c.as_slice-3.result.now)) e) c.in_err-tensor.ensures.refused in
    search rules

pub returns-in_err-tensor-clause-refused_by_other : goal.returns-in_err-tensor-clause-refused_by_other
returns-in_err-tensor-clause-refused_by_other c =
    let first = c.as_slice-2.ensures.value ∙ entries_are c.self.inside.rank c.self.inside.entries.items c.args.self.now c.self.invariant c.self.view_is in
    let perm = subst (λ r. IsPermutation (entries_of c.args.other.now) (map (λ b. b.now) r)) (sym c.as_slice-3.ensures.value) (subst (λ es. IsPermutation es (map (λ b. b.now) c.in_ok-order.order.items)) (c.as_slice.ensures.value ∙ entries_are c.other.inside.rank c.other.inside.entries.items c.args.other.now c.other.invariant c.other.view_is) c.in_ok-order.ensures.permutation) in
    let all_is = c.in_ok-all.ensures.value ∙ ap (all_met c.args.leg c.args.other_leg c.args.links.now (map (λ b. b.now) c.as_slice-3.result.now)) first in
    let refused : IsRefusalOf (entries_of c.args.other.now) c.in_err-tensor.field-0.0 = refusal_by_sum (entries_of c.args.other.now) c.in_ok-all.all.items c.in_err-tensor.field-0.0 (λ e. all_is ∙ ap (λ r. all_met c.args.leg c.args.other_leg c.args.links.now (map (λ b. b.now) r) (entries_of c.args.self.now)) (order_empty (entries_of c.args.other.now) c.as_slice-3.result.now perm e) ∙ met_none c.args.leg c.args.other_leg c.args.links.now (entries_of c.args.self.now)) c.in_err-tensor.ensures.refused in
    search rules

pub returns-clause-value : goal.returns-clause-value
returns-clause-value c =
    let first = c.as_slice-2.ensures.value ∙ entries_are c.self.inside.rank c.self.inside.entries.items c.args.self.now c.self.invariant c.self.view_is in
    let perm = subst (λ r. IsPermutation (entries_of c.args.other.now) (map (λ b. b.now) r)) (sym c.as_slice-3.ensures.value) (subst (λ es. IsPermutation es (map (λ b. b.now) c.in_ok-order.order.items)) (c.as_slice.ensures.value ∙ entries_are c.other.inside.rank c.other.inside.entries.items c.args.other.now c.other.invariant c.other.view_is) c.in_ok-order.ensures.permutation) in
    let m_is = ranks_are c.self.inside.rank c.self.inside.entries.items c.args.self.now c.self.invariant c.self.view_is in
    let n_is = ranks_are c.other.inside.rank c.other.inside.entries.items c.args.other.now c.other.invariant c.other.view_is in
    let all_is = c.in_ok-all.ensures.value ∙ ap (all_met c.args.leg c.args.other_leg c.args.links.now (map (λ b. b.now) c.as_slice-3.result.now)) first in
    other_values (c.self.inside.rank + c.other.inside.rank - 2) (rank_of c.args.self.now + rank_of c.args.other.now - 2) (gathered_at c.in_ok-all.all.items) (contracted_at (rank_of c.args.self.now - 1) c.args.leg c.args.other_leg c.args.links.now (value c.args.self.now) (value c.args.other.now)) c.in_ok-tensor.tensor (ap₂ (λ m n. m + n - 2) m_is n_is)
    (λ key l. ap (λ es. gathered_at es key) all_is ∙ contracted-permuted (rank_of c.args.self.now) (rank_of c.args.other.now) c.args.leg c.args.other_leg c.args.links.now (entries_of c.args.self.now) (entries_of c.args.other.now) (map (λ b. b.now) c.as_slice-3.result.now) key perm c.requires.leg c.requires.other_leg c.args.self.now.1.keys c.args.other.now.1.keys l)
    c.in_ok-tensor.ensures.value
