use Rattle.std.specs.Prelude.{◌<◌}
use Rattle.std.specs.List.{All}
use Rattle.std.proofs.Common.{length, subst, sym, ap, ◌∙◌, rules}
use Rattle.sparse_tensor.specs.Tensor.{HasRank, rank_of, entries_of, value}
use Rattle.sparse_tensor.specs.Operations.{gathered_at, projected_at}
use Rattle.sparse_tensor.specs.Collected.{all_moved}
use Rattle.sparse_tensor.specs.Refusals.{IsRefusalOf}
use Rattle.sparse_tensor.proofs.Parts.{ranks_are, entries_are, other_values, refusal_by_sum}
use Rattle.sparse_tensor.proofs.Projected.{legs_inside, ranks_moved, projected-moved}
use Rattle.sparse_tensor.proofs.sparse.Sparse.project.Goals as goal

pub moved_entries-requires : goal.moved_entries-requires
moved_entries-requires c =
    let same = ranks_are c.self.inside.rank c.self.inside.entries.items c.args.self.now c.self.invariant c.self.view_is in
    subst (All (λ e. c.args.leg < length e.0)) (sym c.as_slice.ensures.value)
    (legs_inside c.self.inside.rank c.args.leg c.self.inside.entries.items (subst (λ n. c.args.leg < n) (sym same) c.requires) c.self.invariant.keys)

pub returns-in_err-all-clause-refused : goal.returns-in_err-all-clause-refused
returns-in_err-all-clause-refused c =
    let same = c.as_slice.ensures.value ∙ entries_are c.self.inside.rank c.self.inside.entries.items c.args.self.now c.self.invariant c.self.view_is in
    let refused : IsRefusalOf (entries_of c.args.self.now) c.in_err-all.field-0.0 = subst (λ es. IsRefusalOf es c.in_err-all.field-0.0) same c.in_err-all.ensures.refused in
    search rules

pub of_entries-requires-clause-keys : goal.of_entries-requires-clause-keys
of_entries-requires-clause-keys c =
    let all_is = c.in_ok-all.ensures.value ∙ ap (all_moved c.args.leg c.args.links.now) c.as_slice.ensures.value in
    subst (HasRank c.self.inside.rank) (sym all_is) (ranks_moved c.self.inside.rank c.args.leg c.args.links.now c.self.inside.entries.items c.self.invariant.keys)

pub returns-in_err-tensor-clause-refused : goal.returns-in_err-tensor-clause-refused
returns-in_err-tensor-clause-refused c =
    let same = c.as_slice.ensures.value ∙ entries_are c.self.inside.rank c.self.inside.entries.items c.args.self.now c.self.invariant c.self.view_is in
    let all_is = c.in_ok-all.ensures.value ∙ ap (all_moved c.args.leg c.args.links.now) same in
    let refused : IsRefusalOf (entries_of c.args.self.now) c.in_err-tensor.field-0.0 = refusal_by_sum (entries_of c.args.self.now) c.in_ok-all.all.items c.in_err-tensor.field-0.0 (λ e. all_is ∙ ap (all_moved c.args.leg c.args.links.now) e) c.in_err-tensor.ensures.refused in
    search rules

pub returns-clause-value : goal.returns-clause-value
returns-clause-value c =
    let rank_is = ranks_are c.self.inside.rank c.self.inside.entries.items c.args.self.now c.self.invariant c.self.view_is in
    let same = c.as_slice.ensures.value ∙ entries_are c.self.inside.rank c.self.inside.entries.items c.args.self.now c.self.invariant c.self.view_is in
    let all_is = c.in_ok-all.ensures.value ∙ ap (all_moved c.args.leg c.args.links.now) same in
    other_values c.self.inside.rank (rank_of c.args.self.now) (gathered_at c.in_ok-all.all.items) (projected_at c.args.leg c.args.links.now (value c.args.self.now)) c.in_ok-tensor.tensor rank_is
    (λ key l. ap (λ es. gathered_at es key) all_is ∙ projected-moved (rank_of c.args.self.now) c.args.leg c.args.links.now (entries_of c.args.self.now) key c.requires c.args.self.now.1.keys l)
    c.in_ok-tensor.ensures.value
