use Rattle.std.specs.Prelude.{◌≡◌, ◌<◌, ℕ, List, []}
use Rattle.std.specs.List.{All}
use Rattle.std.proofs.Common.{length, subst, sym, ap, ap₂, ◌∙◌, rules}
use mathlib.Core.Path.{fun_ext}
use Rattle.sparse_tensor.specs.Tensor.{Entries, HasRank, rank_of, entries_of, value}
use Rattle.sparse_tensor.specs.Operations.{gathered_at, symmetrised_at}
use Rattle.sparse_tensor.specs.Collected.{AreFolded, all_exchanged}
use Rattle.sparse_tensor.specs.Refusals.{IsSumRefusalOf}
use Rattle.sparse_tensor.proofs.Parts.{ranks_are, entries_are, other_values, sum_refusal_of, map_empty}
use Rattle.sparse_tensor.proofs.PutBack.{are_legs}
use Rattle.sparse_tensor.proofs.Exchanged.{all_inside, folded_empty, lengths_of_orders, ranks_exchanged, ranks_folded, symmetrised-exchanged, symmetrised-folded}
use Rattle.sparse_tensor.proofs.sparse.Sparse.symmetrise.Goals as goal

pub folded_entries-requires : goal.folded_entries-requires
folded_entries-requires c =
    let first = c.as_slice.ensures.value ∙ entries_are c.self.inside.rank c.self.inside.entries.items c.args.self.now c.self.invariant c.self.view_is in
    subst (All (λ e. All (λ leg. leg < length e.0) c.args.legs.now)) (sym first)
    (all_inside (rank_of c.args.self.now) c.args.legs.now (entries_of c.args.self.now) c.requires.inside c.args.self.now.1.keys)

-- the entries with their places in ascending order
fold_is : (legs : List ℕ) (xs es fs : Entries) → xs ≡ es → AreFolded legs xs fs → AreFolded legs es fs
fold_is legs xs es fs same are = subst (λ es. AreFolded legs es fs) same are

fold_ranks : (rank : ℕ) (legs : List ℕ) (xs es fs : Entries) → HasRank rank es → xs ≡ es → AreFolded legs xs fs → HasRank rank fs
fold_ranks rank legs xs es fs keys same are = ranks_folded rank legs es fs keys (fold_is legs xs es fs same are)

pub returns-in_err-folded-clause-refused : goal.returns-in_err-folded-clause-refused
returns-in_err-folded-clause-refused c =
    let refused : IsSumRefusalOf (entries_of c.args.self.now) c.in_err-folded.field-0.0 = sum_refusal_of (entries_of c.args.self.now) c.in_ok-entries.entries.items c.in_err-folded.field-0.0 (folded_empty c.args.legs.now (entries_of c.args.self.now) c.in_ok-entries.entries.items (fold_is c.args.legs.now c.as_slice.result.now (entries_of c.args.self.now) c.in_ok-entries.entries.items (c.as_slice.ensures.value ∙ entries_are c.self.inside.rank c.self.inside.entries.items c.args.self.now c.self.invariant c.self.view_is) c.in_ok-entries.ensures)) c.in_err-folded.ensures.refused in
    search rules

pub exchanged_entries-requires-clause-inside : goal.exchanged_entries-requires-clause-inside
exchanged_entries-requires-clause-inside c =
    subst (All (λ e. All (λ leg. leg < length e.0) c.args.legs.now)) (sym c.as_slice-2.ensures.value)
    (all_inside (rank_of c.args.self.now) c.args.legs.now c.in_ok-folded.folded.items c.requires.inside (c.in_ok-folded.ensures.keys (rank_of c.args.self.now) (fold_ranks (rank_of c.args.self.now) c.args.legs.now c.as_slice.result.now (entries_of c.args.self.now) c.in_ok-entries.entries.items c.args.self.now.1.keys (c.as_slice.ensures.value ∙ entries_are c.self.inside.rank c.self.inside.entries.items c.args.self.now c.self.invariant c.self.view_is) c.in_ok-entries.ensures)))

pub exchanged_entries-requires-clause-orders : goal.exchanged_entries-requires-clause-orders
exchanged_entries-requires-clause-orders c =
    subst (All (λ w. length w ≡ length c.args.legs.now)) (sym (c.as_slice-3.ensures.value ∙ c.in_ok-orders.ensures)) (lengths_of_orders c.args.legs.now)

pub of_entries-requires-clause-keys : goal.of_entries-requires-clause-keys
of_entries-requires-clause-keys c =
    let rank_is = ranks_are c.self.inside.rank c.self.inside.entries.items c.args.self.now c.self.invariant c.self.view_is in
    subst (λ n. HasRank n c.in_ok-all.all.items) (sym rank_is)
    (subst (HasRank (rank_of c.args.self.now)) (sym (c.in_ok-all.ensures ∙ ap (all_exchanged c.args.legs.now c.as_slice-3.result.now) c.as_slice-2.ensures.value))
    (ranks_exchanged (rank_of c.args.self.now) c.args.legs.now c.as_slice-3.result.now c.in_ok-folded.folded.items (c.in_ok-folded.ensures.keys (rank_of c.args.self.now) (fold_ranks (rank_of c.args.self.now) c.args.legs.now c.as_slice.result.now (entries_of c.args.self.now) c.in_ok-entries.entries.items c.args.self.now.1.keys (c.as_slice.ensures.value ∙ entries_are c.self.inside.rank c.self.inside.entries.items c.args.self.now c.self.invariant c.self.view_is) c.in_ok-entries.ensures))))

pub returns-in_err-tensor-clause-refused : goal.returns-in_err-tensor-clause-refused
returns-in_err-tensor-clause-refused c =
    let all_is = c.in_ok-all.ensures ∙ ap (all_exchanged c.args.legs.now c.as_slice-3.result.now) c.as_slice-2.ensures.value in
    let none : entries_of c.args.self.now ≡ [] → c.in_ok-folded.folded.items ≡ [] = λ e. map_empty c.in_ok-folded.folded.items c.in_ok-entries.entries.items c.in_ok-folded.ensures.is_map c.in_ok-folded.ensures.value (folded_empty c.args.legs.now (entries_of c.args.self.now) c.in_ok-entries.entries.items (fold_is c.args.legs.now c.as_slice.result.now (entries_of c.args.self.now) c.in_ok-entries.entries.items (c.as_slice.ensures.value ∙ entries_are c.self.inside.rank c.self.inside.entries.items c.args.self.now c.self.invariant c.self.view_is) c.in_ok-entries.ensures) e) in
    let refused : IsSumRefusalOf (entries_of c.args.self.now) c.in_err-tensor.field-0.0 = sum_refusal_of (entries_of c.args.self.now) c.in_ok-all.all.items c.in_err-tensor.field-0.0 (λ e. all_is ∙ ap (all_exchanged c.args.legs.now c.as_slice-3.result.now) (none e)) c.in_err-tensor.ensures.refused in
    search rules

pub returns-clause-value : goal.returns-clause-value
returns-clause-value c =
    let rank_is = ranks_are c.self.inside.rank c.self.inside.entries.items c.args.self.now c.self.invariant c.self.view_is in
    let n = rank_of c.args.self.now in
    let legs = c.args.legs.now in
    let at_legs = are_legs n legs c.requires.inside c.requires.distinct in
    let ranks = c.in_ok-folded.ensures.keys n (fold_ranks (rank_of c.args.self.now) c.args.legs.now c.as_slice.result.now (entries_of c.args.self.now) c.in_ok-entries.entries.items c.args.self.now.1.keys (c.as_slice.ensures.value ∙ entries_are c.self.inside.rank c.self.inside.entries.items c.args.self.now c.self.invariant c.self.view_is) c.in_ok-entries.ensures) in
    let all_is = c.in_ok-all.ensures ∙ ap₂ (all_exchanged legs) (c.as_slice-3.ensures.value ∙ c.in_ok-orders.ensures) c.as_slice-2.ensures.value in
    other_values c.self.inside.rank n (gathered_at c.in_ok-all.all.items) (symmetrised_at legs (value c.args.self.now)) c.in_ok-tensor.tensor rank_is
    (λ key l.
    ap (λ es. gathered_at es key) all_is
    ∙ symmetrised-exchanged n legs at_legs c.in_ok-folded.folded.items key ranks l
    ∙ ap (λ f. symmetrised_at legs f key) (fun_ext c.in_ok-folded.ensures.value)
    ∙ symmetrised-folded n legs at_legs (entries_of c.args.self.now) c.in_ok-entries.entries.items key c.args.self.now.1.keys l (fold_is c.args.legs.now c.as_slice.result.now (entries_of c.args.self.now) c.in_ok-entries.entries.items (c.as_slice.ensures.value ∙ entries_are c.self.inside.rank c.self.inside.entries.items c.args.self.now c.self.invariant c.self.view_is) c.in_ok-entries.ensures))
    c.in_ok-tensor.ensures.value
