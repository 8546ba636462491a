use Rattle.std.proofs.Common.{◌<◌, length, slice_get, Some, subst, refl, sym, ap, ◌∙◌, rules}
use Rattle.std.proofs.lemmas.Option.{slice_get_read}
use Rattle.sparse_tensor.proofs.Parts.{entries_are}
use Rattle.sparse_tensor.proofs.sparse.Sparse.item.Goals as goal

pub index-entry-requires : goal.index-entry-requires
index-entry-requires c =
    let same = entries_are c.self.inside.rank c.self.inside.entries.items c.args.self.now c.self.invariant c.self.view_is in
    let inside : c.args.place < length c.self.inside.entries.items = subst (λ p. c.args.place < length p) (sym same) c.requires in
    search rules

pub returns : goal.returns
returns c =
    let same = entries_are c.self.inside.rank c.self.inside.entries.items c.args.self.now c.self.invariant c.self.view_is in
    ap (λ p. slice_get p c.args.place) (sym same) ∙ slice_get_read c.self.inside.entries.items (length c.self.inside.entries.items) c.args.place c.index-entry.result.now refl (subst (λ p. c.args.place < length p) (sym same) c.requires) c.index-entry.ensures
    ∙ ap (λ k. Some (k, c.index-entry.result.now.1)) (sym c.as_slice.ensures)
