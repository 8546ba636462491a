use Rattle.std.specs.Prelude.{◌∷◌, ◌++◌, [], take}
use Rattle.std.proofs.Common.{◌≡◌, ◌+◌, subst, sym}
use Rattle.sparse_tensor.specs.Collected.{AreFolded}
use Rattle.sparse_tensor.proofs.Exchanged.{folded_more}
use Rattle.sparse_tensor.proofs.Lists.{taken}
use Rattle.sparse_tensor.proofs.symmetries.folded_entries.Goals as goal

pub loop-entry-preserved : goal.loop-entry-preserved
loop-entry-preserved c =
    let es = c.args.entries.now in
    let i = c.loop-entry.entry-index in
    let e = c.entry-item.result in
    let more : take (i + 1) es ≡ take i es ++ e ∷ [] = sym (taken es i e c.loop-entry-test.true c.entry-item.is) in
    subst (λ xs. AreFolded c.args.legs.now xs c.push.new.self.items) (sym more)
    (subst (AreFolded c.args.legs.now (take i es ++ e ∷ [])) (sym c.in_ok-push.ensures.items)
    (folded_more c.args.legs.now (take i es) c.loop-entry.out.items e c.in_ok-folded.field-0 c.loop-entry.invariant c.in_ok-folded.ensures))
