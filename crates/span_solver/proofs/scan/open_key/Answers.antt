use Rattle.std.proofs.Common.{◌∙◌, ap}
use Rattle.exact_algebra.specs.TensorContraction.{places_cmp}
use Rattle.sparse_tensor.specs.Tensor.{entries_of}
use Rattle.span_solver.specs.Scanned.{earlier}
use Rattle.span_solver.proofs.Answered.{open-row, open-stray, open-both}
use Rattle.span_solver.proofs.scan.open_key.Goals as goal

pub returns-in_ok-copy_of-in-None-Some : goal.returns-in_ok-copy_of-in-None-Some
returns-in_ok-copy_of-in-None-Some c =
    open-stray c.args.keys.now (entries_of c.args.tensor.now) c.args.failing c.args.stray c.in-None-Some.place c.item.result.0.now c.in_ok-copy_of-in-None-Some.field-0 c.item.result.1.now
    c.in-None-Some.is-0 c.in-None-Some.is-1 c.item.ensures c.in_ok-copy_of-in-None-Some.ensures

pub returns-in_ok-copy_of-in-Some-None : goal.returns-in_ok-copy_of-in-Some-None
returns-in_ok-copy_of-in-Some-None c =
    open-row c.args.keys.now (entries_of c.args.tensor.now) c.args.failing c.args.stray c.in-Some-None.m c.index-keys-m.result c.in_ok-copy_of-in-Some-None.field-0
    c.in-Some-None.is-0 c.in-Some-None.is-1 (rw c.in-Some-None.is-0 at c.requires.failing) c.index-keys-m.is (c.in_ok-copy_of-in-Some-None.ensures ∙ c.as_slice.ensures)

pub returns-in_ok-copy_of-in-Some-Some : goal.returns-in_ok-copy_of-in-Some-Some
returns-in_ok-copy_of-in-Some-Some c =
    open-both c.args.keys.now (entries_of c.args.tensor.now) c.args.failing c.args.stray c.in-Some-Some.m c.in-Some-Some.place c.index-keys-m-in-Some-Some.result c.item-in-Some-Some.result.0.now c.in_ok-copy_of-in-Some-Some.field-0 c.item-in-Some-Some.result.1.now
    c.in-Some-Some.is-0 c.in-Some-Some.is-1 (rw c.in-Some-Some.is-0 at c.requires.failing) c.index-keys-m-in-Some-Some.is c.item-in-Some-Some.ensures
    (c.in_ok-copy_of-in-Some-Some.ensures ∙ c.earlier-first.ensures ∙ ap (λ k. earlier (places_cmp c.item-in-Some-Some.result.0.now k) c.item-in-Some-Some.result.0.now k) c.as_slice-in-Some-Some.ensures)
