use Rattle.std.proofs.Common.{◌≤◌, ◌⊎◌, ◌++◌, ◌∷◌, [], inl, inr, length, sym, ap, ap₂, ◌∙◌, arith}
use Rattle.exact_algebra.specs.TensorContraction.{places_cmp}
use Rattle.beta_poly.proofs.Steps.{at_place, rest_is}
use Rattle.span_solver.proofs.Merges.{step_less, step_greater, step_equal, step_end}
use Rattle.span_solver.proofs.keys.merged.Goals as goal
use Rattle.span_solver.proofs.keys.merged.Goals.{then-loop-i-test+else-j-b, else-loop-i-test}

pub loop-i-preserved-in-Less : goal.loop-i-preserved-in-Less
loop-i-preserved-in-Less c =
    let da = at_place c.args.a.now c.loop-i.i c.index-a-i.result (omega arith) c.index-a-i.is in
    let db = at_place c.args.b.now c.loop-i.j c.index-b-j.result (omega arith) c.index-b-j.is in
    let order = ap₂ places_cmp (sym c.as_slice.ensures) (sym c.as_slice-in-loop-i.ensures) ∙ sym c.compare.ensures ∙ c.in-Less.is in
    record {
      in_a = omega arith;
      in_b = omega arith;
      merged = step_less c.args.a.now c.args.b.now c.loop-i.out.items c.push_key.new.out.items _ c.loop-i.i c.loop-i.j c.index-a-i.result c.index-b-j.result da db c.loop-i.invariant.merged order
          (c.in_ok-push_key-in-Less.ensures ∙ ap (λ k. c.loop-i.out.items ++ k ∷ []) c.as_slice-in-Less.ensures);
    }

pub loop-i-preserved-in-Greater : goal.loop-i-preserved-in-Greater
loop-i-preserved-in-Greater c =
    let da = at_place c.args.a.now c.loop-i.i c.index-a-i.result (omega arith) c.index-a-i.is in
    let db = at_place c.args.b.now c.loop-i.j c.index-b-j.result (omega arith) c.index-b-j.is in
    let order = ap₂ places_cmp (sym c.as_slice.ensures) (sym c.as_slice-in-loop-i.ensures) ∙ sym c.compare.ensures ∙ c.in-Greater.is in
    record {
      in_a = omega arith;
      in_b = omega arith;
      merged = step_greater c.args.a.now c.args.b.now c.loop-i.out.items c.push_key-in-Greater.new.out.items _ c.loop-i.i c.loop-i.j c.index-a-i.result c.index-b-j.result da db c.loop-i.invariant.merged order
          (c.in_ok-push_key-in-Greater.ensures ∙ ap (λ k. c.loop-i.out.items ++ k ∷ []) c.as_slice-in-Greater.ensures);
    }

pub loop-i-preserved : goal.loop-i-preserved
loop-i-preserved c =
    let da = at_place c.args.a.now c.loop-i.i c.index-a-i.result (omega arith) c.index-a-i.is in
    let db = at_place c.args.b.now c.loop-i.j c.index-b-j.result (omega arith) c.index-b-j.is in
    let order = ap₂ places_cmp (sym c.as_slice.ensures) (sym c.as_slice-in-loop-i.ensures) ∙ sym c.compare.ensures ∙ c.in-Equal.is in
    record {
      in_a = omega arith;
      in_b = omega arith;
      merged = step_equal c.args.a.now c.args.b.now c.loop-i.out.items c.push_key-in-Equal.new.out.items _ c.loop-i.i c.loop-i.j c.index-a-i.result c.index-b-j.result da db c.loop-i.invariant.merged order
          (c.in_ok-push_key-in-Equal.ensures ∙ ap (λ k. c.loop-i.out.items ++ k ∷ []) c.as_slice-in-Equal.ensures);
    }

pub returns : goal.returns
returns c =
    let used : (length c.args.a.now ≤ c.loop-i.i) ⊎ (length c.args.b.now ≤ c.loop-i.j) = elim c.loop-i-test.branch [ then-loop-i-test+else-j-b w ↦ inr (omega arith) | else-loop-i-test w ↦ inl (omega arith) ] in
    step_end c.args.a.now c.args.b.now c.loop-i.out.items _ _ c.loop-i.i c.loop-i.j used c.loop-i.invariant.merged
    (c.in_ok-push_keys-2.ensures ∙ ap₂ (λ r s. r ++ s) (c.in_ok-push_keys.ensures ∙ ap (λ r. c.loop-i.out.items ++ r) (rest_is c.args.a.now c.loop-i.i)) (rest_is c.args.b.now c.loop-i.j))
