use Rattle.std.proofs.Common.{ℕ, List, ◌≡◌, IfOk, map, arith, subst, sym, length}
use Rattle.std.specs.List.{All, flat_map}
use Rattle.std.proofs.lemmas.Result.{IfOk-weaker}
use Rattle.beta_poly.specs.Polynomial.{Polynomial}
use Rattle.sparse_tensor.specs.Tensor.{HasValues, entries_of, value, rank_of}
use Rattle.sparse_tensor.specs.Operations.{entry, gathered_at}
use Rattle.yukawa_one_loop.proofs.Slices.{flat_step, flat_end}
use Rattle.quartic_one_loop.specs.FewDummies.{formed, formed_at}
use Rattle.quartic_one_loop.proofs.FewDummies.{formed_keys, formed_values}
use Rattle.quartic_one_loop.proofs.formed.formed_of.Goals as goal

pub loop-at-preserved : goal.loop-at-preserved
loop-at-preserved c =
    let e : List ℕ × Polynomial = (c.item.result.0.now, c.item.result.1.now) in
    flat_step (formed c.args.dummy) (entries_of c.args.tensor.now) c.loop-at.at e c.loop-at.values c.push_formed.new.values c.item.ensures c.loop-at.invariant c.in_ok-push_formed.ensures

pub gather-requires-clause-keys : goal.gather-requires-clause-keys
gather-requires-clause-keys c =
    let t = c.args.tensor.now in
    let vs = c.loop-at.values in
    let all : vs ≡ flat_map (formed c.args.dummy) (entries_of t) =
    flat_end (formed c.args.dummy) (entries_of t) c.loop-at.at vs (omega (arith, c.loop-at-test.false, c.len-at-end.ensures)) c.loop-at.invariant in
    subst (λ n. All (λ v. length v.key ≡ n) vs) (sym c.rank.ensures.value) (formed_keys c.args.dummy t vs all)

pub returns-clause-value : goal.returns-clause-value
returns-clause-value c =
    let t = c.args.tensor.now in
    let vs = c.loop-at.values in
    let all : vs ≡ flat_map (formed c.args.dummy) (entries_of t) =
    flat_end (formed c.args.dummy) (entries_of t) c.loop-at.at vs (omega (arith, c.loop-at-test.false, c.len-at-end.ensures)) c.loop-at.invariant in
    IfOk-weaker c.gather.result (HasValues (rank_of t) (gathered_at (map entry vs))) (HasValues (rank_of t) (formed_at c.args.dummy (value t)))
    (formed_values c.args.dummy t vs all)
    (subst (λ n. IfOk c.gather.result (HasValues n (gathered_at (map entry vs)))) c.rank.ensures.value c.gather.ensures.value)
