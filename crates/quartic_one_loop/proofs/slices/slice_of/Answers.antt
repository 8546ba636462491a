use Rattle.std.proofs.Common.{ℕ, List, ◌≡◌, ◌-◌, ◌<◌, IfOk, map, arith, subst, sym, length}
use Rattle.std.specs.List.{All, flat_map}
use Rattle.std.proofs.lemmas.Result.{IfOk-weaker}
use Rattle.beta_poly.specs.Polynomial.{Polynomial}
use Rattle.sparse_tensor.specs.Tensor.{HasValues, entries_of, value, rank_of}
use Rattle.sparse_tensor.specs.Operations.{entry, gathered_at}
use Rattle.yukawa_one_loop.proofs.Slices.{flat_step, flat_end}
use Rattle.quartic_one_loop.specs.FourLegs.{AreWithin}
use Rattle.quartic_one_loop.specs.SlicedEntries.{sliced, slice_at}
use Rattle.quartic_one_loop.proofs.SliceValues.{entry_long, slice_keys, slice_values, slice_within}
use Rattle.quartic_one_loop.proofs.slices.slice_of.Goals as goal

pub push_sliced-requires : goal.push_sliced-requires
push_sliced-requires c =
    let e : List ℕ × Polynomial = (c.item.result.0.now, c.item.result.1.now) in
    let long : length e.0 ≡ rank_of c.args.tensor.now = entry_long c.args.tensor.now c.loop-at.at e c.item.ensures in
    subst (λ n. c.args.leg < n) (sym long) c.requires.leg

pub loop-at-preserved : goal.loop-at-preserved
loop-at-preserved c =
    let e : List ℕ × Polynomial = (c.item.result.0.now, c.item.result.1.now) in
    flat_step (sliced c.args.leg c.args.place) (entries_of c.args.tensor.now) c.loop-at.at e c.loop-at.values c.push_sliced.new.values c.item.ensures c.loop-at.invariant c.in_ok-push_sliced.ensures

pub gather-requires-clause-keys : goal.gather-requires-clause-keys
gather-requires-clause-keys c =
    let t = c.args.tensor.now in
    let vs = c.loop-at.values in
    let all : vs ≡ flat_map (sliced c.args.leg c.args.place) (entries_of t) =
    flat_end (sliced c.args.leg c.args.place) (entries_of t) c.loop-at.at vs (omega (arith, c.loop-at-test.false, c.len-at-end.ensures)) c.loop-at.invariant in
    subst (λ n. All (λ v. length v.key ≡ n - 1) vs) (sym c.rank.ensures.value) (slice_keys c.args.leg c.args.place t c.requires.low c.requires.leg vs all)

pub returns-clause-value : goal.returns-clause-value
returns-clause-value c =
    let t = c.args.tensor.now in
    let vs = c.loop-at.values in
    let all : vs ≡ flat_map (sliced c.args.leg c.args.place) (entries_of t) =
    flat_end (sliced c.args.leg c.args.place) (entries_of t) c.loop-at.at vs (omega (arith, c.loop-at-test.false, c.len-at-end.ensures)) c.loop-at.invariant in
    IfOk-weaker c.gather.result (HasValues (rank_of t - 1) (gathered_at (map entry vs))) (HasValues (rank_of t - 1) (slice_at c.args.leg c.args.place (value t)))
    (slice_values c.args.leg c.args.place t c.requires.low c.requires.leg vs all)
    (subst (λ n. IfOk c.gather.result (HasValues (n - 1) (gathered_at (map entry vs)))) c.rank.ensures.value c.gather.ensures.value)

pub returns-clause-within : goal.returns-clause-within
returns-clause-within c n each =
    let t = c.args.tensor.now in
    let vs = c.loop-at.values in
    let all : vs ≡ flat_map (sliced c.args.leg c.args.place) (entries_of t) =
    flat_end (sliced c.args.leg c.args.place) (entries_of t) c.loop-at.at vs (omega (arith, c.loop-at-test.false, c.len-at-end.ensures)) c.loop-at.invariant in
    IfOk-weaker c.gather.result (HasValues (rank_of t - 1) (gathered_at (map entry vs))) (AreWithin n)
    (λ s has. slice_within c.args.leg c.args.place t c.requires.low c.requires.leg vs all s has n each)
    (subst (λ m. IfOk c.gather.result (HasValues (m - 1) (gathered_at (map entry vs)))) c.rank.ensures.value c.gather.ensures.value)
