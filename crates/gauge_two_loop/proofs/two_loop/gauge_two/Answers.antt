use Rattle.std.proofs.Common.{◌≡◌, length, Some, sym, ap, ◌∙◌, arith}
use Rattle.std.specs.Prelude.{slice_get}
use Rattle.std.proofs.lemmas.Option.{slice_get_read}
use Rattle.gauge_two_loop.proofs.PieceLaws.{betas-more, betas-end}
use Rattle.gauge_two_loop.proofs.two_loop.gauge_two.Goals as goal

pub loop-place-preserved : goal.loop-place-preserved
loop-place-preserved g c =
    let model = c.args.model.now in
    let place = c.loop-place.place in
    let group = c.index-groups-place.result in
    let groups = c.as_slice-groups.result.now in
    let there : slice_get model.groups place ≡ Some group =
    ap (λ gs. slice_get gs place) (sym c.as_slice-groups.ensures) ∙ slice_get_read groups (length groups) place group (omega arith) c.loop-place-test.true c.index-groups-place.is in
    record { so_far = betas-more model place group c.loop-place.found c.push.new.self c.in_ok-group_two.field-0 there c.loop-place.invariant.so_far c.in_ok-group_two.ensures.value c.in_ok-push.ensures.ok }

pub returns-clause-value : goal.returns-clause-value
returns-clause-value g c =
    betas-end c.args.model.now c.loop-place.place c.loop-place.found (omega (arith, ap length c.as_slice-groups.ensures, c.loop-place-test.false)) c.loop-place.invariant.so_far
