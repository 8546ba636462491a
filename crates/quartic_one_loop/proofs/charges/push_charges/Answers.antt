use Rattle.std.proofs.Common.{◌≡◌, length, Some, sym, ap, ◌∙◌, arith}
use Rattle.std.specs.Prelude.{slice_get}
use Rattle.std.specs.List.{enumerate_from}
use Rattle.std.proofs.lemmas.Option.{slice_get_read}
use Rattle.quartic_one_loop.specs.ChargeParts.{group_share}
use Rattle.quartic_one_loop.proofs.Adding.{first_none, first_more}
use Rattle.quartic_one_loop.proofs.ChargeSums.{group_there, groups_all}
use Rattle.quartic_one_loop.proofs.charges.push_charges.Goals as goal

pub loop-place-init : goal.loop-place-init
loop-place-init c =
    let model = c.args.model.now in
    first_none model (enumerate_from 0 model.groups) (group_share model) c.args.values.now

pub push_group-requires-clause-group : goal.push_group-requires-clause-group
push_group-requires-clause-group c =
    let groups = c.as_slice-groups.result.now in
    ap (λ gs. slice_get gs c.loop-place.place) (sym c.as_slice-groups.ensures)
    ∙ slice_get_read groups (length groups) c.loop-place.place c.index-groups-place.result (omega arith) c.loop-place-test.true c.index-groups-place.is

pub loop-place-preserved : goal.loop-place-preserved
loop-place-preserved c =
    let model = c.args.model.now in
    let place = c.loop-place.place in
    let group = c.index-groups-place.result in
    let groups = c.as_slice-groups.result.now in
    let there : slice_get model.groups place ≡ Some group =
    ap (λ gs. slice_get gs place) (sym c.as_slice-groups.ensures) ∙ slice_get_read groups (length groups) place group (omega arith) c.loop-place-test.true c.index-groups-place.is in
    first_more model (enumerate_from 0 model.groups) (group_share model) place (place, group) c.args.values.now c.loop-place.values c.push_group.new.values (group_there model place group there) c.loop-place.invariant c.in_ok-push_group.ensures.value

pub returns-clause-value : goal.returns-clause-value
returns-clause-value c =
    groups_all c.args.model.now c.loop-place.place c.args.values.now c.loop-place.values (omega (arith, ap length c.as_slice-groups.ensures, c.loop-place-test.false)) c.loop-place.invariant
