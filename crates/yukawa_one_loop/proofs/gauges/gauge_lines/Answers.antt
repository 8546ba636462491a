use Rattle.std.proofs.Common.{◌≡◌, length, map, Some, sym, ap, ◌∙◌, arith}
use Rattle.std.specs.Prelude.{slice_get}
use Rattle.std.specs.List.{enumerate_from}
use Rattle.std.proofs.lemmas.List.{take_all}
use Rattle.std.proofs.lemmas.List.FromFn.{length-enumerate_from}
use Rattle.std.proofs.lemmas.Option.{slice_get_read}
use Rattle.yukawa_one_loop.specs.Parts.{gauge_line}
use Rattle.yukawa_one_loop.proofs.GaugeSums.{lines_more}
use Rattle.yukawa_one_loop.proofs.gauges.gauge_lines.Goals as goal

pub gauge_line-requires-clause-group : goal.gauge_line-requires-clause-group
gauge_line-requires-clause-group c =
    let groups = c.as_slice-groups.result.now in
    ap (λ gs. slice_get gs c.loop-place.place) (sym c.as_slice-groups.ensures)
    ∙ slice_get_read groups (length groups) c.loop-place.place c.index-groups-place.result (omega arith) c.loop-place-test.true c.index-groups-place.is

pub loop-place-preserved : goal.loop-place-preserved
loop-place-preserved c =
    let model = c.args.model.now in
    let place = c.loop-place.place in
    let group = c.index-groups-place.result in
    let groups = c.as_slice-groups.result.now in
    let there : slice_get model.groups place ≡ Some group =
    ap (λ gs. slice_get gs place) (sym c.as_slice-groups.ensures) ∙ slice_get_read groups (length groups) place group (omega arith) c.loop-place-test.true c.index-groups-place.is in
    lines_more model place group c.loop-place.lines c.push.new.self c.in_ok-gauge_line.field-0 there c.loop-place.invariant c.in_ok-gauge_line.ensures.value c.in_ok-push.ensures.ok

pub returns-clause-value : goal.returns-clause-value
returns-clause-value c =
    let all = enumerate_from 0 c.args.model.now.groups in
    c.loop-place.invariant
    ∙ ap (map (gauge_line c.args.model.now)) (take_all c.loop-place.place all (omega (arith, length-enumerate_from 0 c.args.model.now.groups, ap length c.as_slice-groups.ensures, c.loop-place-test.false)))
