use Rattle.std.proofs.Common.{◌≡◌, ap, ◌∙◌, arith, map}
use Rattle.std.specs.List.{All}
use Rattle.std.proofs.lemmas.Result.{IfOk-at_ok, IfOk-weaker}
use Rattle.beta_poly.specs.Exponents.{AllWithin}
use Rattle.sparse_tensor.specs.declared.values.Value.{Value}
use Rattle.sparse_tensor.specs.Tensor.{HasValues}
use Rattle.sparse_tensor.specs.Operations.{entry, gathered_at}
use Rattle.yukawa_one_loop.proofs.Bounds.{gathered_within}
use Rattle.yukawa_one_loop.proofs.LineMatrices.{component_inside}
use Rattle.quartic_one_loop.specs.FourLegs.{AreWithin}
use Rattle.quartic_one_loop.specs.LegParts.{AreEnergies, energy_rows}
use Rattle.quartic_one_loop.proofs.SelfEnergies.{rows_more, rows_long, energies_gathered}
use Rattle.quartic_one_loop.proofs.legs.self_energies.Goals as goal

pub push_row-requires-clause-a : goal.push_row-requires-clause-a
push_row-requires-clause-a c = component_inside c.args.lines.now c.requires.lines c.loop-a.a c.loop-a-test.true

pub loop-a-preserved : goal.loop-a-preserved
loop-a-preserved c =
    record {
      rows = rows_more c.args.lines.now.model.now c.args.lines.now.dummy c.loop-a.a c.loop-a.values c.push_row.new.values c.loop-a.invariant.rows c.in_ok-push_row.ensures.value;
      within = IfOk-at_ok (λ _. All {X = Value} (λ v. AllWithin 2 v.value) c.push_row.new.values) c.in_ok-push_row.was (c.push_row.ensures.within c.loop-a.invariant.within);
    }

pub gather-requires-clause-keys : goal.gather-requires-clause-keys
gather-requires-clause-keys c = rows_long c.args.lines.now.model.now c.args.lines.now.dummy c.loop-a.a c.loop-a.values c.loop-a.invariant.rows

pub returns-clause-value : goal.returns-clause-value
returns-clause-value c =
    let model = c.args.lines.now.model.now in
    let dummy = c.args.lines.now.dummy in
    let values = c.loop-a.values in
    let end : c.loop-a.a ≡ dummy = omega (arith, c.loop-a.auto.a-end, c.loop-a-test.false) in
    IfOk-weaker c.gather.result (HasValues 2 (gathered_at (map entry values))) (AreEnergies model)
    (λ t has. energies_gathered model dummy values t c.requires.lines.dummy (c.loop-a.invariant.rows ∙ ap (energy_rows model dummy) end) has)
    c.gather.ensures.value

pub returns-clause-within : goal.returns-clause-within
returns-clause-within c =
    IfOk-weaker c.gather.result (HasValues 2 (gathered_at (map entry c.loop-a.values))) (AreWithin 2)
    (λ t has. gathered_within 2 2 c.loop-a.values t c.loop-a.invariant.within has)
    c.gather.ensures.value
