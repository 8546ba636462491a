use Rattle.std.proofs.Common.{ap₂, sym}
use Rattle.std.proofs.lemmas.List.{append-nil}
use Rattle.sparse_tensor.specs.declared.values.Value.{Value}
use Rattle.yukawa_one_loop.proofs.LineMatrices.{component_inside}
use Rattle.quartic_one_loop.proofs.SelfEnergies.{row_more, within_more}
use Rattle.quartic_one_loop.proofs.legs.push_row.Goals as goal

pub loop-e-init : goal.loop-e-init
loop-e-init c = record { row = sym (append-nil c.args.values.now); within = λ before. before }

pub self_energy-requires-clause-e : goal.self_energy-requires-clause-e
self_energy-requires-clause-e c = component_inside c.args.lines.now c.requires.lines c.loop-e.e c.loop-e-test.true

pub loop-e-preserved : goal.loop-e-preserved
loop-e-preserved c =
    let v : Value = record { key = c.in_ok-pair_key.field-0; value = c.in_ok-self_energy.field-0 } in
    record {
      row = row_more c.args.lines.now.model.now c.args.lines.now.dummy c.args.a c.loop-e.e c.args.values.now c.loop-e.values c.push.new.self v c.loop-e.invariant.row
          (ap₂ (λ k p. record { key = k; value = p }) c.in_ok-pair_key.ensures c.in_ok-self_energy.ensures.value) c.in_ok-push.ensures.ok;
      within = λ before. within_more 2 c.loop-e.values c.push.new.self v (c.loop-e.invariant.within before) c.in_ok-self_energy.ensures.within c.in_ok-push.ensures.ok;
    }
