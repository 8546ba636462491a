use Rattle.std.proofs.Common.{arith}
use Rattle.su_reps.specs.Operators.{fraction}
use Rattle.beta_formulas.specs.YukawaBeta.{leg_line}
use Rattle.yukawa_one_loop.proofs.Adding.{scaled_none, scaled_more}
use Rattle.yukawa_one_loop.proofs.PartSums.{legs_all}
use Rattle.yukawa_one_loop.specs.Parts.{coordinate_at}
use Rattle.yukawa_one_loop.proofs.LineMatrices.{component_inside, component_below, components_past}
use Rattle.yukawa_one_loop.proofs.parts.push_legs.Goals as goal

pub loop-b-init : goal.loop-b-init
loop-b-init c =
    let model = c.args.lines.now.model.now in
    scaled_none model (leg_line model (coordinate_at model c.args.a)) (fraction 1 2) c.args.values.now

pub push_leg-requires-clause-b : goal.push_leg-requires-clause-b
push_leg-requires-clause-b c = component_inside c.args.lines.now c.requires.lines c.loop-b.b c.loop-b-test.true

pub loop-b-preserved : goal.loop-b-preserved
loop-b-preserved c =
    let model = c.args.lines.now.model.now in
    scaled_more model (leg_line model (coordinate_at model c.args.a)) (fraction 1 2) c.loop-b.b c.args.values.now c.loop-b.values c.push_leg.new.values (component_below c.args.lines.now c.requires.lines c.loop-b.b c.loop-b-test.true) c.loop-b.invariant c.in_ok-push_leg.ensures.value

pub returns-clause-value : goal.returns-clause-value
returns-clause-value c =
    let model = c.args.lines.now.model.now in
    legs_all model (coordinate_at model c.args.a) c.loop-b.b c.args.values.now c.loop-b.values (components_past c.args.lines.now c.requires.lines c.loop-b.b (omega (arith, c.loop-b-test.false))) c.loop-b.invariant
