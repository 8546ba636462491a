use Rattle.std.proofs.Common.{◌∙◌, arith}
use Rattle.yukawa_one_loop.proofs.Adding.{over_none, over_more}
use Rattle.yukawa_one_loop.proofs.PartSums.{scalar_line, scalars_all, scalars_none}
use Rattle.yukawa_one_loop.specs.Parts.{coordinate_at}
use Rattle.yukawa_one_loop.proofs.LineMatrices.{component_inside, component_below, components_past, scalar_below}
use Rattle.yukawa_one_loop.proofs.parts.push_scalars.Goals as goal

pub loop-b-init : goal.loop-b-init
loop-b-init c =
    let model = c.args.lines.now.model.now in
    over_none model (scalar_line model (coordinate_at model c.args.a)) c.args.values.now

pub push_scalar-requires-clause-b : goal.push_scalar-requires-clause-b
push_scalar-requires-clause-b c = component_inside c.args.lines.now c.requires.lines c.loop-b.b c.loop-b-test.true

pub loop-b-preserved : goal.loop-b-preserved
loop-b-preserved c =
    let model = c.args.lines.now.model.now in
    over_more model (scalar_line model (coordinate_at model c.args.a)) c.loop-b.b c.args.values.now c.loop-b.values c.push_scalar.new.values (component_below c.args.lines.now c.requires.lines c.loop-b.b c.loop-b-test.true) c.loop-b.invariant c.in_ok-push_scalar.ensures.value

pub returns-clause-value : goal.returns-clause-value
returns-clause-value c =
    let model = c.args.lines.now.model.now in
    scalars_all model c.args.a c.loop-b.b c.args.values.now c.loop-b.values (scalar_below c.args.lines.now c.requires.lines c.args.a c.requires.a c.if-a-lines.false) (components_past c.args.lines.now c.requires.lines c.loop-b.b (omega (arith, c.loop-b-test.false))) c.loop-b.invariant

pub returns-then-a-lines-clause-value : goal.returns-then-a-lines-clause-value
returns-then-a-lines-clause-value c =
    scalars_none c.args.lines.now.model.now c.args.a c.args.values.now (c.if-a-lines.true ∙ c.requires.lines.dummy)
