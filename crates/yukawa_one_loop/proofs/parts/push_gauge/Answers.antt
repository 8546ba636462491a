use Rattle.std.proofs.Common.{◌++◌, length, sym, subst, ap, ◌∙◌, arith}
use Rattle.std.specs.List.{All}
use Rattle.std.proofs.lemmas.List.{length-map}
use Rattle.beta_poly.specs.Exponents.{AllWithin}
use Rattle.sparse_tensor.specs.Tensor.{entries_of}
use Rattle.model_core.specs.Component.{fermion_components}
use Rattle.model_core.specs.GaugeBeta.{casimir_at}
use Rattle.beta_formulas.specs.YukawaBeta.{yukawa}
use Rattle.yukawa_one_loop.specs.Parts.{IsInside, coordinate_at, weighted_values}
use Rattle.yukawa_one_loop.proofs.GaugeSums.{factor_within, groups_none, groups_more, groups_all, line_group, matrix_inside}
use Rattle.yukawa_one_loop.proofs.LineMatrices.{gauges_count, plain_inside, plain_there}
use Rattle.yukawa_one_loop.proofs.parts.push_gauge.Goals as goal

pub item-matrix-requires : goal.item-matrix-requires
item-matrix-requires c = plain_inside c.args.lines.now c.requires.lines c.args.a c.requires.a

pub loop-place-init : goal.loop-place-init
loop-place-init c =
    groups_none c.args.lines.now.model.now (coordinate_at c.args.lines.now.model.now c.args.a) c.args.values.now

pub push_group-requires-clause-rank : goal.push_group-requires-clause-rank
push_group-requires-clause-rank c =
    (plain_there c.args.lines.now c.requires.lines c.args.a c.item-matrix.result.now c.item-matrix.ensures).entries.rank_is

pub push_group-requires-clause-factor : goal.push_group-requires-clause-factor
push_group-requires-clause-factor c =
    let line = line_group c.args.lines.now.model.now c.loop-place.place c.args.lines.now.gauges c.item.result.now c.requires.lines.gauges c.item.ensures in
    subst (AllWithin 2) (sym (ap (λ l. l.factor) line.is)) (factor_within c.loop-place.place)

pub push_group-requires-clause-matrix : goal.push_group-requires-clause-matrix
push_group-requires-clause-matrix c =
    (plain_there c.args.lines.now c.requires.lines c.args.a c.item-matrix.result.now c.item-matrix.ensures).within

pub push_group-requires-clause-inside : goal.push_group-requires-clause-inside
push_group-requires-clause-inside c =
    let model = c.args.lines.now.model.now in
    let line = line_group model c.loop-place.place c.args.lines.now.gauges c.item.result.now c.requires.lines.gauges c.item.ensures in
    let here = plain_there c.args.lines.now c.requires.lines c.args.a c.item-matrix.result.now c.item-matrix.ensures in
    let count = ap (λ l. length l.casimirs) line.is ∙ length-map (fermion_components model) (casimir_at line.group c.loop-place.place) in
    subst (λ n. All (IsInside n) (entries_of c.item-matrix.result.now)) (sym count)
    (matrix_inside model (yukawa model (coordinate_at model c.args.a)) c.item-matrix.result.now here.entries)

pub loop-place-preserved : goal.loop-place-preserved
loop-place-preserved c =
    let model = c.args.lines.now.model.now in
    let t = c.item-matrix.result.now in
    let line = line_group model c.loop-place.place c.args.lines.now.gauges c.item.result.now c.requires.lines.gauges c.item.ensures in
    let here = plain_there c.args.lines.now c.requires.lines c.args.a t c.item-matrix.ensures in
    groups_more model (coordinate_at model c.args.a) c.loop-place.place line.group t c.args.values.now c.loop-place.values c.push_group.new.values line.there here.entries c.loop-place.invariant
    (c.in_ok-push_group.ensures.value ∙ ap (λ l. c.loop-place.values ++ weighted_values l t) line.is)

pub returns-clause-value : goal.returns-clause-value
returns-clause-value c =
    let model = c.args.lines.now.model.now in
    groups_all model (coordinate_at model c.args.a) c.loop-place.place c.args.values.now c.loop-place.values
    (omega (arith, gauges_count c.args.lines.now c.requires.lines, c.loop-place-test.false, c.len-place-end.ensures)) c.loop-place.invariant
