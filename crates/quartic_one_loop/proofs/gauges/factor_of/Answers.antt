use Rattle.std.proofs.Common.{sym, subst, ap, ◌∙◌, arith}
use Rattle.std.proofs.lemmas.Option.{slice_get_within}
use Rattle.beta_poly.specs.Exponents.{AllWithin}
use Rattle.model_core.proofs.ValidLaws.{valid_parts, parts_groups, group_limit}
use Rattle.quartic_one_loop.specs.GaugePairs.{coupling_or_zero}
use Rattle.quartic_one_loop.proofs.PairShares.{coupling_within}
use Rattle.quartic_one_loop.proofs.gauges.factor_of.Goals as goal

pub item-group-requires : goal.item-group-requires
item-group-requires c =
    slice_get_within c.args.model.now.groups c.args.generator.place c.requires.generator.group c.requires.generator.there

pub group_coupling-requires : goal.group_coupling-requires
group_coupling-requires c =
    let groups = c.args.model.now.groups in
    omega (arith, slice_get_within groups c.args.generator.place c.requires.generator.group c.requires.generator.there, group_limit groups (parts_groups c.args.model.now (valid_parts c.args.model.now c.requires.valid)))

pub matrix_of-requires-clause-special : goal.matrix_of-requires-clause-special
matrix_of-requires-clause-special c = c.requires.generator.special

pub matrix_of-requires-2-clause-special : goal.matrix_of-requires-2-clause-special
matrix_of-requires-2-clause-special c = c.requires.generator.opposite_special

pub returns-clause-value : goal.returns-clause-value
returns-clause-value c =
    let place = c.args.generator.place in
    record {
      coupling = c.in_ok-coupling.ensures.value ∙ sym (ap (coupling_or_zero place) c.item-group.ensures);
      within = subst (AllWithin 2) (sym c.in_ok-coupling.ensures.value) (coupling_within place c.item-group.result.now);
      matrix = c.in_ok-matrix.ensures.value;
      opposite = c.in_ok-opposite.ensures.value;
    }
