use Rattle.std.proofs.Common.{◌≡◌, ◌≤◌, sym, ◌∙◌, subst, to_z, of_z, w64, rules, arith}
use Rattle.std.specs.Prelude.{unsigned_abs}
use Rattle.std.proofs.lemmas.Option.{slice_get_within}
use Rattle.model_core.proofs.ValidLaws.{field_reps, length-reps}
use Rattle.model_core.proofs.Dimensions.{group_limit_at}
use Rattle.anomaly_check.proofs.Coefficients.{cubic_small}
use Rattle.anomaly_check.proofs.counts.coefficient.Goals as goal

pub item-rep-requires : goal.item-rep-requires
item-rep-requires c =
    let within = slice_get_within c.args.groups.now c.args.place c.args.group.now c.requires.group in
    omega (arith, within, length-reps c.args.groups.now c.args.field.now.reps (field_reps c.args.groups.now c.args.field.now c.requires.field))

pub cubic-requires-clause-high : goal.cubic-requires-clause-high
cubic-requires-clause-high c = group_limit_at c.args.groups.now c.args.place c.args.group.now c.requires.groups c.requires.group

pub returns-clause-bound : goal.returns-clause-bound
returns-clause-bound c =
    let read : to_z w64 (of_z w64 c.cubic.result) ≡ c.cubic.result = search rules in
    let limit = group_limit_at c.args.groups.now c.args.place c.args.group.now c.requires.groups c.requires.group in
    let small = cubic_small c.item-rep.result.now c.args.group.now.n limit in
    subst (λ k. unsigned_abs k ≤ 10) (sym (read ∙ c.cubic.ensures.value)) small
