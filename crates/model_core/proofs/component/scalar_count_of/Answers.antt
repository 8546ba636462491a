use Rattle.std.proofs.Common.{◌*◌, sym, ap, ◌∙◌}
use Rattle.model_core.proofs.ScalarLaws.{length-complex}
use Rattle.model_core.proofs.component.scalar_count_of.Goals as goal

pub returns-clause-value : goal.returns-clause-value
returns-clause-value c =
    ap (λ k. 2 * k) c.field_count-count.ensures.value ∙ sym (length-complex c.args.groups.now c.args.field.now c.if-field.false)
