use Rattle.std.proofs.Common.{arith, sym, ap, ◌∙◌, subst, ◌≤◌, length}
use Rattle.term_expand.proofs.Keys.{few_scalars}
use Rattle.term_expand.proofs.texts.value_of.Goals as goal

pub overflow_cast-dummy : goal.overflow_cast-dummy
overflow_cast-dummy c =
    let few : c.len-dummy.result ≤ 256 = subst (λ n. n ≤ 256) (sym (c.len-dummy.ensures ∙ ap length c.requires.basis.scalars)) (few_scalars c.args.model.now c.requires.valid) in
    grind arith
