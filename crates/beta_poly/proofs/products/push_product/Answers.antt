use Rattle.std.proofs.Common.{◌++◌, ◌∷◌, [], sym, ap, ap₂, ◌∙◌}
use Rattle.beta_poly.proofs.Rows.{one_product}
use Rattle.beta_poly.proofs.products.push_product.Goals as goal

pub returns-clause-value : goal.returns-clause-value
returns-clause-value c =
    c.in_ok-push.ensures.items ∙ ap (λ r. c.args.out.now.items ++ r) (ap₂ (λ m v. (m, v) ∷ []) c.in_ok-mono.ensures c.in_ok-value.ensures.value ∙ sym (one_product c.args.a.now c.args.b.now))
