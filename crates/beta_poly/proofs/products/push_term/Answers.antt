use Rattle.std.proofs.Common.{◌++◌, sym, ap, ◌∙◌, append-nil, true≢false}
use Rattle.beta_poly.proofs.Views.{kept-zero, kept-other}
use Rattle.beta_poly.proofs.products.push_term.Goals as goal

pub returns-then-is_zero : goal.returns-then-is_zero
returns-then-is_zero c =
    sym (append-nil c.args.out.now.items) ∙ ap (λ r. c.args.out.now.items ++ r) (sym (kept-zero c.args.mono c.args.value (c.is_zero.ensures.0 c.if-is_zero.true)))

pub returns : goal.returns
returns c =
    let other = kept-other c.args.mono c.args.value (λ e. absurd (true≢false (sym (c.is_zero.ensures.1 e) ∙ c.if-is_zero.false))) in
    c.in_ok-push.ensures.items ∙ ap (λ r. c.args.out.now.items ++ r) (sym other)
