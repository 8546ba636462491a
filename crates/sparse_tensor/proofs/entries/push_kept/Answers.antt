use Rattle.std.proofs.Common.{◌++◌, sym, ap, ◌∙◌, append-nil}
use Rattle.sparse_tensor.proofs.Kept.{kept_none, kept_one}
use Rattle.sparse_tensor.proofs.entries.push_kept.Goals as goal

pub returns-then-is_zero : goal.returns-then-is_zero
returns-then-is_zero c =
    sym (append-nil c.args.out.now.items) ∙ ap (λ r. c.args.out.now.items ++ r) (sym (kept_none c.args.key c.args.value (sym c.is_zero.ensures ∙ c.if-is_zero.true)))

pub returns : goal.returns
returns c =
    c.in_ok-push.ensures.items ∙ ap (λ r. c.args.out.now.items ++ r) (sym (kept_one c.args.key c.args.value (sym c.is_zero.ensures ∙ c.if-is_zero.false)))
