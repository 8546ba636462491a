use Rattle.std.proofs.Common.{◌≡◌, ◌++◌, OnOk, subst}
use Rattle.term_expand.proofs.LinkRuns.{kept_other}
use Rattle.term_expand.proofs.links.push_link.Goals as goal

pub returns : goal.returns
returns c =
    let kept = kept_other c.is_zero.result c.args.from c.args.to c.args.value c.is_zero.ensures.1 c.if-is_zero.false in
    subst (λ more. OnOk c.push.result (c.push.new.self ≡ c.args.links.now ++ more)) kept c.push.ensures.ok
