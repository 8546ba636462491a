use Rattle.std.proofs.Common.{◌≡◌, sym, ap, ◌∙◌, arith}
use Rattle.std.specs.Prelude.{decimal}
use Rattle.std.proofs.lemmas.Bool.Decides.{nat_tests}
use Rattle.rate_tool.proofs.Numbers.{parsed-small, number_in-decimal, number_in-none, same-text, other-text}
use Rattle.rate_tool.proofs.words.whole_number.Goals as goal

pub returns-in-Err : goal.returns-in-Err
returns-in-Err c =
    sym (number_in-none 0 18446744073709551615 c.args.word.now c.parse.result (omega (arith)) c.parse.ensures.value.0
    (λ n is own. let failed = c.in-Err.is in cc))

pub returns-then-ne : goal.returns-then-ne
returns-then-ne c =
    sym (number_in-none 0 18446744073709551615 c.args.word.now c.parse.result (omega (arith)) c.parse.ensures.value.0
    (λ n is own. let given = c.in-Ok.is in
    let same : n ≡ c.in-Ok.number = cc in
    other-text _ _ c.if-ne.ensures (own ∙ ap decimal same ∙ sym c.format.ensures.text)))

pub returns : goal.returns
returns c =
    let own : c.args.word.now ≡ decimal c.in-Ok.number = same-text _ _ c.if-ne.ensures ∙ c.format.ensures.text in
    let small = parsed-small c.args.word.now c.in-Ok.number c.parse.result c.in-Ok.is c.parse.ensures.value.0 in
    rw (number_in-decimal 0 18446744073709551615 c.args.word.now c.in-Ok.number small own) (grind (arith, nat_tests, small))
