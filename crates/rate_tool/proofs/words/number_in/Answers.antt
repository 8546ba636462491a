use Rattle.std.proofs.Common.{◌<◌, ◌≤◌, sym, ◌∙◌, arith}
use Rattle.std.proofs.lemmas.Bool.Decides.{nat_tests}
use Rattle.rate_tool.proofs.Numbers.{narrower-none, narrower-some}
use Rattle.rate_tool.proofs.words.number_in.Goals as goal

pub returns-in_err-number-clause-value : goal.returns-in_err-number-clause-value
returns-in_err-number-clause-value c =
    c.from_residual.ensures ∙ sym (narrower-none c.args.low c.args.high c.args.word.now (omega (arith, c.ranges.high.fits)) (sym c.whole_number.ensures ∙ c.in_err-number.was))

pub returns-then-number-from-clause-value : goal.returns-then-number-from-clause-value
returns-then-number-from-clause-value c =
    let below : c.in_ok-number.number < c.args.low = omega (arith, c.if-number-from.true, c.from.ensures) in
    rw (narrower-some c.args.low c.args.high c.args.word.now c.in_ok-number.number (sym c.whole_number.ensures ∙ c.in_ok-number.was)) (grind (arith, nat_tests, below))

pub returns-then-number-from-2-clause-value : goal.returns-then-number-from-2-clause-value
returns-then-number-from-2-clause-value c =
    let above : c.args.high < c.in_ok-number.number = omega (arith, c.if-number-from-2.true, c.from-2.ensures) in
    rw (narrower-some c.args.low c.args.high c.args.word.now c.in_ok-number.number (sym c.whole_number.ensures ∙ c.in_ok-number.was)) (grind (arith, nat_tests, above))

pub returns-clause-value : goal.returns-clause-value
returns-clause-value c =
    let least : c.args.low ≤ c.in_ok-number.number = omega (arith, c.if-number-from.false, c.from.ensures) in
    let most : c.in_ok-number.number ≤ c.args.high = omega (arith, c.if-number-from-2.false, c.from-2.ensures) in
    rw (narrower-some c.args.low c.args.high c.args.word.now c.in_ok-number.number (sym c.whole_number.ensures ∙ c.in_ok-number.was)) (grind (arith, nat_tests, least, most))
