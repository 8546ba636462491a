use Rattle.std.proofs.Common.{◌≡◌, ◌∙◌, true, false, sym, rules}
use Rattle.std.specs.Char.{is_ascii_digit}
use Rattle.std.specs.List.{list_all}
use Rattle.model_reader.proofs.Literals.{parsed_between, not_digits}
use Rattle.model_reader.proofs.literal.number_between.Goals as goal

pub returns-then-not-are_all_digits-clause-value : goal.returns-then-not-are_all_digits-clause-value
returns-then-not-are_all_digits-clause-value c =
    let other : list_all is_ascii_digit c.args.digits.now ≡ false = search rules in
    sym (not_digits c.args.low c.args.high c.args.digits.now other)

pub returns-in-Err-clause-value : goal.returns-in-Err-clause-value
returns-in-Err-clause-value c =
    let digits : list_all is_ascii_digit c.args.digits.now ≡ true = search rules in
    let parsed = parsed_between c.args.low c.args.high c.args.digits.now c.parse.result c.ranges.high.fits c.parse.ensures.value.0 digits in
    sym (rw c.in-Err.is at parsed)

pub returns-in-Ok-clause-value : goal.returns-in-Ok-clause-value
returns-in-Ok-clause-value c =
    let digits : list_all is_ascii_digit c.args.digits.now ≡ true = search rules in
    let parsed = parsed_between c.args.low c.args.high c.args.digits.now c.parse.result c.ranges.high.fits c.parse.ensures.value.0 digits in
    c.within.ensures.value ∙ sym (rw c.in-Ok.is at parsed)
