use Rattle.std.proofs.Common.{◌≡◌, Some, None, sym, ap, ◌∙◌}
use Rattle.std.specs.Prelude.{option_map}
use Rattle.frac128.specs.Rational.{neg_ℚ}
use Rattle.model_core.specs.Literal.{unsigned_fraction}
use Rattle.model_reader.proofs.Literals.{stripped}
use Rattle.model_reader.proofs.literal.text_fraction.Goals as goal

pub returns-in_err-size-in-Some : goal.returns-in_err-size-in-Some
returns-in_err-size-in-Some c =
    let given = stripped c.args.text.now c.strip_prefix.result c.strip_prefix.ensures.cases in
    let size : unsigned_fraction c.in-Some.digits.now ≡ None = sym c.unsigned_fraction.ensures ∙ c.in_err-size-in-Some.was in
    c.from_residual.ensures ∙ sym (rw c.in-Some.is at given ∙ ap (option_map neg_ℚ) size)

pub returns-in_ok-size-in-Some : goal.returns-in_ok-size-in-Some
returns-in_ok-size-in-Some c =
    let given = stripped c.args.text.now c.strip_prefix.result c.strip_prefix.ensures.cases in
    let size : unsigned_fraction c.in-Some.digits.now ≡ Some c.in_ok-size-in-Some.size = sym c.unsigned_fraction.ensures ∙ c.in_ok-size-in-Some.was in
    ap Some c.negated.ensures ∙ sym (rw c.in-Some.is at given ∙ ap (option_map neg_ℚ) size)

pub returns-in-None : goal.returns-in-None
returns-in-None c =
    let given = stripped c.args.text.now c.strip_prefix.result c.strip_prefix.ensures.cases in
    c.unsigned_fraction-in-None.ensures ∙ sym (rw c.in-None.is at given)
