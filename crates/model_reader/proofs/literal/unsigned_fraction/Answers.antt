use Rattle.std.proofs.Common.{sym, ap, ap₂, ◌∙◌}
use Rattle.model_core.specs.Literal.{whole_of, quotient_of}
use Rattle.model_reader.proofs.Literals.{sized}
use Rattle.model_reader.proofs.literal.unsigned_fraction.Goals as goal

pub returns-in-Some : goal.returns-in-Some
returns-in-Some c =
    let given = sized c.args.text.now c.split_once.result c.split_once.ensures.cases in
    c.quotient_of.ensures ∙ ap₂ quotient_of c.as_bytes.ensures.value c.as_bytes-in-Some.ensures.value ∙ sym (rw c.in-Some.is at given)

pub returns-in-None : goal.returns-in-None
returns-in-None c =
    let given = sized c.args.text.now c.split_once.result c.split_once.ensures.cases in
    c.whole_of.ensures ∙ ap whole_of c.as_bytes-in-None.ensures.value ∙ sym (rw c.in-None.is at given)
