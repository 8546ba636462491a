use Rattle.std.proofs.Common.{◌≡◌, Some, sym, ap, ◌∙◌}
use Rattle.model_core.specs.TermText.{tokens, spelling, IsSum}
use Rattle.model_core.specs.TermGrammar.{Start, verdict}
use Rattle.model_core.proofs.TermPrefixes.{left_within}
use Rattle.model_core.proofs.TermSums.{bad_offset_stuck, no_bad_offset, is_sum_in}
use Rattle.model_reader.proofs.FewLabels.{few_labels}
use Rattle.model_reader.proofs.term_text.parse_sum.Goals as goal

pub overflow_sub-len : goal.overflow_sub-len
overflow_sub-len c =
    let told = rw (c.in-Err-Left.field-0-is) at c.in-Err-Left.ensures in
    let stuck : verdict Start (tokens c.args.text.now) ≡ Some c.in-Err-Left.left = ap (verdict Start) (sym (c.as_slice.ensures ∙ c.in_ok-tokens.ensures)) ∙ told in
    rw (c.len.ensures, c.in_ok-tokens.ensures) (left_within c.args.text.now c.in-Err-Left.left stuck)

pub returns-in-Err-Left-clause-parsed : goal.returns-in-Err-Left-clause-parsed
returns-in-Err-Left-clause-parsed c =
    let told = rw (c.in-Err-Left.field-0-is) at c.in-Err-Left.ensures in
    let stuck : verdict Start (tokens c.args.text.now) ≡ Some c.in-Err-Left.left = ap (verdict Start) (sym (c.as_slice.ensures ∙ c.in_ok-tokens.ensures)) ∙ told in
    rw (c.start_after.ensures, c.len.ensures, c.in_ok-tokens.ensures) (bad_offset_stuck c.args.text.now c.in-Err-Left.left stuck)

pub returns-in-Ok-clause-parsed : goal.returns-in-Ok-clause-parsed
returns-in-Ok-clause-parsed c =
    let is : IsSum c.args.text.now c.in-Ok.sum =
    record { whole = c.in-Ok.ensures.0; spelled = sym (c.as_slice.ensures ∙ c.in_ok-tokens.ensures) ∙ c.in-Ok.ensures.1 } in
    (no_bad_offset c.args.text.now c.in-Ok.sum is, is_sum_in c.args.text.now c.in-Ok.sum is)

pub returns-in-Ok-clause-few : goal.returns-in-Ok-clause-few
returns-in-Ok-clause-few c =
    let spelled : tokens c.args.text.now ≡ spelling c.in-Ok.sum = sym (c.as_slice.ensures ∙ c.in_ok-tokens.ensures) ∙ c.in-Ok.ensures.1 in
    few_labels c.args.text.now c.in-Ok.sum spelled
