use Rattle.std.proofs.Common.{◌∙◌, ap, sym, not}
use Rattle.std.specs.Prelude.{if◌then◌else◌}
use Rattle.exact_algebra.specs.Slices.{tail}
use Rattle.term_expand.specs.Parity.{is_odd}
use Rattle.model_core.specs.MonomialValue.{inversions}
use Rattle.term_expand.proofs.Signs.{odd_inversions}
use Rattle.term_expand.proofs.values.+is_odd.Goals as goal

pub returns-then-is_odd_below : goal.returns-then-is_odd_below
returns-then-is_odd_below t c =
    let rest = is_odd (inversions (tail c.args.values.now)) in
    ap not c.is_odd.ensures ∙ ap (λ b. if b then not rest else rest) (sym c.if-is_odd_below.true ∙ c.is_odd_below.ensures) ∙ sym (odd_inversions c.args.values.now c.in-len1-up.len_at_least)

pub returns-else-is_odd_below : goal.returns-else-is_odd_below
returns-else-is_odd_below t c =
    let rest = is_odd (inversions (tail c.args.values.now)) in
    c.is_odd-in-len1-up.ensures ∙ ap (λ b. if b then not rest else rest) (sym c.if-is_odd_below.false ∙ c.is_odd_below.ensures) ∙ sym (odd_inversions c.args.values.now c.in-len1-up.len_at_least)
