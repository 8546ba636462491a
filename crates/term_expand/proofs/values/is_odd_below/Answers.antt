use Rattle.std.proofs.Common.{◌∙◌, ap, sym, not, take, count_by}
use Rattle.std.proofs.lemmas.Bool.{lt-ltb, le-ltb}
use Rattle.std.proofs.lemmas.List.Sums.{count_by_more_yes, count_by_more_no}
use Rattle.model_core.specs.MonomialValue.{is_less}
use Rattle.term_expand.specs.Parity.{is_odd}
use Rattle.term_expand.proofs.Signs.{odd_next}
use Rattle.term_expand.proofs.values.is_odd_below.Goals as goal
use Rattle.term_expand.proofs.values.is_odd_below.Goals.{then-other-value, else-other-value}

pub loop-other-preserved : goal.loop-other-preserved
loop-other-preserved c =
    let less = is_less c.args.value in
    let values = c.args.values.now in
    let i = c.loop-other.other-index in
    elim c.if-other-value.branch [
      | then-other-value w ↦
          w.odd-is ∙ ap not c.loop-other.invariant ∙ sym (odd_next (count_by less (take i values)))
          ∙ ap is_odd (sym (count_by_more_yes less values i 0 c.loop-other-test.true (lt-ltb _ _ w.if-other-value.true)))
      | else-other-value w ↦
          w.odd-is ∙ c.loop-other.invariant
          ∙ ap is_odd (sym (count_by_more_no less values i 0 c.loop-other-test.true (le-ltb _ _ w.if-other-value.false)))
    ]
