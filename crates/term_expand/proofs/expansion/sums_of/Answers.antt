use Rattle.std.proofs.Common.{sym, subst}
use Rattle.std.proofs.lemmas.List.{nil_from_length}
use Rattle.model_core.specs.Directions.{entries}
use Rattle.term_expand.specs.Expansion.{Adds, no_sums}
use Rattle.term_expand.proofs.Expanded.{adds_first, adds_nothing}
use Rattle.term_expand.proofs.expansion.sums_of.Goals as goal
use Rattle.term_expand.proofs.expansion.sums_of.Goals.{then-not-is_empty+in_ok-basis+in_ok-add_terms, else-not-is_empty}

pub returns-clause-value : goal.returns-clause-value
returns-clause-value c =
    let model = c.args.model.now in
    elim c.if-not-is_empty.branch [
      | then-not-is_empty+in_ok-basis+in_ok-add_terms w ↦ subst (Adds model (entries model) no_sums) (sym w.sums-is) (adds_first model (entries model) _ _ _ _ c.new.ensures c.new-2.ensures c.new-3.ensures w.in_ok-add_terms.ensures.value)
      | else-not-is_empty w ↦
          let none = nil_from_length model.terms (c.is_empty.ensures.0 w.if-not-is_empty.false) in
          subst (Adds model (entries model) no_sums) (sym w.sums-is) (adds_first model (entries model) _ _ _ _ c.new.ensures c.new-2.ensures c.new-3.ensures (adds_nothing model _ none))
    ]
