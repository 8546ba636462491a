-- The values of a term's text add up to it.
use Rattle.std.specs.Prelude.{◌≡◌, true}
use Rattle.model_core.specs.declared.model.Model.{Model}
use Rattle.model_core.specs.declared.term.Term.{Term}
use Rattle.model_core.specs.TermRules.{is_term}
use Rattle.term_expand.proofs.AssignedSums.{text_values_sum, text_values_rank}
use Rattle.term_expand.proofs.TextTensors.{TextValues}

-- the values of a term's text add up to it
pub text_laws : (model : Model) (term : Term) → is_term model term ≡ true → TextValues model term
text_laws model term right = record {
  sum = λ row column key l. text_values_sum model term row column key right l;
  rank = λ row column. text_values_rank model term row column right;
}
