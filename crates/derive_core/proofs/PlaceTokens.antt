-- The token of what stands at a place.
use Rattle.std.specs.Prelude.{◌≡◌, List, ◌++◌, Option, None}
use Rattle.std.proofs.Common.{sym, ap, ◌∙◌}
use Rattle.std.proofs.lemmas.List.{append-nil}
use Rattle.model_core.specs.declared.component_lists.FieldComponent.{FieldComponent}
use Rattle.model_core.specs.declared.content.FieldToken.{FieldToken}
use Rattle.model_core.specs.declared.term.TermKind.{TermKind}
use Rattle.model_core.specs.BlockSide.{token_of}

-- nothing stands there
pub no_token : (kind : TermKind) (tokens : List FieldToken) (found : Option FieldComponent) → found ≡ None → tokens ≡ tokens ++ token_of kind found
no_token kind tokens found none = sym (append-nil tokens) ∙ ap (λ o. tokens ++ token_of kind o) (sym none)
