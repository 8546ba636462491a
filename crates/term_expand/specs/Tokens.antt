-- The names of blocks: their tokens, the dummies included.
use Rattle.std.specs.Prelude.{ℕ, ◌-◌, true, false, List, ◌++◌, map, length, replicate}
use Rattle.model_core.specs.declared.content.FieldToken.{FieldToken}
use Rattle.model_core.specs.Content.{is_fermionic}
use Rattle.term_expand.specs.declared.token.Token.{Token}

abbrev pub token_of : FieldToken → Token
token_of token = record { fermion = is_fermionic token.kind; field = token.field; conj = token.conj; generation = token.generation; dummy = false }

abbrev pub dummy_token : Token
dummy_token = record { fermion = false; field = 0; conj = false; generation = 0; dummy = true }

-- the tokens of a content, filled with dummies up to so many legs
abbrev pub block_name : List FieldToken → ℕ → List Token
block_name content legs = map token_of content ++ replicate (legs - length content) dummy_token
