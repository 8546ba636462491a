-- What the steps of reading a sum answer.
use Rattle.std.specs.Prelude.{◌≡◌, ℕ, ◌==◌, nat_le, Bool, true, false, ◌||◌, List, ◌∷◌, ◌++◌, length, Some, None, Result, Ok, Err}
use Rattle.std.specs.List.{list_all}
use Rattle.std.specs.Borrow.{Bor}
use Rattle.model_core.specs.declared.sum.Token.{Token}
use Rattle.model_core.specs.declared.sum.Token.TheVariants.{Word, Digits, Tilde, Open, Mark}
use Rattle.model_core.specs.declared.sum.WrittenMonomial.{WrittenMonomial}
use Rattle.model_core.specs.TermText.{minus, plus, spelling, is_whole}
use Rattle.model_reader.specs.declared.term_text.ParsedSum.{ParsedSum}
use Rattle.model_reader.specs.declared.term_text.ParsedSum.TheVariants.{Sum, Bad}
use Rattle.model_reader.specs.declared.term_text.Stop.{Stop}
use Rattle.model_reader.specs.declared.term_text.Stop.TheVariants.{Left, NoMemory}
use Rattle.model_core.specs.TermGrammar.{State, Start, verdict, bad_offset, sum_in}
use Rattle.model_core.specs.TermMeaning.{written_labels}

-- the tokens begin with such a one
abbrev pub begins_mark : ℕ → List Token → Bool
begins_mark wanted (Mark mark ∷ rest) = mark == wanted
begins_mark wanted _ = false

abbrev pub begins_word : List Token → Bool
begins_word (Word word ∷ rest) = true
begins_word _ = false

abbrev pub begins_digits : List Token → Bool
begins_digits (Digits digits ∷ rest) = true
begins_digits _ = false

abbrev pub begins_tilde : List Token → Bool
begins_tilde (Tilde at ∷ rest) = true
begins_tilde _ = false

abbrev pub begins_open : List Token → Bool
begins_open (Open at ∷ rest) = true
begins_open _ = false

abbrev pub begins_sign : List Token → Bool
begins_sign tokens = begins_mark minus tokens || begins_mark plus tokens

-- The tokens go on with a part's spelling, and what was read before and the part leave the second state; or the
-- first token that can't follow is found.
pub record Reads (from to : State) (tokens part rest : List Token) : Type 0 where
  pub spelled : tokens ≡ part ++ rest
  pub same : verdict from tokens ≡ verdict to rest

abbrev pub Stops : State → List Token → Stop → Type 0
Stops from tokens (Left count) = verdict from tokens ≡ Some count
Stops from tokens NoMemory = Unit {0}

abbrev pub Parsed : {X : Type 0} → State → State → (X → List Token) → List Token → Result (X × Bor (List Token)) Stop → Type 0
Parsed from to spelling tokens (Ok read) = Reads from to tokens (spelling read.0) read.1.now
Parsed from to spelling tokens (Err stop) = Stops from tokens stop

-- All of the tokens are a sum's, or the first that can't follow is found.
abbrev pub IsRead : List Token → Result (List WrittenMonomial) Stop → Type 0
IsRead tokens (Ok sum) = (is_whole sum ≡ true) × (tokens ≡ spelling sum)
IsRead tokens (Err stop) = Stops Start tokens stop

-- what was parsed is what the grammar says
abbrev pub ParsedAs : List ℕ → ParsedSum → Type 0
ParsedAs text (Sum sum) = (bad_offset text ≡ None) × (sum ≡ sum_in text)
ParsedAs text (Bad offset) = bad_offset text ≡ Some offset

-- ---- few labels

abbrev pub has_labels_within : ℕ → WrittenMonomial → Bool
has_labels_within count monomial = nat_le (length (written_labels monomial)) count

-- a sum's monomials have at most as many labels as its text has bytes
abbrev pub HasFewLabels : List ℕ → ParsedSum → Type 0
HasFewLabels text (Sum sum) = list_all (has_labels_within (length text)) sum ≡ true
HasFewLabels text (Bad offset) = Unit {0}
