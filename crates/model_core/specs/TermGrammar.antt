-- The grammar of a term's text as functions: where a text stops to be a sum, and else the sum that it is. A sum's tokens
-- are read from left to right, in states that say what may follow. The law `the_grammar_of_terms` says that these functions
-- are what TermText defines: a text is one sum at most, and the offset is that of the first byte that no sum can have there.
use Rattle.std.specs.Prelude.{ℕ, zero, suc, ◌-◌, ◌==◌, Bool, true, false, not, ◌&&◌, if◌then◌else◌, List, [], ◌∷◌, length, Option, Some, None, option_map}
use Rattle.model_core.specs.declared.sum.Token.{Token}
use Rattle.model_core.specs.declared.sum.Token.TheVariants.{Word, Digits, Tilde, Open, Mark}
use Rattle.model_core.specs.declared.sum.Span.{Span}
use Rattle.model_core.specs.declared.sum.WrittenLiteral.{WrittenLiteral}
use Rattle.model_core.specs.declared.sum.Index.{Index}
use Rattle.model_core.specs.declared.sum.Index.TheVariants as index
use Rattle.model_core.specs.declared.sum.Bracket.{Bracket}
use Rattle.model_core.specs.declared.sum.WrittenFactor.{WrittenFactor}
use Rattle.model_core.specs.declared.sum.WrittenMonomial.{WrittenMonomial}
use Rattle.model_core.specs.TermText.{minus, plus, slash, close, left, right, comma, goes_on, opened, tokens}

-- what was read last
pub data State : Type 0 where
  Start : State
  AfterSign : State
  AfterNumerator : State
  AfterSlash : State
  AfterLiteral : State
  AfterWord : State
  AfterTilde : State
  AfterOpen : State
  AfterIndex : State
  AfterBracket : State
  AfterLeft : State
  AfterLabel : State
  AfterLabels : State
  AfterFactor : State
  AfterFactors : State
  AfterMonomials : State

abbrev pub on_mark : ℕ → ℕ → State → Option State → Option State
on_mark mark wanted next other = if mark == wanted then Some next else other

abbrev pub on_sign : ℕ → Option State
on_sign mark = on_mark mark minus AfterSign (on_mark mark plus AfterSign None)

abbrev pub on_left : ℕ → Option State
on_left mark = on_mark mark left AfterLeft (on_sign mark)

-- the state after one more token, where some sum goes on with it
abbrev pub step : State → Token → Option State
step Start (Word _) = Some AfterWord
step Start (Digits _) = Some AfterNumerator
step Start (Mark mark) = on_mark mark minus AfterSign None
step AfterSign (Word _) = Some AfterWord
step AfterSign (Digits _) = Some AfterNumerator
step AfterNumerator (Word _) = Some AfterWord
step AfterNumerator (Mark mark) = on_mark mark slash AfterSlash None
step AfterSlash (Digits _) = Some AfterLiteral
step AfterLiteral (Word _) = Some AfterWord
step AfterWord (Word _) = Some AfterWord
step AfterWord (Tilde _) = Some AfterTilde
step AfterWord (Open _) = Some AfterOpen
step AfterWord (Mark mark) = on_left mark
step AfterTilde (Word _) = Some AfterWord
step AfterTilde (Open _) = Some AfterOpen
step AfterTilde (Mark mark) = on_left mark
step AfterOpen (Word _) = Some AfterIndex
step AfterOpen (Digits _) = Some AfterIndex
step AfterIndex (Mark mark) = on_mark mark close AfterBracket None
step AfterBracket (Word _) = Some AfterWord
step AfterBracket (Mark mark) = on_left mark
step AfterLeft (Word _) = Some AfterLabel
step AfterLabel (Mark mark) = on_mark mark comma AfterLeft (on_mark mark right AfterFactor None)
step AfterLabels (Mark mark) = on_mark mark right AfterFactor None
step AfterFactor (Word _) = Some AfterWord
step AfterFactor (Mark mark) = on_sign mark
step AfterFactors (Mark mark) = on_sign mark
step _ _ = None

-- whether a sum may end
abbrev pub may_end : State → Bool
may_end AfterWord = true
may_end AfterTilde = true
may_end AfterBracket = true
may_end AfterFactor = true
may_end AfterFactors = true
may_end AfterMonomials = true
may_end _ = false

-- None where the tokens end a sum, and else the number of those left at the first that can't follow
abbrev pub or_left : List Token → (State → Option ℕ) → Option State → Option ℕ
or_left rest go None = Some (suc (length rest))
or_left rest go (Some next) = go next

abbrev pub verdict : State → List Token → Option ℕ
verdict state [] = if may_end state then None else Some 0
verdict state (token ∷ rest) = or_left rest (λ next. verdict next rest) (step state token)

-- ---- where tokens begin

-- a token begins with the byte
abbrev pub begins : Option Token → ℕ → Bool
begins before byte = not (goes_on before byte) && not (byte == 32)

-- this offset or another one, where tokens are still to be passed over
abbrev pub this_or : ℕ → Bool → (ℕ → ℕ) → ℕ → ℕ
this_or at false later count = later count
this_or at true later zero = at
this_or at true later (suc count) = later count

-- the offset of the token that comes after so many that begin, or of the end of the text
abbrev pub start_after : ℕ → Option Token → ℕ → List ℕ → ℕ
start_after count before at [] = at
start_after count before at (byte ∷ bytes) = this_or at (begins before byte) (λ left. start_after left (opened before at byte) (suc at) bytes) count

-- the offset of the first byte that no sum's text can have there, or the length of a text that ends too early
unfoldable pub bad_offset : List ℕ → Option ℕ
bad_offset text = option_map (λ count. start_after (length (tokens text) - count) None 0 text) (verdict Start (tokens text))

-- ---- the sum that tokens are

-- the parts of a sum that can still come; a state uses some of them
pub record Rest : Type 0 where
  pub negative : Bool
  pub literal : Option WrittenLiteral
  pub digits : Span
  pub denominator : Option Span
  pub tilde : Option ℕ
  pub index : Index
  pub bracket : Option Bracket
  pub label : Span
  pub labels : List Span
  pub factors : List WrittenFactor
  pub monomials : List WrittenMonomial

abbrev pub no_span : Span
no_span = record { start = 0; end = 0 }

abbrev pub plain : List WrittenFactor → List WrittenMonomial → Rest
plain factors monomials = record {
  negative = false;
  literal = None;
  digits = no_span;
  denominator = None;
  tilde = None;
  index = index.Word no_span;
  bracket = None;
  label = no_span;
  labels = [];
  factors = factors;
  monomials = monomials;
}

-- ---- a token more at the front

abbrev pub before_word : Span → Rest → Rest
before_word word r = plain (record { word = word; tilde = r.tilde; bracket = r.bracket; labels = r.labels } ∷ r.factors) r.monomials

abbrev pub before_sign : Bool → Rest → Rest
before_sign negative r = plain [] (record { negative = negative; literal = r.literal; factors = r.factors } ∷ r.monomials)

abbrev pub with_literal : Option WrittenLiteral → Rest → Rest
with_literal literal r = record {
  negative = false;
  literal = literal;
  digits = no_span;
  denominator = None;
  tilde = None;
  index = index.Word no_span;
  bracket = None;
  label = no_span;
  labels = [];
  factors = r.factors;
  monomials = r.monomials;
}

abbrev pub before_digits : Span → Rest → Rest
before_digits digits r = with_literal (Some (record { numerator = digits; denominator = r.denominator })) r

abbrev pub before_slash : Rest → Rest
before_slash r = record r { digits = no_span; denominator = Some r.digits }

abbrev pub before_open : ℕ → Rest → Rest
before_open at r = record r { tilde = None; index = index.Word no_span; bracket = Some (record { at = at; index = r.index }) }

abbrev pub before_left : Rest → Rest
before_left r = record r { tilde = None; bracket = None; label = no_span; labels = r.label ∷ r.labels }

abbrev pub before_comma : Rest → Rest
before_comma r = record r { label = no_span; labels = r.label ∷ r.labels }

abbrev pub before_mark : ℕ → Rest → Rest
before_mark mark r = if mark == 40 then before_left r else (if mark == 45 then before_sign true r else before_sign false r)

abbrev pub before_label_mark : ℕ → Rest → Rest
before_label_mark mark r = if mark == 44 then before_comma r else record r { labels = [] }

abbrev pub before : State → Token → Rest → Rest
before Start (Word word) r = before_word word r
before Start (Digits digits) r = before_digits digits r
before Start (Mark mark) r = record r { negative = true }
before AfterSign (Word word) r = before_word word r
before AfterSign (Digits digits) r = before_digits digits r
before AfterNumerator (Word word) r = before_word word r
before AfterNumerator (Mark mark) r = before_slash r
before AfterSlash (Digits digits) r = record r { digits = digits }
before AfterLiteral (Word word) r = before_word word r
before AfterWord (Word word) r = before_word word r
before AfterWord (Tilde at) r = record r { tilde = Some at }
before AfterWord (Open at) r = before_open at r
before AfterWord (Mark mark) r = before_mark mark r
before AfterTilde (Word word) r = before_word word r
before AfterTilde (Open at) r = before_open at r
before AfterTilde (Mark mark) r = before_mark mark r
before AfterOpen (Word word) r = record r { index = index.Word word }
before AfterOpen (Digits digits) r = record r { index = index.Digits digits }
before AfterBracket (Word word) r = before_word word r
before AfterBracket (Mark mark) r = before_mark mark r
before AfterLeft (Word word) r = record r { label = word }
before AfterLabel (Mark mark) r = before_label_mark mark r
before AfterFactor (Word word) r = before_word word r
before AfterFactor (Mark mark) r = before_mark mark r
before AfterFactors (Mark mark) r = before_mark mark r
before _ _ r = r

abbrev pub or_nothing : (State → Rest) → Option State → Rest
or_nothing go None = plain [] []
or_nothing go (Some next) = go next

abbrev pub left_of : State → List Token → Rest
left_of state [] = plain [] []
left_of state (token ∷ tokens) = before state token (or_nothing (λ next. left_of next tokens) (step state token))

abbrev pub sum_of_rest : Rest → List WrittenMonomial
sum_of_rest r = record { negative = r.negative; literal = r.literal; factors = r.factors } ∷ r.monomials

-- the sum that tokens are
unfoldable pub sum_at : List Token → List WrittenMonomial
sum_at tokens = sum_of_rest (left_of Start tokens)

-- the sum that a text is
unfoldable pub sum_in : List ℕ → List WrittenMonomial
sum_in text = sum_at (tokens text)
