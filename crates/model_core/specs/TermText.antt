-- The text of a term: its tokens, and the sum that they spell.
--
-- A sum is a monomial, with `-` before it or not, and further ones after `+` or `-`. A monomial is a literal, which may be
-- left out, and factors, at least one. A literal is digits, and maybe `/` and digits. A factor is a word, then maybe `~`,
-- then maybe a word or digits in brackets, then maybe labels in parentheses, which are words with commas between them.
use Rattle.std.specs.Prelude.{◌≡◌, ℕ, suc, ◌+◌, ◌-◌, ◌<◌, ◌≤◌, ◌==◌, nat_lt, Bool, true, false, ◌&&◌, if◌then◌else◌, List, [], ◌∷◌, ◌++◌, length, take, drop, Option, Some, None, option_map}
use Rattle.std.specs.Char.{is_ascii_alphabetic, is_ascii_digit}
use Rattle.std.specs.List.{flat_map, list_all}
use Rattle.model_core.specs.declared.sum.Span.{Span}
use Rattle.model_core.specs.declared.sum.Token.{Token}
use Rattle.model_core.specs.declared.sum.Token.TheVariants.{Word, Digits, Tilde, Open, Mark}
use Rattle.model_core.specs.declared.sum.WrittenLiteral.{WrittenLiteral}
use Rattle.model_core.specs.declared.sum.Index.{Index}
use Rattle.model_core.specs.declared.sum.Index.TheVariants as index
use Rattle.model_core.specs.declared.sum.Bracket.{Bracket}
use Rattle.model_core.specs.declared.sum.WrittenFactor.{WrittenFactor}
use Rattle.model_core.specs.declared.sum.WrittenMonomial.{WrittenMonomial}
use Rattle.model_core.specs.Name.{is_word_byte}

-- ---- tokens

-- one byte at an offset, and a span that goes on with it
abbrev pub one_byte : ℕ → Span
one_byte at = record { start = at; end = at + 1 }

abbrev pub longer : ℕ → Span → Span
longer at span = record { start = span.start; end = at + 1 }

-- the bytes of a span
abbrev pub bytes_at : List ℕ → Span → List ℕ
bytes_at text span = take (span.end - span.start) (drop span.start text)

-- Words and digits are as long as possible: whether a byte goes on the token before it
abbrev pub goes_on : Option Token → ℕ → Bool
goes_on (Some (Word span)) byte = is_word_byte byte
goes_on (Some (Digits span)) byte = is_ascii_digit byte
goes_on _ byte = false

abbrev pub lengthened : ℕ → Token → Token
lengthened at (Word span) = Word (longer at span)
lengthened at (Digits span) = Digits (longer at span)
lengthened at token = token

-- the token that begins with a byte at an offset; 126 is `~`, and 91 is `[`
abbrev pub token_at : ℕ → ℕ → Token
token_at at byte =
    if is_ascii_alphabetic byte
    then Word (one_byte at)
    else (if is_ascii_digit byte then Digits (one_byte at) else (if byte == 126 then Tilde at else (if byte == 91 then Open at else Mark byte)))

-- none begins with a space
abbrev pub begun : ℕ → ℕ → Option Token
begun at byte = if byte == 32 then None else Some (token_at at byte)

-- the token that a byte at an offset stands in, after the token before it
abbrev pub opened : Option Token → ℕ → ℕ → Option Token
opened before at byte = if goes_on before byte then option_map (lengthened at) before else begun at byte

abbrev pub listed : Option Token → List Token
listed None = []
listed (Some token) = token ∷ []

-- the token that has ended before a byte
abbrev pub ended : Option Token → ℕ → List Token
ended before byte = if goes_on before byte then [] else listed before

-- the token before an offset, whole, and all those after it
abbrev pub tokens_after : Option Token → ℕ → List ℕ → List Token
tokens_after before at [] = listed before
tokens_after before at (byte ∷ bytes) = ended before byte ++ tokens_after (opened before at byte) (suc at) bytes

-- the tokens of a text
abbrev pub tokens : List ℕ → List Token
tokens text = tokens_after None 0 text

-- ---- the spelling of a sum

-- `-` and `+`
abbrev pub minus : ℕ
minus = 45

abbrev pub plus : ℕ
plus = 43

-- `/`, `]`, `(`, `)` and `,`
abbrev pub slash : ℕ
slash = 47

abbrev pub close : ℕ
close = 93

abbrev pub left : ℕ
left = 40

abbrev pub right : ℕ
right = 41

abbrev pub comma : ℕ
comma = 44

abbrev pub denominator_tokens : Option Span → List Token
denominator_tokens None = []
denominator_tokens (Some digits) = Mark slash ∷ Digits digits ∷ []

abbrev pub literal_tokens : Option WrittenLiteral → List Token
literal_tokens None = []
literal_tokens (Some literal) = Digits literal.numerator ∷ denominator_tokens literal.denominator

abbrev pub tilde_tokens : Option ℕ → List Token
tilde_tokens None = []
tilde_tokens (Some at) = Tilde at ∷ []

abbrev pub index_token : Index → Token
index_token (index.Word word) = Word word
index_token (index.Digits digits) = Digits digits

abbrev pub bracket_tokens : Option Bracket → List Token
bracket_tokens None = []
bracket_tokens (Some bracket) = Open bracket.at ∷ index_token bracket.index ∷ Mark close ∷ []

abbrev pub comma_tokens : Span → List Token
comma_tokens label = Mark comma ∷ Word label ∷ []

abbrev pub listed_labels : List Span → List Token
listed_labels [] = []
listed_labels (label ∷ labels) = Word label ∷ flat_map comma_tokens labels

abbrev pub label_tokens : List Span → List Token
label_tokens [] = []
label_tokens (label ∷ labels) = Mark left ∷ (listed_labels (label ∷ labels) ++ Mark right ∷ [])

abbrev pub factor_tokens : WrittenFactor → List Token
factor_tokens factor = Word factor.word ∷ (tilde_tokens factor.tilde ++ (bracket_tokens factor.bracket ++ label_tokens factor.labels))

abbrev pub monomial_tokens : WrittenMonomial → List Token
monomial_tokens monomial = literal_tokens monomial.literal ++ flat_map factor_tokens monomial.factors

-- the first monomial has a sign where it is negative, and the others have one each
abbrev pub first_sign : Bool → List Token
first_sign negative = if negative then Mark minus ∷ [] else []

abbrev pub sign : Bool → Token
sign negative = Mark (if negative then minus else plus)

abbrev pub signed_tokens : WrittenMonomial → List Token
signed_tokens monomial = sign monomial.negative ∷ monomial_tokens monomial

abbrev pub spelling : List WrittenMonomial → List Token
spelling [] = []
spelling (monomial ∷ monomials) = (first_sign monomial.negative ++ monomial_tokens monomial) ++ flat_map signed_tokens monomials

-- ---- sums

-- a monomial or more, each with a factor or more
abbrev pub has_factors : WrittenMonomial → Bool
has_factors monomial = nat_lt 0 (length monomial.factors)

abbrev pub is_whole : List WrittenMonomial → Bool
is_whole sum = nat_lt 0 (length sum) && list_all has_factors sum

-- the text is the sum's
pub record IsSum (text : List ℕ) (sum : List WrittenMonomial) : Type 0 where
  pub whole : is_whole sum ≡ true
  pub spelled : tokens text ≡ spelling sum

-- some sum's text begins with the text
pub record BeginsSum (text : List ℕ) : Type 0 where
  pub rest : List ℕ
  pub sum : List WrittenMonomial
  pub is : IsSum (text ++ rest) sum

-- No sum's text is the text, and the offset is that of the first byte that none can have there: the front before it
-- begins some sum's text, and no longer front does.
pub record IsFirstBad (text : List ℕ) (offset : ℕ) : Type 0 where
  pub none : (sum : List WrittenMonomial) → ¬ IsSum text sum
  pub within : offset ≤ length text
  pub begins : BeginsSum (take offset text)
  pub no_further : offset < length text → ¬ BeginsSum (take (offset + 1) text)
