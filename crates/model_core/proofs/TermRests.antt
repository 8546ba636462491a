-- What is left of a sum to be read, told from the right: a function of the state and of the tokens that come.
use Rattle.std.proofs.Common.{◌≡◌, ℕ, suc, Bool, true, false, List, [], ◌∷◌, ◌++◌, length, Option, Some, None, refl, sym, ap, subst, ◌∙◌, append_assoc, arith, ◌⊎◌, inl, inr}
use Rattle.std.specs.Prelude.{◌==◌, nat_lt}
use Rattle.std.specs.List.{flat_map, list_all}
use Rattle.std.proofs.lemmas.Bool.{cases_Bool}
use Rattle.std.proofs.lemmas.Bool.Decides.{nat_tests}
use Rattle.model_core.specs.declared.sum.Span.{Span}
use Rattle.model_core.specs.declared.sum.Token.{Token}
use Rattle.model_core.specs.declared.sum.Token.TheVariants.{Word, Digits, Tilde, Open, Mark}
use Rattle.model_core.specs.declared.sum.WrittenLiteral.{WrittenLiteral}
use Rattle.model_core.specs.declared.sum.Index.{Index}
use Rattle.model_core.specs.declared.sum.Index.TheVariants as index
use Rattle.model_core.specs.declared.sum.Bracket.{Bracket}
use Rattle.model_core.specs.declared.sum.WrittenFactor.{WrittenFactor}
use Rattle.model_core.specs.declared.sum.WrittenMonomial.{WrittenMonomial}
use Rattle.model_core.specs.TermText.{close, left, right, denominator_tokens, literal_tokens, tilde_tokens, index_token, bracket_tokens, comma_tokens, label_tokens, factor_tokens, monomial_tokens, first_sign, sign, signed_tokens, spelling, has_factors, is_whole}
use Rattle.model_core.specs.TermGrammar.{State, Start, AfterSign, AfterNumerator, AfterSlash, AfterLiteral, AfterWord, AfterTilde, AfterOpen, AfterIndex, AfterBracket, AfterLeft, AfterLabel, AfterLabels, AfterFactor, AfterFactors, AfterMonomials, or_left, step, verdict, Rest, plain, before_word, before_sign, with_literal, before_digits, before_slash, before_open, before_left, before_comma, left_of, sum_of_rest, sum_at}
use Rattle.model_core.proofs.ValidLaws.{both}
use Rattle.model_core.proofs.BoolLaws.{filled, both_hold}

-- ---- what is left, as it is spelled

abbrev tail : Rest → List Token
tail r = flat_map factor_tokens r.factors ++ flat_map signed_tokens r.monomials

abbrev spell : State → Rest → List Token
spell Start r = first_sign r.negative ++ (literal_tokens r.literal ++ tail r)
spell AfterSign r = literal_tokens r.literal ++ tail r
spell AfterNumerator r = denominator_tokens r.denominator ++ tail r
spell AfterSlash r = Digits r.digits ∷ tail r
spell AfterLiteral r = tail r
spell AfterWord r = tilde_tokens r.tilde ++ (bracket_tokens r.bracket ++ (label_tokens r.labels ++ tail r))
spell AfterTilde r = bracket_tokens r.bracket ++ (label_tokens r.labels ++ tail r)
spell AfterOpen r = index_token r.index ∷ Mark close ∷ (label_tokens r.labels ++ tail r)
spell AfterIndex r = Mark close ∷ (label_tokens r.labels ++ tail r)
spell AfterBracket r = label_tokens r.labels ++ tail r
spell AfterLeft r = Word r.label ∷ (flat_map comma_tokens r.labels ++ (Mark right ∷ tail r))
spell AfterLabel r = flat_map comma_tokens r.labels ++ (Mark right ∷ tail r)
spell AfterLabels r = Mark right ∷ tail r
spell AfterFactor r = tail r
spell AfterFactors r = flat_map signed_tokens r.monomials
spell AfterMonomials r = []

-- states in which a factor has to come
abbrev wants_factors : State → Bool
wants_factors Start = true
wants_factors AfterSign = true
wants_factors AfterNumerator = true
wants_factors AfterSlash = true
wants_factors AfterLiteral = true
wants_factors _ = false

record Spells (state : State) (tokens : List Token) (r : Rest) : Type 0 where
  spelled : tokens ≡ spell state r
  monomials : list_all has_factors r.monomials ≡ true
  factors : wants_factors state ≡ true → nat_lt 0 (length r.factors) ≡ true

false_true : {A : Type 0} → false ≡ true → A
false_true never = let none : ⊥ = cc in absurd none

-- ---- a token more at the front of what is spelled

word_tail : (word : Span) (tokens : List Token) (r : Rest) → tokens ≡ spell AfterWord r → Word word ∷ tokens ≡ tail (before_word word r)
word_tail word tokens r spelled =
    ap (λ rest. Word word ∷ rest)
    (spelled ∙ regroup (tilde_tokens r.tilde) (bracket_tokens r.bracket) (label_tokens r.labels) (flat_map factor_tokens r.factors) (flat_map signed_tokens r.monomials))
  where
    regroup : (a b c d e : List Token) → a ++ (b ++ (c ++ (d ++ e))) ≡ ((a ++ (b ++ c)) ++ d) ++ e
    regroup a b c d e = sym (simp append_assoc)

word_filled : (word : Span) (r : Rest) → nat_lt 0 (length (before_word word r).factors) ≡ true
word_filled word r = filled (record { word = word; tilde = r.tilde; bracket = r.bracket; labels = r.labels }) r.factors

sign_tail : (negative : Bool) (tokens : List Token) (r : Rest) → tokens ≡ spell AfterSign r → sign negative ∷ tokens ≡ flat_map signed_tokens (before_sign negative r).monomials
sign_tail negative tokens r spelled =
    ap (λ rest. sign negative ∷ rest)
    (spelled ∙ sym (append_assoc (literal_tokens r.literal) (flat_map factor_tokens r.factors) (flat_map signed_tokens r.monomials)))

left_tail : (tokens : List Token) (r : Rest) → tokens ≡ spell AfterLeft r → Mark left ∷ tokens ≡ label_tokens (r.label ∷ r.labels) ++ tail r
left_tail tokens r spelled =
    ap (λ rest. Mark left ∷ rest) (spelled ∙ ap (λ rest. Word r.label ∷ rest) (sym (append_assoc (flat_map comma_tokens r.labels) (Mark right ∷ []) (tail r))))

-- ---- what is accepted is spelled by what is left

decide : (m c : ℕ) → (m ≡ c) ⊎ ((m == c) ≡ false)
decide m c = elim (cases_Bool (m == c)) [
  | inl same ↦ inl (grind (arith, nat_tests))
  | inr other ↦ inr other
]

abbrev Accepts : State → List Token → Type 0
Accepts state tokens = verdict state tokens ≡ None → Spells state tokens (left_of state tokens)

on_left : (state : State) (tokens : List Token) → Accepts state (Mark 40 ∷ tokens) → Accepts state (Mark 45 ∷ tokens) → Accepts state (Mark 43 ∷ tokens)
    → ((m : ℕ) → (m == 40) ≡ false → (m == 45) ≡ false → (m == 43) ≡ false → Accepts state (Mark m ∷ tokens)) → (m : ℕ) → Accepts state (Mark m ∷ tokens)
on_left state tokens at_left at_minus at_plus others m =
    elim (decide m 40) [
      | inl same ↦ subst (λ m. Accepts state (Mark m ∷ tokens)) (sym same) at_left
      | inr first ↦ elim (decide m 45) [
        | inl same ↦ subst (λ m. Accepts state (Mark m ∷ tokens)) (sym same) at_minus
        | inr second ↦ elim (decide m 43) [
          | inl same ↦ subst (λ m. Accepts state (Mark m ∷ tokens)) (sym same) at_plus
          | inr third ↦ others m first second third
        ]
      ]
    ]

refuted : {A : Type 0} (n : ℕ) → Some n ≡ None → A
refuted n same = let never : ⊥ = cc in absurd never

word_rest : (word : Span) (tokens : List Token) → Spells AfterWord tokens (left_of AfterWord tokens) → (state : State) → spell state (before_word word (left_of AfterWord tokens)) ≡ tail (before_word word (left_of AfterWord tokens))
    → Spells state (Word word ∷ tokens) (before_word word (left_of AfterWord tokens))
word_rest word tokens found state same = record {
  spelled = word_tail word tokens (left_of AfterWord tokens) found.spelled ∙ sym same;
  monomials = found.monomials;
  factors = λ _. word_filled word (left_of AfterWord tokens);
}

sign_rest : (negative : Bool) (tokens : List Token) → Spells AfterSign tokens (left_of AfterSign tokens) → (state : State)
    → spell state (before_sign negative (left_of AfterSign tokens)) ≡ flat_map signed_tokens (before_sign negative (left_of AfterSign tokens)).monomials → wants_factors state ≡ false
    → Spells state (sign negative ∷ tokens) (before_sign negative (left_of AfterSign tokens))
sign_rest negative tokens found state same free = record {
  spelled = sign_tail negative tokens (left_of AfterSign tokens) found.spelled ∙ sym same;
  monomials = both_hold (nat_lt 0 (length (left_of AfterSign tokens).factors)) (list_all has_factors (left_of AfterSign tokens).monomials) (found.factors refl) found.monomials;
  factors = λ wanted. let never : false ≡ true = sym free ∙ wanted in false_true never;
}

left_rest : (tokens : List Token) → Spells AfterLeft tokens (left_of AfterLeft tokens) → (state : State)
    → spell state (before_left (left_of AfterLeft tokens)) ≡ label_tokens ((left_of AfterLeft tokens).label ∷ (left_of AfterLeft tokens).labels) ++ tail (left_of AfterLeft tokens) → wants_factors state ≡ false
    → Spells state (Mark left ∷ tokens) (before_left (left_of AfterLeft tokens))
left_rest tokens found state same free = record {
  spelled = left_tail tokens (left_of AfterLeft tokens) found.spelled ∙ sym same;
  monomials = found.monomials;
  factors = λ wanted. let never : false ≡ true = sym free ∙ wanted in false_true never;
}

open_rest : (at : ℕ) (tokens : List Token) → Spells AfterOpen tokens (left_of AfterOpen tokens) → (state : State)
    → spell state (before_open at (left_of AfterOpen tokens)) ≡ Open at ∷ spell AfterOpen (left_of AfterOpen tokens) → wants_factors state ≡ false
    → Spells state (Open at ∷ tokens) (before_open at (left_of AfterOpen tokens))
open_rest at tokens found state same free = record {
  spelled = ap (λ rest. Open at ∷ rest) found.spelled ∙ sym same;
  monomials = found.monomials;
  factors = λ wanted. let never : false ≡ true = sym free ∙ wanted in false_true never;
}

other_mark : (tokens : List Token) (m : ℕ) (next : Option State) → next ≡ None → or_left tokens (λ state. verdict state tokens) next ≡ None → ⊥
other_mark tokens m next none accepted = let some = rw none at accepted in refuted (suc (length tokens)) some

minus_rest : (ts : List Token) → Accepts AfterSign ts → Accepts Start (Mark 45 ∷ ts)
minus_rest ts go accepted = let found = go accepted in record { spelled = ap (λ rest. Mark 45 ∷ rest) found.spelled; monomials = found.monomials; factors = found.factors }

slash_rest : (ts : List Token) → Accepts AfterSlash ts → Accepts AfterNumerator (Mark 47 ∷ ts)
slash_rest ts go accepted = let found = go accepted in record { spelled = ap (λ rest. Mark 47 ∷ rest) found.spelled; monomials = found.monomials; factors = found.factors }

close_rest : (ts : List Token) → Accepts AfterBracket ts → Accepts AfterIndex (Mark 93 ∷ ts)
close_rest ts go accepted = let found = go accepted in record { spelled = ap (λ rest. Mark 93 ∷ rest) found.spelled; monomials = found.monomials; factors = found.factors }

comma_rest : (ts : List Token) → Accepts AfterLeft ts → Accepts AfterLabel (Mark 44 ∷ ts)
comma_rest ts go accepted = let found = go accepted in record { spelled = ap (λ rest. Mark 44 ∷ rest) found.spelled; monomials = found.monomials; factors = found.factors }

right_rest : (ts : List Token) → Accepts AfterFactor ts → Accepts AfterLabel (Mark 41 ∷ ts)
right_rest ts go accepted = let found = go accepted in record { spelled = ap (λ rest. Mark 41 ∷ rest) found.spelled; monomials = found.monomials; factors = found.factors }

last_rest : (ts : List Token) → Accepts AfterFactor ts → Accepts AfterLabels (Mark 41 ∷ ts)
last_rest ts go accepted = let found = go accepted in record { spelled = ap (λ rest. Mark 41 ∷ rest) found.spelled; monomials = found.monomials; factors = found.factors }

spelled_by : (state : State) (tokens : List Token) → Accepts state tokens
spelled_by AfterWord [] accepted = record { spelled = refl; monomials = refl; factors = λ never. false_true never }
spelled_by AfterTilde [] accepted = record { spelled = refl; monomials = refl; factors = λ never. false_true never }
spelled_by AfterBracket [] accepted = record { spelled = refl; monomials = refl; factors = λ never. false_true never }
spelled_by AfterFactor [] accepted = record { spelled = refl; monomials = refl; factors = λ never. false_true never }
spelled_by AfterFactors [] accepted = record { spelled = refl; monomials = refl; factors = λ never. false_true never }
spelled_by AfterMonomials [] accepted = record { spelled = refl; monomials = refl; factors = λ never. false_true never }
spelled_by Start [] accepted = refuted 0 accepted
spelled_by AfterSign [] accepted = refuted 0 accepted
spelled_by AfterNumerator [] accepted = refuted 0 accepted
spelled_by AfterSlash [] accepted = refuted 0 accepted
spelled_by AfterLiteral [] accepted = refuted 0 accepted
spelled_by AfterOpen [] accepted = refuted 0 accepted
spelled_by AfterIndex [] accepted = refuted 0 accepted
spelled_by AfterLeft [] accepted = refuted 0 accepted
spelled_by AfterLabel [] accepted = refuted 0 accepted
spelled_by AfterLabels [] accepted = refuted 0 accepted
spelled_by Start (Word w ∷ ts) accepted = word_rest w ts (spelled_by AfterWord ts accepted) Start refl
spelled_by AfterSign (Word w ∷ ts) accepted = word_rest w ts (spelled_by AfterWord ts accepted) AfterSign refl
spelled_by AfterNumerator (Word w ∷ ts) accepted = word_rest w ts (spelled_by AfterWord ts accepted) AfterNumerator refl
spelled_by AfterLiteral (Word w ∷ ts) accepted = word_rest w ts (spelled_by AfterWord ts accepted) AfterLiteral refl
spelled_by AfterWord (Word w ∷ ts) accepted = word_rest w ts (spelled_by AfterWord ts accepted) AfterWord refl
spelled_by AfterTilde (Word w ∷ ts) accepted = word_rest w ts (spelled_by AfterWord ts accepted) AfterTilde refl
spelled_by AfterBracket (Word w ∷ ts) accepted = word_rest w ts (spelled_by AfterWord ts accepted) AfterBracket refl
spelled_by AfterFactor (Word w ∷ ts) accepted = word_rest w ts (spelled_by AfterWord ts accepted) AfterFactor refl
spelled_by Start (Digits d ∷ ts) accepted = let found = spelled_by AfterNumerator ts accepted in record { spelled = ap (λ rest. Digits d ∷ rest) found.spelled; monomials = found.monomials; factors = found.factors }
spelled_by AfterSign (Digits d ∷ ts) accepted = let found = spelled_by AfterNumerator ts accepted in record { spelled = ap (λ rest. Digits d ∷ rest) found.spelled; monomials = found.monomials; factors = found.factors }
spelled_by Start (Mark m ∷ ts) accepted =
    elim (decide m 45) [
      | inl same ↦ subst (λ m. Accepts Start (Mark m ∷ ts)) (sym same) (minus_rest ts (spelled_by AfterSign ts)) accepted
      | inr other ↦ absurd (other_mark ts m (step Start (Mark m)) (rw other refl) accepted)
    ]
spelled_by AfterNumerator (Mark m ∷ ts) accepted =
    elim (decide m 47) [
      | inl same ↦ subst (λ m. Accepts AfterNumerator (Mark m ∷ ts)) (sym same) (slash_rest ts (spelled_by AfterSlash ts)) accepted
      | inr other ↦ absurd (other_mark ts m (step AfterNumerator (Mark m)) (rw other refl) accepted)
    ]
spelled_by AfterSlash (Digits d ∷ ts) accepted = let found = spelled_by AfterLiteral ts accepted in record { spelled = ap (λ rest. Digits d ∷ rest) found.spelled; monomials = found.monomials; factors = found.factors }
spelled_by AfterWord (Tilde at ∷ ts) accepted = let found = spelled_by AfterTilde ts accepted in record { spelled = ap (λ rest. Tilde at ∷ rest) found.spelled; monomials = found.monomials; factors = found.factors }
spelled_by AfterWord (Open at ∷ ts) accepted = open_rest at ts (spelled_by AfterOpen ts accepted) AfterWord refl refl
spelled_by AfterTilde (Open at ∷ ts) accepted = open_rest at ts (spelled_by AfterOpen ts accepted) AfterTilde refl refl
spelled_by AfterWord (Mark m ∷ ts) accepted =
    on_left AfterWord ts
    (λ accepted. left_rest ts (spelled_by AfterLeft ts accepted) AfterWord refl refl)
    (λ accepted. sign_rest true ts (spelled_by AfterSign ts accepted) AfterWord refl refl)
    (λ accepted. sign_rest false ts (spelled_by AfterSign ts accepted) AfterWord refl refl)
    (λ m a b c accepted. absurd (other_mark ts m (step AfterWord (Mark m)) (rw (a, b, c) refl) accepted))
    m accepted
spelled_by AfterTilde (Mark m ∷ ts) accepted =
    on_left AfterTilde ts
    (λ accepted. left_rest ts (spelled_by AfterLeft ts accepted) AfterTilde refl refl)
    (λ accepted. sign_rest true ts (spelled_by AfterSign ts accepted) AfterTilde refl refl)
    (λ accepted. sign_rest false ts (spelled_by AfterSign ts accepted) AfterTilde refl refl)
    (λ m a b c accepted. absurd (other_mark ts m (step AfterTilde (Mark m)) (rw (a, b, c) refl) accepted))
    m accepted
spelled_by AfterBracket (Mark m ∷ ts) accepted =
    on_left AfterBracket ts
    (λ accepted. left_rest ts (spelled_by AfterLeft ts accepted) AfterBracket refl refl)
    (λ accepted. sign_rest true ts (spelled_by AfterSign ts accepted) AfterBracket refl refl)
    (λ accepted. sign_rest false ts (spelled_by AfterSign ts accepted) AfterBracket refl refl)
    (λ m a b c accepted. absurd (other_mark ts m (step AfterBracket (Mark m)) (rw (a, b, c) refl) accepted))
    m accepted
spelled_by AfterFactor (Mark m ∷ ts) accepted =
    on_left AfterFactor ts
    (λ accepted. refuted (suc (length ts)) accepted)
    (λ accepted. sign_rest true ts (spelled_by AfterSign ts accepted) AfterFactor refl refl)
    (λ accepted. sign_rest false ts (spelled_by AfterSign ts accepted) AfterFactor refl refl)
    (λ m a b c accepted. absurd (other_mark ts m (step AfterFactor (Mark m)) (rw (b, c) refl) accepted))
    m accepted
spelled_by AfterFactors (Mark m ∷ ts) accepted =
    on_left AfterFactors ts
    (λ accepted. refuted (suc (length ts)) accepted)
    (λ accepted. sign_rest true ts (spelled_by AfterSign ts accepted) AfterFactors refl refl)
    (λ accepted. sign_rest false ts (spelled_by AfterSign ts accepted) AfterFactors refl refl)
    (λ m a b c accepted. absurd (other_mark ts m (step AfterFactors (Mark m)) (rw (b, c) refl) accepted))
    m accepted
spelled_by AfterOpen (Word w ∷ ts) accepted = let found = spelled_by AfterIndex ts accepted in record { spelled = ap (λ rest. Word w ∷ rest) found.spelled; monomials = found.monomials; factors = found.factors }
spelled_by AfterOpen (Digits d ∷ ts) accepted = let found = spelled_by AfterIndex ts accepted in record { spelled = ap (λ rest. Digits d ∷ rest) found.spelled; monomials = found.monomials; factors = found.factors }
spelled_by AfterIndex (Mark m ∷ ts) accepted =
    elim (decide m 93) [
      | inl same ↦ subst (λ m. Accepts AfterIndex (Mark m ∷ ts)) (sym same) (close_rest ts (spelled_by AfterBracket ts)) accepted
      | inr other ↦ absurd (other_mark ts m (step AfterIndex (Mark m)) (rw other refl) accepted)
    ]
spelled_by AfterLeft (Word w ∷ ts) accepted = let found = spelled_by AfterLabel ts accepted in record { spelled = ap (λ rest. Word w ∷ rest) found.spelled; monomials = found.monomials; factors = found.factors }
spelled_by AfterLabel (Mark m ∷ ts) accepted =
    elim (decide m 44) [
      | inl same ↦ subst (λ m. Accepts AfterLabel (Mark m ∷ ts)) (sym same) (comma_rest ts (spelled_by AfterLeft ts)) accepted
      | inr first ↦ elim (decide m 41) [
        | inl same ↦ subst (λ m. Accepts AfterLabel (Mark m ∷ ts)) (sym same) (right_rest ts (spelled_by AfterFactor ts)) accepted
        | inr second ↦ absurd (other_mark ts m (step AfterLabel (Mark m)) (rw (first, second) refl) accepted)
      ]
    ]
spelled_by AfterLabels (Mark m ∷ ts) accepted =
    elim (decide m 41) [
      | inl same ↦ subst (λ m. Accepts AfterLabels (Mark m ∷ ts)) (sym same) (last_rest ts (spelled_by AfterFactor ts)) accepted
      | inr other ↦ absurd (other_mark ts m (step AfterLabels (Mark m)) (rw other refl) accepted)
    ]
spelled_by _ (t ∷ ts) accepted = refuted (suc (length ts)) accepted

pub accepted-spelled : (tokens : List Token) → verdict Start tokens ≡ None → (is_whole (sum_at tokens) ≡ true) × (tokens ≡ spelling (sum_at tokens))
unfolding sum_at
accepted-spelled tokens accepted =
    let r = left_of Start tokens in
    let read = spelled_by Start tokens accepted in (
      both_hold (nat_lt 0 (length (sum_of_rest r))) (list_all has_factors (sum_of_rest r)) (filled (record { negative = r.negative; literal = r.literal; factors = r.factors }) r.monomials)
          (both_hold (nat_lt 0 (length r.factors)) (list_all has_factors r.monomials) (read.factors refl) read.monomials),
      read.spelled ∙ regroup (first_sign r.negative) (literal_tokens r.literal) (flat_map factor_tokens r.factors) (flat_map signed_tokens r.monomials),
    )
  where
    regroup : (a b c d : List Token) → a ++ (b ++ (c ++ d)) ≡ (a ++ (b ++ c)) ++ d
    regroup a b c d = sym (simp append_assoc)

-- ---- what is spelled is accepted, and is what is left

abbrev look : State → List Token → Option ℕ × Rest
look state tokens = (verdict state tokens, left_of state tokens)

abbrev ends : List WrittenFactor → List WrittenMonomial → List Token
ends factors monomials = flat_map factor_tokens factors ++ flat_map signed_tokens monomials

abbrev with_labels : List Span → Rest → Rest
with_labels labels r = record r { labels = labels }

abbrev with_bracket : Option Bracket → Rest → Rest
with_bracket bracket r = record r { bracket = bracket }

abbrev with_label : Span → Rest → Rest
with_label label r = record r { label = label }

abbrev with_index : Index → Rest → Rest
with_index i r = record r { index = i }

abbrev with_digits : Span → Rest → Rest
with_digits digits r = record r { digits = digits }

abbrev with_negative : Bool → Rest → Rest
with_negative negative r = record r { negative = negative }

abbrev with_tilde : Option ℕ → Rest → Rest
with_tilde tilde r = record r { tilde = tilde }

-- after a word, and after a `~` or a bracket, factors and monomials are seen as after a factor
record SeenAlike (tokens : List Token) : Type 0 where
  word : look AfterWord tokens ≡ look AfterFactor tokens
  tilde : look AfterTilde tokens ≡ look AfterFactor tokens
  bracket : look AfterBracket tokens ≡ look AfterFactor tokens

ends_alike : (factors : List WrittenFactor) (monomials : List WrittenMonomial) → SeenAlike (ends factors monomials)
ends_alike [] [] = record { word = refl; tilde = refl; bracket = refl }
ends_alike [] (monomial ∷ monomials) = by_sign monomial.negative
  where
    by_sign : (negative : Bool) → SeenAlike ((sign negative ∷ monomial_tokens monomial) ++ flat_map signed_tokens monomials)
    by_sign true = record { word = refl; tilde = refl; bracket = refl }
    by_sign false = record { word = refl; tilde = refl; bracket = refl }
ends_alike (factor ∷ factors) monomials = record { word = refl; tilde = refl; bracket = refl }

-- factors and monomials that are read
abbrev Seen : List WrittenFactor → List WrittenMonomial → Type 0
Seen factors monomials = look AfterFactor (ends factors monomials) ≡ (None, plain factors monomials)

module _ (factors : List WrittenFactor) (monomials : List WrittenMonomial) (seen : Seen factors monomials) where
  abbrev rest : List Token
  rest = ends factors monomials

  -- further labels
  of_list : (labels : List Span) → look AfterLabel (flat_map comma_tokens labels ++ (Mark 41 ∷ rest)) ≡ (None, with_labels labels (plain factors monomials))
  of_list [] = ap (λ (p : Option ℕ × Rest). (p.0, with_labels [] p.1)) seen
  of_list (label ∷ labels) = ap (λ (p : Option ℕ × Rest). (p.0, before_comma (with_label label p.1))) (of_list labels)

  -- labels in parentheses, or none
  of_labels : (labels : List Span) → look AfterBracket (label_tokens labels ++ rest) ≡ (None, with_labels labels (plain factors monomials))
  of_labels [] = (ends_alike factors monomials).bracket ∙ seen
  of_labels (label ∷ labels) =
      ap (λ tokens. look AfterBracket (Mark 40 ∷ Word label ∷ tokens)) (append_assoc (flat_map comma_tokens labels) (Mark right ∷ []) rest)
      ∙ ap (λ (p : Option ℕ × Rest). (p.0, before_left (with_label label p.1))) (of_list labels)

  labels_alike : (labels : List Span) → look AfterTilde (label_tokens labels ++ rest) ≡ look AfterBracket (label_tokens labels ++ rest)
  labels_alike [] = (ends_alike factors monomials).tilde ∙ sym (ends_alike factors monomials).bracket
  labels_alike (label ∷ labels) = refl

  labels_alike_word : (labels : List Span) → look AfterWord (label_tokens labels ++ rest) ≡ look AfterTilde (label_tokens labels ++ rest)
  labels_alike_word [] = (ends_alike factors monomials).word ∙ sym (ends_alike factors monomials).tilde
  labels_alike_word (label ∷ labels) = refl

  -- a bracket, or none
  of_bracket : (bracket : Option Bracket) (labels : List Span)
      → look AfterTilde (bracket_tokens bracket ++ (label_tokens labels ++ rest)) ≡ (None, with_bracket bracket (with_labels labels (plain factors monomials)))
  of_bracket None labels = labels_alike labels ∙ of_labels labels
  of_bracket (Some bracket) labels = by_index bracket.index
    where
      by_index : (i : Index) → look AfterTilde (Open bracket.at ∷ index_token i ∷ Mark close ∷ (label_tokens labels ++ rest))
          ≡ (None, with_bracket (Some (record { at = bracket.at; index = i })) (with_labels labels (plain factors monomials)))
      by_index (index.Word word) = ap (λ (p : Option ℕ × Rest). (p.0, before_open bracket.at (with_index (index.Word word) p.1))) (of_labels labels)
      by_index (index.Digits digits) = ap (λ (p : Option ℕ × Rest). (p.0, before_open bracket.at (with_index (index.Digits digits) p.1))) (of_labels labels)

  bracket_alike : (bracket : Option Bracket) (labels : List Span)
      → look AfterWord (bracket_tokens bracket ++ (label_tokens labels ++ rest)) ≡ look AfterTilde (bracket_tokens bracket ++ (label_tokens labels ++ rest))
  bracket_alike None labels = labels_alike_word labels
  bracket_alike (Some bracket) labels = refl

  -- a `~`, or none
  of_tilde : (tilde : Option ℕ) (bracket : Option Bracket) (labels : List Span)
      → look AfterWord (tilde_tokens tilde ++ (bracket_tokens bracket ++ (label_tokens labels ++ rest)))
      ≡ (None, with_tilde tilde (with_bracket bracket (with_labels labels (plain factors monomials))))
  of_tilde None bracket labels = bracket_alike bracket labels ∙ of_bracket bracket labels
  of_tilde (Some at) bracket labels = ap (λ (p : Option ℕ × Rest). (p.0, with_tilde (Some at) p.1)) (of_bracket bracket labels)

  -- a factor more
  of_factor : (factor : WrittenFactor) → Seen (factor ∷ factors) monomials
  of_factor factor =
      ap (λ tokens. look AfterFactor (Word factor.word ∷ tokens))
      (regroup (tilde_tokens factor.tilde) (bracket_tokens factor.bracket) (label_tokens factor.labels) (flat_map factor_tokens factors) (flat_map signed_tokens monomials))
      ∙ ap (λ (p : Option ℕ × Rest). (p.0, before_word factor.word p.1)) (of_tilde factor.tilde factor.bracket factor.labels)
    where
      regroup : (a b c d e : List Token) → ((a ++ (b ++ c)) ++ d) ++ e ≡ a ++ (b ++ (c ++ (d ++ e)))
      regroup a b c d e = simp append_assoc

-- factors before monomials that are read
of_factors : (monomials : List WrittenMonomial) → Seen [] monomials → (factors : List WrittenFactor) → Seen factors monomials
of_factors monomials seen [] = seen
of_factors monomials seen (factor ∷ factors) = of_factor factors monomials (of_factors monomials seen factors) factor

-- a literal, or none, before factors
of_literal : (literal : Option WrittenLiteral) (factors : List WrittenFactor) (monomials : List WrittenMonomial) → nat_lt 0 (length factors) ≡ true → Seen factors monomials
    → look AfterSign (literal_tokens literal ++ ends factors monomials) ≡ (None, with_literal literal (plain factors monomials))
of_literal literal [] monomials some seen = let never : ⊥ = cc in absurd never
of_literal None (factor ∷ factors) monomials some seen = seen
of_literal (Some literal) (factor ∷ factors) monomials some seen = by_denominator literal.denominator
  where
    by_denominator : (denominator : Option Span) → look AfterSign (Digits literal.numerator ∷ (denominator_tokens denominator ++ ends (factor ∷ factors) monomials))
        ≡ (None, with_literal (Some (record { numerator = literal.numerator; denominator = denominator })) (plain (factor ∷ factors) monomials))
    by_denominator None = ap (λ (p : Option ℕ × Rest). (p.0, before_digits literal.numerator p.1)) seen
    by_denominator (Some digits) = ap (λ (p : Option ℕ × Rest). (p.0, before_digits literal.numerator (before_slash (with_digits digits p.1)))) seen

-- monomials that are whole
of_monomials : (monomials : List WrittenMonomial) → list_all has_factors monomials ≡ true → Seen [] monomials
of_monomials [] all = refl
of_monomials (monomial ∷ monomials) all =
    let parts = both (has_factors monomial) (list_all has_factors monomials) all in
    let seen = of_factors monomials (of_monomials monomials parts.1) monomial.factors in
    ap (λ tokens. look AfterFactor (sign monomial.negative ∷ tokens)) (append_assoc (literal_tokens monomial.literal) (flat_map factor_tokens monomial.factors) (flat_map signed_tokens monomials))
    ∙ by_sign monomial.negative (of_literal monomial.literal monomial.factors monomials parts.0 seen)
  where
    by_sign : (negative : Bool) → look AfterSign (literal_tokens monomial.literal ++ ends monomial.factors monomials) ≡ (None, with_literal monomial.literal (plain monomial.factors monomials))
        → look AfterFactor (sign negative ∷ (literal_tokens monomial.literal ++ ends monomial.factors monomials))
        ≡ (None, plain [] (record { negative = negative; literal = monomial.literal; factors = monomial.factors } ∷ monomials))
    by_sign true found = ap (λ (p : Option ℕ × Rest). (p.0, before_sign true p.1)) found
    by_sign false found = ap (λ (p : Option ℕ × Rest). (p.0, before_sign false p.1)) found

literal_alike : (literal : Option WrittenLiteral) (factors : List WrittenFactor) (monomials : List WrittenMonomial) → nat_lt 0 (length factors) ≡ true
    → look Start (literal_tokens literal ++ ends factors monomials) ≡ look AfterSign (literal_tokens literal ++ ends factors monomials)
literal_alike literal [] monomials some = let never : ⊥ = cc in absurd never
literal_alike None (factor ∷ factors) monomials some = refl
literal_alike (Some literal) (factor ∷ factors) monomials some = refl

of_sum : (first : WrittenMonomial) (monomials : List WrittenMonomial) → is_whole (first ∷ monomials) ≡ true
    → look Start (spelling (first ∷ monomials)) ≡ (None, with_negative first.negative (with_literal first.literal (plain first.factors monomials)))
of_sum first monomials whole =
    let each = both (nat_lt 0 (length (first ∷ monomials))) (list_all has_factors (first ∷ monomials)) whole in
    let parts = both (has_factors first) (list_all has_factors monomials) each.1 in
    let seen = of_factors monomials (of_monomials monomials parts.1) first.factors in
    ap (look Start) (regroup (first_sign first.negative) (literal_tokens first.literal) (flat_map factor_tokens first.factors) (flat_map signed_tokens monomials))
    ∙ by_sign first.negative (literal_alike first.literal first.factors monomials parts.0) (of_literal first.literal first.factors monomials parts.0 seen)
  where
    regroup : (a b c d : List Token) → (a ++ (b ++ c)) ++ d ≡ a ++ (b ++ (c ++ d))
    regroup a b c d = simp append_assoc

    by_sign : (negative : Bool) → look Start (literal_tokens first.literal ++ ends first.factors monomials) ≡ look AfterSign (literal_tokens first.literal ++ ends first.factors monomials)
        → look AfterSign (literal_tokens first.literal ++ ends first.factors monomials) ≡ (None, with_literal first.literal (plain first.factors monomials))
        → look Start (first_sign negative ++ (literal_tokens first.literal ++ ends first.factors monomials)) ≡ (None, with_negative negative (with_literal first.literal (plain first.factors monomials)))
    by_sign true same found = ap (λ (p : Option ℕ × Rest). (p.0, with_negative true p.1)) found
    by_sign false same found = same ∙ found

pub spelled-accepted : (sum : List WrittenMonomial) → is_whole sum ≡ true → verdict Start (spelling sum) ≡ None
spelled-accepted [] whole = let never : ⊥ = cc in absurd never
spelled-accepted (first ∷ monomials) whole = ap (λ (p : Option ℕ × Rest). p.0) (of_sum first monomials whole)

pub sum_at-spelling : (sum : List WrittenMonomial) → is_whole sum ≡ true → sum_at (spelling sum) ≡ sum
unfolding sum_at
sum_at-spelling [] whole = let never : ⊥ = cc in absurd never
sum_at-spelling (first ∷ monomials) whole = ap (λ (p : Option ℕ × Rest). sum_of_rest p.1) (of_sum first monomials whole)
