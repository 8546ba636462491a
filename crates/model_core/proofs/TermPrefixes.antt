-- Which fronts of a text a sum's text begins with.
use Rattle.std.proofs.Common.{◌≡◌, ℕ, suc, ◌+◌, ◌-◌, ◌<◌, ◌≤◌, Bool, true, false, List, [], ◌∷◌, ◌++◌, length, take, Option, Some, None, refl, sym, ap, subst, ◌∙◌, length-append, arith, inl, inr}
use Rattle.std.specs.Prelude.{◌==◌, if◌then◌else◌}
use Rattle.std.proofs.lemmas.Bool.{cases_Bool}
use Rattle.model_core.specs.declared.sum.Token.{Token}
use Rattle.model_core.specs.declared.sum.Token.TheVariants.{Word, Digits, Tilde, Open, Mark}
use Rattle.model_core.specs.declared.sum.WrittenMonomial.{WrittenMonomial}
use Rattle.model_core.specs.TermText.{goes_on, lengthened, token_at, opened, listed, ended, tokens_after, tokens, IsSum, IsFirstBad}
use Rattle.model_core.specs.TermGrammar.{sum_at, State, Start, AfterSign, AfterNumerator, AfterSlash, AfterLiteral, AfterWord, AfterTilde, AfterOpen, AfterIndex, AfterBracket, AfterLeft, AfterLabel, AfterLabels, AfterFactor, AfterFactors, AfterMonomials, step, may_end, or_left, verdict}
use Rattle.model_core.specs.TermGrammar.{begins, this_or, start_after}
use Rattle.model_core.proofs.TermRests.{accepted-spelled, spelled-accepted}

-- ---- the first byte that can't follow

-- the state after a byte: a token counts from its first byte on
abbrev after_byte : State → Option Token → ℕ → ℕ → Option State
after_byte state before at byte = if begins before byte then step state (token_at at byte) else Some state

abbrev or_at : ℕ → (State → Option ℕ) → Option State → Option ℕ
or_at at go None = Some at
or_at at go (Some next) = go next

abbrev bad_at : State → Option Token → ℕ → List ℕ → Option ℕ
bad_at state before at [] = if may_end state then None else Some at
bad_at state before at (byte ∷ bytes) = or_at at (λ next. bad_at next (opened before at byte) (suc at) bytes) (after_byte state before at byte)

-- ---- it is where the first token that can't follow begins

step_lengthened : (state : State) (at : ℕ) (token : Token) → step state (lengthened at token) ≡ step state token
step_lengthened state at (Tilde place) = refl
step_lengthened state at (Open place) = refl
step_lengthened state at (Mark mark) = refl
step_lengthened Start at (Word span) = refl
step_lengthened AfterSign at (Word span) = refl
step_lengthened AfterNumerator at (Word span) = refl
step_lengthened AfterSlash at (Word span) = refl
step_lengthened AfterLiteral at (Word span) = refl
step_lengthened AfterWord at (Word span) = refl
step_lengthened AfterTilde at (Word span) = refl
step_lengthened AfterOpen at (Word span) = refl
step_lengthened AfterIndex at (Word span) = refl
step_lengthened AfterBracket at (Word span) = refl
step_lengthened AfterLeft at (Word span) = refl
step_lengthened AfterLabel at (Word span) = refl
step_lengthened AfterLabels at (Word span) = refl
step_lengthened AfterFactor at (Word span) = refl
step_lengthened AfterFactors at (Word span) = refl
step_lengthened AfterMonomials at (Word span) = refl
step_lengthened Start at (Digits span) = refl
step_lengthened AfterSign at (Digits span) = refl
step_lengthened AfterNumerator at (Digits span) = refl
step_lengthened AfterSlash at (Digits span) = refl
step_lengthened AfterLiteral at (Digits span) = refl
step_lengthened AfterWord at (Digits span) = refl
step_lengthened AfterTilde at (Digits span) = refl
step_lengthened AfterOpen at (Digits span) = refl
step_lengthened AfterIndex at (Digits span) = refl
step_lengthened AfterBracket at (Digits span) = refl
step_lengthened AfterLeft at (Digits span) = refl
step_lengthened AfterLabel at (Digits span) = refl
step_lengthened AfterLabels at (Digits span) = refl
step_lengthened AfterFactor at (Digits span) = refl
step_lengthened AfterFactors at (Digits span) = refl
step_lengthened AfterMonomials at (Digits span) = refl

-- how many tokens begin in bytes
abbrev one_where : Bool → ℕ → ℕ
one_where true count = suc count
one_where false count = count

abbrev starts : Option Token → ℕ → List ℕ → ℕ
starts before at [] = 0
starts before at (byte ∷ bytes) = one_where (begins before byte) (starts (opened before at byte) (suc at) bytes)

-- the three kinds of bytes after a token
data Byte (before : Option Token) (at byte : ℕ) : Type 0 where
  Longer : (token : Token) → before ≡ Some token → ended before byte ≡ [] → opened before at byte ≡ Some (lengthened at token) → begins before byte ≡ false → Byte before at byte
  Space : ended before byte ≡ listed before → opened before at byte ≡ None → begins before byte ≡ false → Byte before at byte
  First : ended before byte ≡ listed before → opened before at byte ≡ Some (token_at at byte) → begins before byte ≡ true → Byte before at byte

other_byte : (before : Option Token) (at byte : ℕ) → goes_on before byte ≡ false → Byte before at byte
other_byte before at byte other =
    elim (cases_Bool (byte == 32)) [
      | inl space ↦ Space (rw other refl) (rw (other, space) refl) (rw (other, space) refl)
      | inr first ↦ First (rw other refl) (rw (other, first) refl) (rw (other, first) refl)
    ]

longer_byte : (before : Option Token) (at byte : ℕ) → goes_on before byte ≡ true → Byte before at byte
longer_byte None at byte goes = let never : ⊥ = cc in absurd never
longer_byte (Some token) at byte goes = Longer token refl (rw goes refl) (rw goes refl) (rw goes refl)

kind_of_byte : (before : Option Token) (at byte : ℕ) → Byte before at byte
kind_of_byte before at byte =
    elim (cases_Bool (goes_on before byte)) [
      | inl goes ↦ longer_byte before at byte goes
      | inr other ↦ other_byte before at byte other
    ]

Counted : Option Token → ℕ → List ℕ → Type 0
Counted before at bytes = length (tokens_after before at bytes) ≡ length (listed before) + starts before at bytes

counted_byte : (before : Option Token) (at byte : ℕ) (bytes : List ℕ) → ((next : Option Token) → Counted next (suc at) bytes) → Byte before at byte → Counted before at (byte ∷ bytes)
unfolding Counted
counted_byte before at byte bytes rest (Longer token is ends opens first) = let one = rest (Some (lengthened at token)) in rw (ends, opens, first, is) one
counted_byte before at byte bytes rest (Space ends opens first) = let none = rest None in rw (ends, opens, first, length-append (listed before) (tokens_after None (suc at) bytes), none) (omega arith)
counted_byte before at byte bytes rest (First ends opens first) =
    let one = rest (Some (token_at at byte)) in
    rw (ends, opens, first, length-append (listed before) (tokens_after (Some (token_at at byte)) (suc at) bytes), one) (omega arith)

counted : (before : Option Token) (at : ℕ) (bytes : List ℕ) → Counted before at bytes
unfolding Counted
counted None at [] = refl
counted (Some token) at [] = refl
counted before at (byte ∷ bytes) = counted_byte before at byte bytes (λ next. counted next (suc at) bytes) (kind_of_byte before at byte)

starts_few : (before : Option Token) (at : ℕ) (bytes : List ℕ) → starts before at bytes ≤ length bytes
starts_few before at [] = omega arith
starts_few before at (byte ∷ bytes) = one_few (begins before byte) (starts (opened before at byte) (suc at) bytes) (length bytes) (starts_few (opened before at byte) (suc at) bytes)
  where
    one_few : (first : Bool) (count most : ℕ) → count ≤ most → one_where first count ≤ suc most
    one_few true count most few = omega arith
    one_few false count most few = omega arith

-- at most one token a byte
pub few_tokens : (text : List ℕ) → length (tokens text) ≤ length text
unfolding Counted
few_tokens text =
    let all = counted None 0 text in
    let few = starts_few None 0 text in
    omega (arith, all)

-- where the token before has been read
Entered : State → Option Token → State → Type 0
Entered old None state = old ≡ state
Entered old (Some token) state = step old token ≡ Some state

verdict_entered : (old : State) (before : Option Token) (state : State) (rest : List Token) → Entered old before state → verdict old (listed before ++ rest) ≡ verdict state rest
unfolding Entered
verdict_entered old None state rest entered = ap (λ q. verdict q rest) entered
verdict_entered old (Some token) state rest entered = ap (or_left rest (λ next. verdict next rest)) entered

-- a token that can't follow stays so, however long it is
stuck_token : (state : State) (token : Token) (at : ℕ) (bytes : List ℕ) → step state token ≡ None
    → verdict state (tokens_after (Some token) at bytes) ≡ Some (length (tokens_after (Some token) at bytes))
stuck_token state token at [] stuck = rw stuck refl
stuck_token state token at (byte ∷ bytes) stuck =
    elim (cases_Bool (goes_on (Some token) byte)) [
      | inl goes ↦ let longer = stuck_token state (lengthened at token) (suc at) bytes (step_lengthened state at token ∙ stuck) in rw (goes) longer
      | inr other ↦ rw (other, stuck) refl
    ]

-- none, or the offset of the token that is left
Agree : Option ℕ → Option ℕ → ℕ → (ℕ → ℕ) → Type 0
Agree None place count offset = place ≡ None
Agree (Some left) place count offset = (left ≤ count) × (place ≡ Some (offset (count - left)))

Agreed : State → State → Option Token → ℕ → List ℕ → Type 0
Agreed old state before at bytes =
    Agree (verdict old (tokens_after before at bytes)) (bad_at state before at bytes) (starts before at bytes) (λ count. start_after count before at bytes)

verdict_last : (old : State) (before : Option Token) (state : State) → Entered old before state → verdict old (listed before) ≡ verdict state []
unfolding Entered
verdict_last old None state entered = ap (λ q. verdict q []) entered
verdict_last old (Some token) state entered = ap (or_left [] (λ next. verdict next [])) entered

agreed_last : (state : State) (at : ℕ) → Agree (verdict state []) (bad_at state None at []) 0 (λ count. at)
unfolding Agree
agreed_last state at =
    elim (cases_Bool (may_end state)) [
      | inl may ↦ rw may refl
      | inr other ↦ rw other (omega arith, refl)
    ]

agreed_end : (old state : State) (before : Option Token) (at : ℕ) → Entered old before state → Agreed old state before at []
unfolding Agreed
agreed_end old state before at entered = subst (λ v. Agree v (bad_at state before at []) 0 (λ count. at)) (sym (verdict_last old before state entered)) (agreed_last state at)

entered_longer : (old state : State) (before : Option Token) (at : ℕ) (token : Token) → before ≡ Some token → Entered old before state → Entered old (Some (lengthened at token)) state
unfolding Entered
entered_longer old state before at token is entered = step_lengthened old at token ∙ (rw is at entered)

agree_suc : (found place : Option ℕ) (count at : ℕ) (later : ℕ → ℕ) → Agree found place count later → Agree found place (suc count) (this_or at true later)
unfolding Agree
agree_suc None place count at later agree = agree
agree_suc (Some left) place count at later agree =
    let within : left ≤ count = agree.0 in
    let one_more : suc count - left ≡ suc (count - left) = omega arith in
    (omega arith, rw one_more agree.1)

agree_stuck : (found : Option ℕ) (length count at : ℕ) (later : ℕ → ℕ) → found ≡ Some length → length ≡ suc count → Agree found (Some at) (suc count) (this_or at true later)
unfolding Agree
agree_stuck found length count at later is long =
    let none_left : suc count - length ≡ 0 = omega arith in
    rw is (omega arith, rw none_left refl)

agreed_first : (state : State) (at byte : ℕ) (bytes : List ℕ) → ((old new : State) (next : Option Token) → Entered old next new → Agreed old new next (suc at) bytes)
    → (next : Option State) → step state (token_at at byte) ≡ next
    → Agree (verdict state (tokens_after (Some (token_at at byte)) (suc at) bytes)) (or_at at (λ new. bad_at new (Some (token_at at byte)) (suc at) bytes) next)
    (suc (starts (Some (token_at at byte)) (suc at) bytes)) (this_or at true (λ count. start_after count (Some (token_at at byte)) (suc at) bytes))
unfolding Agreed Entered Counted
agreed_first state at byte bytes rest None stuck =
    agree_stuck (verdict state (tokens_after (Some (token_at at byte)) (suc at) bytes)) (length (tokens_after (Some (token_at at byte)) (suc at) bytes))
    (starts (Some (token_at at byte)) (suc at) bytes) at (λ count. start_after count (Some (token_at at byte)) (suc at) bytes)
    (stuck_token state (token_at at byte) (suc at) bytes stuck) (let all = counted (Some (token_at at byte)) (suc at) bytes in omega (arith, all))
agreed_first state at byte bytes rest (Some new) goes =
    agree_suc (verdict state (tokens_after (Some (token_at at byte)) (suc at) bytes)) (bad_at new (Some (token_at at byte)) (suc at) bytes)
    (starts (Some (token_at at byte)) (suc at) bytes) at (λ count. start_after count (Some (token_at at byte)) (suc at) bytes)
    (rest state new (Some (token_at at byte)) goes)

agreed_byte : (old state : State) (before : Option Token) (at byte : ℕ) (bytes : List ℕ) → ((old new : State) (next : Option Token) → Entered old next new → Agreed old new next (suc at) bytes)
    → Entered old before state → Byte before at byte → Agreed old state before at (byte ∷ bytes)
unfolding Agreed Entered
agreed_byte old state before at byte bytes rest entered (Longer token is ends opens first) =
    rw (ends, opens, first) (rest old state (Some (lengthened at token)) (entered_longer old state before at token is entered))
agreed_byte old state before at byte bytes rest entered (Space ends opens first) =
    rw (ends, opens, first, verdict_entered old before state (tokens_after None (suc at) bytes) entered) (rest state state None refl)
agreed_byte old state before at byte bytes rest entered (First ends opens first) =
    rw (ends, opens, first, verdict_entered old before state (tokens_after (Some (token_at at byte)) (suc at) bytes) entered)
    (agreed_first state at byte bytes rest (step state (token_at at byte)) refl)

agreed : (old state : State) (before : Option Token) (at : ℕ) (bytes : List ℕ) → Entered old before state → Agreed old state before at bytes
agreed old state before at [] entered = agreed_end old state before at entered
agreed old state before at (byte ∷ bytes) entered =
    agreed_byte old state before at byte bytes (λ old new next entered. agreed old new next (suc at) bytes entered) entered (kind_of_byte before at byte)

-- ---- the front before the first bad byte can be completed, and no longer one

record Completes (state : State) (before : Option Token) (at : ℕ) (bytes : List ℕ) : Type 0 where
  more : List ℕ
  ends : bad_at state before at (bytes ++ more) ≡ None

Refuses : State → Option Token → ℕ → List ℕ → Type 0
Refuses state before at bytes = (more : List ℕ) → bad_at state before at (bytes ++ more) ≡ None → ⊥

-- a text for the rest: a, 1, ] and )
rest_of : State → List ℕ
rest_of Start = 97 ∷ []
rest_of AfterSign = 97 ∷ []
rest_of AfterNumerator = 97 ∷ []
rest_of AfterSlash = 49 ∷ 97 ∷ []
rest_of AfterLiteral = 97 ∷ []
rest_of AfterOpen = 97 ∷ 93 ∷ []
rest_of AfterIndex = 93 ∷ []
rest_of AfterLeft = 97 ∷ 41 ∷ []
rest_of AfterLabel = 41 ∷ []
rest_of AfterLabels = 41 ∷ []
rest_of _ = []

rest_ends : (state : State) (at : ℕ) → bad_at state None at (rest_of state) ≡ None
unfolding rest_of
rest_ends Start at = refl
rest_ends AfterSign at = refl
rest_ends AfterNumerator at = refl
rest_ends AfterSlash at = refl
rest_ends AfterLiteral at = refl
rest_ends AfterWord at = refl
rest_ends AfterTilde at = refl
rest_ends AfterOpen at = refl
rest_ends AfterIndex at = refl
rest_ends AfterBracket at = refl
rest_ends AfterLeft at = refl
rest_ends AfterLabel at = refl
rest_ends AfterLabels at = refl
rest_ends AfterFactor at = refl
rest_ends AfterFactors at = refl
rest_ends AfterMonomials at = refl

after_space : (state : State) (before : Option Token) (at : ℕ) (bytes : List ℕ) → bad_at state before at (32 ∷ bytes) ≡ bad_at state None (suc at) bytes
after_space state None at bytes = refl
after_space state (Some (Word span)) at bytes = refl
after_space state (Some (Digits span)) at bytes = refl
after_space state (Some (Tilde place)) at bytes = refl
after_space state (Some (Open place)) at bytes = refl
after_space state (Some (Mark mark)) at bytes = refl

completes_now : (state : State) (before : Option Token) (at : ℕ) → Completes state before at []
completes_now state before at = record { more = 32 ∷ rest_of state; ends = after_space state before at (rest_of state) ∙ rest_ends state (suc at) }

record StopsAt (state : State) (before : Option Token) (at : ℕ) (bytes : List ℕ) (offset : ℕ) : Type 0 where
  read : ℕ
  place : offset ≡ at + read
  within : read ≤ length bytes
  begins : Completes state before at (take read bytes)
  no_further : read < length bytes → Refuses state before at (take (suc read) bytes)

stops_end : (state : State) (before : Option Token) (at offset : ℕ) → bad_at state before at [] ≡ Some offset → StopsAt state before at [] offset
stops_end state before at offset bad = record {
  read = 0;
  place = by_case (may_end state) bad;
  within = omega arith;
  begins = completes_now state before at;
  no_further = λ less. absurd (omega arith);
}
  where
    by_case : (may : Bool) → (if may then None else Some at) ≡ Some offset → offset ≡ at + 0
    by_case true bad = let never : ⊥ = cc in absurd never
    by_case false bad = let same : at ≡ offset = cc in omega arith

stops_byte : (state : State) (before : Option Token) (at byte : ℕ) (bytes : List ℕ) (offset : ℕ)
    → ((next : State) → bad_at next (opened before at byte) (suc at) bytes ≡ Some offset → StopsAt next (opened before at byte) (suc at) bytes offset)
    → (next : Option State) → after_byte state before at byte ≡ next → or_at at (λ next. bad_at next (opened before at byte) (suc at) bytes) next ≡ Some offset
    → StopsAt state before at (byte ∷ bytes) offset
unfolding Refuses
stops_byte state before at byte bytes offset rest None stuck bad = record {
  read = 0;
  place = let same : at ≡ offset = cc in omega arith;
  within = omega arith;
  begins = completes_now state before at;
  no_further = λ less more ended. let found = rw stuck at ended in let never : ⊥ = cc in absurd never;
}
stops_byte state before at byte bytes offset rest (Some next) goes bad =
    let found = rest next bad in
    record {
      read = suc found.read;
      place = let place = found.place in omega arith;
      within = let within = found.within in omega arith;
      begins = record { more = found.begins.more; ends = rw goes found.begins.ends };
      no_further = λ less more ended. found.no_further (omega arith) more (rw goes at ended);
    }

stops_at : (state : State) (before : Option Token) (at : ℕ) (bytes : List ℕ) (offset : ℕ) → bad_at state before at bytes ≡ Some offset → StopsAt state before at bytes offset
stops_at state before at [] offset bad = stops_end state before at offset bad
stops_at state before at (byte ∷ bytes) offset bad =
    stops_byte state before at byte bytes offset (λ next bad. stops_at next (opened before at byte) (suc at) bytes offset bad)
    (after_byte state before at byte) refl bad

-- ---- sums

-- a text is a sum's exactly where no byte is bad
none_bad : (text : List ℕ) (sum : List WrittenMonomial) → IsSum text sum → bad_at Start None 0 text ≡ None
unfolding Agreed Agree Entered
none_bad text sum is = by_verdict (verdict Start (tokens text)) (ap (verdict Start) is.spelled ∙ spelled-accepted sum is.whole) (agreed Start Start None 0 text refl)
  where
    by_verdict : (found : Option ℕ) → found ≡ None → Agree found (bad_at Start None 0 text) (starts None 0 text) (λ count. start_after count None 0 text) → bad_at Start None 0 text ≡ None
    by_verdict None same agree = agree
    by_verdict (Some left) same agree = let never : ⊥ = cc in absurd never

accepted : (text : List ℕ) → bad_at Start None 0 text ≡ None → verdict Start (tokens text) ≡ None
unfolding Agreed Agree Entered
accepted text ends = by_verdict (verdict Start (tokens text)) (agreed Start Start None 0 text refl)
  where
    by_verdict : (found : Option ℕ) → Agree found (bad_at Start None 0 text) (starts None 0 text) (λ count. start_after count None 0 text) → found ≡ None
    by_verdict None agree = refl
    by_verdict (Some left) agree = let never : ⊥ = cc (agree.1, ends) in absurd never

is_sum : (text : List ℕ) → bad_at Start None 0 text ≡ None → IsSum text (sum_at (tokens text))
is_sum text ends = let found = accepted-spelled (tokens text) (accepted text ends) in record { whole = found.0; spelled = found.1 }

bad_place : (text : List ℕ) (left : ℕ) → verdict Start (tokens text) ≡ Some left → bad_at Start None 0 text ≡ Some (start_after (length (tokens text) - left) None 0 text)
unfolding Counted Agreed Agree Entered
bad_place text left stuck = by_verdict (verdict Start (tokens text)) stuck (agreed Start Start None 0 text refl)
  where
    by_verdict : (found : Option ℕ) → found ≡ Some left → Agree found (bad_at Start None 0 text) (starts None 0 text) (λ count. start_after count None 0 text)
        → bad_at Start None 0 text ≡ Some (start_after (length (tokens text) - left) None 0 text)
    by_verdict None same agree = let never : ⊥ = cc in absurd never
    by_verdict (Some other) same agree =
        let equal : other ≡ left = cc in
        let all = counted None 0 text in
        let count : length (tokens text) - left ≡ starts None 0 text - other = omega (arith, all) in
        rw count agree.1

pub left_within : (text : List ℕ) (left : ℕ) → verdict Start (tokens text) ≡ Some left → left ≤ length (tokens text)
unfolding Counted Agreed Agree Entered
left_within text left stuck = by_verdict (verdict Start (tokens text)) stuck (agreed Start Start None 0 text refl)
  where
    by_verdict : (found : Option ℕ) → found ≡ Some left → Agree found (bad_at Start None 0 text) (starts None 0 text) (λ count. start_after count None 0 text) → left ≤ length (tokens text)
    by_verdict None same agree = let never : ⊥ = cc in absurd never
    by_verdict (Some other) same agree =
        let equal : other ≡ left = cc in
        let all = counted None 0 text in
        let within = agree.0 in
        omega (arith, all)

pub first_bad : (text : List ℕ) (left : ℕ) → verdict Start (tokens text) ≡ Some left → IsFirstBad text (start_after (length (tokens text) - left) None 0 text)
unfolding Refuses
first_bad text left stuck =
    let offset = start_after (length (tokens text) - left) None 0 text in
    let bad : bad_at Start None 0 text ≡ Some offset = bad_place text left stuck in
    let found = stops_at Start None 0 text offset bad in
    let same : offset ≡ found.read = let place = found.place in omega arith in
    record {
      none = λ sum is. let ends = none_bad text sum is in let never : ⊥ = cc in absurd never;
      within = let within = found.within in omega arith;
      begins = rw same (record {
        rest = found.begins.more;
        sum = sum_at (tokens (take found.read text ++ found.begins.more));
        is = is_sum (take found.read text ++ found.begins.more) found.begins.ends;
      });
      no_further = λ less begins.
          let less_read : found.read < length text = omega arith in
          let one_more : offset + 1 ≡ suc found.read = omega arith in
          let front = rw one_more at begins in
          found.no_further less_read front.rest (none_bad (take (suc found.read) text ++ front.rest) front.sum front.is);
    }
