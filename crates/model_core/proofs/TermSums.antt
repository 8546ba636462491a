-- The grammar of a term's text as functions is that of its definition.
use Rattle.std.proofs.Common.{◌≡◌, ℕ, ◌-◌, List, length, Option, Some, None, refl, sym, ap, subst, ◌∙◌}
use Rattle.std.specs.Prelude.{option_map}
use Rattle.model_core.specs.declared.sum.WrittenMonomial.{WrittenMonomial}
use Rattle.model_core.specs.TermText.{tokens, IsSum, IsFirstBad}
use Rattle.model_core.specs.TermGrammar.{Start, verdict, start_after, bad_offset, sum_at, sum_in}
use Rattle.model_core.proofs.TermRests.{accepted-spelled, spelled-accepted, sum_at-spelling}
use Rattle.model_core.proofs.TermPrefixes.{first_bad}

-- ---- what the tokens of a text say of it

pub bad_offset_stuck : (text : List ℕ) (left : ℕ) → verdict Start (tokens text) ≡ Some left → bad_offset text ≡ Some (start_after (length (tokens text) - left) None 0 text)
unfolding bad_offset
bad_offset_stuck text left stuck = ap (option_map (λ count. start_after (length (tokens text) - count) None 0 text)) stuck

pub no_bad_offset : (text : List ℕ) (sum : List WrittenMonomial) → IsSum text sum → bad_offset text ≡ None
unfolding bad_offset
no_bad_offset text sum is =
    ap (option_map (λ count. start_after (length (tokens text) - count) None 0 text)) (ap (verdict Start) is.spelled ∙ spelled-accepted sum is.whole)

pub is_sum_in : (text : List ℕ) (sum : List WrittenMonomial) → IsSum text sum → sum ≡ sum_in text
unfolding sum_in
is_sum_in text sum is = sym (ap sum_at is.spelled ∙ sum_at-spelling sum is.whole)

-- ---- the law

pub one_sum : (text : List ℕ) (first second : List WrittenMonomial) → IsSum text first → IsSum text second → first ≡ second
one_sum text first second is_first is_second = is_sum_in text first is_first ∙ sym (is_sum_in text second is_second)

pub bad_at_first : (text : List ℕ) (offset : ℕ) → bad_offset text ≡ Some offset → IsFirstBad text offset
unfolding bad_offset
bad_at_first text offset = by_verdict (verdict Start (tokens text)) refl
  where
    by_verdict : (found : Option ℕ) → verdict Start (tokens text) ≡ found → option_map (λ count. start_after (length (tokens text) - count) None 0 text) found ≡ Some offset → IsFirstBad text offset
    by_verdict None accepted bad = let never : ⊥ = cc in absurd never
    by_verdict (Some left) stuck bad =
        let same : start_after (length (tokens text) - left) None 0 text ≡ offset = cc in
        subst (IsFirstBad text) same (first_bad text left stuck)

pub sum_where_none_bad : (text : List ℕ) → bad_offset text ≡ None → IsSum text (sum_in text)
unfolding bad_offset sum_in
sum_where_none_bad text = by_verdict (verdict Start (tokens text)) refl
  where
    by_verdict : (found : Option ℕ) → verdict Start (tokens text) ≡ found → option_map (λ count. start_after (length (tokens text) - count) None 0 text) found ≡ None → IsSum text (sum_at (tokens text))
    by_verdict None accepted none = let found = accepted-spelled (tokens text) accepted in record { whole = found.0; spelled = found.1 }
    by_verdict (Some left) stuck none = let never : ⊥ = cc in absurd never
