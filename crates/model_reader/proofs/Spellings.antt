-- How the spelling of a list grows with it, as its items are read.
use Rattle.std.proofs.Common.{◌≡◌, Bool, true, false, List, [], ◌∷◌, ◌++◌, length, sym, ap, ◌∙◌, append_assoc}
use Rattle.std.specs.Prelude.{nat_lt}
use Rattle.std.specs.List.{flat_map, list_all}
use Rattle.std.proofs.lemmas.List.{append-nil}
use Rattle.model_core.specs.declared.sum.Token.{Token}
use Rattle.model_core.specs.declared.sum.WrittenMonomial.{WrittenMonomial}
use Rattle.model_core.specs.TermText.{monomial_tokens, signed_tokens, first_sign, sign, spelling, has_factors, is_whole}
use Rattle.model_core.specs.TermGrammar.{Start, AfterSign, AfterFactors, verdict}
use Rattle.model_core.proofs.ValidLaws.{both}
use Rattle.model_core.proofs.BoolLaws.{both_hold, filled}
use Rattle.model_reader.specs.Parsing.{Reads}
use Rattle.model_core.proofs.ValidParts.{list_all_push}
use Rattle.model_reader.proofs.Verdicts.{reads_then}

-- ---- one more item

pub flat_map-push : {A B : Type 0} (f : A → List B) (xs : List A) (x : A) → flat_map f (xs ++ x ∷ []) ≡ flat_map f xs ++ f x
flat_map-push f [] x = append-nil (f x)
flat_map-push f (y ∷ xs) x = ap (λ rest. f y ++ rest) (flat_map-push f xs x) ∙ sym (append_assoc (f y) (flat_map f xs) (f x))

pub spelling_push : (sum : List WrittenMonomial) (next : WrittenMonomial) → is_whole sum ≡ true → spelling (sum ++ next ∷ []) ≡ spelling sum ++ signed_tokens next
spelling_push [] next some = let never : ⊥ = cc in absurd never
spelling_push (first ∷ sum) next some =
    ap (λ rest. (first_sign first.negative ++ monomial_tokens first) ++ rest) (flat_map-push signed_tokens sum next)
    ∙ sym (append_assoc (first_sign first.negative ++ monomial_tokens first) (flat_map signed_tokens sum) (signed_tokens next))

pub whole_push : (sum : List WrittenMonomial) (next : WrittenMonomial) → is_whole sum ≡ true → has_factors next ≡ true → is_whole (sum ++ next ∷ []) ≡ true
whole_push [] next some this = let never : ⊥ = cc in absurd never
whole_push (first ∷ sum) next all this =
    let parts = both (nat_lt 0 (length (first ∷ sum))) (list_all has_factors (first ∷ sum)) all in
    both_hold (nat_lt 0 (length (first ∷ (sum ++ next ∷ [])))) (list_all has_factors (first ∷ (sum ++ next ∷ [])))
    (filled first (sum ++ next ∷ [])) (list_all_push has_factors (first ∷ sum) next parts.1 this)

-- ---- one more item read

signed : (b c : List Token) (negative : Bool) → b ≡ sign negative ∷ c → Reads AfterFactors AfterSign b (sign negative ∷ []) c
signed b c true sign_first = record { spelled = sign_first; same = ap (verdict AfterFactors) sign_first }
signed b c false sign_first = record { spelled = sign_first; same = ap (verdict AfterFactors) sign_first }

pub next_monomial : (a b c d : List Token) (sum : List WrittenMonomial) (negative : Bool) (next : WrittenMonomial) → is_whole sum ≡ true → Reads Start AfterFactors a (spelling sum) b
    → b ≡ sign negative ∷ c → Reads AfterSign AfterFactors c (monomial_tokens next) d → next.negative ≡ negative → Reads Start AfterFactors a (spelling (sum ++ next ∷ [])) d
next_monomial a b c d sum negative next some first sign_first then same =
    let signed_then : Reads AfterFactors AfterFactors b (sign negative ∷ monomial_tokens next) d =
    reads_then AfterFactors AfterSign AfterFactors b (sign negative ∷ []) c (monomial_tokens next) d (signed b c negative sign_first) then in
    rw (spelling_push sum next some, same) (reads_then Start AfterFactors AfterFactors a (spelling sum) b (sign negative ∷ monomial_tokens next) d first signed_then)
