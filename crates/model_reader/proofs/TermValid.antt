-- A term without a bad place meets its rules.
use Rattle.std.proofs.Common.{◌≡◌, ℕ, suc, Bool, true, false, cond, not, List, [], ◌∷◌, ◌++◌, map, length, refl, sym, ap, ◌∙◌, arith}
use Rattle.std.specs.Prelude.{◌&&◌, ◌||◌, nat_le, nat_lt}
use Rattle.std.specs.List.{list_all, flat_map}
use Rattle.std.proofs.lemmas.Bool.{le-leb}
use Rattle.std.proofs.lemmas.Bool.Decides.{nat_tests}
use Rattle.std.proofs.lemmas.List.{length-map}
use Rattle.model_core.specs.declared.fault.FaultPlace.{FaultPlace}
use Rattle.model_core.specs.declared.fault.ReadFault.{ReadFault}
use Rattle.model_core.specs.declared.fault.ReadKind.{ReadKind}
use Rattle.model_core.specs.declared.fault.ReadKind.TheVariants.{WrongContent, WrongSlots, LabelCount}
use Rattle.model_core.specs.declared.model.Model.{Model}
use Rattle.model_core.specs.declared.sum.WrittenMonomial.{WrittenMonomial}
use Rattle.model_core.specs.declared.term.Monomial.{Monomial}
use Rattle.model_core.specs.declared.term.Term.{Term}
use Rattle.model_core.specs.Fault.{offset_place, key_place, bad_where, over_limit}
use Rattle.model_core.specs.Groups.{is_between}
use Rattle.model_core.specs.Factors.{are_factors, are_joined}
use Rattle.model_core.specs.Flavour.{monomial_has_flavour, have_sizes}
use Rattle.model_core.specs.Content.{is_fermionic, first_uses, has_content, has_mirrored_blocks}
use Rattle.model_core.specs.TermText.{tokens}
use Rattle.model_core.specs.TermGrammar.{Start, left_of, sum_in, sum_at}
use Rattle.model_core.specs.TermMeaning.{monomial_of}
use Rattle.model_core.specs.TermRules.{is_monomial, has_monomials, has_small_sizes, has_shape, has_one_content, has_allowed_conjugate, is_term}
use Rattle.model_core.specs.TermWalk.{tensor_count_places, count_places, monomials_places, join_places, monomial_wise, joins_places, fits_shape, flavour_places, first_offset, content_places, contents_places, coupling_places}
use Rattle.model_core.specs.Valid.{has_valid_parts}
use Rattle.model_reader.specs.TermValues.{term_from}
use Rattle.model_reader.proofs.TermLaws.{term_sized}
use Rattle.model_reader.specs.declared.terms.Coupling.{Coupling}
use Rattle.model_core.proofs.ValidLaws.{both}
use Rattle.model_reader.proofs.SlotLaws.{none_bad, none_before}
use Rattle.model_core.proofs.BoolLaws.{both_hold}
use Rattle.model_core.proofs.LabelLaws.{monomial_joined}
use Rattle.model_core.proofs.FactorFits.{monomials_are_factors}

-- ---- lists of bad places that are empty

not_bad : (b : Bool) (place : FaultPlace) (kind : ReadKind) → bad_where b place kind ≡ [] → b ≡ false
not_bad false place kind none = refl
not_bad true place kind none = let never : ⊥ = cc in absurd never

within_limit : (limit count : ℕ) (place : FaultPlace) → over_limit limit count place ≡ [] → nat_le count limit ≡ true
within_limit limit count place none = by_test (nat_lt limit count) refl
  where
    by_test : (over : Bool) → nat_lt limit count ≡ over → nat_le count limit ≡ true
    by_test true is = let never : ⊥ = cc in absurd never
    by_test false is = grind (arith, nat_tests)

-- ---- lists

all_and : {A : Type 0} (first second : A → Bool) (xs : List A) → list_all first xs ≡ true → list_all second xs ≡ true → list_all (λ x. first x && second x) xs ≡ true
all_and first second [] one two = refl
all_and first second (x ∷ xs) one two =
    let here = both (first x) (list_all first xs) one in
    let there = both (second x) (list_all second xs) two in
    both_hold (first x && second x) (list_all (λ x. first x && second x) xs) (both_hold (first x) (second x) here.0 there.0) (all_and first second xs here.1 there.1)

each_wise : (places : WrittenMonomial → Monomial → List ReadFault) (meaning : WrittenMonomial → Monomial) (test : Monomial → Bool)
    → ((written : WrittenMonomial) → places written (meaning written) ≡ [] → test (meaning written) ≡ true)
    → (sum : List WrittenMonomial) → monomial_wise places sum (map meaning sum) ≡ [] → list_all test (map meaning sum) ≡ true
each_wise places meaning test passes [] none = refl
each_wise places meaning test passes (written ∷ sum) none =
    let parts = none_before (places written (meaning written)) (monomial_wise places sum (map meaning sum)) none in
    both_hold (test (meaning written)) (list_all test (map meaning sum)) (passes written parts.0) (each_wise places meaning test passes sum parts.1)

-- ---- labels

all_joined : (model : Model) (flavour : List (List ℕ)) (text : List ℕ) (place : FaultPlace) (sum : List WrittenMonomial)
    → joins_places model text place sum (map (monomial_of model flavour text) sum) ≡ [] → list_all (λ m. are_joined model m.factors) (map (monomial_of model flavour text) sum) ≡ true
unfolding joins_places
all_joined model flavour text place sum none =
    each_wise (join_places model text place) (monomial_of model flavour text) (λ m. are_joined model m.factors) (monomial_joined model flavour text place) sum none

-- ---- flavour, contents and couplings

shape_fits : (model : Model) (flavour : List (List ℕ)) (place : FaultPlace) (term : Term) → has_small_sizes term ≡ true → flavour_places model flavour place term ≡ [] → has_shape model term ≡ true
unfolding flavour_places
shape_fits model flavour place term small none =
    let have = list_all (monomial_has_flavour term.shape) term.monomials in
    let second = bad_where (not have) (key_place place 5) LabelCount in
    let third = bad_where (not (have_sizes model term)) (key_place place 5) WrongSlots in
    let parts = none_before (bad_where (not (fits_shape term.shape flavour)) (key_place place 5) LabelCount) (second ++ third) none in
    let rest = none_before second third parts.1 in
    both_hold (has_small_sizes term && have) (have_sizes model term)
    (both_hold (has_small_sizes term) have small (none_bad have (key_place place 5) LabelCount rest.0)) (none_bad (have_sizes model term) (key_place place 5) WrongSlots rest.1)

contents_fit : (place : FaultPlace) (meaning : WrittenMonomial → Monomial) (sum : List WrittenMonomial) (term : Term) → term.monomials ≡ map meaning sum
    → contents_places place sum term ≡ [] → has_one_content term ≡ true
unfolding contents_places
contents_fit place meaning sum term is none =
    let test = has_content term.kind (first_uses term.monomials) in
    let places = content_places term.kind (first_uses term.monomials) place in
    ap (list_all test) is
    ∙ each_wise places meaning test
    (λ written fine. none_bad (test (meaning written)) (offset_place place (first_offset written.factors)) WrongContent fine)
    sum (ap (monomial_wise places sum) (sym is) ∙ none)

allowed : (fermionic added value : Bool) → (added && fermionic) ≡ false → (not fermionic && not value) ≡ false → cond fermionic (not added) value ≡ true
allowed true true value first second = let never : ⊥ = cc in absurd never
allowed true false value first second = refl
allowed false added true first second = refl
allowed false added false first second = let never : ⊥ = cc in absurd never

coupling_fits : (model : Model) (place : FaultPlace) (term : Term) → coupling_places model place term ≡ [] → (has_allowed_conjugate term && has_mirrored_blocks model term) ≡ true
unfolding coupling_places
coupling_fits model place term none =
    let fermionic = is_fermionic term.kind in
    let first = bad_where (term.hc && fermionic) (key_place place 6) WrongContent in
    let second = bad_where (not fermionic && not (term.real || term.hc)) (key_place place 3) WrongContent in
    let third = bad_where (not (has_mirrored_blocks model term)) (key_place place 4) WrongContent in
    let parts = none_before first (second ++ third) none in
    let rest = none_before second third parts.1 in
    both_hold (has_allowed_conjugate term) (has_mirrored_blocks model term)
    (allowed fermionic term.hc (term.real || term.hc)
    (not_bad (term.hc && fermionic) (key_place place 6) WrongContent parts.0)
    (not_bad (not fermionic && not (term.real || term.hc)) (key_place place 3) WrongContent rest.0))
    (none_bad (has_mirrored_blocks model term) (key_place place 4) WrongContent rest.1)

-- ---- the term

-- a text has a monomial at least
one_more : (n : ℕ) → nat_le 1 (suc n) ≡ true
one_more n = le-leb 1 (suc n) (omega arith)

pub sum_filled : (text : List ℕ) → nat_le 1 (length (sum_in text)) ≡ true
unfolding sum_in sum_at
sum_filled text = one_more (length (left_of Start (tokens text)).monomials)

monomials_valid : (model : Model) (monomials : List Monomial) → list_all (λ m. are_factors model m.factors) monomials ≡ true → list_all (λ m. are_joined model m.factors) monomials ≡ true
    → list_all (is_monomial model) monomials ≡ true
monomials_valid model monomials fit joined = all_and (λ m. are_factors model m.factors) (λ m. are_joined model m.factors) monomials fit joined

sum_few : (model : Model) (text : List ℕ) (place : FaultPlace) (sum : List WrittenMonomial) → count_places model text place sum ≡ [] → nat_le (length sum) 16 ≡ true
unfolding count_places
sum_few model text place sum none =
    within_limit 16 (length sum) place (none_before (over_limit 16 (length sum) place) (flat_map (tensor_count_places model text place) sum) none).0

valid_term : (model : Model) (flavour : List (List ℕ)) (text : List ℕ) (place : FaultPlace) (sum : List WrittenMonomial) (term : Term)
    → has_valid_parts model ≡ true → has_small_sizes term ≡ true → term.monomials ≡ map (monomial_of model flavour text) sum → nat_le 1 (length sum) ≡ true
    → count_places model text place sum ≡ [] → monomials_places model flavour text place sum ≡ [] → joins_places model text place sum term.monomials ≡ []
    → flavour_places model flavour place term ≡ [] → contents_places place sum term ≡ [] → coupling_places model place term ≡ [] → is_term model term ≡ true
valid_term model flavour text place sum term valid small is filled counts each joins shapes contents coupling =
    let meaning = monomial_of model flavour text in
    let fit = ap (list_all (λ m. are_factors model m.factors)) is ∙ monomials_are_factors model flavour text place sum valid counts each in
    let joined = ap (list_all (λ m. are_joined model m.factors)) is ∙ all_joined model flavour text place sum (ap (joins_places model text place sum) (sym is) ∙ joins) in
    let size : length term.monomials ≡ length sum = ap length is ∙ length-map sum meaning in
    let between : is_between 1 16 (length term.monomials) ≡ true = ap (is_between 1 16) size ∙ both_hold (nat_le 1 (length sum)) (nat_le (length sum) 16) filled (sum_few model text place sum counts) in
    let monomials = both_hold (is_between 1 16 (length term.monomials)) (list_all (is_monomial model) term.monomials) between (monomials_valid model term.monomials fit joined) in
    let shaped = both_hold (has_monomials model term) (has_shape model term) monomials (shape_fits model flavour place term small shapes) in
    let whole = both_hold (has_monomials model term && has_shape model term) (has_one_content term) shaped (contents_fit place meaning sum term is contents) in
    both_hold ((has_monomials model term && has_shape model term) && has_one_content term) (has_allowed_conjugate term && has_mirrored_blocks model term) whole (coupling_fits model place term coupling)

term_read : (model : Model) (coupling : Coupling) (monomials : List Monomial) (term : Term) → term ≡ term_from model coupling monomials → term.monomials ≡ monomials
unfolding term_from
term_read model coupling monomials term is = ap (λ (t : Term). t.monomials) is

-- what the steps find
pub read_valid : (model : Model) (flavour : List (List ℕ)) (text : List ℕ) (place : FaultPlace) (sum : List WrittenMonomial) (coupling : Coupling) (monomials : List Monomial) (term : Term) (last : List ReadFault)
    → has_valid_parts model ≡ true → term ≡ term_from model coupling monomials → monomials ≡ map (monomial_of model flavour text) sum → nat_le 1 (length sum) ≡ true
    → count_places model text place sum ≡ [] → monomials_places model flavour text place sum ≡ []
    → joins_places model text place sum term.monomials ++ (flavour_places model flavour place term ++ (contents_places place sum term ++ (coupling_places model place term ++ last))) ≡ []
    → is_term model term ≡ true
read_valid model flavour text place sum coupling monomials term last valid is meaning filled counts each none =
    let seventh = coupling_places model place term in
    let sixth = contents_places place sum term in
    let fifth = flavour_places model flavour place term in
    let fourth = joins_places model text place sum term.monomials in
    let own = term_read model coupling monomials term is in
    let d = none_before fourth (fifth ++ (sixth ++ (seventh ++ last))) none in
    let e = none_before fifth (sixth ++ (seventh ++ last)) d.1 in
    let f = none_before sixth (seventh ++ last) e.1 in
    let g = none_before seventh last f.1 in
    valid_term model flavour text place sum term valid (ap has_small_sizes is ∙ term_sized model coupling monomials valid) (own ∙ meaning) filled counts each d.0 e.0 f.0 g.0
