-- The bad places of a term: those of its keys, of what it says of its coupling, and of its text.
use Rattle.std.proofs.Common.{◌≡◌, ℕ, List, [], ◌∷◌, ◌++◌, Some, refl, sym, ap, ◌∙◌, codes}
use Rattle.std.proofs.lemmas.List.{append-nil}
use Rattle.toml.specs.Data.{Data, Members, get_member}
use Rattle.model_core.specs.declared.content.SymbolBlock.{SymbolBlock}
use Rattle.model_core.specs.declared.fault.Part.TheVariants as part
use Rattle.model_core.specs.declared.model.Model.{Model}
use Rattle.model_core.specs.declared.term.Term.{Term}
use Rattle.model_core.specs.Document.{text_of, value_or}
use Rattle.model_core.specs.Fault.{place_of}
use Rattle.model_core.specs.TermMeaning.{flavour_of, monomials_of, term_of}
use Rattle.model_core.specs.Walk.{required, key_places, found_places, text_places, term_places}
use Rattle.model_reader.specs.TermValues.{head_keys, head_places, bare_keys, coupling_of, term_from}
use Rattle.model_reader.specs.declared.terms.Coupling.{Coupling}
use Rattle.model_reader.proofs.ScalarPlaces.{value_places-append}

pub term_places_split : (model : Model) (blocks : List SymbolBlock) (index : ℕ) (names : List (List ℕ)) (members : Members)
    → term_places model blocks index names members
    ≡ key_places (place_of part.Term index 0) bare_keys members
    ++ (head_places (place_of part.Term index 0) names members
    ++ found_places (text_places model blocks (flavour_of members) (term_of model members) (place_of part.Term index 7)) (get_member (codes "text") members))
unfolding term_places head_places
term_places_split model blocks index names members =
    let text = text_places model blocks (flavour_of members) (term_of model members) in
    ap (λ rest. key_places (place_of part.Term index 0) bare_keys members ++ rest)
    (value_places-append (place_of part.Term index 1) (head_keys names) (required (codes "text") text ∷ []) members
    ∙ ap (λ last. head_places (place_of part.Term index 0) names members ++ last) (append-nil (found_places (text (place_of part.Term index 7)) (get_member (codes "text") members))))

pub term_of_parts : (model : Model) (document : Members)
    → term_of model document ≡ term_from model (coupling_of document) (monomials_of model (flavour_of document) (value_or text_of [] (get_member (codes "text") document)))
unfolding term_of term_from coupling_of
term_of_parts model document = refl

-- what the steps find
pub term_walked : (model : Model) (blocks : List SymbolBlock) (index : ℕ) (names : List (List ℕ)) (document : Members) (coupling : Coupling) (flavour : List (List ℕ)) (value : Data) (term : Term)
    → key_places (place_of part.Term index 0) bare_keys document ≡ [] → head_places (place_of part.Term index 0) names document ≡ []
    → coupling ≡ coupling_of document → flavour ≡ flavour_of document → get_member (codes "text") document ≡ Some value
    → text_places model blocks flavour (term_from model coupling (monomials_of model flavour (text_of value))) (place_of part.Term index 7) value ≡ []
    → term ≡ term_from model coupling (monomials_of model flavour (text_of value))
    → (term_places model blocks index names document ≡ []) × (term ≡ term_of model document)
term_walked model blocks index names document coupling flavour value term keys head own labels text none is =
    let place = place_of part.Term index 7 in
    let found = get_member (codes "text") document in
    let meaning : term_of model document ≡ term_from model coupling (monomials_of model flavour (text_of value))
    = term_of_parts model document
    ∙ ap (λ c. term_from model c (monomials_of model (flavour_of document) (value_or text_of [] found))) (sym own)
    ∙ ap (λ f. term_from model coupling (monomials_of model f (value_or text_of [] found))) (sym labels)
    ∙ ap (λ v. term_from model coupling (monomials_of model flavour (value_or text_of [] v))) text in
    let last = found_places (text_places model blocks (flavour_of document) (term_of model document) place) found in
    let places = term_places_split model blocks index names document
    ∙ ap (λ k. k ++ (head_places (place_of part.Term index 0) names document ++ last)) keys
    ∙ ap (λ h. h ++ last) head
    ∙ ap (found_places (text_places model blocks (flavour_of document) (term_of model document) place)) text
    ∙ ap (λ f. text_places model blocks f (term_of model document) place value) (sym labels)
    ∙ ap (λ t. text_places model blocks flavour t place value) meaning
    ∙ none in
    (places, is ∙ sym meaning)
