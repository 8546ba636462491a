-- The values of the keys of a term, and the term that they give.
use Rattle.std.specs.Prelude.{◌≡◌, ℕ, true, false, List, [], ◌∷◌, Some, codes}
use Rattle.toml.specs.Data.{Data, Members, get_member}
use Rattle.toml.specs.View.{view}
use Rattle.model_core.specs.declared.fault.ReadFault.{ReadFault}
use Rattle.model_core.specs.declared.fault.FaultPlace.{FaultPlace}
use Rattle.model_core.specs.declared.model.Model.{Model}
use Rattle.model_core.specs.declared.term.Shape.TheVariants.{One}
use Rattle.model_core.specs.declared.term.Generation.TheVariants.{Row, Column}
use Rattle.model_core.specs.declared.term.Monomial.{Monomial}
use Rattle.model_core.specs.declared.term.Term.{Term}
use Rattle.model_core.specs.Document.{text_of, truth_of, value_or}
use Rattle.model_core.specs.Fault.{key_place}
use Rattle.model_core.specs.Flavour.{flavour_size}
use Rattle.model_core.specs.Content.{kind_of, first_uses}
use Rattle.model_core.specs.TermMeaning.{is_real_word, shape_of}
use Rattle.model_core.specs.Walk.{Key, required, optional, value_places, name_places, latex_places, word_places, texts_places, truth_places}
use Rattle.model_reader.specs.Tables.{texts}
use Rattle.model_reader.specs.declared.terms.TermValues.{TermValues}
use Rattle.model_reader.specs.declared.terms.Coupling.{Coupling}
use Rattle.model_reader.specs.declared.terms.Head.{Head}

-- the table has these values under its keys
pub record HasTermValues (members : Members) (values : TermValues) : Type 0 where
  pub coupling : get_member (codes "coupling") members ≡ Some (view values.coupling.now)
  pub text : get_member (codes "text") members ≡ Some (view values.text.now)

-- the keys before the text
abbrev pub head_keys : List (List ℕ) → List Key
head_keys names =
    required (codes "coupling") (name_places names)
    ∷ optional (codes "latex") latex_places
    ∷ optional (codes "value") (word_places (codes "real" ∷ codes "complex" ∷ []))
    ∷ optional (codes "shape") (word_places (codes "one" ∷ codes "matrix" ∷ codes "symmetric" ∷ []))
    ∷ optional (codes "flavour") texts_places
    ∷ optional (codes "hc") truth_places
    ∷ []

unfoldable pub head_places : FaultPlace → List (List ℕ) → Members → List ReadFault
head_places place names members = value_places (key_place place 1) (head_keys names) members

-- all keys, without the rules on their values
abbrev pub no_rule : FaultPlace → Data → List ReadFault
no_rule place value = []

abbrev pub bare_keys : List Key
bare_keys =
    required (codes "coupling") no_rule
    ∷ optional (codes "latex") no_rule
    ∷ optional (codes "value") no_rule
    ∷ optional (codes "shape") no_rule
    ∷ optional (codes "flavour") no_rule
    ∷ optional (codes "hc") no_rule
    ∷ required (codes "text") no_rule
    ∷ []

-- what these values say of the coupling
unfoldable pub coupling_of : Members → Coupling
coupling_of members = record {
  name = value_or text_of [] (get_member (codes "coupling") members);
  latex = value_or text_of (value_or text_of [] (get_member (codes "coupling") members)) (get_member (codes "latex") members);
  real = value_or is_real_word true (get_member (codes "value") members);
  shape = value_or shape_of One (get_member (codes "shape") members);
  hc = value_or truth_of false (get_member (codes "hc") members);
}

abbrev pub head_parts : Head → Coupling × List (List ℕ)
head_parts head = (head.coupling, texts head.flavour.items)

-- the term with this coupling and these monomials
unfoldable pub term_from : Model → Coupling → List Monomial → Term
term_from model coupling monomials = record {
  coupling = coupling.name;
  latex = coupling.latex;
  real = coupling.real;
  shape = coupling.shape;
  rows = flavour_size model Row (first_uses monomials);
  columns = flavour_size model Column (first_uses monomials);
  hc = coupling.hc;
  kind = kind_of (first_uses monomials);
  monomials = monomials;
}
