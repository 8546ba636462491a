-- Components given to the fields of a monomial by their places, and as coordinates.
use Rattle.std.specs.Prelude.{◌≡◌, ◌&&◌, if◌then◌else◌, ℕ, Bool, true, false, List, [], ◌∷◌, ◌++◌, length, slice_get, Option, Some, None, option_map}
use Rattle.std.specs.List.{list_all}
use Rattle.std.proofs.Common.{refl, sym, ap, ap₂, ◌∙◌}
use Rattle.model_core.specs.declared.model.Model.{Model}
use Rattle.model_core.specs.declared.content.LabelValue.{LabelValue}
use Rattle.model_core.specs.declared.term.Generation.{Generation}
use Rattle.model_core.specs.declared.term.Factor.{Factor}
use Rattle.model_core.specs.declared.term.Factor.TheVariants.{Fermion, Scalar, Eps, Table}
use Rattle.model_core.specs.declared.component_lists.FieldComponent.{FieldComponent}
use Rattle.model_core.specs.Component.{Component}
use Rattle.model_core.specs.Scalar.{Coordinate, scalar_coordinates}
use Rattle.model_core.specs.Scalar.Coordinate.{Of, Dummy}
use Rattle.model_core.specs.ComponentLists.{fermion_list, scalar_list}
use Rattle.model_core.specs.Content.{generation_at}
use Rattle.model_core.specs.MonomialValue.{label_values, stands_for, is_dummy, filled, given}
use Rattle.model_core.specs.TermTensor.{fermion_coordinates, with_coordinate}
use Rattle.term_expand.proofs.ComponentTwins.{AreTwins, fermion_twins, scalar_twins, is_dummy_at, dummy_place, candidate_stands}
use Rattle.term_expand.proofs.Enumerated.{is_fermion_candidate, is_scalar_candidate}
use Rattle.term_expand.proofs.GivenPlaces.{filled_with, taken, is_dummy_place, slots_at}

-- the coordinates at places of one leg
abbrev pub places_on : List Coordinate → List ℕ → Option (List Coordinate)
places_on leg [] = Some []
places_on leg (p ∷ ps) = with_coordinate (slice_get leg p) (places_on leg ps)

-- ---- the slots of one field

filled_with-none : (b : Bool) (labels : List ℕ) (x : FieldComponent) → filled_with b labels x None ≡ None
filled_with-none true labels x = refl
filled_with-none false labels x = refl

same_values : (b : Bool) (labels : List ℕ) (x : FieldComponent) (c : Component) (o : Option (List LabelValue)) → x.slots ≡ c.values → filled_with b labels x o ≡ filled b labels c o
same_values true labels x c o h = ap (λ values. option_map (λ slots. label_values labels values ++ slots) o) h
same_values false labels x c o h = refl

same_filled : (b d : Bool) (labels : List ℕ) (x : FieldComponent) (c : Component) (o : Option (List LabelValue)) → b ≡ d → x.slots ≡ c.values → filled_with b labels x o ≡ filled d labels c o
same_filled b d labels x c o e h = same_values b labels x c o h ∙ ap (λ t. filled t labels c o) e

-- ---- left-over scalars

dummies_on : Option (List Coordinate) → Bool
dummies_on None = false
dummies_on (Some cs) = list_all is_dummy cs

dummies-with : (c : Option Coordinate) (o : Option (List Coordinate)) → dummies_on (with_coordinate c o) ≡ (is_dummy_at c && dummies_on o)
unfolding dummies_on
dummies-with None o = refl
dummies-with (Some (Of c)) None = refl
dummies-with (Some Dummy) None = refl
dummies-with (Some c) (Some cs) = refl

dummy_places : (model : Model) (ss : List ℕ) → list_all (is_dummy_place (length (scalar_list model))) ss ≡ dummies_on (places_on (scalar_coordinates model) ss)
unfolding dummies_on
dummy_places model [] = refl
dummy_places model (p ∷ ss) =
    ap₂ ◌&&◌ (sym (dummy_place model p)) (dummy_places model ss) ∙ sym (dummies-with (slice_get (scalar_coordinates model) p) (places_on (scalar_coordinates model) ss))

-- ---- all fields

module _ (model : Model) (row column : ℕ) where
  -- the slots of fields with coordinates, where these are there
  abbrev pub given_on : List Factor → Option (List Coordinate) → Option (List Coordinate) → Option (List LabelValue)
  given_on factors None o = None
  given_on factors (Some fs) None = None
  given_on factors (Some fs) (Some ss) = given model row column factors fs ss

  left_over : (o : Option (List Coordinate)) → (if dummies_on o then Some [] else None) ≡ given_on [] (Some []) o
  unfolding dummies_on
  left_over None = refl
  left_over (Some ss) = refl

  too_many : (c : Option Coordinate) (o q : Option (List Coordinate)) → None ≡ given_on [] (with_coordinate c o) q
  too_many None o q = refl
  too_many (Some c) None q = refl
  too_many (Some c) (Some fs) None = refl
  too_many (Some c) (Some fs) (Some ss) = refl

  module _ (field : ℕ) (generation : Generation) (labels : List ℕ) (factors : List Factor) where
    no_fermion : (q : Option (List Coordinate)) → None ≡ given_on (Fermion field generation labels ∷ factors) (Some []) q
    no_fermion None = refl
    no_fermion (Some ss) = refl

    one_fermion : (x : Option FieldComponent) (c : Option Coordinate) (o q : Option (List Coordinate)) → AreTwins model.fermions x c
        → taken (is_fermion_candidate model row column field generation) labels x (given_on factors o q) ≡ given_on (Fermion field generation labels ∷ factors) (with_coordinate c o) q
    one_fermion None None o q h = refl
    one_fermion None (Some (Of c)) o q h = absurd h
    one_fermion None (Some Dummy) None q h = refl
    one_fermion None (Some Dummy) (Some fs) None h = refl
    one_fermion None (Some Dummy) (Some fs) (Some ss) h = refl
    one_fermion (Some x) None o q h = absurd h
    one_fermion (Some x) (Some Dummy) o q h = absurd h
    one_fermion (Some x) (Some (Of c)) None q h = filled_with-none (is_fermion_candidate model row column field generation x) labels x
    one_fermion (Some x) (Some (Of c)) (Some fs) None h = filled_with-none (is_fermion_candidate model row column field generation x) labels x
    one_fermion (Some x) (Some (Of c)) (Some fs) (Some ss) h =
        same_filled (is_fermion_candidate model row column field generation x) (stands_for (slice_get model.fermions field) false (generation_at row column generation) c) labels x c (given model row column factors fs ss)
        (candidate_stands model.fermions field false (generation_at row column generation) x c h) h.values

  module _ (field : ℕ) (conj : Bool) (generation : Generation) (labels : List ℕ) (factors : List Factor) where
    no_scalar : (o : Option (List Coordinate)) → None ≡ given_on (Scalar field conj generation labels ∷ factors) o (Some [])
    no_scalar None = refl
    no_scalar (Some fs) = refl

    one_scalar : (x : Option FieldComponent) (c : Option Coordinate) (o q : Option (List Coordinate)) → AreTwins model.scalars x c
        → taken (is_scalar_candidate model row column field conj generation) labels x (given_on factors o q) ≡ given_on (Scalar field conj generation labels ∷ factors) o (with_coordinate c q)
    one_scalar None None None q h = refl
    one_scalar None None (Some fs) q h = refl
    one_scalar None (Some (Of c)) o q h = absurd h
    one_scalar None (Some Dummy) None q h = refl
    one_scalar None (Some Dummy) (Some fs) None h = refl
    one_scalar None (Some Dummy) (Some fs) (Some ss) h = refl
    one_scalar (Some x) None o q h = absurd h
    one_scalar (Some x) (Some Dummy) o q h = absurd h
    one_scalar (Some x) (Some (Of c)) None q h = filled_with-none (is_scalar_candidate model row column field conj generation x) labels x
    one_scalar (Some x) (Some (Of c)) (Some fs) None h = filled_with-none (is_scalar_candidate model row column field conj generation x) labels x
    one_scalar (Some x) (Some (Of c)) (Some fs) (Some ss) h =
        same_filled (is_scalar_candidate model row column field conj generation x) (stands_for (slice_get model.scalars field) conj (generation_at row column generation) c) labels x c (given model row column factors fs ss)
        (candidate_stands model.scalars field conj (generation_at row column generation) x c h) h.values

  -- the slots of fields with the coordinates at places
  pub slots_given : (factors : List Factor) (fs ss : List ℕ) → slots_at model row column factors fs ss ≡ given_on factors (places_on (fermion_coordinates model) fs) (places_on (scalar_coordinates model) ss)
  slots_given [] [] ss =
      ap (λ b. if b then Some [] else None) (dummy_places model ss) ∙ left_over (places_on (scalar_coordinates model) ss)
  slots_given [] (p ∷ fs) ss = too_many (slice_get (fermion_coordinates model) p) (places_on (fermion_coordinates model) fs) (places_on (scalar_coordinates model) ss)
  slots_given (Fermion field generation labels ∷ factors) [] ss = no_fermion field generation labels factors (places_on (scalar_coordinates model) ss)
  slots_given (Fermion field generation labels ∷ factors) (p ∷ fs) ss =
      ap (taken (is_fermion_candidate model row column field generation) labels (slice_get (fermion_list model) p)) (slots_given factors fs ss)
      ∙ one_fermion field generation labels factors (slice_get (fermion_list model) p) (slice_get (fermion_coordinates model) p) (places_on (fermion_coordinates model) fs) (places_on (scalar_coordinates model) ss) (fermion_twins model p)
  slots_given (Scalar field conj generation labels ∷ factors) fs [] = no_scalar field conj generation labels factors (places_on (fermion_coordinates model) fs)
  slots_given (Scalar field conj generation labels ∷ factors) fs (p ∷ ss) =
      ap (taken (is_scalar_candidate model row column field conj generation) labels (slice_get (scalar_list model) p)) (slots_given factors fs ss)
      ∙ one_scalar field conj generation labels factors (slice_get (scalar_list model) p) (slice_get (scalar_coordinates model) p) (places_on (fermion_coordinates model) fs) (places_on (scalar_coordinates model) ss) (scalar_twins model p)
  slots_given (Eps labels ∷ factors) fs ss = slots_given factors fs ss ∙ past (places_on (fermion_coordinates model) fs) (places_on (scalar_coordinates model) ss)
    where
      past : (o q : Option (List Coordinate)) → given_on factors o q ≡ given_on (Eps labels ∷ factors) o q
      past None q = refl
      past (Some fs) None = refl
      past (Some fs) (Some ss) = refl
  slots_given (Table table labels ∷ factors) fs ss = slots_given factors fs ss ∙ past (places_on (fermion_coordinates model) fs) (places_on (scalar_coordinates model) ss)
    where
      past : (o q : Option (List Coordinate)) → given_on factors o q ≡ given_on (Table table labels ∷ factors) o q
      past None q = refl
      past (Some fs) None = refl
      past (Some fs) (Some ss) = refl
