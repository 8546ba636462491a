-- The links of a generator on the components of a model are its matrix on the legs.
use Rattle.std.specs.Prelude.{◌≡◌, ◌<◌, ◌≤◌, ◌+◌, ◌⊎◌, ℕ, zero, suc, not, List, [], ◌∷◌, ◌++◌, length, map, take, get_or, slice_get, Option, Some, None, option_map}
use Rattle.std.specs.List.{All}
use Rattle.std.proofs.Common.{refl, sym, ap, ap₂, ◌∙◌, arith, inl, inr, subst, append-nil, length-append}
use Rattle.std.proofs.lemmas.List.{length-map}
use Rattle.std.proofs.lemmas.Option.{slice_get_past, slice_get-get_or}
use Rattle.frac128.specs.Rational.{zero_ℚ}
use Rattle.beta_poly.specs.Polynomial.{constant}
use Rattle.sparse_tensor.specs.declared.links.Link.{Link}
use Rattle.model_core.specs.declared.group.Group.{Group}
use Rattle.model_core.specs.declared.field.Field.{Field}
use Rattle.model_core.specs.declared.model.Model.{Model}
use Rattle.model_core.specs.declared.generator.Generator.{Generator}
use Rattle.model_core.specs.declared.component_lists.FieldComponent.{FieldComponent}
use Rattle.model_core.specs.Component.{Component, fermion_components}
use Rattle.model_core.specs.Scalar.{Coordinate, scalar_components, scalar_coordinates}
use Rattle.model_core.specs.Scalar.Coordinate.{Of, Dummy}
use Rattle.model_core.specs.ComponentLists.{fermion_list, scalar_list}
use Rattle.model_core.specs.TermTensor.{fermion_coordinates}
use Rattle.model_core.specs.Generators.{coordinate_generator}
use Rattle.model_core.specs.Invariance.{matrix_or_zero, matrix_at, of_conjugate}
use Rattle.model_core.proofs.ComponentListLaws.{next_image}
use Rattle.term_expand.specs.LinkSteps.{in_field, component_in, all_links, IsPlaced, ArePlaced}
use Rattle.term_expand.proofs.AllLinks.{all_inside, all-value}
use Rattle.term_expand.proofs.PlacedComponents.{length-entries, entry_at, fermion_entries, scalar_entries}
use Rattle.gauge_check.specs.Actions.{generator_between, place_generator, AreMatrix, conjugate_of}

-- ---- coordinates

-- a component that stands at a place, and none for the dummy
abbrev component_of : Option Coordinate → Option Component
component_of (Some (Of c)) = Some c
component_of (Some Dummy) = None
component_of None = None

-- the matrix at coordinates is the generator between their components
matrix_between : (groups : List Group) (x : Generator) (o p : Option Coordinate) → matrix_or_zero (coordinate_generator groups x) o p ≡ generator_between groups x (component_of o) (component_of p)
matrix_between groups x None p = refl
matrix_between groups x (Some Dummy) None = refl
matrix_between groups x (Some (Of c)) None = refl
matrix_between groups x (Some Dummy) (Some d) = refl
matrix_between groups x (Some (Of c)) (Some Dummy) = refl
matrix_between groups x (Some (Of c)) (Some (Of d)) = refl

-- no component stands in the list
abbrev HasNone : List Coordinate → Type 0
HasNone rest = (i : ℕ) → component_of (slice_get rest i) ≡ None

-- nothing
none_alone : HasNone []
none_alone i = refl

-- the dummy alone
dummy_alone : HasNone (Dummy ∷ [])
dummy_alone zero = refl
dummy_alone (suc i) = refl

-- what stands on a leg of components, with none behind them
component_at_leg : (cs : List Component) (rest : List Coordinate) → HasNone rest → (i : ℕ) → component_of (slice_get (map Of cs ++ rest) i) ≡ slice_get cs i
component_at_leg [] rest none i = none i
component_at_leg (c ∷ cs) rest none zero = refl
component_at_leg (c ∷ cs) rest none (suc i) = component_at_leg cs rest none i

-- a generator is 0 where the first component is missing
none_first : (groups : List Group) (x : Generator) (p : Option Component) → generator_between groups x None p ≡ zero_ℚ
none_first groups x p = refl

-- or the second
none_second : (groups : List Group) (x : Generator) (o : Option Component) → generator_between groups x o None ≡ zero_ℚ
none_second groups x None = refl
none_second groups x (Some c) = refl

-- ---- all links

-- the links of a generator between entries
abbrev links_of : List Group → List Field → List FieldComponent → Generator → List Link
links_of groups fields entries x = all_links (place_generator groups fields entries x) (length entries) (length entries)

module _ (groups : List Group) (fields : List Field) (entries : List FieldComponent) (components : List Component) (same : map (component_in fields) entries ≡ map Some components) (x : Generator) where
  -- a generator at two places is that between the components there
  at_components : (i j : ℕ) → place_generator groups fields entries x i j ≡ generator_between groups x (slice_get components i) (slice_get components j)
  unfolding place_generator
  at_components i j = ap₂ (generator_between groups x) (entry_at fields entries components same i) (entry_at fields entries components same j)

  -- and 0 outside of these
  outside_zero : (i j : ℕ) → (length entries ≤ i) ⊎ (length entries ≤ j) → place_generator groups fields entries x i j ≡ zero_ℚ
  outside_zero i j (inl past) =
      at_components i j
      ∙ ap (λ o. generator_between groups x o (slice_get components j)) (slice_get_past components i (omega (arith, past, length-entries fields entries components same)))
      ∙ none_first groups x (slice_get components j)
  outside_zero i j (inr past) =
      at_components i j
      ∙ ap (generator_between groups x (slice_get components i)) (slice_get_past components j (omega (arith, past, length-entries fields entries components same)))
      ∙ none_second groups x (slice_get components i)

  -- the links are the generator on a leg of the components, with no other component behind them
  leg_matrix : (rest : List Coordinate) → HasNone rest → AreMatrix (coordinate_generator groups x) (map Of components ++ rest) (links_of groups fields entries x)
  leg_matrix rest none =
      record {
        between = λ i d l. let inside = all_inside (place_generator groups fields entries x) (length entries) (length entries) i d l in (omega (arith, inside.0, longer), omega (arith, inside.1, longer));
        value = λ i j. all-value (place_generator groups fields entries x) i j (length entries) (outside_zero i j) ∙ ap constant (at_components i j ∙ at_leg i j);
      }
    where
      longer : length entries ≤ length (map Of components ++ rest)
      longer = omega (arith, length-entries fields entries components same, length-map components Of, length-append (map Of components) rest)

      at_leg : (i j : ℕ) → generator_between groups x (slice_get components i) (slice_get components j) ≡ matrix_at (coordinate_generator groups x) (map Of components ++ rest) i j
      at_leg i j =
          sym (
          matrix_between groups x (slice_get (map Of components ++ rest) i) (slice_get (map Of components ++ rest) j)
          ∙ ap₂ (generator_between groups x) (component_at_leg components rest none i) (component_at_leg components rest none j)
          )

-- ---- conjugate fermions

-- the same component of the conjugate field
abbrev turned : Component → Component
turned c = record { field = c.field; conj = not c.conj; generation = c.generation; values = c.values }

-- conjugate entries stand for conjugate components
turned_entries : (fields : List Field) (entries : List FieldComponent) (components : List Component) → map (component_in fields) entries ≡ map Some components → map (component_in fields) (map conjugate_of entries) ≡ map Some (map turned components)
turned_entries fields entries components same =
    each entries ∙ ap (map (option_map turned)) same ∙ outer components
  where
    one : (x : FieldComponent) (o : Option Field) → option_map (in_field (conjugate_of x)) o ≡ option_map turned (option_map (in_field x) o)
    one x None = refl
    one x (Some field) = refl

    each : (xs : List FieldComponent) → map (component_in fields) (map conjugate_of xs) ≡ map (option_map turned) (map (component_in fields) xs)
    each [] = refl
    each (x ∷ xs) = ap₂ ◌∷◌ (one x (slice_get fields x.field)) (each xs)

    outer : (cs : List Component) → map (option_map turned) (map Some cs) ≡ map Some (map turned cs)
    outer [] = refl
    outer (c ∷ cs) = ap (λ rest. Some (turned c) ∷ rest) (outer cs)

-- the coordinates of conjugate components
turned_leg : (cs : List Component) → map Of (map turned cs) ≡ map of_conjugate (map Of cs)
turned_leg [] = refl
turned_leg (c ∷ cs) = ap (λ rest. Of (turned c) ∷ rest) (turned_leg cs)

-- components of conjugate fields have the slots of the fields
pub conjugates_are_placed : (groups : List Group) (fields : List Field) (entries : List FieldComponent) → ArePlaced groups fields entries → ArePlaced groups fields (map conjugate_of entries)
conjugates_are_placed groups fields entries placed =
    record { named = placed.named; placed = each entries placed.placed; few = omega (arith, placed.few, length-map entries conjugate_of) }
  where
    each : (xs : List FieldComponent) → All (IsPlaced groups fields) xs → All (IsPlaced groups fields) (map conjugate_of xs)
    each [] all i d l = absurd (omega (arith, l))
    each (x ∷ xs) all zero d l = record { within = (all 0 x (omega arith)).within; tuples = (all 0 x (omega arith)).tuples }
    each (x ∷ xs) all (suc i) d l = each xs (λ k e m. all (suc k) e (omega (arith, m))) i d (omega (arith, l))

-- ---- a model's legs

-- the same links under other names
links_of-same : (gs hs : List Group) (fs ks : List Field) (xs ys : List FieldComponent) (x : Generator) → gs ≡ hs → fs ≡ ks → xs ≡ ys → links_of gs fs xs x ≡ links_of hs ks ys x
links_of-same gs hs fs ks xs ys x same_groups same_fields same_entries =
    ap (λ g. links_of g fs xs x) same_groups ∙ ap (λ f. links_of hs f xs x) same_fields ∙ ap (λ e. links_of hs ks e x) same_entries

module _ (model : Model) (x : Generator) (groups : List Group) (fields : List Field) (entries : List FieldComponent) (links : List Link) (same_groups : groups ≡ model.groups) (is : links ≡ links_of groups fields entries x) where
  -- a generator on the fermions' legs
  pub fermion_matrix : fields ≡ model.fermions → entries ≡ fermion_list model → AreMatrix (coordinate_generator model.groups x) (fermion_coordinates model) links
  fermion_matrix same_fields same_entries =
      subst (AreMatrix (coordinate_generator model.groups x) (fermion_coordinates model)) (sym (is ∙ links_of-same groups model.groups fields model.fermions entries (fermion_list model) x same_groups same_fields same_entries))
      (subst (λ leg. AreMatrix (coordinate_generator model.groups x) leg (links_of model.groups model.fermions (fermion_list model) x)) (append-nil (fermion_coordinates model)) (leg_matrix model.groups model.fermions (fermion_list model) (fermion_components model) (fermion_entries model) x [] none_alone))

  -- on those of the conjugate fermions
  pub conjugate_matrix : fields ≡ model.fermions → entries ≡ map conjugate_of (fermion_list model) → AreMatrix (coordinate_generator model.groups x) (map of_conjugate (fermion_coordinates model)) links
  conjugate_matrix same_fields same_entries =
      let others = map conjugate_of (fermion_list model) in
      let components = map turned (fermion_components model) in
      subst (AreMatrix (coordinate_generator model.groups x) (map of_conjugate (fermion_coordinates model))) (sym (is ∙ links_of-same groups model.groups fields model.fermions entries others x same_groups same_fields same_entries))
      (subst (λ leg. AreMatrix (coordinate_generator model.groups x) leg (links_of model.groups model.fermions others x)) (append-nil (map Of components) ∙ turned_leg (fermion_components model)) (leg_matrix model.groups model.fermions others components (turned_entries model.fermions (fermion_list model) (fermion_components model) (fermion_entries model)) x [] none_alone))

  -- and on those of the scalars, where the dummy has no link
  pub scalar_matrix : fields ≡ model.scalars → entries ≡ scalar_list model → AreMatrix (coordinate_generator model.groups x) (scalar_coordinates model) links
  scalar_matrix same_fields same_entries =
      subst (AreMatrix (coordinate_generator model.groups x) (scalar_coordinates model)) (sym (is ∙ links_of-same groups model.groups fields model.scalars entries (scalar_list model) x same_groups same_fields same_entries))
      (leg_matrix model.groups model.scalars (scalar_list model) (scalar_components model) (scalar_entries model) x (Dummy ∷ []) dummy_alone)

-- ---- the entries that are handed over

-- the same components under other names
pub placed_as : (gs hs : List Group) (fs ks : List Field) (xs ys : List FieldComponent) → gs ≡ hs → fs ≡ ks → xs ≡ ys → ArePlaced hs ks ys → ArePlaced gs fs xs
placed_as gs hs fs ks xs ys same_groups same_fields same_entries placed =
    subst (λ g. ArePlaced g fs xs) (sym same_groups) (subst (λ f. ArePlaced hs f xs) (sym same_fields) (subst (ArePlaced hs ks) (sym same_entries) placed))

-- one more conjugate component
pub conjugate_step : (components found next : List FieldComponent) (index : ℕ) (x : FieldComponent) (slots : List ℕ) → found ≡ map conjugate_of (take index components) → index < length components → x ≡ get_or components index x
    → next ≡ found ++ record { field = x.field; conj = not x.conj; generation = x.generation; slots = slots } ∷ [] → slots ≡ x.slots → next ≡ map conjugate_of (take (index + 1) components)
conjugate_step components found next index x slots so_far within is pushed copied =
    next_image conjugate_of [] found next components index x so_far (slice_get-get_or components index x within ∙ ap Some (sym is))
    (pushed ∙ ap (λ s. found ++ record { field = x.field; conj = not x.conj; generation = x.generation; slots = s } ∷ []) copied)
