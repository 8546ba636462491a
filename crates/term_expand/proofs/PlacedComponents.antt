-- The entries of the lists of components and the components that they stand for.
use Rattle.std.specs.Prelude.{◌≡◌, ◌<◌, ◌≤◌, ◌+◌, ◌&&◌, ◌||◌, not, ℕ, zero, suc, Bool, true, false, List, [], ◌∷◌, ◌++◌, length, get_or, map, take, drop, replicate, slice_get, Option, Some, None, option_map, option_and_then, ⊤}
use Rattle.std.specs.List.{All, AllByRecursion, flat_map, list_all, list_any, range_with_len}
use Rattle.std.specs.Str.{bytes_eq}
use Rattle.std.proofs.Common.{refl, sym, ap, ap₂, ◌∙◌, arith, subst}
use Rattle.std.proofs.lemmas.List.{map-append, length-map}
use Rattle.std.proofs.lemmas.List.Folds.{list_any-append}
use Rattle.std.proofs.lemmas.Option.{slice_get-map, slice_get_within, get_or_from_slice_get}
use Rattle.std.proofs.lemmas.Slice.Eq.{bytes_eq-Decides}
use Rattle.su_reps.specs.declared.rep.Rep.{Rep}
use Rattle.su_reps.specs.Tuples.{slots, AreValues}
use Rattle.model_core.specs.declared.group.Group.{Group}
use Rattle.model_core.specs.declared.field.Field.{Field}
use Rattle.model_core.specs.declared.model.Model.{Model}
use Rattle.model_core.specs.declared.component_lists.FieldComponent.{FieldComponent}
use Rattle.model_core.specs.Component.{Component, slot_sizes, tuples, copies_of, components_of, fermion_components}
use Rattle.model_core.specs.Scalar.{coordinates_of, scalar_components}
use Rattle.model_core.specs.ComponentLists.{placed, fermions_from, scalars_from, fermion_list, scalar_list}
use Rattle.model_core.specs.Valid.{is_field, are_reps, are_distinct, field_name, group_names, table_name, term_name, names_of, has_valid_parts, has_few_components, IsValid}
use Rattle.model_core.proofs.ValidLaws.{both, field_reps, valid_names, valid_parts, valid_count, valid_scalar_count, parts_groups, parts_fields, parts_scalar_fields, groups_pass}
use Rattle.model_core.proofs.CountLaws.{passes_at}
use Rattle.model_core.proofs.ScalarLaws.{real_coordinates, complex_coordinates}
use Rattle.term_expand.specs.LinkSteps.{component_in, component_at, in_field, AreTuples, IsPlaced, AreNamed, ArePlaced}

-- ---- each element

each_append : {A : Type 0} (P : A → Type 0) (xs ys : List A) → AllByRecursion P xs → AllByRecursion P ys → AllByRecursion P (xs ++ ys)
each_append P [] ys first second = second
each_append P (x ∷ xs) ys first second = (first.0, each_append P xs ys first.1 second)

each_map : {A B : Type 0} (P : A → Type 0) (Q : B → Type 0) (f : A → B) (xs : List A) → ((x : A) → P x → Q (f x)) → AllByRecursion P xs → AllByRecursion Q (map f xs)
each_map P Q f [] step h = tt
each_map P Q f (x ∷ xs) step h = (step x h.0, each_map P Q f xs step h.1)

each_pair : {A B C : Type 0} (P : A → Type 0) (S : B → Type 0) (Q : C → Type 0) (g : A → B → C) (xs : List A) (ys : List B) → ((x : A) (y : B) → P x → S y → Q (g x y)) → AllByRecursion P xs → AllByRecursion S ys → AllByRecursion Q (flat_map (λ x. map (g x) ys) xs)
each_pair P S Q g [] ys step first second = tt
each_pair P S Q g (x ∷ xs) ys step first second =
    each_append Q (map (g x) ys) (flat_map (λ x. map (g x) ys) xs) (each_map S Q (g x) ys (λ y. step x y first.0) second) (each_pair P S Q g xs ys step first.1 second)

each_all : {A : Type 0} (P : A → Type 0) (xs : List A) → AllByRecursion P xs → All P xs
each_all P [] h i d l = absurd (omega arith)
each_all P (x ∷ xs) h zero d l = h.0
each_all P (x ∷ xs) h (suc i) d l = each_all P xs h.1 i d (omega arith)

each_any : {A : Type 0} (xs : List A) → AllByRecursion (λ _. ⊤) xs
each_any [] = tt
each_any (x ∷ xs) = (tt, each_any xs)

-- ---- slots

each_range : (low n : ℕ) → AllByRecursion (λ a. (low ≤ a) × (a < low + n)) (range_with_len low n)
each_range low zero = tt
each_range low (suc n) = (
  (omega arith, omega arith),
  weaker (range_with_len (low + 1) n) (each_range (low + 1) n),
)
  where
    weaker : (xs : List ℕ) → AllByRecursion (λ a. (low + 1 ≤ a) × (a < low + 1 + n)) xs → AllByRecursion (λ a. (low ≤ a) × (a < low + suc n)) xs
    weaker [] h = tt
    weaker (x ∷ xs) h = ((omega (arith, h.0.0), omega (arith, h.0.1)), weaker xs h.1)

-- so many values of one group, and then what the others give
record BeginsWith (k n : ℕ) (Q : List ℕ → Type 0) (p : List ℕ) : Type 0 where
  count : length (take k p) ≡ k
  values : AreValues n (take k p)
  others : Q (drop k p)

no_values : (n : ℕ) (Q : List ℕ → Type 0) (ps : List (List ℕ)) → AllByRecursion Q ps → AllByRecursion (BeginsWith 0 n Q) ps
no_values n Q [] h = tt
no_values n Q (p ∷ ps) h = (record { count = refl; values = tt; others = h.0 }, no_values n Q ps h.1)

begin_with : (k n : ℕ) (sizes : List ℕ) (Q : List ℕ → Type 0) → AllByRecursion Q (tuples sizes) → AllByRecursion (BeginsWith k n Q) (tuples (replicate k n ++ sizes))
begin_with zero n sizes Q h = no_values n Q (tuples sizes) h
begin_with (suc k) n sizes Q h =
    each_pair (λ a. (1 ≤ a) × (a < 1 + n)) (BeginsWith k n Q) (BeginsWith (suc k) n Q) (λ a p. a ∷ p) (range_with_len 1 n) (tuples (replicate k n ++ sizes)) (λ a p here rest. record { count = ap suc rest.count; values = ((here.0, omega (arith, here.1)), rest.values); others = rest.others }) (each_range 1 n) (begin_with k n sizes Q h)

-- the tuples of a field's slots
each_tuples : (groups : List Group) (reps : List Rep) → AllByRecursion (AreTuples groups reps) (tuples (slot_sizes groups reps))
each_tuples [] reps = (tt, tt)
each_tuples (group ∷ groups) [] = (tt, tt)
each_tuples (group ∷ groups) (rep ∷ reps) =
    weaker (tuples (replicate (slots rep) group.n ++ slot_sizes groups reps)) (begin_with (slots rep) group.n (slot_sizes groups reps) (AreTuples groups reps) (each_tuples groups reps))
  where
    weaker : (ps : List (List ℕ)) → AllByRecursion (BeginsWith (slots rep) group.n (AreTuples groups reps)) ps → AllByRecursion (AreTuples (group ∷ groups) (rep ∷ reps)) ps
    weaker [] h = tt
    weaker (p ∷ ps) h = ((record { count = h.0.count; values = h.0.values }, h.0.others), weaker ps h.1)

-- ---- the components of a field

-- the record of a component of a field
abbrev component_of : Bool → Field → ℕ → List ℕ → Component
component_of conj field generation values = record { field = field; conj = conj; generation = generation; values = values }

module _ (groups : List Group) (fields : List Field) (place : ℕ) (field : Field) (there : slice_get fields place ≡ Some field) where
  same_component : (conj : Bool) (generation : ℕ) (values : List ℕ) → component_in fields (placed place (component_of conj field generation values)) ≡ Some (component_of conj field generation values)
  same_component conj generation values =
      ap (option_map (in_field (placed place (component_of conj field generation values)))) there

  tuple_placed : (conj : Bool) (generation : ℕ) (values : List ℕ) → AreTuples groups field.reps values → IsPlaced groups fields (placed place (component_of conj field generation values))
  tuple_placed conj generation values h =
      record {
        within = slice_get_within fields place field there;
        tuples = λ d. subst (λ f. AreTuples groups f.reps values) (sym (get_or_from_slice_get fields place field d there)) h;
      }

  same_tuples : (conj : Bool) (generation : ℕ) (ps : List (List ℕ)) → map (component_in fields) (map (placed place) (map (component_of conj field generation) ps)) ≡ map Some (map (component_of conj field generation) ps)
  same_tuples conj generation [] = refl
  same_tuples conj generation (p ∷ ps) = ap₂ ◌∷◌ (same_component conj generation p) (same_tuples conj generation ps)

  same_generations : (conj : Bool) (ps : List (List ℕ)) (gs : List ℕ) → map (component_in fields) (map (placed place) (flat_map (λ g. map (component_of conj field g) ps) gs)) ≡ map Some (flat_map (λ g. map (component_of conj field g) ps) gs)
  same_generations conj ps [] = refl
  same_generations conj ps (g ∷ gs) =
      let first = map (component_of conj field g) ps in
      let rest = flat_map (λ g. map (component_of conj field g) ps) gs in
      ap (map (component_in fields)) (map-append (placed place) first rest)
      ∙ map-append (component_in fields) (map (placed place) first) (map (placed place) rest)
      ∙ ap₂ ◌++◌ (same_tuples conj g ps) (same_generations conj ps gs)
      ∙ sym (map-append Some first rest)

  same_copies : (conj : Bool) → map (component_in fields) (map (placed place) (copies_of conj groups field)) ≡ map Some (copies_of conj groups field)
  same_copies conj = same_generations conj (tuples (slot_sizes groups field.reps)) (range_with_len 1 field.generations)

  copies_placed : (conj : Bool) → AllByRecursion (IsPlaced groups fields) (map (placed place) (copies_of conj groups field))
  copies_placed conj =
      each_map (λ c. IsPlaced groups fields (placed place c)) (IsPlaced groups fields) (placed place) (copies_of conj groups field) (λ c h. h) (each_pair (λ _. ⊤) (AreTuples groups field.reps) (λ c. IsPlaced groups fields (placed place c)) (component_of conj field) (range_with_len 1 field.generations) (tuples (slot_sizes groups field.reps)) (λ g p _ h. tuple_placed conj g p h) (each_any (range_with_len 1 field.generations)) (each_tuples groups field.reps))

  same_both : map (component_in fields) (map (placed place) (copies_of false groups field ++ copies_of true groups field)) ≡ map Some (copies_of false groups field ++ copies_of true groups field)
  same_both =
      ap (map (component_in fields)) (map-append (placed place) (copies_of false groups field) (copies_of true groups field))
      ∙ map-append (component_in fields) (map (placed place) (copies_of false groups field)) (map (placed place) (copies_of true groups field))
      ∙ ap₂ ◌++◌ (same_copies false) (same_copies true)
      ∙ sym (map-append Some (copies_of false groups field) (copies_of true groups field))

  both_placed : AllByRecursion (IsPlaced groups fields) (map (placed place) (copies_of false groups field ++ copies_of true groups field))
  both_placed =
      subst (AllByRecursion (IsPlaced groups fields)) (sym (map-append (placed place) (copies_of false groups field) (copies_of true groups field))) (each_append (IsPlaced groups fields) (map (placed place) (copies_of false groups field)) (map (placed place) (copies_of true groups field)) (copies_placed false) (copies_placed true))

  same_coordinates : map (component_in fields) (map (placed place) (coordinates_of groups field)) ≡ map Some (coordinates_of groups field)
  same_coordinates = by_kind field.real refl
    where
      by_kind : (real : Bool) → field.real ≡ real → map (component_in fields) (map (placed place) (coordinates_of groups field)) ≡ map Some (coordinates_of groups field)
      by_kind true e =
          subst (λ cs. map (component_in fields) (map (placed place) cs) ≡ map Some cs) (sym (real_coordinates groups field e)) (same_copies false)
      by_kind false e =
          subst (λ cs. map (component_in fields) (map (placed place) cs) ≡ map Some cs) (sym (complex_coordinates groups field e)) same_both

  coordinates_placed : AllByRecursion (IsPlaced groups fields) (map (placed place) (coordinates_of groups field))
  coordinates_placed = by_kind field.real refl
    where
      by_kind : (real : Bool) → field.real ≡ real → AllByRecursion (IsPlaced groups fields) (map (placed place) (coordinates_of groups field))
      by_kind true e =
          subst (λ cs. AllByRecursion (IsPlaced groups fields) (map (placed place) cs)) (sym (real_coordinates groups field e)) (copies_placed false)
      by_kind false e =
          subst (λ cs. AllByRecursion (IsPlaced groups fields) (map (placed place) cs)) (sym (complex_coordinates groups field e)) both_placed

-- ---- the components of all fields

-- the fields from a place on
abbrev StandFrom : List Field → ℕ → List Field → Type 0
StandFrom fields place rest = (i : ℕ) → slice_get fields (place + i) ≡ slice_get rest i

first_there : (fields : List Field) (place : ℕ) (field : Field) (rest : List Field) → StandFrom fields place (field ∷ rest) → slice_get fields place ≡ Some field
first_there fields place field rest stand = ap (slice_get fields) (omega arith) ∙ stand 0

rest_there : (fields : List Field) (place : ℕ) (field : Field) (rest : List Field) → StandFrom fields place (field ∷ rest) → StandFrom fields (suc place) rest
rest_there fields place field rest stand i = ap (slice_get fields) (omega arith) ∙ stand (suc i)

module _ (groups : List Group) (fields : List Field) where
  join_same : (xs ys : List FieldComponent) (cs ds : List Component) → map (component_in fields) xs ≡ map Some cs → map (component_in fields) ys ≡ map Some ds → map (component_in fields) (xs ++ ys) ≡ map Some (cs ++ ds)
  join_same xs ys cs ds first second = map-append (component_in fields) xs ys ∙ ap₂ ◌++◌ first second ∙ sym (map-append Some cs ds)

  same_fermions : (place : ℕ) (rest : List Field) → StandFrom fields place rest → map (component_in fields) (fermions_from groups place rest) ≡ map Some (flat_map (components_of groups) rest)
  same_fermions place [] stand = refl
  same_fermions place (field ∷ rest) stand =
      join_same (map (placed place) (components_of groups field)) (fermions_from groups (suc place) rest) (components_of groups field) (flat_map (components_of groups) rest) (same_copies groups fields place field (first_there fields place field rest stand) false) (same_fermions (suc place) rest (rest_there fields place field rest stand))

  fermions_placed : (place : ℕ) (rest : List Field) → StandFrom fields place rest → AllByRecursion (IsPlaced groups fields) (fermions_from groups place rest)
  fermions_placed place [] stand = tt
  fermions_placed place (field ∷ rest) stand =
      each_append (IsPlaced groups fields) (map (placed place) (components_of groups field)) (fermions_from groups (suc place) rest) (copies_placed groups fields place field (first_there fields place field rest stand) false) (fermions_placed (suc place) rest (rest_there fields place field rest stand))

  same_scalars : (place : ℕ) (rest : List Field) → StandFrom fields place rest → map (component_in fields) (scalars_from groups place rest) ≡ map Some (flat_map (coordinates_of groups) rest)
  same_scalars place [] stand = refl
  same_scalars place (field ∷ rest) stand =
      join_same (map (placed place) (coordinates_of groups field)) (scalars_from groups (suc place) rest) (coordinates_of groups field) (flat_map (coordinates_of groups) rest) (same_coordinates groups fields place field (first_there fields place field rest stand)) (same_scalars (suc place) rest (rest_there fields place field rest stand))

  scalars_placed : (place : ℕ) (rest : List Field) → StandFrom fields place rest → AllByRecursion (IsPlaced groups fields) (scalars_from groups place rest)
  scalars_placed place [] stand = tt
  scalars_placed place (field ∷ rest) stand =
      each_append (IsPlaced groups fields) (map (placed place) (coordinates_of groups field)) (scalars_from groups (suc place) rest) (coordinates_placed groups fields place field (first_there fields place field rest stand)) (scalars_placed (suc place) rest (rest_there fields place field rest stand))

stand_all : (fields : List Field) → StandFrom fields 0 fields
stand_all fields i = ap (slice_get fields) (omega arith)

-- the entries for fermions stand for the components
pub fermion_entries : (model : Model) → map (component_in model.fermions) (fermion_list model) ≡ map Some (fermion_components model)
fermion_entries model = same_fermions model.groups model.fermions 0 model.fermions (stand_all model.fermions)

-- those for scalars too
pub scalar_entries : (model : Model) → map (component_in model.scalars) (scalar_list model) ≡ map Some (scalar_components model)
scalar_entries model = same_scalars model.groups model.scalars 0 model.scalars (stand_all model.scalars)

module _ (fields : List Field) (entries : List FieldComponent) (components : List Component) (same : map (component_in fields) entries ≡ map Some components) where
  -- as many entries as components
  pub length-entries : length entries ≡ length components
  length-entries = sym (length-map entries (component_in fields)) ∙ ap length same ∙ length-map components Some

  -- an entry stands for the component at its place
  pub entry_at : (x : ℕ) → component_at fields entries x ≡ slice_get components x
  entry_at x = joined (slice_get entries x) (slice_get components x) (sym (slice_get-map (component_in fields) entries x) ∙ ap (λ xs. slice_get xs x) same ∙ slice_get-map Some components x)
    where
      joined : (o : Option FieldComponent) (q : Option Component) → option_map (component_in fields) o ≡ option_map Some q → option_and_then (component_in fields) o ≡ q
      joined None None e = refl
      joined None (Some c) e = absurd (cc e)
      joined (Some x) None e = absurd (cc e)
      joined (Some x) (Some c) e = cc

-- ---- names

distinct_right : (xs ys : List (List ℕ)) → are_distinct (xs ++ ys) ≡ true → are_distinct ys ≡ true
distinct_right [] ys h = h
distinct_right (x ∷ xs) ys h = distinct_right xs ys (both (not (list_any (bytes_eq x) (xs ++ ys))) (are_distinct (xs ++ ys)) h).1

none_left : (a b : Bool) → not (a || b) ≡ true → not a ≡ true
none_left true b h = h
none_left false b h = refl

distinct_left : (xs ys : List (List ℕ)) → are_distinct (xs ++ ys) ≡ true → are_distinct xs ≡ true
distinct_left [] ys h = refl
distinct_left (x ∷ xs) ys h =
    let parts = both (not (list_any (bytes_eq x) (xs ++ ys))) (are_distinct (xs ++ ys)) h in
    ap₂ ◌&&◌ (none_left (list_any (bytes_eq x) xs) (list_any (bytes_eq x) ys) (ap not (sym (list_any-append (bytes_eq x) xs ys)) ∙ parts.0)) (distinct_left xs ys parts.1)

found_at : {A : Type 0} (test : A → Bool) (xs : List A) (i : ℕ) (d : A) → i < length xs → test (get_or xs i d) ≡ true → list_any test xs ≡ true
found_at test [] i d l h = absurd (omega arith)
found_at test (x ∷ xs) zero d l h = ap (λ b. b || list_any test xs) h
found_at test (x ∷ xs) (suc i) d l h = ap (λ b. test x || b) (found_at test xs i d (omega arith) h) ∙ or_true (test x)
  where
    or_true : (b : Bool) → (b || true) ≡ true
    or_true true = refl
    or_true false = refl

turned : (a b : List ℕ) → bytes_eq a b ≡ true → bytes_eq b a ≡ true
turned a b same = grind (arith, bytes_eq-Decides)

no_second : (a : Bool) → not a ≡ true → a ≡ true → ⊥
no_second a first second = cc

-- equal names stand at one place
distinct_place : (names : List (List ℕ)) (i j : ℕ) (d e : List ℕ) → are_distinct names ≡ true → i < length names → j < length names → bytes_eq (get_or names i d) (get_or names j e) ≡ true → i ≡ j
distinct_place [] i j d e distinct l k same = absurd (omega arith)
distinct_place (name ∷ names) zero zero d e distinct l k same = refl
distinct_place (name ∷ names) zero (suc j) d e distinct l k same =
    absurd (no_second (list_any (bytes_eq name) names) (both (not (list_any (bytes_eq name) names)) (are_distinct names) distinct).0 (found_at (bytes_eq name) names j e (omega arith) same))
distinct_place (name ∷ names) (suc i) zero d e distinct l k same =
    absurd (no_second (list_any (bytes_eq name) names) (both (not (list_any (bytes_eq name) names)) (are_distinct names) distinct).0 (found_at (bytes_eq name) names i d (omega arith) (turned (get_or names i d) name same)))
distinct_place (name ∷ names) (suc i) (suc j) d e distinct l k same =
    ap suc (distinct_place names i j d e (both (not (list_any (bytes_eq name) names)) (are_distinct names) distinct).1 (omega arith) (omega arith) same)

get_or-names : (fields : List Field) (i : ℕ) (d : Field) → get_or (map field_name fields) i d.name ≡ (get_or fields i d).name
get_or-names [] i d = refl
get_or-names (field ∷ fields) zero d = refl
get_or-names (field ∷ fields) (suc i) d = get_or-names fields i d

-- fields with one name stand at one place
pub same_place : (groups : List Group) (fields : List Field) (i j : ℕ) (d e : Field) → AreNamed groups fields → i < length fields → j < length fields → bytes_eq (get_or fields i d).name (get_or fields j e).name ≡ true → i ≡ j
same_place groups fields i j d e named l k same =
    distinct_place (map field_name fields) i j d.name e.name named.names (omega (arith, l, length-map fields field_name)) (omega (arith, k, length-map fields field_name)) (ap₂ bytes_eq (get_or-names fields i d) (get_or-names fields j e) ∙ same)

-- the components of two fields with one name have the same slots
pub same_slots : (groups : List Group) (fields : List Field) (x y : FieldComponent) (first second : Field) → AreNamed groups fields → IsPlaced groups fields x → IsPlaced groups fields y
    → first ≡ get_or fields x.field first → second ≡ get_or fields y.field second → bytes_eq first.name second.name ≡ true → AreTuples groups first.reps y.slots
same_slots groups fields x y first second named in_first in_second is_first is_second same =
    let place : x.field ≡ y.field = same_place groups fields x.field y.field first second named in_first.within in_second.within (ap₂ (λ f g. bytes_eq f.name g.name) (sym is_first) (sym is_second) ∙ same) in
    subst (λ f. AreTuples groups f.reps y.slots) (ap (λ i. get_or fields i first) (sym place) ∙ sym is_first) (in_second.tuples first)

-- ---- valid models

names_differ : (model : Model) → IsValid model → are_distinct (names_of model) ≡ true
names_differ model valid = (both (has_valid_parts model && has_few_components model) (are_distinct (names_of model)) (valid_names model valid)).1

-- the names of groups and fermions, and those with the scalars
abbrev names_to_fermions : Model → List (List ℕ)
names_to_fermions model = flat_map group_names model.groups ++ map field_name model.fermions

abbrev names_to_scalars : Model → List (List ℕ)
names_to_scalars model = names_to_fermions model ++ map field_name model.scalars

distinct_to_scalars : (model : Model) → IsValid model → are_distinct (names_to_scalars model) ≡ true
distinct_to_scalars model valid =
    let tables = map table_name model.tables in
    distinct_left (names_to_scalars model) tables (distinct_left (names_to_scalars model ++ tables) (map term_name model.terms) (names_differ model valid))

reps_of_fields : (groups : List Group) (fields : List Field) → list_all (is_field groups) fields ≡ true → All (λ field. are_reps groups field.reps ≡ true) fields
reps_of_fields groups fields valid i d l = field_reps groups (get_or fields i d) (passes_at (is_field groups) fields i d valid l)

fermions_named : (model : Model) → IsValid model → AreNamed model.groups model.fermions
fermions_named model valid =
    record {
      valid = groups_pass model.groups (parts_groups model (valid_parts model valid));
      reps = reps_of_fields model.groups model.fermions (parts_fields model (valid_parts model valid));
      names = distinct_right (flat_map group_names model.groups) (map field_name model.fermions) (distinct_left (names_to_fermions model) (map field_name model.scalars) (distinct_to_scalars model valid));
    }

scalars_named : (model : Model) → IsValid model → AreNamed model.groups model.scalars
scalars_named model valid =
    record {
      valid = groups_pass model.groups (parts_groups model (valid_parts model valid));
      reps = reps_of_fields model.groups model.scalars (parts_scalar_fields model (valid_parts model valid));
      names = distinct_right (names_to_fermions model) (map field_name model.scalars) (distinct_to_scalars model valid);
    }

-- the fermions of a valid model
pub fermions_are_placed : (model : Model) → IsValid model → ArePlaced model.groups model.fermions (fermion_list model)
fermions_are_placed model valid =
    record {
      named = fermions_named model valid;
      placed = each_all (IsPlaced model.groups model.fermions) (fermion_list model) (fermions_placed model.groups model.fermions 0 model.fermions (stand_all model.fermions));
      few = omega (arith, length-entries model.fermions (fermion_list model) (fermion_components model) (fermion_entries model), valid_count model valid);
    }

-- the scalars of a valid model
pub scalars_are_placed : (model : Model) → IsValid model → ArePlaced model.groups model.scalars (scalar_list model)
scalars_are_placed model valid =
    record {
      named = scalars_named model valid;
      placed = each_all (IsPlaced model.groups model.scalars) (scalar_list model) (scalars_placed model.groups model.scalars 0 model.scalars (stand_all model.scalars));
      few = omega (arith, length-entries model.scalars (scalar_list model) (scalar_components model) (scalar_entries model), valid_scalar_count model valid);
    }
