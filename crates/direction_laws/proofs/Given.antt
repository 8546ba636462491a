-- Only components that stand for the fields of a monomial give it a value: so their tokens are those of its content.
use Rattle.std.proofs.Common.{◌≡◌, ℕ, zero, suc, Bool, true, false, List, [], ◌∷◌, ◌++◌, map, Option, Some, None, refl, sym, subst, ap, ◌∙◌}
use Rattle.std.specs.Prelude.{⊤, ◌==◌, ◌&&◌, ◌||◌, not, if◌then◌else◌, slice_get}
use Rattle.std.specs.List.{AllByRecursion, flat_map, list_all, list_any}
use Rattle.std.specs.Str.{bytes_eq}
use Rattle.std.proofs.lemmas.Slice.Eq.{bytes_eq-Decides}
use Rattle.exact_algebra.specs.Orders.{Rearranged, same, keep, then as thereafter}
use Rattle.exact_algebra.specs.Sums.{sum-same_on, sum-zero}
use Rattle.frac128.specs.Rational.{zero_ℚ}
use Rattle.frac128.specs.RationalLaws.{ring_ℚ}
use Rattle.model_core.specs.declared.component_lists.FieldComponent.{FieldComponent}
use Rattle.model_core.specs.declared.content.FieldToken.{FieldToken}
use Rattle.model_core.specs.declared.content.FieldUse.{FieldUse}
use Rattle.model_core.specs.declared.content.LabelValue.{LabelValue}
use Rattle.model_core.specs.declared.field.Field.{Field}
use Rattle.model_core.specs.declared.model.Model.{Model}
use Rattle.model_core.specs.declared.term.Factor.{Factor}
use Rattle.model_core.specs.declared.term.Factor.TheVariants.{Fermion as FermionFactor, Scalar as ScalarFactor, Eps, Table as TableFactor}
use Rattle.model_core.specs.declared.term.Monomial.{Monomial}
use Rattle.model_core.specs.declared.term.Term.{Term}
use Rattle.model_core.specs.declared.term.TermKind.{TermKind}
use Rattle.model_core.specs.declared.term.TermKind.TheVariants.{Fermion, Scalar}
use Rattle.model_core.specs.BlockSide.{token_of}
use Rattle.model_core.specs.Component.{Component, same_side}
use Rattle.model_core.specs.Scalar.{Coordinate}
use Rattle.model_core.specs.Scalar.Coordinate.{Of, Dummy}
use Rattle.model_core.specs.Content.{generation_at, token_at, content_at, sorted}
use Rattle.model_core.specs.Factors.{uses}
use Rattle.model_core.specs.MonomialValue.{is_named, stands_for, is_dummy, filled, given, value_at_slots, monomial_at, text_at}
use Rattle.model_core.specs.Valid.{are_distinct, field_name}
use Rattle.model_core.proofs.ValidLaws.{both}
use Rattle.direction_laws.proofs.Sorting.{map_rearranged, middle, sorted_rearranged}
use Rattle.direction_laws.proofs.SameUses.{sides_alike, numbers_alike}

-- ---- fields with one name

any_named : (fields : List Field) (j : ℕ) (name : List ℕ) (c : Component) → name ≡ c.field.name → is_named (slice_get fields j) c ≡ true → list_any (bytes_eq name) (map field_name fields) ≡ true
any_named [] j name c e h = let never : ⊥ = cc in absurd never
any_named (f ∷ fields) zero name c e h =
    let alike : f.name ≡ c.field.name = (bytes_eq-Decides f.name c.field.name).0 h in
    ap (λ b. b || list_any (bytes_eq name) (map field_name fields)) ((bytes_eq-Decides name f.name).1 (e ∙ sym alike))
any_named (f ∷ fields) (suc j) name c e h = ap (λ b. bytes_eq name f.name || b) (any_named fields j name c e h) ∙ or_true (bytes_eq name f.name)
  where
    or_true : (b : Bool) → (b || true) ≡ true
    or_true true = refl
    or_true false = refl

never_named : (b : Bool) → not b ≡ true → b ≡ true → ⊥
never_named true h k = cc
never_named false h k = cc

one_field : (fields : List Field) (i j : ℕ) (c : Component) → are_distinct (map field_name fields) ≡ true → is_named (slice_get fields i) c ≡ true → is_named (slice_get fields j) c ≡ true → i ≡ j
one_field [] i j c distinct h k = let never : ⊥ = cc in absurd never
one_field (f ∷ fields) zero zero c distinct h k = refl
one_field (f ∷ fields) zero (suc j) c distinct h k =
    absurd (never_named (list_any (bytes_eq f.name) (map field_name fields)) (both (not (list_any (bytes_eq f.name) (map field_name fields))) (are_distinct (map field_name fields)) distinct).0 (any_named fields j f.name c ((bytes_eq-Decides f.name c.field.name).0 h) k))
one_field (f ∷ fields) (suc i) zero c distinct h k =
    absurd (never_named (list_any (bytes_eq f.name) (map field_name fields)) (both (not (list_any (bytes_eq f.name) (map field_name fields))) (are_distinct (map field_name fields)) distinct).0 (any_named fields i f.name c ((bytes_eq-Decides f.name c.field.name).0 k) h))
one_field (f ∷ fields) (suc i) (suc j) c distinct h k =
    ap suc (one_field fields i j c (both (not (list_any (bytes_eq f.name) (map field_name fields))) (are_distinct (map field_name fields)) distinct).1 h k)

-- ---- marked coordinates

-- a coordinate with the component among those of the fields that it stands for, none for the dummy
abbrev pub Marked : Type 0
Marked = Option FieldComponent × Coordinate

abbrev pub Stands : List Field → Option FieldComponent → Coordinate → Type 0
Stands fields None Dummy = ⊤
Stands fields None (Of c) = ⊥
Stands fields (Some x) Dummy = ⊥
Stands fields (Some x) (Of c) = stands_for (slice_get fields x.field) x.conj x.generation c ≡ true

abbrev pub IsMarked : List Field → Marked → Type 0
IsMarked fields m = Stands fields m.0 m.1

abbrev pub mark_of : Marked → Option FieldComponent
mark_of m = m.0

abbrev pub coordinate_of : Marked → Coordinate
coordinate_of m = m.1

abbrev pub marks : TermKind → List (Option FieldComponent) → List FieldToken
marks kind ms = flat_map (token_of kind) ms

abbrev pub tokens : TermKind → List Marked → List FieldToken
tokens kind ps = marks kind (map mark_of ps)

-- the token of a component that stands for a field
abbrev token_at_component : TermKind → FieldComponent → FieldToken
token_at_component kind x = record { kind = kind; field = x.field; conj = x.conj; generation = x.generation }

one_token : (kind : TermKind) (fields : List Field) (field : ℕ) (conj : Bool) (generation : ℕ) (x : FieldComponent) (c : Component) → are_distinct (map field_name fields) ≡ true
    → stands_for (slice_get fields field) conj generation c ≡ true → stands_for (slice_get fields x.field) x.conj x.generation c ≡ true
    → record { kind = kind; field = field; conj = conj; generation = generation } ≡ token_at_component kind x
one_token kind fields field conj generation x c distinct h k =
    let first = both (is_named (slice_get fields field) c && same_side conj c.conj) (generation == c.generation) h in
    let second = both (is_named (slice_get fields field) c) (same_side conj c.conj) first.0 in
    let third = both (is_named (slice_get fields x.field) c && same_side x.conj c.conj) (x.generation == c.generation) k in
    let fourth = both (is_named (slice_get fields x.field) c) (same_side x.conj c.conj) third.0 in
    let places : field ≡ x.field = one_field fields field x.field c distinct second.0 fourth.0 in
    let sides : conj ≡ x.conj = sides_alike conj c.conj second.1 ∙ sym (sides_alike x.conj c.conj fourth.1) in
    let generations : generation ≡ x.generation = numbers_alike generation c.generation first.1 ∙ sym (numbers_alike x.generation c.generation third.1) in
    λ i. record { kind = kind; field = places i; conj = sides i; generation = generations i }

-- ---- what is given

filled_told : (b : Bool) (labels : List ℕ) (c : Component) (others : Option (List LabelValue)) (slots : List LabelValue) → filled b labels c others ≡ Some slots → (b ≡ true) × ((rest : List LabelValue) × (others ≡ Some rest))
filled_told false labels c others slots h = let never : ⊥ = cc in absurd never
filled_told true labels c None slots h = let never : ⊥ = cc in absurd never
filled_told true labels c (Some rest) slots h = (refl, (rest, refl))

dummies_told : (b : Bool) (slots : List LabelValue) → (if b then Some [] else None) ≡ Some slots → b ≡ true
dummies_told true slots h = refl
dummies_told false slots h = let never : ⊥ = cc in absurd never

no_tokens : (fields : List Field) (ps : List Marked) → AllByRecursion (IsMarked fields) ps → list_all is_dummy (map coordinate_of ps) ≡ true → tokens Scalar ps ≡ []
no_tokens fields [] h k = refl
no_tokens fields ((None, d) ∷ ps) h k = no_tokens fields ps h.1 (both (is_dummy d) (list_all is_dummy (map coordinate_of ps)) k).1
no_tokens fields ((Some x, Dummy) ∷ ps) h k = absurd h.0
no_tokens fields ((Some x, Of c) ∷ ps) h k = let never : ⊥ = cc in absurd never

module _ (model : Model) (fermion_names : are_distinct (map field_name model.fermions) ≡ true) (scalar_names : are_distinct (map field_name model.scalars) ≡ true) (row column : ℕ) where
  -- the tokens of a monomial's fields are those of the components that are given to them
  pub given_tokens : (factors : List Factor) (fs ss : List Marked) → AllByRecursion (IsMarked model.fermions) fs → AllByRecursion (IsMarked model.scalars) ss → (slots : List LabelValue)
      → given model row column factors (map coordinate_of fs) (map coordinate_of ss) ≡ Some slots → Rearranged (map (token_at row column) (uses factors)) (tokens Fermion fs ++ tokens Scalar ss)
  given_tokens [] [] ss f s slots h =
      subst (λ ts. Rearranged [] ts) (sym (no_tokens model.scalars ss s (dummies_told (list_all is_dummy (map coordinate_of ss)) slots h))) same
  given_tokens [] (m ∷ fs) ss f s slots h = let never : ⊥ = cc in absurd never
  given_tokens (FermionFactor field generation labels ∷ factors) [] ss f s slots h = let never : ⊥ = cc in absurd never
  given_tokens (FermionFactor field generation labels ∷ factors) ((m, Dummy) ∷ fs) ss f s slots h = let never : ⊥ = cc in absurd never
  given_tokens (FermionFactor field generation labels ∷ factors) ((None, Of c) ∷ fs) ss f s slots h = absurd f.0
  given_tokens (FermionFactor field generation labels ∷ factors) ((Some x, Of c) ∷ fs) ss f s slots h =
      let told = filled_told (stands_for (slice_get model.fermions field) false (generation_at row column generation) c) labels c (given model row column factors (map coordinate_of fs) (map coordinate_of ss)) slots h in
      let token = one_token Fermion model.fermions field false (generation_at row column generation) x c fermion_names told.0 f.0 in
      let others = given_tokens factors fs ss f.1 s told.1.0 told.1.1 in
      subst (λ t. Rearranged (token_at row column (record { kind = Fermion; field = field; conj = false; generation = generation }) ∷ map (token_at row column) (uses factors)) (t ∷ tokens Fermion fs ++ tokens Scalar ss)) token (keep others)
  given_tokens (ScalarFactor field conj generation labels ∷ factors) fs [] f s slots h = let never : ⊥ = cc in absurd never
  given_tokens (ScalarFactor field conj generation labels ∷ factors) fs ((m, Dummy) ∷ ss) f s slots h = let never : ⊥ = cc in absurd never
  given_tokens (ScalarFactor field conj generation labels ∷ factors) fs ((None, Of c) ∷ ss) f s slots h = absurd s.0
  given_tokens (ScalarFactor field conj generation labels ∷ factors) fs ((Some x, Of c) ∷ ss) f s slots h =
      let told = filled_told (stands_for (slice_get model.scalars field) conj (generation_at row column generation) c) labels c (given model row column factors (map coordinate_of fs) (map coordinate_of ss)) slots h in
      let token = one_token Scalar model.scalars field conj (generation_at row column generation) x c scalar_names told.0 s.0 in
      let others = given_tokens factors fs ss f s.1 told.1.0 told.1.1 in
      thereafter
      (subst (λ t. Rearranged (token_at row column (record { kind = Scalar; field = field; conj = conj; generation = generation }) ∷ map (token_at row column) (uses factors)) (t ∷ tokens Fermion fs ++ tokens Scalar ss)) token (keep others))
      (middle (tokens Fermion fs) (token_at_component Scalar x) (tokens Scalar ss))
  given_tokens (Eps labels ∷ factors) fs ss f s slots h = given_tokens factors fs ss f s slots h
  given_tokens (TableFactor table labels ∷ factors) fs ss f s slots h = given_tokens factors fs ss f s slots h

  -- ---- values

  -- components with other tokens than the content's
  abbrev pub AreOthers : List FieldUse → List Marked → List Marked → Type 0
  AreOthers first fs ss = sorted (tokens Fermion fs ++ tokens Scalar ss) ≡ content_at first row column → ⊥

  monomial_zero : (first : List FieldUse) (fs ss : List Marked) → AllByRecursion (IsMarked model.fermions) fs → AllByRecursion (IsMarked model.scalars) ss → AreOthers first fs ss
      → (monomial : Monomial) → Rearranged first (uses monomial.factors) → monomial_at model row column (map coordinate_of fs) (map coordinate_of ss) monomial ≡ zero_ℚ
  monomial_zero first fs ss f s others monomial r = by_slots (given model row column monomial.factors (map coordinate_of fs) (map coordinate_of ss)) refl
    where
      by_slots : (o : Option (List LabelValue)) → given model row column monomial.factors (map coordinate_of fs) (map coordinate_of ss) ≡ o → value_at_slots model monomial o ≡ zero_ℚ
      by_slots None h = refl
      by_slots (Some slots) h =
          absurd (others (sym (sorted_rearranged (thereafter (map_rearranged (token_at row column) r) (given_tokens monomial.factors fs ss f s slots h)))))

  -- to these a text gives 0
  pub text_zero : (term : Term) (first : List FieldUse) → AllByRecursion (λ m. Rearranged first (uses m.factors)) term.monomials → (fs ss : List Marked) → AllByRecursion (IsMarked model.fermions) fs → AllByRecursion (IsMarked model.scalars) ss → AreOthers first fs ss
      → text_at model term row column (map coordinate_of fs) (map coordinate_of ss) ≡ zero_ℚ
  text_zero term first each fs ss f s others =
      sum-same_on ring_ℚ.semiring (λ m. Rearranged first (uses m.factors)) term.monomials (monomial_at model row column (map coordinate_of fs) (map coordinate_of ss)) (λ _. zero_ℚ) each (monomial_zero first fs ss f s others)
      ∙ sum-zero ring_ℚ.semiring term.monomials
