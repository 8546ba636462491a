-- The links of a model's components are the projectors on the legs.
use Rattle.std.specs.Prelude.{◌≡◌, ◌≢◌, ◌<◌, ◌≤◌, ◌+◌, ◌⊎◌, ℕ, zero, suc, List, [], ◌∷◌, ◌++◌, length, map, slice_get, Option, Some, None, option_map}
use Rattle.std.specs.List.{All}
use Rattle.std.specs.Ordering.{nat_cmp}
use Rattle.std.proofs.Common.{refl, sym, ap, ap₂, ◌∙◌, arith, inl, inr, subst, length-append}
use Rattle.std.proofs.lemmas.List.{length-map}
use Rattle.std.proofs.lemmas.List.Elements.{All-append}
use Rattle.std.proofs.lemmas.Option.{slice_get-map, slice_get_past}
use Rattle.exact_algebra.specs.Ring.{zero_add}
use Rattle.exact_algebra.specs.Sums.{where_equal, where_equal-apart, nat_equal}
use Rattle.exact_algebra.specs.Kronecker.{where_zero}
use Rattle.frac128.specs.Rational.{ℚ, zero_ℚ, one_ℚ}
use Rattle.beta_poly.specs.Polynomial.{Polynomial, poly_ring, add_poly, zero_poly, constant}
use Rattle.sparse_tensor.specs.declared.links.Link.{Link}
use Rattle.sparse_tensor.specs.Laws.{IsBetween, link_value}
use Rattle.model_core.specs.declared.group.Group.{Group}
use Rattle.model_core.specs.declared.field.Field.{Field}
use Rattle.model_core.specs.declared.model.Model.{Model}
use Rattle.model_core.specs.declared.component_lists.FieldComponent.{FieldComponent}
use Rattle.model_core.specs.Component.{Component, fermion_components}
use Rattle.model_core.specs.Scalar.{Coordinate, scalar_components, scalar_coordinates}
use Rattle.model_core.specs.Scalar.Coordinate.{Of, Dummy}
use Rattle.model_core.specs.ComponentLists.{fermion_list, scalar_list}
use Rattle.model_core.specs.TermTensor.{fermion_coordinates}
use Rattle.term_expand.specs.Projectors.{projector_or_zero, place_projector, AreProjectors}
use Rattle.term_expand.specs.LinkSteps.{component_in, projector_between, place_projectors, all_links, dummy_link}
use Rattle.term_expand.proofs.AllLinks.{constant-zero, place_same, all_inside, all-value, value-dummy}
use Rattle.term_expand.proofs.PlacedComponents.{length-entries, entry_at, fermion_entries, scalar_entries}

none_first : (groups : List Group) (p : Option Component) → projector_between groups None p ≡ zero_ℚ
none_first groups None = refl
none_first groups (Some d) = refl

none_second : (groups : List Group) (o : Option Component) → projector_between groups o None ≡ zero_ℚ
none_second groups None = refl
none_second groups (Some c) = refl

module _ (groups : List Group) (fields : List Field) (entries : List FieldComponent) (components : List Component) (same : map (component_in fields) entries ≡ map Some components) where
  at_components : (x y : ℕ) → place_projectors groups fields entries x y ≡ projector_between groups (slice_get components x) (slice_get components y)
  unfolding place_projectors
  at_components x y = ap₂ (projector_between groups) (entry_at fields entries components same x) (entry_at fields entries components same y)

  outside_zero : (x y : ℕ) → (length entries ≤ x) ⊎ (length entries ≤ y) → place_projectors groups fields entries x y ≡ zero_ℚ
  outside_zero x y (inl past) =
      at_components x y
      ∙ ap (λ o. projector_between groups o (slice_get components y)) (slice_get_past components x (omega (arith, past, length-entries fields entries components same)))
      ∙ none_first groups (slice_get components y)
  outside_zero x y (inr past) =
      at_components x y
      ∙ ap (projector_between groups (slice_get components x)) (slice_get_past components y (omega (arith, past, length-entries fields entries components same)))
      ∙ none_second groups (slice_get components x)

  -- the value of all links
  links_value : (x y : ℕ) → link_value (all_links (place_projectors groups fields entries) (length entries) (length entries)) x y ≡ constant (projector_between groups (slice_get components x) (slice_get components y))
  links_value x y =
      all-value (place_projectors groups fields entries) x y (length entries) (outside_zero x y) ∙ ap constant (at_components x y)

  -- ---- without a dummy

  of_components : (o p : Option Component) → projector_between groups o p ≡ projector_or_zero groups (option_map Of o) (option_map Of p)
  of_components None p = none_first groups p
  of_components (Some c) None = refl
  of_components (Some c) (Some d) = refl

  -- all links are the projector on a leg of the components
  pub plain_projectors : AreProjectors groups (map Of components) (all_links (place_projectors groups fields entries) (length entries) (length entries))
  plain_projectors =
      record {
        between = subst (λ n. All (IsBetween n n) (all_links (place_projectors groups fields entries) (length entries) (length entries))) (length-entries fields entries components same ∙ sym (length-map components Of)) (all_inside (place_projectors groups fields entries) (length entries) (length entries));
        value = λ x y. links_value x y ∙ ap constant (of_components (slice_get components x) (slice_get components y) ∙ sym (ap₂ (projector_or_zero groups) (slice_get-map Of components x) (slice_get-map Of components y)));
      }

-- ---- with a dummy

-- what stands at a place of components with the dummy behind them: a component, the dummy, or nothing
record IsComponentAt (n x : ℕ) (o : Option Component) (q : Option Coordinate) : Type 0 where
  component : Component
  within : x < n
  first : o ≡ Some component
  second : q ≡ Some (Of component)

record IsDummyAt (n x : ℕ) (o : Option Component) (q : Option Coordinate) : Type 0 where
  place : x ≡ n
  first : o ≡ None
  second : q ≡ Some Dummy

record IsPast (n x : ℕ) (o : Option Component) (q : Option Coordinate) : Type 0 where
  past : n < x
  first : o ≡ None
  second : q ≡ None

abbrev Stands : ℕ → ℕ → Option Component → Option Coordinate → Type 0
Stands n x o q = IsComponentAt n x o q ⊎ (IsDummyAt n x o q ⊎ IsPast n x o q)

one_more : (n x : ℕ) (o : Option Component) (q : Option Coordinate) → Stands n x o q → Stands (suc n) (suc x) o q
one_more n x o q (inl a) = inl (record { component = a.component; within = omega (arith, a.within); first = a.first; second = a.second })
one_more n x o q (inr (inl a)) = inr (inl (record { place = ap suc a.place; first = a.first; second = a.second }))
one_more n x o q (inr (inr a)) = inr (inr (record { past = omega (arith, a.past); first = a.first; second = a.second }))

stands : (cs : List Component) (x : ℕ) → Stands (length cs) x (slice_get cs x) (slice_get (map Of cs ++ Dummy ∷ []) x)
stands [] zero = inr (inl (record { place = refl; first = refl; second = refl }))
stands [] (suc x) = inr (inr (record { past = omega arith; first = refl; second = refl }))
stands (c ∷ cs) zero = inl (record { component = c; within = omega arith; first = refl; second = refl })
stands (c ∷ cs) (suc x) = one_more (length cs) x (slice_get cs x) (slice_get (map Of cs ++ Dummy ∷ []) x) (stands cs x)

module _ (groups : List Group) (n x y : ℕ) (o p : Option Component) (q r : Option Coordinate) where
  -- what the link of the dummy gives
  abbrev dummy_weight : Polynomial
  dummy_weight = where_equal poly_ring.semiring (nat_cmp x n) (where_equal poly_ring.semiring (nat_cmp y n) (constant one_ℚ))

  no_dummy : (x ≢ n) ⊎ (y ≢ n) → dummy_weight ≡ zero_poly
  no_dummy (inl other) =
      where_equal-apart poly_ring.semiring (nat_cmp x n) (where_equal poly_ring.semiring (nat_cmp y n) (constant one_ℚ)) (λ e. other (nat_equal x n e))
  no_dummy (inr other) =
      ap (where_equal poly_ring.semiring (nat_cmp x n)) (where_equal-apart poly_ring.semiring (nat_cmp y n) (constant one_ℚ) (λ e. other (nat_equal y n e)))
      ∙ where_zero poly_ring.semiring (nat_cmp x n)

  abbrev Joined : Type 0
  Joined = add_poly (constant (projector_between groups o p)) dummy_weight ≡ constant (projector_or_zero groups q r)

  apart : (x ≢ n) ⊎ (y ≢ n) → projector_between groups o p ≡ projector_or_zero groups q r → Joined
  apart other e =
      ap₂ add_poly (ap constant e) (no_dummy other)
      ∙ poly_ring.semiring.add_zero (constant (projector_or_zero groups q r))

  together : IsDummyAt n x o q → IsDummyAt n y p r → Joined
  together a b =
      ap₂ add_poly (ap constant (ap₂ (projector_between groups) a.first b.first) ∙ constant-zero) (ap₂ (λ s t. where_equal poly_ring.semiring s (where_equal poly_ring.semiring t (constant one_ℚ))) (place_same x n a.place) (place_same y n b.place))
      ∙ zero_add poly_ring.semiring (constant one_ℚ)
      ∙ sym (ap constant (ap₂ (projector_or_zero groups) a.second b.second))

  joined : Stands n x o q → Stands n y p r → Joined
  joined (inl a) (inl b) =
      apart (inl (λ e. absurd (omega (arith, a.within, e)))) (ap₂ (projector_between groups) a.first b.first ∙ sym (ap₂ (projector_or_zero groups) a.second b.second))
  joined (inl a) (inr (inl b)) =
      apart (inl (λ e. absurd (omega (arith, a.within, e)))) (ap₂ (projector_between groups) a.first b.first ∙ sym (ap₂ (projector_or_zero groups) a.second b.second))
  joined (inl a) (inr (inr b)) =
      apart (inl (λ e. absurd (omega (arith, a.within, e)))) (ap₂ (projector_between groups) a.first b.first ∙ sym (ap₂ (projector_or_zero groups) a.second b.second))
  joined (inr (inr a)) (inl b) =
      apart (inl (λ e. absurd (omega (arith, a.past, e)))) (ap₂ (projector_between groups) a.first b.first ∙ sym (ap₂ (projector_or_zero groups) a.second b.second))
  joined (inr (inr a)) (inr (inl b)) =
      apart (inl (λ e. absurd (omega (arith, a.past, e)))) (ap₂ (projector_between groups) a.first b.first ∙ sym (ap₂ (projector_or_zero groups) a.second b.second))
  joined (inr (inr a)) (inr (inr b)) =
      apart (inl (λ e. absurd (omega (arith, a.past, e)))) (ap₂ (projector_between groups) a.first b.first ∙ sym (ap₂ (projector_or_zero groups) a.second b.second))
  joined (inr (inl a)) (inl b) =
      apart (inr (λ e. absurd (omega (arith, b.within, e)))) (ap₂ (projector_between groups) a.first b.first ∙ sym (ap₂ (projector_or_zero groups) a.second b.second))
  joined (inr (inl a)) (inr (inr b)) =
      apart (inr (λ e. absurd (omega (arith, b.past, e)))) (ap₂ (projector_between groups) a.first b.first ∙ sym (ap₂ (projector_or_zero groups) a.second b.second))
  joined (inr (inl a)) (inr (inl b)) = together a b

module _ (groups : List Group) (fields : List Field) (entries : List FieldComponent) (components : List Component) (same : map (component_in fields) entries ≡ map Some components) where
  abbrev plain_links : List Link
  plain_links = all_links (place_projectors groups fields entries) (length entries) (length entries)

  abbrev leg : List Coordinate
  leg = map Of components ++ Dummy ∷ []

  length-leg : length leg ≡ length entries + 1
  length-leg =
      length-append (map Of components) (Dummy ∷ [])
      ∙ ap (λ n. n + 1) (length-map components Of ∙ sym (length-entries fields entries components same))

  links_between : All (IsBetween (length leg) (length leg)) (plain_links ++ dummy_link (length entries) ∷ [])
  links_between =
      All-append (IsBetween (length leg) (length leg)) plain_links (dummy_link (length entries) ∷ []) (λ i d l. let h = all_inside (place_projectors groups fields entries) (length entries) (length entries) i d l in (omega (arith, h.0, length-leg), omega (arith, h.1, length-leg))) one
    where
      one : All (IsBetween (length leg) (length leg)) (dummy_link (length entries) ∷ [])
      one zero d l = (omega (arith, length-leg), omega (arith, length-leg))
      one (suc i) d l = absurd (omega (arith, l))

  links_joined : (x y : ℕ) → link_value (plain_links ++ dummy_link (length entries) ∷ []) x y ≡ constant (place_projector groups leg x y)
  links_joined x y =
      let n = length-entries fields entries components same in
      value-dummy plain_links (length entries) x y
      ∙ ap₂ (λ v k. add_poly v (where_equal poly_ring.semiring (nat_cmp x k) (where_equal poly_ring.semiring (nat_cmp y k) (constant one_ℚ)))) (links_value groups fields entries components same x y) n
      ∙ joined groups (length components) x y (slice_get components x) (slice_get components y) (slice_get leg x) (slice_get leg y) (stands components x) (stands components y)

  -- all links and that of the dummy are the projector on a leg with the dummy last
  pub dummy_projectors : AreProjectors groups leg (plain_links ++ dummy_link (length entries) ∷ [])
  dummy_projectors = record { between = links_between; value = links_joined }

-- ---- a model's links

-- the links of groups, fields and entries
abbrev links_of : List Group → List Field → List FieldComponent → List Link
links_of groups fields entries = all_links (place_projectors groups fields entries) (length entries) (length entries)

links_of-same : (gs hs : List Group) (fs ks : List Field) (xs ys : List FieldComponent) → gs ≡ hs → fs ≡ ks → xs ≡ ys → links_of gs fs xs ≡ links_of hs ks ys
links_of-same gs hs fs ks xs ys same_groups same_fields same_entries =
    ap (λ g. links_of g fs xs) same_groups ∙ ap (λ f. links_of hs f xs) same_fields ∙ ap (links_of hs ks) same_entries

-- the projector on the fermions' legs
pub fermion_projectors : (model : Model) (groups : List Group) (fields : List Field) (entries : List FieldComponent) (links : List Link) → groups ≡ model.groups → fields ≡ model.fermions → entries ≡ fermion_list model
    → links ≡ all_links (place_projectors groups fields entries) (length entries) (length entries) → AreProjectors model.groups (fermion_coordinates model) links
fermion_projectors model groups fields entries links same_groups same_fields same_entries is =
    subst (AreProjectors model.groups (fermion_coordinates model)) (sym (is ∙ links_of-same groups model.groups fields model.fermions entries (fermion_list model) same_groups same_fields same_entries)) (plain_projectors model.groups model.fermions (fermion_list model) (fermion_components model) (fermion_entries model))

-- the projector on the scalars' legs
pub scalar_projectors : (model : Model) (groups : List Group) (fields : List Field) (entries : List FieldComponent) (others links : List Link) (place : ℕ) → groups ≡ model.groups → fields ≡ model.scalars → entries ≡ scalar_list model
    → others ≡ all_links (place_projectors groups fields entries) (length entries) (length entries) → place ≡ length (scalar_list model) → links ≡ others ++ dummy_link place ∷ [] → AreProjectors model.groups (scalar_coordinates model) links
scalar_projectors model groups fields entries others links place same_groups same_fields same_entries plain counted is =
    let same = plain ∙ links_of-same groups model.groups fields model.scalars entries (scalar_list model) same_groups same_fields same_entries in
    subst (AreProjectors model.groups (scalar_coordinates model)) (sym (is ∙ ap₂ (λ ls k. ls ++ dummy_link k ∷ []) same counted)) (dummy_projectors model.groups model.scalars (scalar_list model) (scalar_components model) (scalar_entries model))

-- links between components are between their places
pub links_inside : (at : ℕ → ℕ → ℚ) (n : ℕ) (links : List Link) → links ≡ all_links at n n → All (IsBetween n n) links
links_inside at n links is = subst (All (IsBetween n n)) (sym is) (all_inside at n n)
