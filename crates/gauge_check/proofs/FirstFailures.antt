-- The first failure of a direction on a side, and walks over failures.
use Rattle.std.specs.Prelude.{◌≡◌, ◌≢◌, if◌then◌else◌, ℕ, Bool, true, false, List, [], ◌∷◌, length, slice_get, Some}
use Rattle.std.specs.List.{flat_map}
use Rattle.std.proofs.Common.{refl, sym, ap, subst, ◌∙◌, arith}
use Rattle.std.proofs.lemmas.List.Folds.{flat_map-map}
use Rattle.frac128.specs.Rational.{ℚ, zero_ℚ, eq_ℚ}
use Rattle.frac128.specs.RationalOrder.{Decides-eq_ℚ}
use Rattle.beta_poly.specs.Monomial.{one_monomial}
use Rattle.beta_poly.specs.Polynomial.{Polynomial, coefficient_of}
use Rattle.sparse_tensor.specs.Tensor.{Tensor, entries_of}
use Rattle.model_core.specs.declared.generator.Generator.{Generator}
use Rattle.model_core.specs.declared.group.Group.{Group}
use Rattle.model_core.specs.declared.leg.Leg.{Leg}
use Rattle.model_core.specs.declared.model.Model.{Model}
use Rattle.model_core.specs.declared.term.Term.{Term}
use Rattle.model_core.specs.declared.term.TermKind.{TermKind}
use Rattle.model_core.specs.TermTensor.{legs_of}
use Rattle.model_core.specs.Directions.{Direction}
use Rattle.model_core.specs.Invariance.{Failure, change, keys_of, failure_at, component_legs}
use Rattle.model_core.specs.Invariance.Failure.{NotInvariant}
use Rattle.term_expand.specs.Multiples.{HasCoordinates}
use Rattle.term_expand.specs.Texts.{leg_count}
use Rattle.term_expand.proofs.Conjugates.{leg_number}
use Rattle.gauge_check.specs.declared.fault.TermFault.{TermFault}
use Rattle.gauge_check.specs.declared.fault.TermFault.TheVariants as fault
use Rattle.gauge_check.specs.Faults.{name_of, group_name, fault_of, IsFirstOf}
use Rattle.gauge_check.specs.Steps.{HasKeyNumbers, side_failures}
use Rattle.gauge_check.proofs.FirstKeys.{number_of, first_entry, no_entry}
use Rattle.gauge_check.proofs.KeyLists.{IsFirst, no_keys, first_key_of}

-- the first failure as it is answered
pub is_first_of : (model : Model) (b : Failure) (fs : List Failure) (f : TermFault) → IsFirst b fs → f ≡ fault_of model b → IsFirstOf model fs f
is_first_of model b [] f first is = absurd first
is_first_of model b (x ∷ fs) f first is = is ∙ ap (fault_of model) (sym first)

pub no_items : {A : Type 0} (xs : List A) (n : ℕ) → n ≡ length xs → n ≡ 0 → xs ≡ []
no_items [] n counted none = refl
no_items (x ∷ xs) n counted none = absurd (omega (arith, counted, none))

-- ---- a direction on a side

module _ (model : Model) (term : Term) (meant : Direction) (x : Generator) (side : ℕ) where
  abbrev moved : List ℕ → ℚ
  moved key = change model meant x (side ∷ key)

  abbrev failing : List ℕ → List Failure
  failing key = failure_at model term meant x (side ∷ key)

  abbrev failure : List ℕ → Failure
  failure key = NotInvariant meant.place term x (side ∷ key) (moved key)

  over_keys : side_failures model term meant x side ≡ flat_map failing (keys_of (legs_of model meant.kind))
  over_keys = flat_map-map (failure_at model term meant x) (λ key. side ∷ key) (keys_of (legs_of model meant.kind))

  unchanged : (key : List ℕ) → moved key ≡ zero_ℚ → failing key ≡ []
  unchanged key e = ap (λ b. if b then [] else failure key ∷ []) ((Decides-eq_ℚ (moved key) zero_ℚ).1 e)

  fails : (key : List ℕ) → moved key ≢ zero_ℚ → IsFirst (failure key) (failing key)
  fails key nonzero = by_test (eq_ℚ (moved key) zero_ℚ) refl
    where
      by_test : (b : Bool) → eq_ℚ (moved key) zero_ℚ ≡ b → IsFirst (failure key) (failing key)
      by_test true e = absurd (nonzero ((Decides-eq_ℚ (moved key) zero_ℚ).0 e))
      by_test false e = subst (λ b. IsFirst (failure key) (if b then [] else failure key ∷ [])) (sym e) refl

  module _ (kind : TermKind) (same : meant.kind ≡ kind) (t : Tensor) (has : HasKeyNumbers model kind moved t) where
    key_long : (key : List ℕ) → length key ≡ length (legs_of model meant.kind) → length key ≡ leg_count kind
    key_long key l = l ∙ leg_number model meant.kind ∙ ap leg_count same

    -- nothing fails where the change is 0
    pub no_change : entries_of t ≡ [] → side_failures model term meant x side ≡ []
    no_change none = over_keys ∙ no_keys (legs_of model meant.kind) failing (λ key l. unchanged key (no_entry model kind moved t has key none (key_long key l)))

    -- else it fails first at the change's first entry
    pub first_change : (e : List ℕ × Polynomial) → slice_get (entries_of t) 0 ≡ Some e → IsFirst (failure e.0) (side_failures model term meant x side)
    first_change e found =
        let first = first_entry model kind moved t has e found in
        let inside : HasCoordinates model meant.kind e.0 = subst (λ k. HasCoordinates model k e.0) (sym same) first.inside in
        subst (IsFirst (failure e.0)) (sym over_keys)
        (first_key_of (legs_of model meant.kind) e.0 inside.coordinates failing (failure e.0) inside.at
        (λ key l less. unchanged key (first.before key (key_long key l) less)) (fails e.0 first.nonzero))

    -- and its value there
    pub first_value : (e : List ℕ × Polynomial) (value : ℚ) → slice_get (entries_of t) 0 ≡ Some e → value ≡ coefficient_of e.1 one_monomial → value ≡ moved e.0
    first_value e value found is =
        is ∙ ap (λ p. coefficient_of p one_monomial) (first_entry model kind moved t has e found).number ∙ number_of (moved e.0)

  -- the failure as it is answered
  pub change_fault : (key : List ℕ) (place : ℕ) (coupling : List ℕ) (group : Group) (name : List ℕ) (component : List Leg) (value : ℚ) → meant.place ≡ place → coupling ≡ term.coupling → slice_get model.groups x.place ≡ Some group → name ≡ group.name
      → component ≡ component_legs model term.kind (side ∷ key) → value ≡ moved key → fault.NotInvariant place coupling name x.i x.j component value ≡ fault_of model (failure key)
  change_fault key place coupling group name component value places couplings found names components values =
      let named : name ≡ group_name model x.place = names ∙ ap name_of (sym found) in
      λ i. fault.NotInvariant (sym places i) (couplings i) (named i) x.i x.j (components i) (values i)
