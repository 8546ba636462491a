-- The tensor of a text is 0 at coordinates with other tokens than the text's content.
use Rattle.std.proofs.Common.{◌≡◌, ℕ, Bool, true, false, List, [], ◌∷◌, ◌++◌, map, Option, Some, None, refl, sym, ap, ap₂, ◌∙◌}
use Rattle.std.specs.Prelude.{⊤, ◌==◌, ◌&&◌, if◌then◌else◌, slice_get}
use Rattle.std.specs.List.{AllByRecursion, AllZip}
use Rattle.std.specs.Str.{bytes_eq}
use Rattle.std.proofs.lemmas.List.{append-nil}
use Rattle.std.proofs.lemmas.Slice.Eq.{bytes_eq-Decides}
use Rattle.exact_algebra.specs.Orders.{Rearranged, swap, orders, orders-rearranged, sum_orders-map, sum_orders-two}
use Rattle.exact_algebra.specs.Ring.{zero_mul}
use Rattle.exact_algebra.specs.Sums.{sum-same, sum-same_on, sum-zero}
use Rattle.frac128.specs.Rational.{ℚ, zero_ℚ, ◌+ℚ◌, ◌*ℚ◌}
use Rattle.frac128.specs.RationalLaws.{ring_ℚ}
use Rattle.model_core.specs.declared.component_lists.FieldComponent.{FieldComponent}
use Rattle.model_core.specs.declared.content.FieldUse.{FieldUse}
use Rattle.model_core.specs.declared.field.Field.{Field}
use Rattle.model_core.specs.declared.group.Group.{Group}
use Rattle.model_core.specs.declared.model.Model.{Model}
use Rattle.model_core.specs.declared.term.Term.{Term}
use Rattle.model_core.specs.declared.term.TermKind.{TermKind}
use Rattle.model_core.specs.declared.term.TermKind.TheVariants.{Fermion, Scalar}
use Rattle.model_core.specs.Component.{Component, are_copies, projector_over, same_side}
use Rattle.model_core.specs.Content.{content_at, sorted}
use Rattle.model_core.specs.Factors.{uses}
use Rattle.model_core.specs.MonomialValue.{is_named, stands_for, text_at}
use Rattle.model_core.specs.Scalar.{Coordinate}
use Rattle.model_core.specs.Scalar.Coordinate.{Of, Dummy}
use Rattle.model_core.specs.TermTensor.{Numbers, coordinate_projector, projected, fermion_ways, scalar_ways}
use Rattle.model_core.specs.Valid.{are_distinct, field_name}
use Rattle.model_core.proofs.ValidLaws.{both}
use Rattle.direction_laws.proofs.Given.{Marked, Stands, IsMarked, mark_of, coordinate_of, marks, tokens, text_zero}
use Rattle.direction_laws.proofs.SameUses.{sides_alike, numbers_alike}
use Rattle.direction_laws.proofs.Sorting.{all_rearranged, sorted_rearranged, map_rearranged, tokens_rearranged}

-- ---- copies

-- the coordinates between which the projector may be other than 0
abbrev pub IsCopy : Coordinate → Coordinate → Type 0
IsCopy (Of d) (Of c) = are_copies d c ≡ true
IsCopy Dummy Dummy = ⊤
IsCopy _ _ = ⊥

-- a copy stands for what the coordinate stands for
component_copied : (field : Option Field) (conj : Bool) (generation : ℕ) (d c : Component) → are_copies d c ≡ true → stands_for field conj generation c ≡ true → stands_for field conj generation d ≡ true
component_copied field conj generation d c copy h =
    let first = both (bytes_eq d.field.name c.field.name && same_side d.conj c.conj) (d.generation == c.generation) copy in
    let second = both (bytes_eq d.field.name c.field.name) (same_side d.conj c.conj) first.0 in
    let names : d.field.name ≡ c.field.name = (bytes_eq-Decides d.field.name c.field.name).0 second.0 in
    let sides : d.conj ≡ c.conj = sides_alike d.conj c.conj second.1 in
    let generations : d.generation ≡ c.generation = numbers_alike d.generation c.generation first.1 in
    ap₂ (λ a b. (a && same_side conj d.conj) && generation == b) (by_field field names) generations
    ∙ ap (λ b. (is_named field c && same_side conj b) && generation == c.generation) sides ∙ h
  where
    by_field : (o : Option Field) → d.field.name ≡ c.field.name → is_named o d ≡ is_named o c
    by_field None e = refl
    by_field (Some f) e = ap (bytes_eq f.name) e

pub copied : (fields : List Field) (m : Option FieldComponent) (d c : Coordinate) → IsCopy d c → Stands fields m c → Stands fields m d
copied fields None (Of d) (Of c) copy h = h
copied fields None (Of d) Dummy copy h = absurd copy
copied fields None Dummy (Of c) copy h = absurd copy
copied fields None Dummy Dummy copy h = h
copied fields (Some x) (Of d) (Of c) copy h = component_copied (slice_get fields x.field) x.conj x.generation d c copy h
copied fields (Some x) (Of d) Dummy copy h = absurd copy
copied fields (Some x) Dummy (Of c) copy h = absurd copy
copied fields (Some x) Dummy Dummy copy h = h

-- ---- projections

module _ (groups : List Group) where
  summand : (c d : Coordinate) (value : ℚ) → (IsCopy d c → value ≡ zero_ℚ) → coordinate_projector groups d c *ℚ value ≡ zero_ℚ
  summand (Of c) (Of d) value h = by_test (are_copies d c) refl
    where
      by_test : (b : Bool) → are_copies d c ≡ b → coordinate_projector groups (Of d) (Of c) *ℚ value ≡ zero_ℚ
      by_test true e = ap (λ v. coordinate_projector groups (Of d) (Of c) *ℚ v) (h e) ∙ ring_ℚ.semiring.mul_zero (coordinate_projector groups (Of d) (Of c))
      by_test false e = ap (λ (b : Bool). (if b then projector_over groups d.field.reps d.values c.values else zero_ℚ) *ℚ value) e ∙ zero_mul ring_ℚ.semiring value
  summand (Of c) Dummy value h = zero_mul ring_ℚ.semiring value
  summand Dummy (Of d) value h = zero_mul ring_ℚ.semiring value
  summand Dummy Dummy value h = ap (λ v. coordinate_projector groups Dummy Dummy *ℚ v) (h tt) ∙ ring_ℚ.semiring.mul_zero (coordinate_projector groups Dummy Dummy)

  -- a function that is 0 at all copies of coordinates is projected to 0 there
  pub projected_zero : (legs : List (List Coordinate)) (f : Numbers) (cs : List Coordinate) → ((ds : List Coordinate) → AllZip IsCopy ds cs → f ds ≡ zero_ℚ) → projected groups legs f cs ≡ zero_ℚ
  unfolding projected
  projected_zero [] f [] h = h [] tt
  projected_zero [] f (c ∷ cs) h = refl
  projected_zero (leg ∷ legs) f [] h = refl
  projected_zero (leg ∷ legs) f (c ∷ cs) h =
      sum-same ring_ℚ.semiring leg (λ d. coordinate_projector groups d c *ℚ projected groups legs (λ ds. f (d ∷ ds)) cs) (λ _. zero_ℚ)
      (λ d. summand c d (projected groups legs (λ ds. f (d ∷ ds)) cs) (λ copy. projected_zero legs (λ ds. f (d ∷ ds)) cs (λ ds copies. h (d ∷ ds) (copy, copies))))
      ∙ sum-zero ring_ℚ.semiring leg

-- ---- all ways to give the legs

same_tokens : (kind : TermKind) (xs ys : List (Option FieldComponent)) → Rearranged xs ys → sorted (marks kind xs) ≡ sorted (marks kind ys)
same_tokens kind xs ys r =
    ap sorted (sym (append-nil (marks kind xs))) ∙ sorted_rearranged (tokens_rearranged kind xs ys [] r) ∙ ap sorted (append-nil (marks kind ys))

module _ (model : Model) (fermion_names : are_distinct (map field_name model.fermions) ≡ true) (scalar_names : are_distinct (map field_name model.scalars) ≡ true) (term : Term) (row column : ℕ) (first : List FieldUse) (each : AllByRecursion (λ m. Rearranged first (uses m.factors)) term.monomials) where
  -- two fermions and a scalar
  pub fermion_zero : (j k a : Marked) → IsMarked model.fermions j → IsMarked model.fermions k → IsMarked model.scalars a → (sorted (tokens Fermion (j ∷ k ∷ []) ++ tokens Scalar (a ∷ [])) ≡ content_at first row column → ⊥)
      → fermion_ways model term row column (j.1 ∷ k.1 ∷ a.1 ∷ []) ≡ zero_ℚ
  fermion_zero j k a mj mk ma others =
      let one = text_zero model fermion_names scalar_names row column term first each (j ∷ k ∷ []) (a ∷ []) (mj, (mk, tt)) (ma, tt) others in
      let other_way : sorted (tokens Fermion (k ∷ j ∷ []) ++ tokens Scalar (a ∷ [])) ≡ content_at first row column → ⊥ = λ same. others (sorted_rearranged (tokens_rearranged Fermion (j.0 ∷ k.0 ∷ []) (k.0 ∷ j.0 ∷ []) (marks Scalar (a.0 ∷ [])) swap) ∙ same) in
      let other = text_zero model fermion_names scalar_names row column term first each (k ∷ j ∷ []) (a ∷ []) (mk, (mj, tt)) (ma, tt) other_way in
      sum_orders-two ring_ℚ.semiring j.1 k.1 (λ fermions. text_at model term row column fermions (a.1 ∷ []))
      ∙ ap₂ ◌+ℚ◌ one other ∙ ring_ℚ.semiring.add_zero zero_ℚ

  -- scalars
  pub scalar_zero : (ps : List Marked) → AllByRecursion (IsMarked model.scalars) ps → (sorted (tokens Scalar ps) ≡ content_at first row column → ⊥) → scalar_ways model term row column (map coordinate_of ps) ≡ zero_ℚ
  scalar_zero ps marked others =
      sum_orders-map ring_ℚ.semiring coordinate_of ps (text_at model term row column [])
      ∙ sum-same_on ring_ℚ.semiring (Rearranged ps) (orders ps) (λ w. text_at model term row column [] (map coordinate_of w)) (λ _. zero_ℚ) (orders-rearranged ps) one_order
      ∙ sum-zero ring_ℚ.semiring (orders ps)
    where
      one_order : (w : List Marked) → Rearranged ps w → text_at model term row column [] (map coordinate_of w) ≡ zero_ℚ
      one_order w r =
          text_zero model fermion_names scalar_names row column term first each [] w tt (all_rearranged (IsMarked model.scalars) r marked)
          (λ same. others (same_tokens Scalar (map mark_of ps) (map mark_of w) (map_rearranged mark_of r) ∙ same))
