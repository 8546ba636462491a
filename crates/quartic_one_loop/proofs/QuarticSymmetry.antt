-- The scalar tensor of a model is symmetric in its legs.
use Rattle.std.specs.Prelude.{◌≡◌, ℕ, Bool, true, false, List, [], ◌∷◌, map, length}
use Rattle.std.proofs.Common.{cond, refl, sym, ap, ap₂, ◌∙◌, arith}
use Rattle.std.proofs.lemmas.List.{length-map}
use mathlib.Core.Path.{fun_ext}
use Rattle.exact_algebra.specs.Orders.{Rearranged, Rearranged-map, length-rearranged, sum_orders-rearranged}
use Rattle.exact_algebra.specs.Orders.Rearranged.{same, keep, swap, then}
use Rattle.exact_algebra.specs.Ring.{mul_left_comm}
use Rattle.exact_algebra.specs.Sums.{sum, sum-mul, sum-swap}
use Rattle.frac128.specs.Rational.{◌+ℚ◌, ◌*ℚ◌}
use Rattle.frac128.specs.RationalLaws.{ring_ℚ}
use Rattle.beta_poly.specs.Polynomial.{poly_ring, zero_poly, add_poly}
use Rattle.beta_poly.specs.Symbol.{conj_symbol}
use Rattle.model_core.specs.declared.group.Group.{Group}
use Rattle.model_core.specs.declared.model.Model.{Model}
use Rattle.model_core.specs.declared.term.Term.{Term}
use Rattle.model_core.specs.declared.term.TermKind.{TermKind}
use Rattle.model_core.specs.declared.term.TermKind.TheVariants.{Fermion, Scalar}
use Rattle.model_core.specs.Content.{is_fermionic}
use Rattle.model_core.specs.Directions.{CouplingEntry, entries, symbol_of, multiple, entry_tensor, conjugated, conjugate_multiple, scalar_part, scalar_tensor}
use Rattle.model_core.specs.MonomialValue.{text_at}
use Rattle.model_core.specs.Scalar.{Coordinate, partner, scalar_coordinates}
use Rattle.model_core.specs.TermTensor.{Numbers, legs_of, coordinate_projector, projected, scalar_ways, all_ways, text_tensor, has_two_texts, symbol_tensor}

-- ---- projections on equal legs

module _ (groups : List Group) (leg : List Coordinate) where
  -- a leg for each coordinate
  abbrev like : List Coordinate → List (List Coordinate)
  like cs = map (λ _. leg) cs

  projected-two : (legs : List (List Coordinate)) (f : Numbers) (a b : Coordinate) (cs : List Coordinate) → ((ds : List Coordinate) (d e : Coordinate) → f (d ∷ e ∷ ds) ≡ f (e ∷ d ∷ ds)) → projected groups (leg ∷ leg ∷ legs) f (a ∷ b ∷ cs) ≡ projected groups (leg ∷ leg ∷ legs) f (b ∷ a ∷ cs)
  unfolding projected
  projected-two legs f a b cs symmetric =
      let R = ring_ℚ.semiring in
      let P = coordinate_projector groups in
      let rest = λ (d e : Coordinate). projected groups legs (λ ds. f (d ∷ e ∷ ds)) cs in
      ap (sum R leg) (fun_ext (λ d. sym (sum-mul R (P d a) leg (λ e. P e b *ℚ rest d e))))
      ∙ sum-swap R leg leg (λ d e. P d a *ℚ (P e b *ℚ rest d e))
      ∙ ap (sum R leg) (fun_ext (λ e. ap (sum R leg) (fun_ext (λ d. mul_left_comm R (P d a) (P e b) (rest d e)
      ∙ ap (λ g. P e b *ℚ (P d a *ℚ projected groups legs g cs)) (fun_ext (λ ds. symmetric ds d e))))
      ∙ sum-mul R (P e b) leg (λ d. P d a *ℚ rest e d)))

  projected-moved : (cs ds : List Coordinate) → Rearranged cs ds → (f : Numbers) → ((xs ys : List Coordinate) → Rearranged xs ys → f xs ≡ f ys) → projected groups (like cs) f cs ≡ projected groups (like ds) f ds
  unfolding projected
  projected-moved _ _ same f symmetric = refl
  projected-moved _ _ (keep {x = c} {xs = cs} {ys = ds} r) f symmetric =
      ap (sum ring_ℚ.semiring leg) (fun_ext (λ e. ap (λ v. coordinate_projector groups e c *ℚ v) (projected-moved cs ds r (λ zs. f (e ∷ zs)) (λ xs ys s. symmetric (e ∷ xs) (e ∷ ys) (keep s)))))
  projected-moved _ _ (swap {x = a} {y = b} {xs = cs}) f symmetric =
      projected-two (like cs) f a b cs (λ ds d e. symmetric (d ∷ e ∷ ds) (e ∷ d ∷ ds) swap)
  projected-moved cs ds (then {ys = ms} r s) f symmetric = projected-moved cs ms r f symmetric ∙ projected-moved ms ds s f symmetric

  like_four : (cs : List Coordinate) → length cs ≡ 4 → like cs ≡ leg ∷ leg ∷ leg ∷ leg ∷ []
  like_four [] l = absurd (omega arith)
  like_four (a ∷ []) l = absurd (omega arith)
  like_four (a ∷ b ∷ []) l = absurd (omega arith)
  like_four (a ∷ b ∷ c ∷ []) l = absurd (omega arith)
  like_four (a ∷ b ∷ c ∷ d ∷ []) l = refl
  like_four (a ∷ b ∷ c ∷ d ∷ e ∷ cs) l = absurd (omega arith)

  projected-four : (cs ds : List Coordinate) → Rearranged cs ds → length cs ≡ 4 → (f : Numbers) → ((xs ys : List Coordinate) → Rearranged xs ys → f xs ≡ f ys)
      → projected groups (leg ∷ leg ∷ leg ∷ leg ∷ []) f cs ≡ projected groups (leg ∷ leg ∷ leg ∷ leg ∷ []) f ds
  projected-four cs ds r l f symmetric =
      ap (λ legs. projected groups legs f cs) (sym (like_four cs l))
      ∙ projected-moved cs ds r f symmetric
      ∙ ap (λ legs. projected groups legs f ds) (like_four ds (length-rearranged r ∙ l))

-- ---- the tensors of texts

module _ (model : Model) where
  kind-moved : (term : Term) (row column : ℕ) (kind : TermKind) → is_fermionic kind ≡ false → (cs ds : List Coordinate) → Rearranged cs ds → length cs ≡ 4
      → projected model.groups (legs_of model kind) (all_ways model term row column kind) cs ≡ projected model.groups (legs_of model kind) (all_ways model term row column kind) ds
  kind-moved term row column Fermion is cs ds r l = absurd cc
  kind-moved term row column Scalar is cs ds r l =
      projected-four model.groups (scalar_coordinates model) cs ds r l (scalar_ways model term row column) (λ xs ys s. sum_orders-rearranged ring_ℚ.semiring s (text_at model term row column []))

  module _ (term : Term) (scalar : is_fermionic term.kind ≡ false) where
    text-moved : (row column : ℕ) (cs ds : List Coordinate) → Rearranged cs ds → length cs ≡ 4 → text_tensor model term row column cs ≡ text_tensor model term row column ds
    text-moved row column cs ds r l = kind-moved term row column term.kind scalar cs ds r l

    symbol-moved : (row column : ℕ) (cs ds : List Coordinate) → Rearranged cs ds → length cs ≡ 4 → symbol_tensor model term row column cs ≡ symbol_tensor model term row column ds
    symbol-moved row column cs ds r l =
        ap₂ (λ x y. cond (has_two_texts term row column) x y) (ap₂ ◌+ℚ◌ (text-moved row column cs ds r l) (text-moved column row cs ds r l)) (text-moved row column cs ds r l)

  conjugate-moved : (kind : TermKind) (f : Numbers) → is_fermionic kind ≡ false → ((xs ys : List Coordinate) → Rearranged xs ys → length xs ≡ 4 → f xs ≡ f ys) → (cs ds : List Coordinate) → Rearranged cs ds → length cs ≡ 4 → conjugated kind f cs ≡ conjugated kind f ds
  conjugate-moved Fermion f is symmetric cs ds r l = absurd cc
  conjugate-moved Scalar f is symmetric cs ds r l = symmetric (map partner cs) (map partner ds) (Rearranged-map partner r) (length-map cs partner ∙ l)

  -- ---- the scalar tensor

  part-moved : (cs ds : List Coordinate) → Rearranged cs ds → length cs ≡ 4 → (entry : CouplingEntry) → scalar_part model cs entry ≡ scalar_part model ds entry
  part-moved cs ds r l entry = by_kind (is_fermionic entry.term.kind) refl
    where
      by_kind : (b : Bool) → is_fermionic entry.term.kind ≡ b
          → cond b zero_poly (add_poly (multiple (symbol_of entry) (entry_tensor model entry cs)) (conjugate_multiple model cs entry))
          ≡ cond b zero_poly (add_poly (multiple (symbol_of entry) (entry_tensor model entry ds)) (conjugate_multiple model ds entry))
      by_kind true is = refl
      by_kind false is =
          ap₂ (λ x y. add_poly (multiple (symbol_of entry) x) (cond entry.term.hc (multiple (conj_symbol (symbol_of entry)) y) zero_poly))
          (symbol-moved entry.term is entry.row entry.column cs ds r l)
          (conjugate-moved entry.term.kind (entry_tensor model entry) is (symbol-moved entry.term is entry.row entry.column) cs ds r l)

  -- the scalar tensor at the same coordinates in another order
  pub scalar_tensor-moved : (cs ds : List Coordinate) → Rearranged cs ds → length cs ≡ 4 → scalar_tensor model cs ≡ scalar_tensor model ds
  scalar_tensor-moved cs ds r l = ap (sum poly_ring.semiring (entries model)) (fun_ext (part-moved cs ds r l))
