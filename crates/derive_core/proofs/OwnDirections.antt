-- What a direction has from the entry of its coupling, and that its numbers are 0 at keys of another length.
use Rattle.std.specs.Prelude.{◌≡◌, ◌≢◌, ◌+◌, ◌==◌, if◌then◌else◌, ℕ, suc, Bool, true, false, List, [], ◌∷◌, length, slice_get, Option, Some, None}
use Rattle.std.specs.List.{flat_map}
use Rattle.std.proofs.Common.{refl, sym, ap, ap₂, subst, ◌∙◌, arith, inl, inr}
use mathlib.Core.Path.{fun_ext}
use Rattle.exact_algebra.specs.Sums.{sum, sum-zero}
use Rattle.frac128.specs.Rational.{ℚ, zero_ℚ, ◌+ℚ◌}
use Rattle.frac128.specs.RationalLaws.{ring_ℚ}
use Rattle.beta_poly.specs.declared.symbol.Symbol.{Symbol}
use Rattle.beta_poly.specs.Symbol.{conj_symbol}
use Rattle.model_core.specs.declared.model.Model.{Model}
use Rattle.model_core.specs.declared.term.TermKind.{TermKind}
use Rattle.model_core.specs.declared.term.TermKind.TheVariants.{Fermion, Scalar}
use Rattle.model_core.specs.Scalar.{Coordinate}
use Rattle.model_core.specs.BlockSide.{side_of}
use Rattle.model_core.specs.Content.{conjugate_content}
use Rattle.model_core.specs.TermTensor.{Numbers, legs_of, with_coordinate, coordinates_at, value_or, at_places}
use Rattle.model_core.specs.Directions.{CouplingEntry, Direction, symbol_of, text_cells, cell_content, cell_tensor, conjugated, entry_block, on_side, plain_part, conjugate_part, moves_both, real_part, direction_of, entry_directions, entries, directions}
use Rattle.term_expand.specs.Texts.{leg_count}
use Rattle.derive_core.proofs.Elements.{IsIn, in-flat_map}

-- the numbers are 0 at keys that don't have a side and a place for each leg
abbrev pub HasKeys : Direction → Type 0
HasKeys d = (key : List ℕ) → length key ≢ 1 + leg_count d.kind → d.numbers key ≡ zero_ℚ

pub record IsOwn (model : Model) (e : CouplingEntry) (d : Direction) : Type 0 where
  pub place_is : d.place ≡ e.place
  pub kind_is : d.kind ≡ e.term.kind
  pub id_is : d.symbol.id ≡ e.id
  pub block_is : d.block ≡ entry_block model e
  pub keys : HasKeys d

-- ---- numbers at other keys

pub with_none : (c : Option Coordinate) → with_coordinate c None ≡ None
with_none (Some c) = refl
with_none None = refl

no_coordinates : (legs : List (List Coordinate)) (key : List ℕ) → length key ≢ length legs → coordinates_at legs key ≡ None
no_coordinates [] [] other = absurd (other refl)
no_coordinates [] (place ∷ key) other = refl
no_coordinates (leg ∷ legs) [] other = refl
no_coordinates (leg ∷ legs) (place ∷ key) other =
    ap (with_coordinate (slice_get leg place)) (no_coordinates legs key (λ same. other (ap suc same))) ∙ with_none (slice_get leg place)

legs_counted : (model : Model) (kind : TermKind) → length (legs_of model kind) ≡ leg_count kind
legs_counted model Fermion = refl
legs_counted model Scalar = refl

on_side_nothing : (b : Bool) (p : ℚ) → p ≡ zero_ℚ → (if b then p else zero_ℚ) ≡ zero_ℚ
on_side_nothing true p e = e
on_side_nothing false p e = refl

part_elsewhere : (model : Model) (kind : TermKind) (side : ℕ) (f : Numbers) (key : List ℕ) → length key ≢ 1 + leg_count kind → on_side side (at_places zero_ℚ (legs_of model kind) f) key ≡ zero_ℚ
part_elsewhere model kind side f [] other = refl
part_elsewhere model kind side f (first ∷ key) other =
    on_side_nothing (first == side) (at_places zero_ℚ (legs_of model kind) f key)
    (ap (value_or zero_ℚ f) (no_coordinates (legs_of model kind) key (λ same.
    let counted = legs_counted model kind in
    let long : length (first ∷ key) ≡ 1 + leg_count kind = omega (arith, same, counted) in
    other long)))

module _ (model : Model) (e : CouplingEntry) where
  abbrev cells : List (ℕ × ℕ)
  cells = text_cells e.term e.row e.column

  plain_elsewhere : (key : List ℕ) → length key ≢ 1 + leg_count e.term.kind → plain_part model e key ≡ zero_ℚ
  plain_elsewhere key other =
      ap (sum ring_ℚ.semiring cells) (fun_ext (λ cell. part_elsewhere model e.term.kind (side_of (entry_block model e) (cell_content e.term cell)) (cell_tensor model e.term cell) key other)) ∙ sum-zero ring_ℚ.semiring cells

  conjugate_elsewhere : (key : List ℕ) → length key ≢ 1 + leg_count e.term.kind → conjugate_part model e key ≡ zero_ℚ
  conjugate_elsewhere key other =
      ap (sum ring_ℚ.semiring cells) (fun_ext (λ cell. part_elsewhere model e.term.kind (side_of (entry_block model e) (conjugate_content model (cell_content e.term cell))) (conjugated e.term.kind (cell_tensor model e.term cell)) key other)) ∙ sum-zero ring_ℚ.semiring cells

  real_by : (b : Bool) (key : List ℕ) → length key ≢ 1 + leg_count e.term.kind → (if b then plain_part model e key +ℚ conjugate_part model e key else plain_part model e key) ≡ zero_ℚ
  real_by true key other = ap₂ ◌+ℚ◌ (plain_elsewhere key other) (conjugate_elsewhere key other) ∙ ring_ℚ.semiring.add_zero zero_ℚ
  real_by false key other = plain_elsewhere key other

  -- ---- directions of an entry

  own_numbers : (symbol : Symbol) (numbers : List ℕ → ℚ) → symbol.id ≡ e.id → ((key : List ℕ) → length key ≢ 1 + leg_count e.term.kind → numbers key ≡ zero_ℚ) → IsOwn model e (direction_of model e symbol numbers)
  own_numbers symbol numbers id keys = record { place_is = refl; kind_is = refl; id_is = id; block_is = refl; keys = keys }

  conjugate_id : (symbol : Symbol) → (conj_symbol symbol).id ≡ symbol.id
  unfolding conj_symbol
  conjugate_id symbol = refl

  own_by : (b : Bool) (d : Direction)
      → IsIn d (if b then direction_of model e (symbol_of e) (real_part model e) ∷ [] else direction_of model e (symbol_of e) (plain_part model e) ∷ direction_of model e (conj_symbol (symbol_of e)) (conjugate_part model e) ∷ [])
      → IsOwn model e d
  own_by true d (inl same) = subst (IsOwn model e) (sym same) (own_numbers (symbol_of e) (real_part model e) refl (real_by (moves_both e.term)))
  own_by true d (inr none) = absurd none
  own_by false d (inl same) = subst (IsOwn model e) (sym same) (own_numbers (symbol_of e) (plain_part model e) refl plain_elsewhere)
  own_by false d (inr (inl same)) =
      subst (IsOwn model e) (sym same) (own_numbers (conj_symbol (symbol_of e)) (conjugate_part model e) (conjugate_id (symbol_of e)) conjugate_elsewhere)
  own_by false d (inr (inr none)) = absurd none

  pub own_in : (d : Direction) → IsIn d (entry_directions model e) → IsOwn model e d
  own_in d there = own_by e.term.real d there

-- a direction among those of a model
pub record HasEntry (model : Model) (es : List CouplingEntry) (d : Direction) : Type 0 where
  pub entry : CouplingEntry
  pub there : IsIn entry es
  pub own : IsOwn model entry d

pub has_entry : (model : Model) (es : List CouplingEntry) (d : Direction) → IsIn d (flat_map (entry_directions model) es) → HasEntry model es d
has_entry model es d there =
    let part = in-flat_map (entry_directions model) d es there in
    record { entry = part.whole; there = part.there; own = own_in model part.whole d part.in_part }

pub keys_in : (model : Model) (d : Direction) → IsIn d (directions model) → HasKeys d
keys_in model d there = (has_entry model (entries model) d there).own.keys
