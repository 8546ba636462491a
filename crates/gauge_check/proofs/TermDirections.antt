-- The directions of a term, one by one.
use Rattle.std.specs.Prelude.{◌≡◌, ◌<◌, ◌≤◌, ◌+◌, ◌==◌, if◌then◌else◌, ℕ, zero, suc, Bool, true, false, List, [], ◌∷◌, ◌++◌, length, get_or, None}
use Rattle.std.specs.List.{flat_map, AllByRecursion}
use Rattle.std.proofs.Common.{drop, refl, sym, ap, ap₂, subst, ◌∙◌, arith}
use mathlib.Core.Path.{fun_ext}
use Rattle.exact_algebra.specs.Sums.{sum, sum-zero}
use Rattle.frac128.specs.Rational.{ℚ, zero_ℚ, ◌+ℚ◌}
use Rattle.frac128.specs.RationalLaws.{ring_ℚ}
use Rattle.beta_poly.specs.Polynomial.{constant}
use Rattle.beta_poly.specs.Symbol.{conj_symbol}
use Rattle.sparse_tensor.specs.Tensor.{Tensor, HasValues, rank_of, value}
use Rattle.sparse_tensor.proofs.Parts.{other_values}
use Rattle.model_core.specs.declared.model.Model.{Model}
use Rattle.model_core.specs.declared.term.Term.{Term}
use Rattle.model_core.specs.declared.term.TermKind.{TermKind}
use Rattle.model_core.specs.declared.term.TermKind.TheVariants.{Fermion, Scalar}
use Rattle.model_core.specs.BlockSide.{side_of}
use Rattle.model_core.specs.Content.{conjugate_content}
use Rattle.model_core.specs.TermTensor.{Numbers, legs_of, coordinates_at, value_or, at_places}
use Rattle.model_core.specs.Directions.{CouplingEntry, Direction, symbol_of, text_cells, cell_content, cell_tensor, conjugated, entry_block, on_side, plain_part, conjugate_part, moves_both, real_part, direction_of, entry_directions}
use Rattle.term_expand.specs.declared.directions.Direction.{Direction as Found}
use Rattle.term_expand.specs.Expansion.{IsDirection, AreDirections}
use Rattle.term_expand.specs.Texts.{leg_count}
use Rattle.gauge_check.specs.Actions.{on_side as values_there}
use Rattle.gauge_check.specs.Steps.{HasKeyNumbers, IsEntryOf, AreDirectionsOf, IsDirectionOf}

each_append : {A : Type 0} (P : A → Type 0) (xs ys : List A) → AllByRecursion P xs → AllByRecursion P ys → AllByRecursion P (xs ++ ys)
each_append P [] ys first second = second
each_append P (x ∷ xs) ys first second = (first.0, each_append P xs ys first.1 second)

-- ---- what is meant

-- a direction of the term at a place, whose numbers are 0 outside of the legs
pub record IsMeantOf (model : Model) (place : ℕ) (term : Term) (meant : Direction) : Type 0 where
  pub place_is : meant.place ≡ place
  pub kind_is : meant.kind ≡ term.kind
  pub outside : (side : ℕ) (key : List ℕ) → coordinates_at (legs_of model term.kind) key ≡ None → meant.numbers (side ∷ key) ≡ zero_ℚ

on_side_nothing : (b : Bool) (p : ℚ) → p ≡ zero_ℚ → (if b then p else zero_ℚ) ≡ zero_ℚ
on_side_nothing true p e = e
on_side_nothing false p e = refl

module _ (model : Model) (e : CouplingEntry) where
  abbrev cells : List (ℕ × ℕ)
  cells = text_cells e.term e.row e.column

  part_outside : (at : ℕ) (f : Numbers) (side : ℕ) (key : List ℕ) → coordinates_at (legs_of model e.term.kind) key ≡ None → on_side at (at_places zero_ℚ (legs_of model e.term.kind) f) (side ∷ key) ≡ zero_ℚ
  part_outside at f side key none = on_side_nothing (side == at) (at_places zero_ℚ (legs_of model e.term.kind) f key) (ap (value_or zero_ℚ f) none)

  plain_outside : (side : ℕ) (key : List ℕ) → coordinates_at (legs_of model e.term.kind) key ≡ None → plain_part model e (side ∷ key) ≡ zero_ℚ
  plain_outside side key none =
      ap (sum ring_ℚ.semiring cells) (fun_ext (λ cell. part_outside (side_of (entry_block model e) (cell_content e.term cell)) (cell_tensor model e.term cell) side key none)) ∙ sum-zero ring_ℚ.semiring cells

  conjugate_outside : (side : ℕ) (key : List ℕ) → coordinates_at (legs_of model e.term.kind) key ≡ None → conjugate_part model e (side ∷ key) ≡ zero_ℚ
  conjugate_outside side key none =
      ap (sum ring_ℚ.semiring cells) (fun_ext (λ cell. part_outside (side_of (entry_block model e) (conjugate_content model (cell_content e.term cell))) (conjugated e.term.kind (cell_tensor model e.term cell)) side key none)) ∙ sum-zero ring_ℚ.semiring cells

  real_outside : (b : Bool) (side : ℕ) (key : List ℕ) → coordinates_at (legs_of model e.term.kind) key ≡ None
      → (if b then plain_part model e (side ∷ key) +ℚ conjugate_part model e (side ∷ key) else plain_part model e (side ∷ key)) ≡ zero_ℚ
  real_outside true side key none = ap₂ ◌+ℚ◌ (plain_outside side key none) (conjugate_outside side key none) ∙ ring_ℚ.semiring.add_zero zero_ℚ
  real_outside false side key none = plain_outside side key none

  entry_meant : (b : Bool) → AllByRecursion (IsMeantOf model e.place e.term)
      (if b then direction_of model e (symbol_of e) (real_part model e) ∷ [] else direction_of model e (symbol_of e) (plain_part model e) ∷ direction_of model e (conj_symbol (symbol_of e)) (conjugate_part model e) ∷ [])
  entry_meant true = (record { place_is = refl; kind_is = refl; outside = λ side key none. real_outside (moves_both e.term) side key none }, tt)
  entry_meant false = (record { place_is = refl; kind_is = refl; outside = plain_outside }, (record { place_is = refl; kind_is = refl; outside = conjugate_outside }, tt))

module _ (model : Model) (place : ℕ) (term : Term) where
  own_meant : (e : CouplingEntry) → IsEntryOf place term e → AllByRecursion (IsMeantOf model place term) (entry_directions model e)
  own_meant e is =
      subst (λ t. AllByRecursion (IsMeantOf model place t) (entry_directions model e)) is.term_is
      (subst (λ p. AllByRecursion (IsMeantOf model p e.term) (entry_directions model e)) is.place_is (entry_meant model e e.term.real))

  -- the directions of a term's entries
  pub all_meant : (es : List CouplingEntry) → AllByRecursion (IsEntryOf place term) es → AllByRecursion (IsMeantOf model place term) (flat_map (entry_directions model) es)
  all_meant [] all = tt
  all_meant (e ∷ es) all = each_append (IsMeantOf model place term) (entry_directions model e) (flat_map (entry_directions model) es) (own_meant e all.0) (all_meant es all.1)

  -- ---- what is found

  -- the direction at a place
  pub record DirectionAt (meants : List Direction) (i : ℕ) (found : Found) : Type 0 where
    pub meant : Direction
    pub here : drop i meants ≡ meant ∷ drop (i + 1) meants
    pub is : IsDirectionOf model place term meant found

  direction_now : (meant : Direction) (meants : List Direction) (found : Found) → IsMeantOf model place term meant → IsDirection meant found → DirectionAt (meant ∷ meants) 0 found
  direction_now meant meants found of is = record {
    meant = meant;
    here = refl;
    is = record {
      place_is = of.place_is;
      kind_is = of.kind_is;
      has = subst (λ kind. HasValues (1 + leg_count kind) (λ key. constant (meant.numbers key)) found.tensor) of.kind_is is.numbers;
      outside = of.outside;
    };
  }

  direction_later : (first : Direction) (meants : List Direction) (i : ℕ) (found : Found) → DirectionAt meants i found → DirectionAt (first ∷ meants) (suc i) found
  direction_later first meants i found later =
      let more : suc i + 1 ≡ suc (i + 1) = omega arith in
      record {
        meant = later.meant;
        here = later.here ∙ ap (λ n. later.meant ∷ drop n (first ∷ meants)) (sym more);
        is = later.is;
      }

  direction_in : (meants : List Direction) (ds : List Found) (i : ℕ) (found : Found) → AllByRecursion (IsMeantOf model place term) meants → AreDirections meants ds → i < length ds → found ≡ get_or ds i found → DirectionAt meants i found
  direction_in [] [] i found of all within is = absurd (omega (arith, within))
  direction_in [] (d ∷ ds) i found of all within is = absurd all
  direction_in (m ∷ meants) [] i found of all within is = absurd all
  direction_in (m ∷ meants) (d ∷ ds) zero found of all within is = direction_now m meants found of.0 (subst (IsDirection m) (sym is) all.0)
  direction_in (m ∷ meants) (d ∷ ds) (suc i) found of all within is = direction_later m meants i found (direction_in meants ds i found of.1 all.1 (omega (arith, within)) is)

  pub direction_at : (es : List CouplingEntry) (ds : List Found) (i : ℕ) (found : Found) → AreDirectionsOf model place term es ds → i < length ds → found ≡ get_or ds i found → DirectionAt (flat_map (entry_directions model) es) i found
  direction_at es ds i found are within is = direction_in (flat_map (entry_directions model) es) ds i found (all_meant es are.entries) are.directions within is

  directions_counted : (meants : List Direction) (ds : List Found) → AreDirections meants ds → length meants ≡ length ds
  directions_counted [] [] all = refl
  directions_counted [] (d ∷ ds) all = absurd all
  directions_counted (m ∷ meants) [] all = absurd all
  directions_counted (m ∷ meants) (d ∷ ds) all = ap suc (directions_counted meants ds all.1)

  pub directions_length : (es : List CouplingEntry) (ds : List Found) → AreDirectionsOf model place term es ds → length (flat_map (entry_directions model) es) ≡ length ds
  directions_length es ds are = directions_counted (flat_map (entry_directions model) es) ds are.directions

  -- ---- the parts of a direction

  module _ (meant : Direction) (found : Found) (is : IsDirectionOf model place term meant found) where
    pub rank_known : suc (leg_count term.kind) ≡ rank_of found.tensor
    rank_known = let given = is.has.rank_is in omega (arith, given)

    pub two_places : 2 ≤ rank_of found.tensor
    two_places = let given = rank_known in let few = three_legs term.kind in omega (arith, given, few)
      where
        three_legs : (kind : TermKind) → 3 ≤ leg_count kind
        three_legs Fermion = omega arith
        three_legs Scalar = omega arith

    -- the numbers on a side
    pub part_numbers : (side : ℕ) (part : Tensor) → HasValues (leg_count term.kind) (values_there side (value found.tensor)) part → HasKeyNumbers model term.kind (λ key. meant.numbers (side ∷ key)) part
    part_numbers side part has = record {
      has =
          other_values (leg_count term.kind) (leg_count term.kind) (values_there side (value found.tensor)) (λ key. constant (meant.numbers (side ∷ key))) part refl
          (λ key l. is.has.value_is (side ∷ key) (let long = l in omega (arith, long))) has;
      outside = is.outside side;
    }
