-- A direction is 0 at every key that isn't a component of its block on its side.
use Rattle.std.proofs.Common.{◌≡◌, ℕ, Bool, true, false, List, [], ◌∷◌, map, Some, refl, sym, subst, ap, ap₂, ◌∙◌, inl, inr}
use Rattle.std.specs.Prelude.{◌==◌, if◌then◌else◌, slice_get}
use Rattle.exact_algebra.specs.Sums.{sum-same_on, sum-zero}
use Rattle.frac128.specs.Rational.{ℚ, zero_ℚ, ◌+ℚ◌}
use Rattle.frac128.specs.RationalLaws.{ring_ℚ}
use Rattle.model_core.specs.declared.content.FieldToken.{FieldToken}
use Rattle.model_core.specs.declared.model.Model.{Model}
use Rattle.model_core.specs.declared.term.TermKind.{TermKind}
use Rattle.model_core.specs.declared.term.TermKind.TheVariants.{Fermion, Scalar}
use Rattle.model_core.specs.BlockSide.{IsComponentOf, component_content, side_of}
use Rattle.model_core.specs.Content.{block_of, conjugate_content, first_uses, token_at}
use Rattle.model_core.specs.Directions.{CouplingEntry, Direction, at_key, cell_content, cell_tensor, cells, conjugate_cell, conjugate_part, conjugated, directions, direction_of, entries, entry_block, entry_directions, moves_both, on_side, plain_cell, plain_part, real_part, symbol_of, text_cells}
use Rattle.model_core.specs.TermRules.{is_term}
use Rattle.model_core.specs.Valid.{IsValid}
use Rattle.model_core.proofs.ValidTerms.{all_terms}
use Rattle.beta_poly.specs.Symbol.{conj_symbol}
use Rattle.neighbour_laws.proofs.Members.{IsIn, in-flat_map, in_at}
use Rattle.direction_laws.proofs.Blocks.{block_conjugate}
use Rattle.direction_laws.proofs.Entries.{all_in, fermion_names, fermionic, in_entries, one_block, same_monomials, scalar_names}
use Rattle.direction_laws.proofs.FermionSides.{conjugate_side, plain_side}
use Rattle.direction_laws.proofs.KeyZeros.{plain_zero, turned_zero}
use Rattle.direction_laws.proofs.SameUses.{numbers_alike}

-- ---- components

-- the content of scalars is the same on both sides
side_content : (model : Model) (kind : TermKind) (s t : ℕ) (places : List ℕ) → (kind ≡ Fermion → s ≡ t) → component_content model kind (s ∷ places) ≡ component_content model kind (t ∷ places)
side_content model Fermion s t places h = ap (λ side. component_content model Fermion (side ∷ places)) (h refl)
side_content model Scalar s t places h = refl

-- what has a content of the block, on the side of that, is one of its components
component_from : (model : Model) (kind : TermKind) (block content : List FieldToken) (side : ℕ) (places : List ℕ) → component_content model kind (side ∷ places) ≡ content → block_of model content ≡ block → side_of block content ≡ side → IsComponentOf model kind block side places
component_from model kind block content side places is named on =
    let block_is = ap (block_of model) is ∙ named in
    record { block_is = block_is; side_is = ap₂ side_of block_is is ∙ on }

-- a function on a side
elsewhere : (s side : ℕ) (f : List ℕ → ℚ) (places : List ℕ) → (s ≡ side → f places ≡ zero_ℚ) → on_side s f (side ∷ places) ≡ zero_ℚ
elsewhere s side f places h = by_test (side == s) refl
  where
    by_test : (b : Bool) → (side == s) ≡ b → (if b then f places else zero_ℚ) ≡ zero_ℚ
    by_test true e = h (sym (numbers_alike side s e))
    by_test false e = refl

-- ---- cells

module _ (model : Model) (valid : IsValid model) (e : CouplingEntry) (is : is_term model e.term ≡ true) (there : IsIn (e.row, e.column) (cells e.term)) where
  abbrev block : List FieldToken
  block = entry_block model e

  abbrev tokens_of : ℕ × ℕ → List FieldToken
  tokens_of cell = map (token_at cell.0 cell.1) (first_uses e.term.monomials)

  plain_first : (cell : ℕ × ℕ) → block_of model (cell_content e.term cell) ≡ block → e.term.kind ≡ Fermion → side_of block (cell_content e.term cell) ≡ 0
  plain_first cell named kind =
      ap (λ b. side_of b (cell_content e.term cell)) (sym named) ∙ plain_side model (tokens_of cell) (fermionic model e.term is kind cell.0 cell.1)

  conjugate_second : (cell : ℕ × ℕ) → block_of model (cell_content e.term cell) ≡ block → e.term.kind ≡ Fermion → side_of block (conjugate_content model (cell_content e.term cell)) ≡ 1
  conjugate_second cell named kind =
      ap (λ b. side_of b (conjugate_content model (cell_content e.term cell))) (sym named) ∙ conjugate_side model (tokens_of cell) (fermionic model e.term is kind cell.0 cell.1)

  module _ (side : ℕ) (places : List ℕ) (none : IsComponentOf model e.term.kind (entry_block model e) side places → ⊥) where
    plain_cell_zero : (cell : ℕ × ℕ) → block_of model (cell_content e.term cell) ≡ block → plain_cell model e (side ∷ places) cell ≡ zero_ℚ
    plain_cell_zero cell named =
        elsewhere (side_of block (cell_content e.term cell)) side (at_key model e.term.kind (cell_tensor model e.term cell)) places
        (λ on. plain_zero model (fermion_names model valid) (scalar_names model valid) e.term cell.0 cell.1 (first_uses e.term.monomials) (same_monomials model e.term is) e.term.kind places
        (λ same. none (component_from model e.term.kind block (cell_content e.term cell) side places
        (side_content model e.term.kind side 0 places (λ kind. sym on ∙ plain_first cell named kind) ∙ same) named on)))

    conjugate_cell_zero : (cell : ℕ × ℕ) → block_of model (cell_content e.term cell) ≡ block → conjugate_cell model e (side ∷ places) cell ≡ zero_ℚ
    conjugate_cell_zero cell named =
        elsewhere (side_of block (conjugate_content model (cell_content e.term cell))) side (at_key model e.term.kind (conjugated e.term.kind (cell_tensor model e.term cell))) places
        (λ on. turned_zero model (fermion_names model valid) (scalar_names model valid) e.term cell.0 cell.1 (first_uses e.term.monomials) (same_monomials model e.term is) e.term.kind places
        (λ same. none (component_from model e.term.kind block (conjugate_content model (cell_content e.term cell)) side places
        (side_content model e.term.kind side 1 places (λ kind. sym on ∙ conjugate_second cell named kind) ∙ same) (block_conjugate model (tokens_of cell) ∙ named) on)))

    -- ---- parts

    plain_part_zero : plain_part model e (side ∷ places) ≡ zero_ℚ
    plain_part_zero =
        sum-same_on ring_ℚ.semiring (λ cell. block_of model (cell_content e.term cell) ≡ block) (text_cells e.term e.row e.column) (plain_cell model e (side ∷ places)) (λ _. zero_ℚ) (one_block model e.term is e.row e.column there) plain_cell_zero
        ∙ sum-zero ring_ℚ.semiring (text_cells e.term e.row e.column)

    conjugate_part_zero : conjugate_part model e (side ∷ places) ≡ zero_ℚ
    conjugate_part_zero =
        sum-same_on ring_ℚ.semiring (λ cell. block_of model (cell_content e.term cell) ≡ block) (text_cells e.term e.row e.column) (conjugate_cell model e (side ∷ places)) (λ _. zero_ℚ) (one_block model e.term is e.row e.column there) conjugate_cell_zero
        ∙ sum-zero ring_ℚ.semiring (text_cells e.term e.row e.column)

    real_part_zero : real_part model e (side ∷ places) ≡ zero_ℚ
    real_part_zero = by_test (moves_both e.term)
      where
        by_test : (b : Bool) → (if b then plain_part model e (side ∷ places) +ℚ conjugate_part model e (side ∷ places) else plain_part model e (side ∷ places)) ≡ zero_ℚ
        by_test true = ap₂ ◌+ℚ◌ plain_part_zero conjugate_part_zero ∙ ring_ℚ.semiring.add_zero zero_ℚ
        by_test false = plain_part_zero

-- without a side
plain_bare : (model : Model) (e : CouplingEntry) → plain_part model e [] ≡ zero_ℚ
plain_bare model e = sum-zero ring_ℚ.semiring (text_cells e.term e.row e.column)

conjugate_bare : (model : Model) (e : CouplingEntry) → conjugate_part model e [] ≡ zero_ℚ
conjugate_bare model e = sum-zero ring_ℚ.semiring (text_cells e.term e.row e.column)

real_bare : (model : Model) (e : CouplingEntry) → real_part model e [] ≡ zero_ℚ
real_bare model e = by_test (moves_both e.term)
  where
    by_test : (b : Bool) → (if b then plain_part model e [] +ℚ conjugate_part model e [] else plain_part model e []) ≡ zero_ℚ
    by_test true = ap₂ ◌+ℚ◌ (plain_bare model e) (conjugate_bare model e) ∙ ring_ℚ.semiring.add_zero zero_ℚ
    by_test false = plain_bare model e

-- ---- directions

-- what holds of each direction of an entry
each_direction : (P : Direction → Type 0) (model : Model) (e : CouplingEntry) → P (direction_of model e (symbol_of e) (real_part model e)) → P (direction_of model e (symbol_of e) (plain_part model e)) → P (direction_of model e (conj_symbol (symbol_of e)) (conjugate_part model e))
    → (d : Direction) → IsIn d (entry_directions model e) → P d
each_direction P model e whole plain conjugate d = by_real e.term.real
  where
    one : (x : Direction) → P x → d ≡ x → P d
    one x h is = subst P (sym is) h

    by_real : (real : Bool) → IsIn d (if real then direction_of model e (symbol_of e) (real_part model e) ∷ [] else direction_of model e (symbol_of e) (plain_part model e) ∷ direction_of model e (conj_symbol (symbol_of e)) (conjugate_part model e) ∷ []) → P d
    by_real true (inl is) = one (direction_of model e (symbol_of e) (real_part model e)) whole is
    by_real true (inr never) = absurd never
    by_real false (inl is) = one (direction_of model e (symbol_of e) (plain_part model e)) plain is
    by_real false (inr (inl is)) = one (direction_of model e (conj_symbol (symbol_of e)) (conjugate_part model e)) conjugate is
    by_real false (inr (inr never)) = absurd never

pub direction_zero : (model : Model) (place : ℕ) (d : Direction) → IsValid model → slice_get (directions model) place ≡ Some d → (side : ℕ) (places : List ℕ) → (IsComponentOf model d.kind d.block side places → ⊥) → d.numbers (side ∷ places) ≡ zero_ℚ
direction_zero model place d valid found side places =
    let entry = in-flat_map (entry_directions model) d (entries model) (in_at (directions model) place d found) in
    let e = entry.0 in
    let parts = in_entries 1 _ model.terms e entry.1 in
    let is = all_in (is_term model) model.terms e.term (all_terms model valid) parts.0 in
    each_direction (λ d. (IsComponentOf model d.kind d.block side places → ⊥) → d.numbers (side ∷ places) ≡ zero_ℚ) model e
    (real_part_zero model valid e is parts.1 side places) (plain_part_zero model valid e is parts.1 side places) (conjugate_part_zero model valid e is parts.1 side places) d entry.2

pub direction_bare : (model : Model) (place : ℕ) (d : Direction) → slice_get (directions model) place ≡ Some d → d.numbers [] ≡ zero_ℚ
direction_bare model place d found =
    let entry = in-flat_map (entry_directions model) d (entries model) (in_at (directions model) place d found) in
    each_direction (λ d. d.numbers [] ≡ zero_ℚ) model entry.0 (real_bare model entry.0) (plain_bare model entry.0) (conjugate_bare model entry.0) d entry.2
