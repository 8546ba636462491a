-- The tensor of a text is projected from the values of the text with one way to give the legs.
use Rattle.std.specs.Prelude.{◌≡◌, ℕ, List, [], ◌∷◌, length, map}
use Rattle.std.specs.List.{All}
use Rattle.std.proofs.Common.{refl, ap, ◌∙◌}
use mathlib.Core.Path.{fun_ext}
use Rattle.frac128.specs.Rational.{ℚ, zero_ℚ}
use Rattle.beta_poly.specs.Polynomial.{constant}
use Rattle.sparse_tensor.specs.Tensor.{Tensor, HasValues, value}
use Rattle.sparse_tensor.specs.Operations.{Values, entry, gathered_at, symmetrised_at, projected_at}
use Rattle.sparse_tensor.proofs.Parts.{other_values}
use Rattle.model_core.specs.declared.group.Group.{Group}
use Rattle.model_core.specs.declared.model.Model.{Model}
use Rattle.model_core.specs.declared.term.Term.{Term}
use Rattle.model_core.specs.declared.term.TermKind.{TermKind}
use Rattle.model_core.specs.declared.term.TermKind.TheVariants.{Fermion, Scalar}
use Rattle.model_core.specs.Scalar.{Coordinate, scalar_coordinates}
use Rattle.model_core.specs.TermTensor.{Numbers, fermion_coordinates, legs_of, projected, text_tensor, at_places}
use Rattle.term_expand.specs.declared.basis.Basis.{Basis}
use Rattle.term_expand.specs.Multiples.{HasNumbers}
use Rattle.term_expand.specs.Projectors.{IsBasis}
use Rattle.term_expand.specs.Steps.{steps}
use Rattle.term_expand.specs.Texts.{leg_count, one_way, text_values}
use Rattle.term_expand.proofs.Projections.{projected_leg, projected_numbers, symmetrised_at_numbers}
use Rattle.term_expand.proofs.Legs.{projected_places, projected_at_places, ways, ways-one_way, of_three, of_four, fermions_symmetrised, scalars_symmetrised}

-- the values of a text add up to it, with one way to give the legs
pub record TextValues (model : Model) (term : Term) : Type 0 where
  pub sum : (row column : ℕ) (key : List ℕ) → length key ≡ leg_count term.kind → gathered_at (map entry (text_values model term row column)) key ≡ constant (at_places zero_ℚ (legs_of model term.kind) (one_way model term row column term.kind) key)
  pub rank : (row column : ℕ) → All (λ v. length v.key ≡ leg_count term.kind) (text_values model term row column)

-- ---- the steps

three_legs : (groups : List Group) (p q r : List Coordinate) (g : List ℕ → ℚ) (key : List ℕ) → length key ≡ 3 → projected_leg groups p 0 (projected_leg groups q 1 (projected_leg groups r 2 g)) key ≡ projected_places groups (p ∷ q ∷ r ∷ []) g key
unfolding projected_places
three_legs groups p q r g =
    of_three (λ key. projected_leg groups p 0 (projected_leg groups q 1 (projected_leg groups r 2 g)) key ≡ projected_places groups (p ∷ q ∷ r ∷ []) g key) (λ a b c. refl)

four_legs : (groups : List Group) (p q r s : List Coordinate) (g : List ℕ → ℚ) (key : List ℕ) → length key ≡ 4 → projected_leg groups p 0 (projected_leg groups q 1 (projected_leg groups r 2 (projected_leg groups s 3 g))) key ≡ projected_places groups (p ∷ q ∷ r ∷ s ∷ []) g key
unfolding projected_places
four_legs groups p q r s g =
    of_four (λ key. projected_leg groups p 0 (projected_leg groups q 1 (projected_leg groups r 2 (projected_leg groups s 3 g))) key ≡ projected_places groups (p ∷ q ∷ r ∷ s ∷ []) g key) (λ a b c d. refl)

-- from values with one way to give the legs to the projected sum of all ways
pub steps_numbers : (model : Model) (basis : Basis) (kind : TermKind) (f : Values) (h : Numbers) → IsBasis model basis → ((key : List ℕ) → length key ≡ leg_count kind → f key ≡ constant (at_places zero_ℚ (legs_of model kind) h key)) → (key : List ℕ) → length key ≡ leg_count kind → steps kind basis f key ≡ constant (at_places zero_ℚ (legs_of model kind) (projected model.groups (legs_of model kind) (ways kind h)) key)
steps_numbers model basis Fermion f h b same key l =
    let fermions = fermion_coordinates model in
    let scalars = scalar_coordinates model in
    let legs = legs_of model Fermion in
    let g : List ℕ → ℚ = at_places zero_ℚ legs (ways Fermion h) in
    let all : (k : List ℕ) → length k ≡ 3 → symmetrised_at (0 ∷ 1 ∷ []) f k ≡ constant (g k) = λ k m. symmetrised_at_numbers (0 ∷ 1 ∷ []) 3 f (at_places zero_ℚ legs h) same k m ∙ ap constant (fermions_symmetrised fermions scalars h k m) in
    let first = projected_numbers model.groups scalars basis.scalar_links 2 3 (symmetrised_at (0 ∷ 1 ∷ []) f) g b.scalar_links all in
    let second = projected_numbers model.groups fermions basis.fermion_links 1 3 (projected_at 2 basis.scalar_links (symmetrised_at (0 ∷ 1 ∷ []) f)) (projected_leg model.groups scalars 2 g) b.fermion_links first in
    projected_numbers model.groups fermions basis.fermion_links 0 3 (projected_at 1 basis.fermion_links (projected_at 2 basis.scalar_links (symmetrised_at (0 ∷ 1 ∷ []) f))) (projected_leg model.groups fermions 1 (projected_leg model.groups scalars 2 g)) b.fermion_links second key l
    ∙ ap constant (three_legs model.groups fermions fermions scalars g key l ∙ projected_at_places model.groups legs (ways Fermion h) key l)
steps_numbers model basis Scalar f h b same key l =
    let scalars = scalar_coordinates model in
    let legs = legs_of model Scalar in
    let links = basis.scalar_links in
    let g : List ℕ → ℚ = at_places zero_ℚ legs (ways Scalar h) in
    let start : Values = symmetrised_at (0 ∷ 1 ∷ 2 ∷ 3 ∷ []) f in
    let all : (k : List ℕ) → length k ≡ 4 → start k ≡ constant (g k) = λ k m. symmetrised_at_numbers (0 ∷ 1 ∷ 2 ∷ 3 ∷ []) 4 f (at_places zero_ℚ legs h) same k m ∙ ap constant (scalars_symmetrised scalars h k m) in
    let first = projected_numbers model.groups scalars links 3 4 start g b.scalar_links all in
    let second = projected_numbers model.groups scalars links 2 4 (projected_at 3 links start) (projected_leg model.groups scalars 3 g) b.scalar_links first in
    let third = projected_numbers model.groups scalars links 1 4 (projected_at 2 links (projected_at 3 links start)) (projected_leg model.groups scalars 2 (projected_leg model.groups scalars 3 g)) b.scalar_links second in
    projected_numbers model.groups scalars links 0 4 (projected_at 1 links (projected_at 2 links (projected_at 3 links start))) (projected_leg model.groups scalars 1 (projected_leg model.groups scalars 2 (projected_leg model.groups scalars 3 g))) b.scalar_links third key l
    ∙ ap constant (four_legs model.groups scalars scalars scalars scalars g key l ∙ projected_at_places model.groups legs (ways Scalar h) key l)

-- ---- a text

text_numbers : (model : Model) (term : Term) (row column : ℕ) (cs : List Coordinate) → projected model.groups (legs_of model term.kind) (ways term.kind (one_way model term row column term.kind)) cs ≡ text_tensor model term row column cs
text_numbers model term row column cs =
    ap (λ w. projected model.groups (legs_of model term.kind) w cs) (fun_ext (ways-one_way model term row column term.kind))

-- the steps lead from the gathered values of a text to its tensor
pub text_numbers_of : (model : Model) (basis : Basis) (term : Term) (row column : ℕ) (raw t : Tensor) → IsBasis model basis → TextValues model term → HasValues (leg_count term.kind) (gathered_at (map entry (text_values model term row column))) raw → HasValues (leg_count term.kind) (steps term.kind basis (value raw)) t → HasNumbers model term.kind (text_tensor model term row column) t
text_numbers_of model basis term row column raw t b texts hr ht =
    let legs = legs_of model term.kind in
    let one = one_way model term row column term.kind in
    let start : (key : List ℕ) → length key ≡ leg_count term.kind → value raw key ≡ constant (at_places zero_ℚ legs one key) = λ key l. hr.value_is key l ∙ texts.sum row column key l in
    other_values (leg_count term.kind) (leg_count term.kind) (steps term.kind basis (value raw)) (λ key. constant (at_places zero_ℚ legs (text_tensor model term row column) key)) t refl (λ key l. steps_numbers model basis term.kind (value raw) one b start key l ∙ ap (λ w. constant (at_places zero_ℚ legs w key)) (fun_ext (text_numbers model term row column))) ht
