-- The components of a model's fields: a generation and a tuple of index values, and the projectors on them.
use Rattle.std.specs.Prelude.{ℕ, ◌==◌, ◌&&◌, Bool, true, false, not, if◌then◌else◌, List, [], ◌∷◌, ◌++◌, map, take, drop, replicate}
use Rattle.std.specs.List.{flat_map, range_with_len}
use Rattle.std.specs.Str.{bytes_eq}
use Rattle.exact_algebra.specs.Sums.{sum}
use Rattle.frac128.specs.Rational.{ℚ, zero_ℚ, one_ℚ, ◌*ℚ◌}
use Rattle.frac128.specs.RationalLaws.{ring_ℚ}
use Rattle.su_reps.specs.declared.rep.Rep.{Rep}
use Rattle.su_reps.specs.Tuples.{slots, projector}
use Rattle.model_core.specs.declared.group.Group.{Group}
use Rattle.model_core.specs.declared.field.Field.{Field}
use Rattle.model_core.specs.declared.model.Model.{Model}

-- ---- index tuples

-- How many values each slot of a field has. The slots stand in the order of groups, and a slot of SU(n) has n values.
abbrev pub slot_sizes : List Group → List Rep → List ℕ
slot_sizes (group ∷ groups) (rep ∷ reps) = replicate (slots rep) group.n ++ slot_sizes groups reps
slot_sizes _ _ = []

-- all tuples of slot values, each from 1 to the slot's size, in lexicographic order
abbrev pub tuples : List ℕ → List (List ℕ)
tuples [] = [] ∷ []
tuples (n ∷ sizes) = flat_map (λ a. map (λ p. a ∷ p) (tuples sizes)) (range_with_len 1 n)

-- ---- components

-- A component of a field, or of its conjugate. Generations count from 1.
pub record Component : Type 0 where
  pub field : Field
  pub conj : Bool
  pub generation : ℕ
  pub values : List ℕ

-- the components of a field or of its conjugate: by generation, then by tuple
abbrev pub copies_of : Bool → List Group → Field → List Component
copies_of conj groups field =
    flat_map (λ g. map (λ p. record { field = field; conj = conj; generation = g; values = p }) (tuples (slot_sizes groups field.reps))) (range_with_len 1 field.generations)

-- the components of a field itself
abbrev pub components_of : List Group → Field → List Component
components_of = copies_of false

-- the fermion components of a model, field by field
abbrev pub fermion_components : Model → List Component
fermion_components model = flat_map (components_of model.groups) model.fermions

-- ---- projectors

-- the product over the groups of the projectors on each representation's slots
abbrev pub projector_over : List Group → List Rep → List ℕ → List ℕ → ℚ
projector_over (group ∷ groups) (rep ∷ reps) p q =
    projector rep group.n (take (slots rep) p) (take (slots rep) q) *ℚ projector_over groups reps (drop (slots rep) p) (drop (slots rep) q)
projector_over _ _ p q = one_ℚ

-- both are conjugate, or both are not
abbrev pub same_side : Bool → Bool → Bool
same_side true b = b
same_side false b = not b

-- both components are of one field, on one side, and of one generation
abbrev pub are_copies : Component → Component → Bool
are_copies c d = (bytes_eq c.field.name d.field.name && same_side c.conj d.conj) && c.generation == d.generation

-- the projector on the components: 0 between different fields, conjugations or generations
abbrev pub projector_at : List Group → Component → Component → ℚ
projector_at groups c d = if are_copies c d then projector_over groups c.field.reps c.values d.values else zero_ℚ

-- the trace of a diagonal matrix over components, taken with projectors
abbrev pub trace_over : List Group → List Component → (Component → ℚ) → ℚ
trace_over groups components matrix = sum ring_ℚ.semiring components (λ c. projector_at groups c c *ℚ matrix c)
