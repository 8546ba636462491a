-- What an expansion is, from the sums of all entries.
use Rattle.std.specs.Prelude.{◌≡◌, ℕ, List, [], map, length}
use Rattle.std.proofs.Common.{refl, sym, ap, ◌∙◌, subst}
use Rattle.beta_poly.specs.Polynomial.{Polynomial, poly_ring, zero_poly, add_poly}
use Rattle.sparse_tensor.specs.declared.values.Value.{Value}
use Rattle.sparse_tensor.specs.Tensor.{Tensor, HasValues}
use Rattle.sparse_tensor.specs.Operations.{entry, gathered_at}
use Rattle.sparse_tensor.proofs.Parts.{other_values}
use Rattle.model_core.specs.declared.model.Model.{Model}
use Rattle.model_core.specs.Directions.{CouplingEntry, entries_from, entries}
use Rattle.term_expand.specs.declared.directions.Direction.{Direction}
use Rattle.term_expand.specs.declared.expansion.Sums.{Sums}
use Rattle.term_expand.specs.Expansion.{AddsValues, Adds, no_sums}
use Rattle.term_expand.proofs.Added.{gathered_none, adds_none}

-- the tensor of values added to none
pub first_values : (legs : ℕ) (more : List ℕ → Polynomial) (new : List Value) (t : Tensor) → AddsValues legs more [] new → HasValues legs (gathered_at (map entry new)) t → HasValues legs more t
first_values legs more new t adds =
    other_values legs legs (gathered_at (map entry new)) more t refl
    (λ key l. adds.sums key l ∙ ap (λ p. add_poly p (more key)) (gathered_none key) ∙ poly_ring.semiring.add_comm zero_poly (more key) ∙ poly_ring.semiring.add_zero (more key))

-- sums of entries that are added to empty lists
pub adds_first : (model : Model) (es : List CouplingEntry) (yukawa scalar : List Value) (found : List Direction) (new : Sums) → yukawa ≡ [] → scalar ≡ [] → found ≡ [] → Adds model es (record { yukawa = yukawa; scalar = scalar; directions = found }) new → Adds model es no_sums new
adds_first model es yukawa scalar found new first second third adds = subst (λ old. Adds model es old new) (λ i. record { yukawa = first i; scalar = second i; directions = third i }) adds

-- a model without terms adds nothing
pub adds_nothing : (model : Model) (sums : Sums) → model.terms ≡ [] → Adds model (entries model) sums sums
adds_nothing model sums none = subst (λ terms. Adds model (entries_from 1 (length model.groups) terms) sums sums) (sym none) (adds_none model sums)
