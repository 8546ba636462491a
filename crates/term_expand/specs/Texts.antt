-- The values of a term's text with one way to give the legs to the fields: a key and a number for each assignment.
use Rattle.std.specs.Prelude.{ℕ, ◌-◌, List, [], ◌∷◌, ◌++◌, map, length, replicate}
use Rattle.std.specs.List.{flat_map}
use Rattle.frac128.specs.Rational.{zero_ℚ, ◌*ℚ◌}
use Rattle.beta_poly.specs.Polynomial.{constant}
use Rattle.sparse_tensor.specs.declared.values.Value.{Value}
use Rattle.model_core.specs.declared.model.Model.{Model}
use Rattle.model_core.specs.declared.term.TermKind.{TermKind}
use Rattle.model_core.specs.declared.term.TermKind.TheVariants.{Fermion, Scalar}
use Rattle.model_core.specs.declared.term.Monomial.{Monomial}
use Rattle.model_core.specs.declared.term.Term.{Term}
use Rattle.model_core.specs.ComponentLists.{scalar_list}
use Rattle.model_core.specs.MonomialValue.{factors_at, text_at}
use Rattle.model_core.specs.TermTensor.{Numbers}
use Rattle.term_expand.specs.declared.assignments.Assignment.{Assignment}
use Rattle.term_expand.specs.Assignments.{assignments}

-- how many legs a term's tensor has
abbrev pub leg_count : TermKind → ℕ
leg_count Fermion = 3
leg_count Scalar = 4

-- the places of fermions, then those of scalars, then that of the dummy on the legs that are left
abbrev pub given_places : Assignment → List ℕ
given_places given = given.fermions ++ given.scalars

abbrev pub key_of : ℕ → ℕ → Assignment → List ℕ
key_of legs dummy given = given_places given ++ replicate (legs - length (given_places given)) dummy

abbrev pub value_of_assignment : Model → Term → Monomial → Assignment → Value
value_of_assignment model term monomial given =
    record {
      key = key_of (leg_count term.kind) (length (scalar_list model)) given;
      value = constant (monomial.coefficient *ℚ factors_at model monomial.factors given.slots);
    }

abbrev pub monomial_values : Model → Term → ℕ → ℕ → Monomial → List Value
monomial_values model term row column monomial =
    map (value_of_assignment model term monomial) (assignments model row column monomial.factors)

abbrev pub text_values : Model → Term → ℕ → ℕ → List Value
text_values model term row column = flat_map (monomial_values model term row column) term.monomials

-- the value of a text with one way to give the legs to the fields
abbrev pub one_way : Model → Term → ℕ → ℕ → TermKind → Numbers
one_way model term row column Fermion (j ∷ k ∷ a ∷ []) = text_at model term row column (j ∷ k ∷ []) (a ∷ [])
one_way model term row column Fermion _ = zero_ℚ
one_way model term row column Scalar cs = text_at model term row column [] cs
