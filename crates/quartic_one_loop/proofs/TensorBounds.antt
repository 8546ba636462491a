-- No symbol stands twice in a value of the Yukawa tensor or of the scalar tensor.
use Rattle.std.specs.Prelude.{Bool, true, false, cond, List, Option, Some, None}
use Rattle.std.proofs.Common.{subst, sym, ◌∙◌}
use Rattle.beta_poly.specs.Exponents.{AllWithin}
use Rattle.beta_poly.specs.Monomial.{power}
use Rattle.beta_poly.specs.Polynomial.{zero_poly, add_poly}
use Rattle.beta_poly.specs.Symbol.{conj_symbol}
use Rattle.beta_poly.proofs.ExponentLaws.{IsWithin-power, AllWithin-zero, AllWithin-term, AllWithin-add}
use Rattle.sparse_tensor.specs.Tensor.{Tensor, HasValues}
use Rattle.model_core.specs.declared.model.Model.{Model}
use Rattle.model_core.specs.declared.term.TermKind.TheVariants.{Scalar}
use Rattle.model_core.specs.Content.{is_fermionic}
use Rattle.model_core.specs.Directions.{CouplingEntry, entries, symbol_of, multiple, entry_tensor, conjugate_tensor, scalar_part, scalar_tensor, yukawa_at, scalar_at}
use Rattle.model_core.specs.Scalar.{Coordinate}
use Rattle.model_core.specs.TermTensor.{legs_of, coordinates_at, value_or}
use Rattle.gauge_two_loop.proofs.YukawaValues.{AllWithin-sum, is_yukawa as has_places}
use Rattle.yukawa_one_loop.proofs.Bounds.{within_values}
use Rattle.quartic_one_loop.specs.FourLegs.{IsYukawa, IsQuartic}

scalar_within : (model : Model) (cs : List Coordinate) (e : CouplingEntry) → AllWithin 1 (scalar_part model cs e)
scalar_within model cs e = by_kind (is_fermionic e.term.kind) e.term.hc
  where
    by_kind : (fermionic conjugate : Bool) → AllWithin 1 (cond fermionic zero_poly (add_poly (multiple (symbol_of e) (entry_tensor model e cs)) (cond conjugate (multiple (conj_symbol (symbol_of e)) (conjugate_tensor model e cs)) zero_poly)))
    by_kind true conjugate = AllWithin-zero 1
    by_kind false true =
        AllWithin-add 1 (multiple (symbol_of e) (entry_tensor model e cs)) (multiple (conj_symbol (symbol_of e)) (conjugate_tensor model e cs))
        (AllWithin-term 1 (power (symbol_of e) 1) (entry_tensor model e cs) (IsWithin-power (symbol_of e) 1))
        (AllWithin-term 1 (power (conj_symbol (symbol_of e)) 1) (conjugate_tensor model e cs) (IsWithin-power (conj_symbol (symbol_of e)) 1))
    by_kind false false =
        AllWithin-add 1 (multiple (symbol_of e) (entry_tensor model e cs)) zero_poly
        (AllWithin-term 1 (power (symbol_of e) 1) (entry_tensor model e cs) (IsWithin-power (symbol_of e) 1))
        (AllWithin-zero 1)

tensor_within : (model : Model) (o : Option (List Coordinate)) → AllWithin 1 (value_or zero_poly (scalar_tensor model) o)
tensor_within model None = AllWithin-zero 1
tensor_within model (Some cs) = AllWithin-sum 1 (entries model) (scalar_part model cs) (scalar_within model cs)

pub is_quartic : (model : Model) (t : Tensor) → HasValues 4 (scalar_at model) t → IsQuartic model t
is_quartic model t has = record {
  values = has;
  within =
      within_values 1 t (λ key l. subst (AllWithin 1) (sym (has.value_is key (l ∙ has.rank_is))) (tensor_within model (coordinates_at (legs_of model Scalar) key)));
}

pub is_yukawa : (model : Model) (t : Tensor) → HasValues 3 (yukawa_at model) t → IsYukawa model t
is_yukawa model t has = record {
  values = has;
  within = within_values 1 t (λ key l. (has_places model t has).within key (l ∙ has.rank_is));
}
