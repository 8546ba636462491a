-- When a beta function of a gauge coupling is refused.
use Rattle.std.proofs.Common.{◌≡◌, [], inr}
use Rattle.beta_poly.specs.declared.fault.PolyFault.{PolyFault}
use Rattle.beta_poly.specs.declared.fault.PolyFault.TheVariants.{Overflow as PolyOverflow, NoMemory as PolyNoMemory}
use Rattle.beta_poly.specs.Polynomial.{Polynomial, zero_poly}
use Rattle.beta_poly.specs.Refusals.{IsSumRefusal}
use Rattle.sparse_tensor.specs.declared.fault.TensorFault.{TensorFault}
use Rattle.sparse_tensor.specs.declared.fault.TensorFault.TheVariants.{Overflow, NoMemory}
use Rattle.sparse_tensor.specs.Refusals.{IsRefusalOf, tensor_fault}
use Rattle.sparse_tensor.specs.Tensor.{Tensor, HasValues, entries_of}
use Rattle.model_core.specs.declared.model.Model.{Model}
use Rattle.model_core.specs.Directions.{yukawa_at}
use Rattle.gauge_two_loop.specs.Refused.{IsGaugeRefusal}
use Rattle.gauge_two_loop.proofs.Terms.{first_refused, refused_pair, zero_fits}
use Rattle.gauge_two_loop.proofs.YukawaValues.{no_entries}

module _ (model : Model) (t : Tensor) (has : HasValues 3 (yukawa_at model) t) where
  -- a refusal among the entries of the Yukawa tensor
  pub entry_refusal : (fault : TensorFault) → IsRefusalOf (entries_of t) fault → IsGaugeRefusal model fault
  entry_refusal (Overflow pair) refused = (inr (λ none. refused.0 (no_entries model t has none)), refused.1)
  entry_refusal NoMemory refused = tt

  -- a refused sum with a part that is 0 where there is no entry
  pub part_refusal : (p q : Polynomial) (fault : PolyFault) → (entries_of t ≡ [] → q ≡ zero_poly) → IsSumRefusal p q fault → IsGaugeRefusal model (tensor_fault fault)
  part_refusal p q (PolyOverflow pair) zero first =
      (inr (λ none. first_refused p q pair.a pair.b first (zero_fits p q (zero (no_entries model t has none)))), refused_pair p q pair.a pair.b first)
  part_refusal p q PolyNoMemory zero first = tt
