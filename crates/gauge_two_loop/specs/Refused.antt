-- Fractions whose sum or product is refused, and the numbers for which none is.
use Rattle.std.specs.Prelude.{◌≡◌, ◌≢◌, ℕ, ◌≤◌, ◌⊎◌, ⊤, ℤ, pos, unsigned_abs, []}
use Rattle.frac128.specs.declared.frac.Overflow.{Overflow}
use Rattle.frac128.specs.Rational.{ℚ, ratio, ◌*ℚ◌}
use Rattle.frac128.specs.Frac.{SumFits, IsSmall}
use Rattle.beta_poly.specs.Refusals.{IsRefusedPair}
use Rattle.sparse_tensor.specs.declared.fault.TensorFault.{TensorFault}
use Rattle.sparse_tensor.specs.declared.fault.TensorFault.TheVariants.{Overflow as TensorOverflow, NoMemory}
use Rattle.model_core.specs.declared.model.Model.{Model}
use Rattle.model_core.specs.Plain.{IsPlain}

-- two fractions whose sum or product is refused: a number that is formed on the way to the sum, or one of the product, is greater in size than 2^127 - 1
abbrev pub IsRefused : Overflow → Type 0
IsRefused pair = (¬ SumFits pair.a pair.b) ⊎ (¬ IsSmall (pair.a *ℚ pair.b))

-- such a pair where the model isn't plain; want of memory says nothing
abbrev pub IsPlainRefusal : Model → TensorFault → Type 0
IsPlainRefusal model (TensorOverflow pair) = (¬ IsPlain model) × IsRefusedPair pair.a pair.b
IsPlainRefusal model NoMemory = ⊤

-- such a pair where the model isn't plain or has a term; want of memory says nothing
abbrev pub IsGaugeRefusal : Model → TensorFault → Type 0
IsGaugeRefusal model (TensorOverflow pair) = ((¬ IsPlain model) ⊎ (model.terms ≢ [])) × IsRefusedPair pair.a pair.b
IsGaugeRefusal model NoMemory = ⊤

-- a multiple of 1/36 from 0 to bound / 36
pub record IsSquareSum (bound : ℕ) (x : ℚ) : Type 0 where
  pub multiple : ℕ
  pub is : x ≡ ratio (pos multiple) 36
  pub small : multiple ≤ bound

-- a multiple of 1/unit that is at most bound / unit in size
pub record IsShare (unit bound : ℕ) (x : ℚ) : Type 0 where
  pub multiple : ℤ
  pub is : x ≡ ratio multiple unit
  pub small : unsigned_abs multiple ≤ bound
