-- The refusals of polynomials are refusals of tensors.
use Rattle.std.proofs.Common.{inr}
use Rattle.frac128.specs.Rational.{ℚ}
use Rattle.beta_poly.specs.declared.fault.PolyFault.{PolyFault}
use Rattle.beta_poly.specs.declared.fault.PolyFault.TheVariants.{Overflow, NoMemory}
use Rattle.beta_poly.specs.Polynomial.{Polynomial}
use Rattle.beta_poly.specs.Refusals.{IsMultipleRefusal, IsProductRefusal, IsRefusedSum as IsRefusedTotal}
use Rattle.sparse_tensor.specs.Refusals.{IsTensorRefusal, IsRefusedSum, tensor_fault}

pub total_refused : (f : PolyFault) → IsRefusedTotal f → IsRefusedSum (tensor_fault f)
total_refused (Overflow pair) h = h
total_refused NoMemory h = tt

pub multiple_refused : (p : Polynomial) (c : ℚ) (f : PolyFault) → IsMultipleRefusal p c f → IsTensorRefusal (tensor_fault f)
multiple_refused p c (Overflow pair) h = inr h.refused
multiple_refused p c NoMemory h = tt

pub product_refused : (f : PolyFault) → IsProductRefusal f → IsTensorRefusal (tensor_fault f)
product_refused (Overflow pair) h = h
product_refused NoMemory h = tt
