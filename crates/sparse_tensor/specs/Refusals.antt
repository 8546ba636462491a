-- The pair of fractions that a refusal carries.
use Rattle.std.specs.Prelude.{◌≢◌, ⊤, List, []}
use Rattle.frac128.specs.Frac.{SumFits}
use Rattle.beta_poly.specs.Refusals.{IsRefusedPair}
use Rattle.beta_poly.specs.declared.fault.PolyFault.{PolyFault}
use Rattle.beta_poly.specs.declared.fault.PolyFault.TheVariants.{Overflow as PolyOverflow, NoMemory as PolyNoMemory}
use Rattle.sparse_tensor.specs.declared.fault.TensorFault.{TensorFault}
use Rattle.sparse_tensor.specs.declared.fault.TensorFault.TheVariants.{Overflow, NoMemory}

-- a refusal carries two fractions whose sum or product is refused; want of memory says nothing
abbrev pub IsTensorRefusal : TensorFault → Type 0
IsTensorRefusal (Overflow pair) = IsRefusedPair pair.a pair.b
IsTensorRefusal NoMemory = ⊤

-- a refused sum carries its two fractions; want of memory says nothing
abbrev pub IsRefusedSum : TensorFault → Type 0
IsRefusedSum (Overflow pair) = SumFits pair.a pair.b → ⊥
IsRefusedSum NoMemory = ⊤

-- a refusal comes only where there is an item; want of memory says nothing
abbrev pub IsRefusalOf : {A : Type 0} → List A → TensorFault → Type 0
IsRefusalOf xs (Overflow pair) = (xs ≢ []) × IsRefusedPair pair.a pair.b
IsRefusalOf xs NoMemory = ⊤

-- a refused sum comes only where there is an item; want of memory says nothing
abbrev pub IsSumRefusalOf : {A : Type 0} → List A → TensorFault → Type 0
IsSumRefusalOf xs (Overflow pair) = (xs ≢ []) × (SumFits pair.a pair.b → ⊥)
IsSumRefusalOf xs NoMemory = ⊤

-- the fault of an operation on polynomials
abbrev pub tensor_fault : PolyFault → TensorFault
tensor_fault (PolyOverflow pair) = TensorFault.Overflow pair
tensor_fault PolyNoMemory = TensorFault.NoMemory
