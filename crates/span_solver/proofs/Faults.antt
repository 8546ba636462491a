-- The refusals of fractions and polynomials are refusals of tensors.
use Rattle.std.specs.Prelude.{◌≡◌, ◌≢◌, List, []}
use Rattle.std.proofs.Common.{inl, inr, subst, sym}
use Rattle.frac128.specs.Rational.{ℚ, ◌*ℚ◌}
use Rattle.frac128.specs.Frac.{SumFits, IsSmall}
use Rattle.frac128.specs.declared.frac.Overflow.{Overflow}
use Rattle.beta_poly.specs.declared.fault.PolyFault.{PolyFault}
use Rattle.beta_poly.specs.declared.fault.PolyFault.TheVariants.{Overflow as PolyOverflow, NoMemory as PolyNoMemory}
use Rattle.beta_poly.specs.Polynomial.{Polynomial}
use Rattle.beta_poly.specs.Refusals.{IsSumRefusal, IsMultipleRefusal, IsRefusedPair}
use Rattle.sparse_tensor.specs.declared.fault.TensorFault.{TensorFault}
use Rattle.sparse_tensor.specs.declared.fault.TensorFault.TheVariants.{Overflow as TensorOverflow, NoMemory}
use Rattle.sparse_tensor.specs.Refusals.{IsTensorRefusal, IsRefusalOf, tensor_fault}

pub sum_refused : (p q : Polynomial) (f : PolyFault) → IsSumRefusal p q f → IsTensorRefusal (tensor_fault f)
sum_refused p q (PolyOverflow pair) h = inl h.refused
sum_refused p q PolyNoMemory h = tt

pub multiple_refused : (p : Polynomial) (c : ℚ) (f : PolyFault) → IsMultipleRefusal p c f → IsTensorRefusal (tensor_fault f)
multiple_refused p c (PolyOverflow pair) h = inr h.refused
multiple_refused p c PolyNoMemory h = tt

pub product_pair : (a b : ℚ) (pair : Overflow) → pair ≡ record { a = a; b = b } → (IsSmall (a *ℚ b) → ⊥) → IsRefusedPair pair.a pair.b
product_pair a b pair e n = inr (subst (λ (q : Overflow). IsSmall (q.a *ℚ q.b) → ⊥) (sym e) n)

pub sum_pair : (a b : ℚ) (pair : Overflow) → pair ≡ record { a = a; b = b } → (SumFits a b → ⊥) → IsRefusedPair pair.a pair.b
sum_pair a b pair e n = inl (subst (λ (q : Overflow). SumFits q.a q.b → ⊥) (sym e) n)

-- a refusal where there is an item
pub refusal_of : {A : Type 0} (xs : List A) (f : TensorFault) → xs ≢ [] → IsTensorRefusal f → IsRefusalOf xs f
refusal_of xs (TensorOverflow pair) n h = (n, h)
refusal_of xs NoMemory n h = tt
