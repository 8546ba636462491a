-- What the faults of the layers below are as faults of the derivation.
use Rattle.sparse_tensor.specs.declared.fault.TensorFault.{TensorFault}
use Rattle.sparse_tensor.specs.declared.fault.TensorFault.TheVariants as tensor
use Rattle.model_reader.specs.declared.error.ReadError.{ReadError}
use Rattle.model_reader.specs.declared.error.ReadError.TheVariants as read
use Rattle.gauge_check.specs.declared.fault.CheckError.{CheckError}
use Rattle.gauge_check.specs.declared.fault.CheckError.TheVariants as check
use Rattle.derive_core.specs.declared.fault.DeriveFault.{DeriveFault}
use Rattle.derive_core.specs.declared.fault.DeriveFault.TheVariants as derive

abbrev pub of_read : ReadError → DeriveFault
of_read (read.Fault fault) = derive.Read fault
of_read read.NoMemory = derive.NoMemory

abbrev pub of_tensors : TensorFault → DeriveFault
of_tensors (tensor.Overflow pair) = derive.Overflow pair
of_tensors tensor.NoMemory = derive.NoMemory

abbrev pub of_terms : CheckError → DeriveFault
of_terms (check.Fault fault) = derive.Term fault
of_terms (check.Overflow pair) = derive.Overflow pair
of_terms check.NoMemory = derive.NoMemory
