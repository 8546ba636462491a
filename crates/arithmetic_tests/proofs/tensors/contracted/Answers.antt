use Rattle.std.proofs.Common.{rules}
use Rattle.sparse_tensor.specs.Constants.{AllConstant}
use Rattle.arithmetic_tests.proofs.ConstantLaws.{constants_fit}
use Rattle.arithmetic_tests.proofs.tensors.contracted.Goals as goal

pub contract-joined-requires-clause-fits : goal.contract-joined-requires-clause-fits
contract-joined-requires-clause-fits g c =
    let first : AllConstant c.args.first.now = search rules in
    let second : AllConstant c.args.second.now = search rules in
    constants_fit c.args.first.now c.args.second.now first second
