use Rattle.std.proofs.lemmas.Result.{err_from_is_err_and}
use Rattle.sparse_tensor.specs.Tensor.{entries_of}
use Rattle.derive_core.proofs.BlockSums.{refusal_front, refusal_rest}
use Rattle.derive_core.proofs.block_betas.side_betas.Goals as goal

pub returns-in_err-conjugate_yukawa-clause-refused_where : goal.returns-in_err-conjugate_yukawa-clause-refused_where
returns-in_err-conjugate_yukawa-clause-refused_where c =
    let given = err_from_is_err_and c.from_residual.result c.from_residual.ensures.1 in
    rw (given.1, given.2) (refusal_front (entries_of c.args.yukawa) (entries_of c.args.scalar.now) c.in_err-conjugate_yukawa.field-0.0 c.in_err-conjugate_yukawa.ensures.refused)

pub returns-in_err-own-clause-refused_where : goal.returns-in_err-own-clause-refused_where
returns-in_err-own-clause-refused_where c =
    let given = err_from_is_err_and c.from_residual-in_err-own.result c.from_residual-in_err-own.ensures.1 in
    rw (given.1, given.2) (refusal_rest (entries_of c.args.yukawa) (entries_of c.args.scalar.now) c.in_err-own.field-0.0 c.in_err-own.ensures.refused)

pub returns-in_err-conjugate-clause-refused_where : goal.returns-in_err-conjugate-clause-refused_where
returns-in_err-conjugate-clause-refused_where c =
    let given = err_from_is_err_and c.from_residual-in_err-conjugate.result c.from_residual-in_err-conjugate.ensures.1 in
    rw (given.1, given.2) (refusal_rest (entries_of c.args.yukawa) (entries_of c.args.scalar.now) c.in_err-conjugate.field-0.0 c.in_err-conjugate.ensures.refused)
