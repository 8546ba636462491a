use Rattle.std.proofs.Common.{suc, map, length}
use Rattle.std.proofs.lemmas.Result.{IfOk-weaker}
use Rattle.sparse_tensor.specs.Operations.{entry, gathered_at}
use Rattle.sparse_tensor.specs.Tensor.{HasValues, rank_of}
use Rattle.derive_core.specs.BlockBetas.{block_beta}
use Rattle.derive_core.proofs.BlockSums.{block_values, four_legs, has_yukawa_block, has_scalar_block}
use Rattle.derive_core.proofs.block_betas.block_beta.Goals as goal

pub returns-then-name-eq3-clause-value : goal.returns-then-name-eq3-clause-value
returns-then-name-eq3-clause-value c =
    let model = c.args.model.now in
    let name = c.args.name.now in
    let sides = c.args.sides.now in
    IfOk-weaker c.part_of_block.result (HasValues (suc (rank_of sides.yukawa)) (gathered_at (map entry (block_values model name sides.yukawa sides.conjugate_yukawa)))) (HasValues (suc (length name)) (block_beta model name))
    (λ found gathered. has_yukawa_block model name sides found c.requires.sides c.if-name-eq3.true gathered)
    c.part_of_block.ensures.value

pub returns-clause-value : goal.returns-clause-value
returns-clause-value c =
    let model = c.args.model.now in
    let name = c.args.name.now in
    let sides = c.args.sides.now in
    IfOk-weaker c.part_of_block-2.result (HasValues (suc (rank_of sides.scalar)) (gathered_at (map entry (block_values model name sides.scalar sides.conjugate_scalar)))) (HasValues (suc (length name)) (block_beta model name))
    (λ found gathered. has_scalar_block model name sides found c.requires.sides (four_legs (length name) c.requires.legs c.if-name-eq3.false) gathered)
    c.part_of_block-2.ensures.value
