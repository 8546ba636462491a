use Rattle.std.proofs.Common.{◌≡◌, ◌++◌, ◌+◌, suc, length, ap, subst, refl, ◌∙◌, arith}
use Rattle.std.specs.List.{All}
use Rattle.sparse_tensor.specs.declared.values.Value.{Value}
use Rattle.sparse_tensor.specs.Tensor.{rank_of, entries_of}
use Rattle.derive_core.specs.SideBetas.{named_values}
use Rattle.derive_core.proofs.BlockSums.{block_values, block_keys}
use Rattle.derive_core.proofs.block_betas.part_of_block.Goals as goal

pub gather-requires-clause-keys : goal.gather-requires-clause-keys
gather-requires-clause-keys c =
    let model = c.args.model.now in
    let name = c.args.name.now in
    let own = c.args.own.now in
    let conjugate = c.args.conjugate.now in
    let vs = c.push_side-2.new.values in
    let is : vs ≡ block_values model name own conjugate = c.in_ok-push_side-2.ensures ∙ ap (λ xs. xs ++ named_values model name 1 (entries_of conjugate)) (c.in_ok-push_side.ensures ∙ ap (λ xs. xs ++ named_values model name 0 (entries_of own)) c.new-values.ensures) in
    let rank : suc (rank_of own) ≡ c.rank.result + 1 = omega (arith, c.rank.ensures.value) in
    subst (λ n. All (λ (v : Value). length v.key ≡ n) vs) rank (block_keys model name (rank_of own) own conjugate vs refl c.requires.ranks is)
