use Rattle.std.proofs.Common.{◌≡◌, ◌++◌, map, drop}
use Rattle.term_expand.specs.Tokens.{token_of}
use Rattle.term_expand.proofs.token.block_name.Given as goal

abbrev pub invariant-loop-token : goal.invariant-loop-token
invariant-loop-token l = l.name ++ map token_of (drop l.token-index l.content) ≡ map token_of l.content
