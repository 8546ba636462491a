use Rattle.std.proofs.Common.{◌≡◌, ◌++◌, replicate}
use Rattle.term_expand.specs.Tokens.{dummy_token}
use Rattle.term_expand.proofs.token.push_dummies.Given as goal

abbrev pub invariant-loop-i : goal.invariant-loop-i
invariant-loop-i l = l.name ≡ l.initial.name ++ replicate l._i dummy_token
