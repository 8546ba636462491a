use Rattle.std.proofs.Common.{sym, ◌∙◌}
use Rattle.model_reader.proofs.Members.{found_here, found_later}
use Rattle.model_reader.proofs.keys.value_at_bytes.Goals as goal

pub returns-then-eq : goal.returns-then-eq
returns-then-eq c =
    found_here c.args.key.now c.as_bytes.result.now _ c.in-Some.found.now c.in-Some.value.now _ _
    c.loop-found.invariant c.in-Some.ensures.steps c.as_bytes.ensures.value (sym c.eq.ensures ∙ c.if-eq.true)

pub loop-found-preserved : goal.loop-found-preserved
loop-found-preserved c =
    found_later c.args.key.now c.as_bytes.result.now _ c.in-Some.found.now c.in-Some.value.now _ _
    c.loop-found.invariant c.in-Some.ensures.steps c.as_bytes.ensures.value (sym c.eq.ensures ∙ c.if-eq.false)
