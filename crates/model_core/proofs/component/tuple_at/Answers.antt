use Rattle.std.proofs.Common.{◌≡◌, ◌+◌, ◌/◌, ◌%◌, ◌++◌, ℕ, List, [], ◌∷◌, get_or, length, drop, ap, sym, ◌∙◌, arith, append_assoc, length-append}
use Rattle.model_core.specs.Place.{tuple_at}
use Rattle.model_core.proofs.CountLaws.{slot_step}
use Rattle.model_core.proofs.component.tuple_at.Goals as goal

pub nonzero_div-rest : goal.nonzero_div-rest
nonzero_div-rest c =
    let step = slot_step c.args.sizes.now c.loop-size.size-index c.loop-size.rest c.loop-size.count c.requires.small (omega arith) c.loop-size.invariant.counted c.loop-size.invariant.within in
    rw c.from-count.ensures step.positive

pub overflow_cast-rest : goal.overflow_cast-rest
overflow_cast-rest c =
    let step = slot_step c.args.sizes.now c.loop-size.size-index c.loop-size.rest c.loop-size.count c.requires.small (omega arith) c.loop-size.invariant.counted c.loop-size.invariant.within in
    rw c.from-count.ensures (omega (arith, step.small))

pub nonzero_rem-rest : goal.nonzero_rem-rest
nonzero_rem-rest c =
    let step = slot_step c.args.sizes.now c.loop-size.size-index c.loop-size.rest c.loop-size.count c.requires.small (omega arith) c.loop-size.invariant.counted c.loop-size.invariant.within in
    rw c.from-count.ensures step.positive

pub loop-size-preserved : goal.loop-size-preserved
loop-size-preserved c =
    let step = slot_step c.args.sizes.now c.loop-size.size-index c.loop-size.rest c.loop-size.count c.requires.small (omega arith) c.loop-size.invariant.counted c.loop-size.invariant.within in
    let digit = c.loop-size.rest / (c.loop-size.count / get_or c.args.sizes.now c.loop-size.size-index 0) + 1 in
    let values : List ℕ = c.loop-size.values in
    let added : c.extend.new.self ≡ values ++ digit ∷ [] = c.extend.ensures ∙ ap (λ k. values ++ (c.loop-size.rest / (c.loop-size.count / k) + 1) ∷ []) c.from-count.ensures in
    rw c.from-count.ensures (record {
      so_far =
          ap (λ t. t ++ tuple_at (drop (c.loop-size.size-index + 1) c.args.sizes.now) (c.loop-size.rest % (c.loop-size.count / get_or c.args.sizes.now c.loop-size.size-index 0))) added
          ∙ append_assoc values (digit ∷ []) _
          ∙ ap (λ t. values ++ t) (sym step.next)
          ∙ c.loop-size.invariant.so_far;
      counted = step.counted;
      within = step.within;
      filled = ap length added ∙ length-append values (digit ∷ []) ∙ ap (λ k. k + 1) c.loop-size.invariant.filled;
    })
