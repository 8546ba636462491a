use Rattle.std.specs.Prelude.{◌≡◌, length, get_or, set}
use Rattle.std.proofs.Common.{◌∙◌, ap, arith}
use Rattle.beta_poly.proofs.Steps.{at_number}
use Rattle.sparse_tensor.proofs.KeyLaws.{length_set}
use Rattle.sparse_tensor.proofs.PutBack.{put_step, put_end}
use Rattle.sparse_tensor.proofs.symmetries.exchanged_key.Goals as goal

pub loop-i-preserved : goal.loop-i-preserved
loop-i-preserved c =
    let leg = get_or c.args.legs.now c.loop-i.i 0 in
    let o = get_or c.args.order.now c.loop-i.i 0 in
    let same = c.requires.order in
    let moved_is : c.put.new.self ≡ set c.loop-i.moved leg (get_or c.args.key.now o 0) = c.put.ensures ∙ ap (set c.loop-i.moved leg) c.at.ensures in
    record {
      in_range = omega arith;
      long = ap length moved_is ∙ length_set c.loop-i.moved leg (get_or c.args.key.now o 0) ∙ c.loop-i.invariant.long;
      collected = put_step c.args.key.now c.loop-i.moved c.put.new.self c.args.legs.now c.args.order.now _ c.loop-i.i leg o (at_number c.args.legs.now c.loop-i.i 0 (omega arith)) (at_number c.args.order.now c.loop-i.i 0 (omega (arith, same))) moved_is c.loop-i.invariant.collected;
    }

pub returns : goal.returns
returns c = put_end c.loop-i.moved c.args.legs.now _ _ c.loop-i.i (omega arith) c.loop-i.invariant.collected
