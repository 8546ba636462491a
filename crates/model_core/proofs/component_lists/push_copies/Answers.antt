use Rattle.std.proofs.Common.{◌++◌, false, map, ap, ◌∙◌, arith}
use Rattle.std.proofs.lemmas.List.{take_all}
use Rattle.model_core.specs.Component.{copies_of}
use Rattle.model_core.specs.ComponentLists.{placed}
use Rattle.model_core.proofs.CountLaws.{length-copies_of}
use Rattle.model_core.proofs.ComponentListLaws.{next_image}
use Rattle.model_core.proofs.component_lists.push_copies.Goals as goal

pub loop-rest-preserved : goal.loop-rest-preserved
loop-rest-preserved c =
    next_image (placed c.args.place) c.args.components.now c.loop-rest.components c.push.new.self (copies_of c.args.conj c.args.groups.now c.args.field.now) c.loop-rest.rest _ c.loop-rest.invariant (c.position_of-generation.ensures c.args.conj) c.in_ok-push.ensures.ok

pub returns : goal.returns
returns c =
    let copies = copies_of c.args.conj c.args.groups.now c.args.field.now in
    c.loop-rest.invariant
    ∙ ap (λ xs. c.args.components.now ++ map (placed c.args.place) xs)
    (take_all c.loop-rest.rest copies (omega (arith, c.loop-rest-test.false, c.field_count-rest-end.ensures.value, length-copies_of c.args.conj c.args.groups.now c.args.field.now, length-copies_of false c.args.groups.now c.args.field.now)))
