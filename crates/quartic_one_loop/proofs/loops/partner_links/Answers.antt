use Rattle.std.proofs.Common.{◌≡◌, length, refl, subst, arith}
use Rattle.sparse_tensor.specs.declared.links.Link.{Link}
use Rattle.model_core.specs.Scalar.{scalar_components}
use Rattle.yukawa_one_loop.proofs.Coordinates.{coordinates_count}
use Rattle.quartic_one_loop.specs.LoopSums.{ArePartnerLinks}
use Rattle.quartic_one_loop.proofs.LoopLinks.{links_none, links_after, links_more}
use Rattle.quartic_one_loop.proofs.loops.partner_links.Goals as goal

pub loop-place-init : goal.loop-place-init
loop-place-init c = links_none c.args.model.now c.new-links.result c.new-links.ensures

pub partner-requires-clause-place : goal.partner-requires-clause-place
partner-requires-clause-place c = omega (arith, c.loop-place-test.true, c.scalar_count-place-end.ensures)

pub push-requires : goal.push-requires
push-requires c =
    let i = c.loop-place.place in
    links_after c.args.model.now i c.loop-place.links (record { from = i; to = c.partner.result; value = c.one.result }) c.loop-place.invariant refl

pub loop-place-preserved : goal.loop-place-preserved
loop-place-preserved c =
    let i = c.loop-place.place in
    let next : Link = record { from = i; to = c.partner.result; value = c.one.result } in
    links_more c.args.model.now i c.loop-place.links c.push.new.self next c.loop-place.invariant (record { from_is = refl; to_is = c.partner.ensures; value_is = c.one.ensures }) c.in_ok-push.ensures.ok

pub returns : goal.returns
returns c =
    let model = c.args.model.now in
    let ended : c.loop-place.place ≡ length (scalar_components model) = let count = coordinates_count model in omega (arith, c.loop-place.auto.place-end, c.loop-place-test.false, c.scalar_count-place-end.ensures, count) in
    subst (λ n. ArePartnerLinks model n c.loop-place.links) ended c.loop-place.invariant
