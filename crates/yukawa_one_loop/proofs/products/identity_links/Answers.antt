use Rattle.std.proofs.Common.{ap}
use Rattle.yukawa_one_loop.proofs.IdentityLinks.{identity_after, identity_more}
use Rattle.yukawa_one_loop.proofs.products.identity_links.Goals as goal

pub push-requires : goal.push-requires
push-requires c =
    let i = c.loop-place.place in
    identity_after i c.loop-place.links (record { from = i; to = i; value = c.one.result }) c.loop-place.invariant (ap (λ v. record { from = i; to = i; value = v }) c.one.ensures)

pub loop-place-preserved : goal.loop-place-preserved
loop-place-preserved c =
    let i = c.loop-place.place in
    identity_more i c.loop-place.links c.push.new.self (record { from = i; to = i; value = c.one.result }) c.loop-place.invariant (ap (λ v. record { from = i; to = i; value = v }) c.one.ensures) c.in_ok-push.ensures.ok
