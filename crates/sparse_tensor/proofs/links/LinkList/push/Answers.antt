use Rattle.std.proofs.Common.{subst, sym}
use Rattle.sparse_tensor.specs.Operations.{IsLinks, IsAfter}
use Rattle.sparse_tensor.proofs.LinkLaws.{links_push}
use Rattle.sparse_tensor.proofs.links.LinkList.push.Goals as goal

pub invariant_of-self-2 : goal.invariant_of-self-2
invariant_of-self-2 c =
    subst IsLinks (sym c.in_ok-push.ensures.items)
    (links_push c.self.inside.links.items c.args.link c.self.invariant (subst (λ ls. IsAfter ls c.args.link) (sym c.self.view_is) c.requires))
