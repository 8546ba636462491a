use Rattle.std.proofs.Common.{sym, ap, ◌∙◌, get_or}
use Rattle.beta_poly.specs.Polynomial.{poly_ring, add_poly}
use Rattle.gauge_two_loop.proofs.YukawaValues.{share-dummy, share-absent}
use Rattle.gauge_two_loop.proofs.yukawa.add_entry.Goals as goal

pub returns-then-key-dummy-clause-value : goal.returns-then-key-dummy-clause-value
returns-then-key-dummy-clause-value c =
    let key = c.args.key.now in
    sym (poly_ring.semiring.add_zero c.args.sum)
    ∙ ap (add_poly c.args.sum) (sym (share-dummy c.args.casimirs.now c.args.dummy c.args.yukawa.now (get_or key 0 0) (get_or key 1 0) (get_or key 2 0) c.args.value.now c.if-key-dummy.true))

pub returns-in-None-clause-value : goal.returns-in-None-clause-value
returns-in-None-clause-value c =
    let key = c.args.key.now in
    sym (poly_ring.semiring.add_zero c.args.sum)
    ∙ ap (add_poly c.args.sum) (sym (share-absent c.args.casimirs.now c.args.dummy c.args.yukawa.now (get_or key 0 0) (get_or key 1 0) (get_or key 2 0) c.args.value.now c.in-None.ensures))
