use Rattle.std.proofs.Common.{length, sym, ap, ◌∙◌}
use Rattle.exact_algebra.specs.Sums.{sum-nil}
use Rattle.beta_poly.specs.Polynomial.{poly_ring, add_poly}
use Rattle.gauge_two_loop.specs.Pieces.{entry_share}
use Rattle.gauge_two_loop.proofs.YukawaValues.{entry_long, entry_inside, entry_small, shares-more}
use Rattle.gauge_two_loop.proofs.yukawa.trace_of.Goals as goal

pub loop-place-init : goal.loop-place-init
loop-place-init c = record { so_far = c.zero-sum.ensures ∙ sym (sum-nil poly_ring.semiring _) }

pub add_entry-requires-clause-key : goal.add_entry-requires-clause-key
add_entry-requires-clause-key c =
    entry_long c.args.yukawa.now c.loop-place.place (c.item.result.0.now, c.item.result.1.now) c.item.ensures (length c.args.casimirs.now) c.requires

pub add_entry-requires-clause-inside : goal.add_entry-requires-clause-inside
add_entry-requires-clause-inside c =
    entry_inside c.args.yukawa.now c.loop-place.place (c.item.result.0.now, c.item.result.1.now) c.item.ensures (length c.args.casimirs.now) c.requires

pub add_entry-requires-clause-value : goal.add_entry-requires-clause-value
add_entry-requires-clause-value c =
    entry_small c.args.yukawa.now c.loop-place.place (c.item.result.0.now, c.item.result.1.now) c.item.ensures (length c.args.casimirs.now) c.requires

pub loop-place-preserved : goal.loop-place-preserved
loop-place-preserved c =
    let casimirs = c.args.casimirs.now in
    let yukawa = c.args.yukawa.now in
    record {
      so_far =
          c.in_ok-sum.ensures.value
          ∙ ap (λ s. add_poly s (entry_share casimirs c.args.dummy yukawa (c.item.result.0.now, c.item.result.1.now))) c.loop-place.invariant.so_far
          ∙ sym (shares-more yukawa c.loop-place.place (c.item.result.0.now, c.item.result.1.now) c.item.ensures casimirs c.args.dummy);
    }
