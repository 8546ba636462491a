use Rattle.std.specs.Vec.Iter.{into_iter_items, into_iter_len}
use Rattle.std.proofs.Common.{◌≡◌, sym, rules}
use Rattle.beta_poly.proofs.Neighbours.{counted_none, counted_step}
use Rattle.beta_poly.proofs.Totals.{total_of, collect_none, collect_next, collect_end}
use Rattle.beta_poly.proofs.polynomial.collected.Goals as goal

pub loop-polynomial-init : goal.loop-polynomial-init
loop-polynomial-init c = record {
  counted = search rules;
  collected = collect_none c.new-out.result.items c.args.polynomials.items (into_iter_items c.into_iter-rest.result) c.new-out.ensures.items (sym c.into_iter-rest.ensures.rest);
}

pub loop-polynomial-preserved : goal.loop-polynomial-preserved
loop-polynomial-preserved c = record {
  counted = counted_step (into_iter_items c.loop-polynomial.rest) (into_iter_items c.next.new.self) c.in-Some.polynomial (into_iter_len c.loop-polynomial.rest) (into_iter_len c.next.new.self) c.loop-polynomial.invariant.counted c.in-Some.ensures.items c.in-Some.ensures.len;
  collected = collect_next c.loop-polynomial.out.items c.append.new.self.items c.polynomial.inside.terms.items (into_iter_items c.loop-polynomial.rest) (into_iter_items c.next.new.self) c.in-Some.polynomial _ c.in-Some.ensures.items c.polynomial.view_is c.in_ok-append.ensures.items c.loop-polynomial.invariant.collected;
}

pub returns : goal.returns
returns c =
    let zero : into_iter_len c.loop-polynomial.rest ≡ 0 = search rules in
    let none = counted_none (into_iter_items c.loop-polynomial.rest) (into_iter_len c.loop-polynomial.rest) c.loop-polynomial.invariant.counted zero in
    collect_end c.loop-polynomial.out.items (into_iter_items c.loop-polynomial.rest) (total_of c.args.polynomials.items) none c.loop-polynomial.invariant.collected
