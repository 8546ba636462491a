use Rattle.std.proofs.Common.{length, ap, refl, subst, arith}
use Rattle.model_core.specs.Directions.{numbered}
use Rattle.term_expand.specs.declared.expansion.Place.{Place}
use Rattle.term_expand.specs.Expansion.{Adds}
use Rattle.term_expand.proofs.Added.{adds_none}
use Rattle.term_expand.proofs.NumberedTerms.{length-cells, row_ids, rows_count, rows_step, rows_end}
use Rattle.term_expand.proofs.expansion.add_term.Goals as goal

pub loop-row-init : goal.loop-row-init
loop-row-init c = record { added = adds_none c.args.model.now c.args.sums.now; numbered = omega arith }

pub loop-row-preserved : goal.loop-row-preserved
loop-row-preserved c =
    let term = c.args.term.now in
    let within = c.loop-row-test.true in
    let next : Place = record { term = c.args.place.now.term; id = c.loop-row.id } in
    record {
      added = rows_step c.args.model.now c.args.place.now next term c.loop-row.row _ c.args.sums.now c.loop-row.sums c.add_row.new.sums within refl c.loop-row.invariant.numbered refl c.loop-row.invariant.added c.in_ok-id.ensures.value;
      numbered = omega (arith, c.in_ok-id.ensures.id, c.loop-row.invariant.numbered, rows_count term c.loop-row.row within);
    }

pub add_row-requires-clause-ids : goal.add_row-requires-clause-ids
add_row-requires-clause-ids c =
    omega (arith, c.requires.ids, c.loop-row.invariant.numbered, row_ids c.args.term.now c.loop-row.row c.loop-row-test.true)

pub returns-clause-id : goal.returns-clause-id
returns-clause-id c =
    omega (arith, c.loop-row.invariant.numbered, ap length (rows_end c.args.term.now c.loop-row.row (omega (arith, c.loop-row-test.false))), length-cells c.args.term.now)

pub returns-clause-value : goal.returns-clause-value
returns-clause-value c =
    subst (λ cs. Adds c.args.model.now (numbered c.args.place.now.term c.args.place.now.id c.args.term.now cs) c.args.sums.now c.loop-row.sums) (rows_end c.args.term.now c.loop-row.row (omega (arith, c.loop-row-test.false))) c.loop-row.invariant.added
