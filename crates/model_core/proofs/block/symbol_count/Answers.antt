use Rattle.std.proofs.Common.{◌≡◌, ◌+◌, drop, ap, ◌∙◌, arith}
use Rattle.std.specs.Prelude.{sum_by}
use Rattle.std.proofs.lemmas.List.Sums.{sum_by-cons}
use Rattle.model_core.specs.Content.{symbols_at, rows_of}
use Rattle.model_core.proofs.ContentLaws.{drop-rows, drop-all_rows}
use Rattle.model_core.proofs.block.symbol_count.Goals as goal

pub loop-place-preserved : goal.loop-place-preserved
loop-place-preserved c =
    let term = c.args.term.now in
    let sum = sum_by (symbols_at term) in
    let next : sum (drop c.loop-place.place (rows_of term)) ≡ symbols_at term (c.loop-place.place + 1) + sum (drop (c.loop-place.place + 1) (rows_of term)) =
    ap sum (drop-rows term c.loop-place.place c.loop-place-test.true) ∙ sum_by-cons (symbols_at term) (c.loop-place.place + 1) (drop (c.loop-place.place + 1) (rows_of term)) in
    record {
      counted = omega (arith, next, c.symbols_at-count.ensures.value, c.loop-place.invariant.counted);
      bound = omega (arith, c.symbols_at-count.ensures.bound, c.requires.columns, c.loop-place.invariant.bound);
    }

pub returns-clause-value : goal.returns-clause-value
returns-clause-value c =
    let term = c.args.term.now in
    let none : sum_by (symbols_at term) (drop c.loop-place.place (rows_of term)) ≡ 0 = ap (sum_by (symbols_at term)) (drop-all_rows term c.loop-place.place c.loop-place-test.false) in
    omega (arith, none, c.loop-place.invariant.counted)
