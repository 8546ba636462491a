use Rattle.std.proofs.Common.{◌≡◌, ◌∙◌, sym, ap, ap₂, subst, length, rules}
use Rattle.std.specs.Prelude.{map, []}
use Rattle.std.proofs.lemmas.List.{length-map}
use Rattle.span_solver.specs.Block.{IsBlock, IsOfRank, block_rows}
use Rattle.span_solver.specs.BlockDirections.{block_directions, block_numbers, numbers_of}
use Rattle.span_solver.specs.ChosenDirections.{gathered_keys}
use Rattle.span_solver.specs.Dependence.{AreIndependent}
use Rattle.span_solver.proofs.Gathered.{block-of, rank-of, meet-of}
use Rattle.span_solver.proofs.block.Block.new.Goals as goal

pub returns-then-len-eq0-clause-rank : goal.returns-then-len-eq0-clause-rank
returns-then-len-eq0-clause-rank c = λ rank h. c.bare.ensures.rank rank

pub rows_at-requires-clause-rank : goal.rows_at-requires-clause-rank
rows_at-requires-clause-rank c =
    meet-of c.requires.form.rank (block_directions c.args.directions.now c.args.name.now) (map (λ d. d.now) c.as_slice-2.result.now) c.as_slice-3.result.now
    (ap (map (λ d. d.now)) c.as_slice-2.ensures.value ∙ c.in_ok-found.ensures)
    (c.as_slice-3.ensures.value ∙ c.in_ok-keys.ensures ∙ ap (λ xs. gathered_keys [] (map (λ d. d.now) xs)) (c.as_slice.ensures.value ∙ sym c.as_slice-2.ensures.value))
    c.requires.form.each

pub of_rows-requires-clause-is : goal.of_rows-requires-clause-is
of_rows-requires-clause-is c =
    let many : c.len-2.result ≡ length c.in_ok-found.found.items = search rules in
    subst (λ ds. IsBlock (block_numbers ds c.args.name.now) (block_rows c.len-2.result c.in_ok-keys.keys.items c.in_ok-rows.rows.items)) (sym c.as_slice-4.ensures)
    (block-of (block_directions c.args.directions.now c.args.name.now) (map (λ d. d.now) c.in_ok-found.found.items) c.len-2.result c.in_ok-keys.keys.items c.in_ok-rows.rows.items
    c.in_ok-found.ensures (many ∙ sym (length-map c.in_ok-found.found.items (λ d. d.now)))
    (c.in_ok-keys.ensures ∙ ap (λ xs. gathered_keys [] (map (λ d. d.now) xs)) c.as_slice.ensures.value)
    (c.in_ok-rows.ensures ∙ ap₂ (λ xs keys. map (λ key. map (λ d. numbers_of d key) (map (λ d. d.now) xs)) keys) c.as_slice-2.ensures.value c.as_slice-3.ensures.value))

pub returns-clause-is : goal.returns-clause-is
returns-clause-is c =
    let many : c.len-2.result ≡ length c.in_ok-found.found.items = search rules in
    subst (IsBlock (block_numbers c.args.directions.now c.args.name.now)) (sym c.in_ok-block.ensures.is)
    (block-of (block_directions c.args.directions.now c.args.name.now) (map (λ d. d.now) c.in_ok-found.found.items) c.len-2.result c.in_ok-keys.keys.items c.in_ok-rows.rows.items
    c.in_ok-found.ensures (many ∙ sym (length-map c.in_ok-found.found.items (λ d. d.now)))
    (c.in_ok-keys.ensures ∙ ap (λ xs. gathered_keys [] (map (λ d. d.now) xs)) c.as_slice.ensures.value)
    (c.in_ok-rows.ensures ∙ ap₂ (λ xs keys. map (λ key. map (λ d. numbers_of d key) (map (λ d. d.now) xs)) keys) c.as_slice-2.ensures.value c.as_slice-3.ensures.value))

pub returns-clause-independent : goal.returns-clause-independent
returns-clause-independent c = subst (λ ds. AreIndependent (block_numbers ds c.args.name.now)) c.as_slice-4.ensures c.in_ok-block.ensures.independent

pub returns-clause-rank : goal.returns-clause-rank
returns-clause-rank c = λ rank h.
    subst (IsOfRank rank) (sym c.in_ok-block.ensures.is)
    (rank-of rank (block_directions c.args.directions.now c.args.name.now) (map (λ d. d.now) c.in_ok-found.found.items) c.in_ok-keys.keys.items c.in_ok-found.ensures
    (c.in_ok-keys.ensures ∙ ap (λ xs. gathered_keys [] (map (λ d. d.now) xs)) c.as_slice.ensures.value) h)
